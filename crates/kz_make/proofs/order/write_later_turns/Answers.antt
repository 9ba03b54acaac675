use Rattle.std.proofs.Common.{◌≡◌, ◌-◌, ◌++◌, List, ℕ, [], ap, sym, ◌∙◌, arith, append-nil}
use Rattle.kz_model.specs.Text.Made.{drawn_count, later_count, later_turns}
use Rattle.kz_bundle.specs.Printing.{lines_text}
use Rattle.kz_make.proofs.Counts.{drawn_are, later_are}
use Rattle.kz_make.proofs.Pieces.{text_more, two_pieces, later_turns_text}
use Rattle.kz_make.proofs.order.write_later_turns.Goals as goal

pub loop-preserved : goal.loop-preserved
loop-preserved c =
    text_more c.loop.out.items _ _ _ _ _ (later_turns_text later_count c.loop.counter (omega (arith, later_are))) c.loop.invariant
    (two_pieces c.loop.out.items _ _ _ _ c.in_ok-extend_from_slice.ensures.items (c.in_ok-write_turns.ensures drawn_count (sym drawn_are)))

pub returns : goal.returns
returns c =
    let none : later_count - c.loop.counter ≡ 0 = omega (arith, later_are) in
    sym (append-nil c.loop.out.items) ∙ ap (λ n. c.loop.out.items ++ lines_text (later_turns n)) (sym none) ∙ c.loop.invariant
