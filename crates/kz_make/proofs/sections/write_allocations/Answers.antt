use Rattle.std.proofs.Common.{◌≡◌, ◌-◌, ◌++◌, map, List, ℕ, ap, sym, ◌∙◌, arith, append-nil}
use Rattle.kz_model.specs.Grammar.Form.{Does}
use Rattle.kz_model.specs.Text.Made.{names_count, names_allocated}
use Rattle.kz_bundle.specs.Printing.{lines_text}
use Rattle.kz_make.proofs.Counts.{names_are}
use Rattle.kz_make.proofs.Pieces.{text_more, two_pieces, allocated_text}
use Rattle.kz_make.proofs.sections.write_allocations.Goals as goal

pub loop-k-preserved : goal.loop-k-preserved
loop-k-preserved c =
    text_more c.loop-k.out.items _ _ _ _ _ (allocated_text c.args.cpu names_count c.loop-k.k (omega (arith, names_are))) c.loop-k.invariant
    (two_pieces c.loop-k.out.items _ _ _ _ c.in_ok-write_on_both.ensures c.in_ok-extend_from_slice.ensures.items)

pub returns : goal.returns
returns c =
    let none : names_count - c.loop-k.k ≡ 0 = omega (arith, names_are) in
    sym (append-nil c.loop-k.out.items) ∙ ap (λ n. c.loop-k.out.items ++ lines_text (map Does (names_allocated c.args.cpu c.loop-k.k n))) (sym none) ∙ c.loop-k.invariant
