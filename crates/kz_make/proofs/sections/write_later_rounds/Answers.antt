use Rattle.std.proofs.Common.{◌≡◌, ℕ, ◌+◌, ◌-◌, ◌*◌, ◌++◌, List, refl, ap, sym, ◌∙◌, arith}
use Rattle.kz_model.specs.Text.Made.{later_count, rounds_drawn, later_lines}
use Rattle.kz_bundle.specs.Printing.{lines_text}
use Rattle.kz_make.specs.Writing.{words_at}
use Rattle.kz_make.proofs.Counts.{later_are}
use Rattle.kz_make.proofs.Left.{Left, none_gone, left_more, left_none}
use Rattle.kz_make.proofs.Pieces.{rounds_text, behind_written}
use Rattle.kz_make.proofs.sections.write_later_rounds.Goals as goal

pub loop-init : goal.loop-init
loop-init c = λ number j from. record { at = j; words_are = from; text_is = ap (λ n. c.args.out.now.items ++ lines_text (later_lines (rounds_drawn number c.args.cpu j n))) (none_gone later_count); ends = omega (arith, later_are) }

pub loop-preserved : goal.loop-preserved
loop-preserved c = λ number j from.
    let l = c.loop.invariant number j from in
    left_more number _ _ _ _ _ _ _ _ _ _ (l.at + 15000) _ l (rounds_text number c.args.cpu l.at later_count c.loop.counter (omega (arith, later_are))) (omega (arith, later_are))
    (behind_written number _ _ c.loop.out.items _ _ _ _ c.in_ok-extend_from_slice.ensures.items (c.in_ok-write_drawn.ensures number l.at l.words_are))

pub returns : goal.returns
returns c = λ number j from.
    let l = c.loop.invariant number j from in
    let none : later_count - c.loop.counter ≡ 0 = omega (arith, later_are) in
    left_none number _ c.args.out.now.items _ _ _ _ _ l (ap (λ n. lines_text (later_lines (rounds_drawn number c.args.cpu l.at n))) none) (omega (arith, none))
