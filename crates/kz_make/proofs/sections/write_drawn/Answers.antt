use Rattle.std.proofs.Common.{◌≡◌, ℕ, ◌+◌, ◌-◌, ◌*◌, ◌++◌, map, List, refl, ap, sym, ◌∙◌, arith}
use Rattle.kz_model.specs.Grammar.Form.{Does}
use Rattle.kz_model.specs.Text.Made.{drawn_count, steps_drawn}
use Rattle.kz_bundle.specs.Printing.{lines_text}
use Rattle.kz_make.specs.Writing.{words_at}
use Rattle.kz_make.proofs.Counts.{drawn_are}
use Rattle.kz_make.proofs.Left.{Left, none_gone, left_more, left_none}
use Rattle.kz_make.proofs.Pieces.{steps_text, step_written}
use Rattle.kz_make.proofs.sections.write_drawn.Goals as goal

pub loop-init : goal.loop-init
loop-init c = λ number j from. record { at = j; words_are = from; text_is = ap (λ n. c.args.out.now.items ++ lines_text (map Does (steps_drawn number c.args.cpu j n))) (none_gone drawn_count); ends = omega (arith, drawn_are) }

pub loop-preserved : goal.loop-preserved
loop-preserved c = λ number j from.
    let l = c.loop.invariant number j from in
    left_more number _ _ _ _ _ _ _ _ _ _ (l.at + 3) _ l (steps_text number c.args.cpu l.at drawn_count c.loop.counter (omega (arith, drawn_are))) (omega (arith, drawn_are))
    (step_written number l.at c.args.cpu _ _ _ _ _ _ _ c.loop.out.items _ l.words_are c.next-u.ensures.word c.next-u.ensures.rest c.next-v.ensures.word c.next-v.ensures.rest c.next-w.ensures.word c.next-w.ensures.rest
    c.in_ok-write_step.ensures)

pub returns : goal.returns
returns c = λ number j from.
    let l = c.loop.invariant number j from in
    let none : drawn_count - c.loop.counter ≡ 0 = omega (arith, drawn_are) in
    left_none number _ c.args.out.now.items _ _ _ _ _ l (ap (λ n. lines_text (map Does (steps_drawn number c.args.cpu l.at n))) none) (omega (arith, none))
