use Rattle.std.proofs.Common.{◌≡◌, ℕ, ◌+◌, ◌-◌, ◌*◌, ◌++◌, List, refl, ap, sym, ◌∙◌, arith}
use Rattle.kz_model.specs.Text.Made.{sections_made}
use Rattle.kz_bundle.specs.Printing.{lines_text}
use Rattle.kz_make.specs.Writing.{words_at}
use Rattle.kz_make.proofs.Left.{Left, none_gone, left_more, left_none}
use Rattle.kz_make.proofs.Pieces.{sections_text}
use Rattle.kz_make.proofs.sections.write_sections.Goals as goal

pub loop-cpu-init : goal.loop-cpu-init
loop-cpu-init c = λ number j from. record { at = j; words_are = from; text_is = refl; ends = omega arith }

pub loop-cpu-preserved : goal.loop-cpu-preserved
loop-cpu-preserved c = λ number j from.
    let l = c.loop-cpu.invariant number j from in
    left_more number _ _ _ _ _ _ _ _ _ _ (l.at + 60000) _ l (sections_text number l.at 4 c.loop-cpu.cpu (omega arith)) (omega arith) (c.in_ok-write_section.ensures number l.at l.words_are)

pub returns : goal.returns
returns c = λ number j from.
    let l = c.loop-cpu.invariant number j from in
    let none : 4 - c.loop-cpu.cpu ≡ 0 = omega arith in
    left_none number _ c.args.out.now.items _ _ _ _ _ l (ap (λ n. lines_text (sections_made number c.loop-cpu.cpu l.at n)) none) (omega (arith, none))
