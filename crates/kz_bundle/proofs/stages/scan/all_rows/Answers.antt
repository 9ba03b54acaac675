-- One section's lines more.
use Rattle.std.proofs.Common.{List, map, fold, ap, sym, ◌∙◌, arith}
use Rattle.kz_model.specs.Grammar.Stages.{Row, with_row, of_cpu}
use Rattle.kz_bundle.specs.Rows.{Rows}
use Rattle.kz_model.specs.Grammar.Tokens.{texts}
use Rattle.kz_bundle.specs.Parts.{line_meant}
use Rattle.kz_bundle.proofs.Scanning.{more_rows}
use Rattle.kz_bundle.proofs.stages.scan.all_rows.Goals as goal

pub loop-cpu-preserved : goal.loop-cpu-preserved
loop-cpu-preserved c =
    let names = texts c.args.names.now in
    let words = texts c.args.words.now in
    let cpu = c.loop-cpu.cpu in
    let section = c.index-sections-cpu.result in
    let F : Rows → Rows = λ rows. record rows { rows = fold with_row rows.rows (of_cpu cpu (map (line_meant rows.names rows.words) section.steps)) } in
    let G : List Row → Rows = λ rows. record { names = names; words = words; rows = rows } in
    c.in_ok-bind_steps.ensures
    ∙ ap F c.loop-cpu.invariant
    ∙ ap G (sym (more_rows names words c.args.sections.now section cpu (omega (arith, c.loop-cpu-test.true, c.loop-cpu.auto.cpu-end)) c.index-sections-cpu.is))
