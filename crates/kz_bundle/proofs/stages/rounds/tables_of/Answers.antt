-- One table more.
use Rattle.std.proofs.Common.{◌≡◌, List, map, take, arith, subst}
use Rattle.std.proofs.lemmas.List.{take_all}
use Rattle.kz_bundle.specs.declared.form.parts.Part.{Part}
use Rattle.kz_bundle.specs.Parts.{section_meant}
use Rattle.kz_bundle.specs.Rounds.{AreTables}
use Rattle.kz_bundle.proofs.Columns.{more_tables}
use Rattle.kz_bundle.proofs.stages.rounds.tables_of.Goals as goal

pub loop-section-preserved : goal.loop-section-preserved
loop-section-preserved c = λ names words.
    more_tables names words c.loop-section.tables.items c.push.new.self.items c.args.sections.now c.section-item.result c.in_ok-count_rounds.field-0 c.loop-section.section-index c.args.rounds
    (c.loop-section.invariant names words) (omega (arith, c.loop-section-test.true, c.loop-section.auto.section-index-end)) c.section-item.is c.in_ok-count_rounds.ensures.length (c.in_ok-count_rounds.ensures.counts names words)
    c.in_ok-push.ensures.items

pub returns : goal.returns
returns c = λ names words.
    let all : take c.loop-section.section-index c.args.sections.now ≡ c.args.sections.now = take_all c.loop-section.section-index c.args.sections.now (omega (arith, c.loop-section-test.false, c.loop-section.auto.section-index-end)) in
    let P : List Part → Type 0 = λ sections. AreTables c.loop-section.tables.items (map (section_meant names words) sections) c.args.rounds in
    subst P all (c.loop-section.invariant names words)
