use Rattle.std.proofs.Common.{◌≡◌, ◌+◌, ◌==◌, length, Option, ap, subst, arith}
use Rattle.std.proofs.lemmas.List.{length-map}
use Rattle.kz_model.specs.declared.grammar.Mark.{Mark}
use Rattle.kz_model.specs.Grammar.Form.{Line, judged}
use Rattle.kz_bundle.specs.Parts.{section_meant}
use Rattle.kz_bundle.specs.Reading.{so_far, Takes}
use Rattle.kz_bundle.proofs.Forms.{fits_at_steps}
use Rattle.kz_bundle.proofs.form.reader.Reader.mark.Goals as goal

pub judge-requires-clause-fits : goal.judge-requires-clause-fits
judge-requires-clause-fits c =
    let r = c.args.self.now in
    let told : c.len.result ≡ length r.before.items = omega arith in
    fits_at_steps r c.mark_line-found.result c.requires.place (c.mark_line-found.ensures.fits r.header.cpus (length r.before.items) (ap (λ n. n + 1 == r.header.cpus) told))

pub returns-clause-takes : goal.returns-clause-takes
returns-clause-takes c =
    let r = c.args.self.now in
    let d = so_far r in
    let long = length-map r.before.items (section_meant r.tables.names r.tables.words) in
    let told : c.len.result ≡ length r.before.items = omega arith in
    let next_is : length d.before + 1 ≡ c.len.result + 1 = omega (arith, long, told) in
    let P : Option (Line × Mark) → Type 0 = λ found. Takes c.judge.result (so_far c.judge.new.self) (judged d c.args.number found) in
    subst P (c.mark_line-found.ensures.given d (ap (λ n. n == r.header.cpus) next_is)) c.judge.ensures.takes
