use Rattle.std.proofs.Common.{ap, sym, ◌∙◌}
use Rattle.kz_model.specs.Grammar.Tokens.{tokens_of}
use Rattle.kz_model.specs.Grammar.Form.{judged, line_of_steps}
use Rattle.kz_bundle.specs.Reading.{so_far}
use Rattle.kz_bundle.proofs.Cut.{cut_to, five_words}
use Rattle.kz_bundle.proofs.Forms.{no_step, no_name}
use Rattle.kz_bundle.proofs.form.reader.Reader.line_of_steps.Goals as goal

pub returns-in_default-cut_name-clause-takes : goal.returns-in_default-cut_name-clause-takes
returns-in_default-cut_name-clause-takes c =
    let d = so_far c.args.self.now in
    let w = c.cut.result.0.now in
    let rest = c.in-Some.rest in
    let line = cut_to c.args.text.now w c.cut.result.1 rest c.in-Some.is c.cut.ensures.words in
    ap (λ found. judged d c.args.number found) (ap (line_of_steps d) line ∙ no_name d w (tokens_of rest.now) c.in_default-cut_name.ensures.none (sym c.is.ensures ∙ c.if-is.false))

pub returns-in_default-Some-clause-takes : goal.returns-in_default-Some-clause-takes
returns-in_default-Some-clause-takes c =
    let line = c.args.text.now in
    let second = c.in-Some.rest in
    let third = c.in-Some-rest.rest in
    let fourth = c.in-Some-rest-2.rest in
    let fifth = c.in_default-Some.field-0-1 in
    let w = c.cut.result.0.now in
    let x = c.in-Some-cut_name.x.now in
    let y = c.cut-2.result.0.now in
    let v = c.cut-3.result.0.now in
    let many = five_words line second.now third.now fourth.now fifth.now w x y v
    (cut_to line w c.cut.result.1 second c.in-Some.is c.cut.ensures.words)
    (cut_to second.now x c.in-Some-cut_name.rest third c.in-Some-rest.is c.in-Some-cut_name.ensures.words)
    (cut_to third.now y c.cut-2.result.1 fourth c.in-Some-rest-2.is c.cut-2.ensures.words)
    (cut_to fourth.now v c.cut-3.result.1 fifth c.in_default-Some.is-1 c.cut-3.ensures.words) in
    ap (λ found. judged (so_far c.args.self.now) c.args.number found) (no_step (so_far c.args.self.now) w _ many (sym c.is.ensures ∙ c.if-is.false))
