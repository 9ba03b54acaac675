use Rattle.kz_bundle.proofs.Cut.{cut_to, five_words}
use Rattle.kz_bundle.proofs.form.tokens.tokens_of.Goals as goal

pub returns-in_default-Some : goal.returns-in_default-Some
returns-in_default-Some c =
    let line = c.args.line.now in
    let second = c.in-Some.rest in
    let third = c.in-Some-rest.rest in
    let fourth = c.in-Some-rest-2.rest in
    let fifth = c.in_default-Some.field-0-1 in
    let w = c.cut.result.0.now in
    let x = c.cut-2.result.0.now in
    let y = c.cut-3.result.0.now in
    let v = c.cut-4.result.0.now in
    five_words line second.now third.now fourth.now fifth.now w x y v
    (cut_to line w c.cut.result.1 second c.in-Some.is c.cut.ensures.words)
    (cut_to second.now x c.cut-2.result.1 third c.in-Some-rest.is c.cut-2.ensures.words)
    (cut_to third.now y c.cut-3.result.1 fourth c.in-Some-rest-2.is c.cut-3.ensures.words)
    (cut_to fourth.now v c.cut-4.result.1 fifth c.in_default-Some.is-1 c.cut-4.ensures.words)
