use Rattle.std.proofs.Common.{sym, ◌∙◌, arith}
use Rattle.kz_text.proofs.Cut.{length-TakesLine}
use Rattle.kz_model.specs.Grammar.Tokens.{tokens_of}
use Rattle.kz_model.specs.Grammar.Form.{form_of, rest_at}
use Rattle.kz_bundle.specs.Reading.{so_far}
use Rattle.kz_bundle.proofs.Cutting.{goes_on, line_refused, refused_of, ends_with}
use Rattle.kz_bundle.proofs.Turns.{of_any}
use Rattle.kz_bundle.proofs.form.read_form.Goals as goal

pub loop-reader-preserved : goal.loop-reader-preserved
loop-reader-preserved c =
    let l = c.loop-reader in
    let line = c.in-Some.line in
    let taken = c.in-Some.ensures.some in
    let long = length-TakesLine taken in
    let turns = of_any l.reader.place (so_far l.reader) (so_far c.line.new.self) line.number (tokens_of line.text.now) c.in-Ok.ensures.takes in
    record {
      number = omega (arith, taken.told, taken.counted);
      few = omega (arith, long, taken.counted, l.invariant.few);
      left = goes_on (so_far l.reader) line.number l.number l.lines c.next.new.self line.text.now (form_of c.args.bytes.now) taken l.invariant.number l.invariant.left (so_far c.line.new.self) c.in-Ok.ensures.takes;
      sound = c.in-Ok.ensures.sound;
      few_turns = omega (arith, turns, l.invariant.few_turns, taken.counted);
    }

pub returns-in-None-clause-refused : goal.returns-in-None-clause-refused
returns-in-None-clause-refused c =
    let l = c.loop-reader in
    let d = so_far l.reader in
    let total = form_of c.args.bytes.now in
    refused_of c.finish.result (rest_at d.place d l.number c.rest.result.now) total
    (ends_with d l.number l.lines c.next.new.self c.rest.result.now total c.in-None.ensures.none c.in-None.ensures.unchanged c.rest.ensures l.invariant.left) c.finish.ensures.form

pub returns-in-Err-clause-refused : goal.returns-in-Err-clause-refused
returns-in-Err-clause-refused c = λ refusal is.
    let l = c.loop-reader in
    let line = c.in-Some.line in
    line_refused (so_far l.reader) line.number l.number l.lines c.next.new.self line.text.now (form_of c.args.bytes.now) c.in-Some.ensures.some l.invariant.number l.invariant.left
    c.in-Err.fault (so_far c.line.new.self) refusal c.in-Err.ensures.takes (sym c.at.ensures ∙ is)
