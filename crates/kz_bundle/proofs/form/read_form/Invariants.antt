use Rattle.std.proofs.Common.{◌≡◌, ◌+◌, ◌≤◌, length}
use Rattle.kz_model.specs.Grammar.Tokens.{lines_of}
use Rattle.kz_model.specs.Grammar.Form.{form_from, form_of, turns_of}
use Rattle.kz_bundle.specs.Reading.{so_far, IsReading}
use Rattle.kz_bundle.proofs.form.read_form.Given as goal

-- what is left, after what was taken, has the form of the whole
abbrev pub invariant-loop-reader : goal.invariant-loop-reader
invariant-loop-reader l = record {
  number : l.number ≡ l.lines.number + 1;
  few : l.lines.number + length l.lines.rest ≤ length l.bytes;
  left : form_from (so_far l.reader) l.number (lines_of l.lines.rest) ≡ form_of l.bytes;
  sound : IsReading l.reader;
  few_turns : length (turns_of l.reader.order) ≤ l.lines.number;
}

abbrev pub decreases-loop-reader : goal.decreases-loop-reader
decreases-loop-reader l = length l.lines.rest
