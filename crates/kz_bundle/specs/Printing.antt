-- What the printer of bundles makes.
use Rattle.std.specs.Prelude.{ℕ, List, length, map, All}
use Rattle.kz_model.specs.declared.bundle.Bundle.{Bundle}
use Rattle.kz_model.specs.declared.bundle.TraceStep.{TraceStep}
use Rattle.kz_model.specs.Grammar.Form.{Line}
use Rattle.kz_model.specs.Text.Lines.{text_of_lines}
use Rattle.kz_model.specs.Grammar.Spelling.{line_text}
use Rattle.kz_model.specs.Grammar.Valid.{IsStepWithin}

-- the text of these lines, each with its end
abbrev pub lines_text : List Line → List ℕ
lines_text lines = text_of_lines (map line_text lines)

-- the names, types and rounds of the steps are among the bundle's
abbrev pub AreStepsWithin : Bundle → List TraceStep → Type 0
AreStepsWithin b steps = All (IsStepWithin (length b.names) (length b.types) b.rounds) steps
