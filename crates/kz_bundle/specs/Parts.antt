-- What the parts of a text stand for.
use Rattle.std.specs.Prelude.{◌≡◌, ℕ, ◌-◌, ◌<◌, ◌≤◌, List, length, map, take, Option, None, Some, sum_by, All, IsTrue, slice_index_or}
use Rattle.kz_model.specs.declared.bundle.OrderLine.{OrderLine}
use Rattle.kz_model.specs.declared.bundle.OrderLine.TheVariants as turn
use Rattle.kz_model.specs.declared.bundle.TraceStep.{TraceStep}
use Rattle.kz_model.specs.declared.grammar.Place.TheVariants as place
use Rattle.kz_model.specs.Grammar.Form.{StepLine, Section, Draft, new_section, turns_of}
use Rattle.kz_model.specs.Store.Traces.{AreNumbered}
use Rattle.kz_model.specs.Grammar.Tokens.{is_name, texts}
use Rattle.kz_model.specs.Grammar.Stages.{place_of}
use Rattle.kz_model.specs.Grammar.Spelling.{named_step_of, text_at}
use Rattle.kz_bundle.specs.declared.form.parts.Part.{Part}
use Rattle.kz_bundle.specs.declared.form.parts.Parts.{Parts}

-- a step line, its names and types by number in these tables
abbrev pub line_meant : List (List ℕ) → List (List ℕ) → TraceStep → StepLine
line_meant names words step = record { line = step.line; round = step.round; said = named_step_of names words step.act }

abbrev pub section_meant : List (List ℕ) → List (List ℕ) → Part → Section
section_meant names words part =
    record { line = part.line; breaks = part.breaks; steps = map (line_meant names words) part.steps }

abbrev pub sections_meant : Parts → List Section
sections_meant parts = map (section_meant (texts parts.names.items) (texts parts.words.items)) parts.sections.items

-- what the parts say, as the definition has it at the end of a text
abbrev pub draft_of : Parts → Draft
draft_of parts = record {
  place = place.Ended;
  header = parts.header;
  types = parts.types;
  before = take (length parts.sections.items - 1) (sections_meant parts);
  section = slice_index_or (sections_meant parts) (length parts.sections.items - 1) (new_section 0);
  steps = sum_by (λ part. length part.steps) parts.sections.items;
  order = parts.order;
  order_at = parts.order_at;
}

-- each of these texts stands once: it is found at its own place
abbrev pub AreOnce : List (List ℕ) → Type 0
AreOnce names = (at : ℕ) → at < length names → place_of (text_at names at) names ≡ at

abbrev pub IsTurnWithin : ℕ → OrderLine → Type 0
IsTurnWithin cpus (turn.Cpu cpu) = cpu < cpus
IsTurnWithin cpus turn.Round = Unit {0}

abbrev pub AreTurnsWithin : ℕ → Option (List OrderLine) → Type 0
AreTurnsWithin cpus None = Unit {0}
AreTurnsWithin cpus (Some turns) = All (IsTurnWithin cpus) turns

-- what is kept of a section
pub record IsPart (names words : ℕ) (part : Part) : Type 0 where
  pub within : All (λ step. AreNumbered names words step.act) part.steps
  pub rounds : All (λ step. step.round ≤ part.breaks) part.steps
  pub breaks : part.breaks ≤ 999

-- The parts are those of a text that has its form.
pub record AreParts (parts : Parts) : Type 0 where
  pub some_cpus : 1 ≤ parts.header.cpus
  pub few_cpus : parts.header.cpus ≤ 16
  pub cpus : length parts.sections.items ≡ parts.header.cpus
  pub types : length parts.types ≤ 1024
  pub names_once : AreOnce (texts parts.names.items)
  pub names : All (λ name. IsTrue (is_name name)) (texts parts.names.items)
  pub words_once : AreOnce (texts parts.words.items)
  pub sections : All (IsPart (length parts.names.items) (length parts.words.items)) parts.sections.items
  pub steps : sum_by (λ part. length part.steps) parts.sections.items ≤ 1000000
  pub few_names : length parts.names.items ≤ 1000000
  pub few_words : length parts.words.items ≤ 1000000
  pub turns : AreTurnsWithin parts.header.cpus parts.order
  pub order_at : parts.order_at ≤ 33554432
  pub few_turns : length (turns_of parts.order) ≤ 33554432
