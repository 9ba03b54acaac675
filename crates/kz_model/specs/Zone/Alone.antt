-- A zone alone over a list of steps.
use Rattle.std.specs.Prelude.{ℕ, List, [], ◌∷◌, length, ◌==◌, if◌then◌else◌, Option, None, Some}
use Rattle.std.specs.Option.{option_map_or}
use Rattle.kz_model.specs.declared.step.Step.{Step}
use Rattle.kz_model.specs.declared.step.Reply.{Reply}
use Rattle.kz_model.specs.declared.record.ZoneParams.{ZoneParams}
use Rattle.kz_model.specs.declared.supply.Ask.{Ask}
use Rattle.kz_model.specs.declared.supply.Answer.{Answer}
use Rattle.kz_model.specs.Zone.State.{ZoneState, opening}
use Rattle.kz_model.specs.Zone.Rules.{Stepped, alone_step}

-- the reply and the asks of each step, the state before each, the state at the end, and the answers that are left
pub record Course : Type 0 where
  pub replies : List Reply
  pub asks : List (List Ask)
  pub before : List ZoneState
  pub end : ZoneState
  pub left : List Answer

-- a course with one more step in front
abbrev pub with_first : ZoneState → Stepped → Course → Course
with_first state stepped rest =
    record {
      replies = stepped.reply ∷ rest.replies;
      asks = stepped.asks ∷ rest.asks;
      before = state ∷ rest.before;
      end = rest.end;
      left = rest.left;
    }

-- the course of steps, each with its CPU, from a state; nothing where a step gives nothing
abbrev pub course : ZoneParams → ZoneState → List (ℕ × Step) → List Answer → Option Course
course p state [] answers = Some (record { replies = []; asks = []; before = []; end = state; left = answers })
course p state (step ∷ steps) answers =
    option_map_or (λ stepped.
    option_map_or (λ rest. Some (with_first state stepped rest)) (course p stepped.state steps stepped.left) None)
    (alone_step p state step.0 step.1 answers) None

-- a course that leaves no answer over
abbrev pub all_used : Course → Option Course
all_used c = if length c.left == 0 then Some c else None

-- the zone alone, from its opening
abbrev pub alone : ZoneParams → List (ℕ × Step) → List Answer → Option Course
alone p steps answers = option_map_or all_used (course p (opening p) steps answers) None
