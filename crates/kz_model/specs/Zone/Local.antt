-- What a CPU does by itself at a step that needs no visit.
use Rattle.std.specs.Prelude.{◌≢◌, ℕ, List, [], ◌∷◌, ◌++◌, true, map, slice_set, Option, None, Some}
use Rattle.std.specs.Option.{option_map_or}
use Rattle.kz_model.specs.declared.step.Step.{Step}
use Rattle.kz_model.specs.declared.step.Step.TheVariants.{Alloc, Free}
use Rattle.kz_model.specs.declared.step.Reply.{Reply}
use Rattle.kz_model.specs.declared.step.Reply.TheVariants as reply
use Rattle.kz_model.specs.declared.supply.Ask.{Ask}
use Rattle.kz_model.specs.declared.supply.Answer.{Answer}
use Rattle.kz_model.specs.declared.record.ZoneParams.{ZoneParams}
use Rattle.kz_model.specs.Zone.State.{Shared, CpuPart, ZoneState, bound_of, bind}
use Rattle.kz_model.specs.Zone.Alone.{Course}
use Rattle.kz_model.specs.Zone.Rules.{Effect, newest, below_newest, refused_here, bound_at, block_of, names_without, Stepped, alone_step}

-- the reply, and what the CPU has then
pub record Local : Type 0 where
  pub reply : Reply
  pub own : CpuPart

-- the action: an Alloc pops, a Free pushes
abbrev pub local_action : CpuPart → Step → Local
local_action own (Alloc name) =
    record {
      reply = reply.Block (newest own.stack);
      own = record {
        stack = below_newest own.stack;
        names =
            bind name (record { block = newest own.stack; held = true }) own.names;
      };
    }
local_action own (Free name asked) =
    record {
      reply = reply.Done;
      own = record { stack = own.stack ++ block_of (bound_of name own.names) ∷ []; names = names_without name own };
    }
local_action own step = record { reply = reply.Done; own = own }

-- a refusal leaves the CPU as it was
abbrev pub kept : Reply → CpuPart → Local
kept reply own = record { reply = reply; own = own }

-- the first refusal that holds, else the action
abbrev pub local_answer : ZoneParams → CpuPart → Step → Local
local_answer p own step =
    option_map_or (λ reply. kept reply own) (refused_here p (bound_at own step) step) (local_action own step)

-- the effect of a CPU's own answer: nothing that is shared changes
abbrev pub as_effect : Shared → Local → Effect
as_effect s local = record { reply = local.reply; shared = s; own = local.own }

-- a state with this stack and these names of a CPU
abbrev pub with_cpu_part : ZoneState → ℕ → CpuPart → ZoneState
with_cpu_part state cpu own = record { shared = state.shared; own = slice_set state.own cpu own }

-- steps of other CPUs
abbrev pub AreOfOthers : ℕ → List (ℕ × Step) → Type 0
AreOfOthers cpu [] = Unit {0}
AreOfOthers cpu (step ∷ steps) = (step.0 ≢ cpu) × AreOfOthers cpu steps

-- a course with this stack and these names of a CPU all along
abbrev pub course_with : ℕ → CpuPart → Course → Course
course_with cpu own c = record c {
  before = map (λ state. with_cpu_part state cpu own) c.before;
  end =
      with_cpu_part c.end cpu own;
}

-- ---- two steps

-- what a step of a CPU gives, with these stack and names of another
abbrev pub stepped_with : ℕ → CpuPart → Stepped → Stepped
stepped_with other own o = record o { state = with_cpu_part o.state other own }

-- what two steps give: the reply and the asks of each, the state and the answers that are left
pub record TwoSteps : Type 0 where
  pub first : Reply × List Ask
  pub second : Reply × List Ask
  pub state : ZoneState
  pub left : List Answer

abbrev pub one_then_other : ZoneParams → ZoneState → ℕ → Step → ℕ → Step → List Answer → Option TwoSteps
one_then_other p state c s d t answers =
    option_map_or (λ (a : Stepped).
    option_map_or (λ (b : Stepped). Some
    (record { first = (a.reply, a.asks); second = (b.reply, b.asks); state = b.state; left = b.left }))
    (alone_step p a.state d t a.left) None)
    (alone_step p state c s answers) None

abbrev pub in_other_order : TwoSteps → TwoSteps
in_other_order pair = record pair { first = pair.second; second = pair.first }
