-- What a CPU's own answer makes of its stack and of what the step's name is bound to.
use Rattle.std.specs.Prelude.{◌≡◌, ℕ, if◌then◌else◌, List, Option, None, Some, IfSome, is_none, slice_set}
use Rattle.kz_model.specs.declared.record.ZoneParams.{ZoneParams}
use Rattle.kz_model.specs.declared.step.Block.{Block}
use Rattle.kz_model.specs.declared.step.Bound.{Bound}
use Rattle.kz_model.specs.declared.step.Reply.{Reply}
use Rattle.kz_model.specs.declared.step.Step.{Step}
use Rattle.kz_model.specs.Zone.Local.{local_answer}
use Rattle.kz_model.specs.Zone.Rules.{name_of, needs_visit}
use Rattle.kz_model.specs.Zone.State.{CpuPart}
use Rattle.kz_book.specs.Visits.{bound_there, has_name}
use Rattle.kz_cpu.specs.declared.binding.Binding.{Binding}

-- A CPU with this part has this stack, and this is what the step's name is bound to.
pub record Brings (own : CpuPart) (step : Step) (stack : List Block) (bound : Option Bound) : Type 0 where
  pub is_stack : stack ≡ own.stack
  pub is_bound : bound ≡ bound_there own step

-- No answer where the step needs a visit, else the CPU's own, which leaves this stack and this binding.
pub record IsAnswer (p : ZoneParams) (own : CpuPart) (step : Step) (result : Option Reply) (left : List Block)
    (now : Option Bound) : Type 0 where
  pub needs : is_none result ≡ needs_visit p own step
  pub reply : IfSome result (λ reply. reply ≡ (local_answer p own step).reply)
  pub stack : IfSome result (λ reply. left ≡ (local_answer p own step).own.stack)
  pub bound : IfSome result (λ reply. now ≡ bound_there (local_answer p own step).own step)

-- ---- bindings

-- the name of a step that has one
abbrev pub named_by : Step → Option ℕ
named_by step = if has_name step then Some (name_of step) else None

abbrev pub bound_by : Option Binding → Option Bound
bound_by None = None
bound_by (Some binding) = Some binding.bound

-- a binding that a step on this zone makes
abbrev pub tagged : ℕ → Option Bound → Option Binding
tagged zone None = None
tagged zone (Some bound) = Some (record { bound = bound; zone = zone })

-- the bindings after a step on a zone
abbrev pub rebound : ℕ → Step → Option Bound → List (Option Binding) → List (Option Binding)
rebound zone step bound bindings = if has_name step then slice_set bindings (name_of step) (tagged zone bound)
    else bindings
