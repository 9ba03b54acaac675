-- A step decides by what is shared and by what its CPU has.
use Rattle.std.proofs.Common.{◌≡◌, ℕ, if◌then◌else◌, List, Option, None, Some, ap, sym, ◌∙◌}
use Rattle.kz_model.specs.declared.step.Step.{Step}
use Rattle.kz_model.specs.declared.record.ZoneParams.{ZoneParams}
use Rattle.kz_model.specs.declared.supply.Answer.{Answer}
use Rattle.kz_model.specs.Zone.State.{Shared, CpuPart, ZoneState, cpu_part}
use Rattle.kz_model.specs.Zone.Rules.{Part, Stepped, part_of, put_back, all_answered, alone_step}

-- a part put back, where the answers fit
abbrev pub put_back_if : ZoneState → ℕ → List Answer → Part → Option Stepped
put_back_if state cpu answers part = if all_answered part.asks answers then Some (put_back state cpu part) else None

-- Two zones that share the same and give a CPU the same part do the same at its step, but for the other CPUs.
pub same_part : (p : ZoneParams) (state other : ZoneState) (cpu : ℕ) (step : Step) (answers : List Answer) → state.shared ≡ other.shared → cpu_part state cpu ≡ cpu_part other cpu →
    alone_step p other cpu step answers ≡ put_back_if other cpu answers (part_of p state.shared cpu (cpu_part state cpu) step answers)
same_part p state other cpu step answers shared own =
    ap (λ (s : Shared). put_back_if other cpu answers (part_of p s cpu (cpu_part other cpu) step answers)) (sym shared)
    ∙ ap (λ (mine : CpuPart). put_back_if other cpu answers (part_of p state.shared cpu mine step answers)) (sym own)
