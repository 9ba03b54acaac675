-- A step that needs no visit, before and after steps of other CPUs.
use Rattle.std.proofs.Common.{◌≡◌, ℕ, List, [], ◌∷◌, Option, None, Some, refl, ap, ◌∙◌}
use Rattle.std.specs.Option.{option_map_or}
use Rattle.kz_model.specs.declared.step.Step.{Step}
use Rattle.kz_model.specs.declared.record.ZoneParams.{ZoneParams}
use Rattle.kz_model.specs.declared.supply.Answer.{Answer}
use Rattle.kz_model.specs.Zone.State.{ZoneState, CpuPart, cpu_part}
use Rattle.kz_model.specs.Zone.Rules.{Stepped, alone_step}
use Rattle.kz_model.specs.Zone.Alone.{Course, course, with_first}
use Rattle.kz_model.specs.Zone.Local.{with_cpu_part, AreOfOthers, course_with}
use Rattle.kz_model.specs.Zone.Local.{stepped_with}
use Rattle.kz_model.proofs.Commuting.{leaves_others, keeps_others}

rest_with : (cpu : ℕ) (own : CpuPart) (state : ZoneState) (o : Stepped) (r : Option Course) →
    option_map_or (λ rest. Some (with_first (with_cpu_part state cpu own) (stepped_with cpu own o) rest)) (option_map_or (λ (c : Course). Some (course_with cpu own c)) r None) None
    ≡ option_map_or (λ (c : Course). Some (course_with cpu own c)) (option_map_or (λ rest. Some (with_first state o rest)) r None) None
rest_with cpu own state o None = refl
rest_with cpu own state o (Some c) = refl

-- A CPU's stack and names decide nothing in steps of other CPUs.
pub course-with : (p : ZoneParams) (state : ZoneState) (cpu : ℕ) (own : CpuPart) (steps : List (ℕ × Step)) (answers : List Answer) → AreOfOthers cpu steps →
    course p (with_cpu_part state cpu own) steps answers ≡ option_map_or (λ (c : Course). Some (course_with cpu own c)) (course p state steps answers) None
course-with p state cpu own [] answers h = refl
course-with p state cpu own (step ∷ steps) answers h =
    ap (λ (o : Option Stepped). option_map_or (λ stepped. option_map_or (λ rest. Some (with_first (with_cpu_part state cpu own) stepped rest)) (course p stepped.state steps stepped.left) None) o None) (leaves_others p state step.0 cpu own step.1 answers h.0)
    ∙ elim (alone_step p state step.0 step.1 answers) as (λ (o : Option Stepped).
    option_map_or (λ stepped. option_map_or (λ rest. Some (with_first (with_cpu_part state cpu own) stepped rest)) (course p stepped.state steps stepped.left) None) (option_map_or (λ (o : Stepped). Some (stepped_with cpu own o)) o None) None
    ≡ option_map_or (λ (c : Course). Some (course_with cpu own c)) (option_map_or (λ stepped. option_map_or (λ rest. Some (with_first state stepped rest)) (course p stepped.state steps stepped.left) None) o None) None) [
      | None ↦ refl
      | Some o ↦
          ap (λ (r : Option Course). option_map_or (λ rest. Some (with_first (with_cpu_part state cpu own) (stepped_with cpu own o) rest)) r None) (course-with p o.state cpu own steps o.left h.1)
          ∙ rest_with cpu own state o (course p o.state steps o.left)
    ]

-- Steps of other CPUs leave a CPU's stack and names.
pub course_keeps : (p : ZoneParams) (state : ZoneState) (cpu : ℕ) (steps : List (ℕ × Step)) (answers : List Answer) (c : Course) → AreOfOthers cpu steps →
    course p state steps answers ≡ Some c → cpu_part c.end cpu ≡ cpu_part state cpu
course_keeps p state cpu [] answers c h made = end_of _ c made
  where
    end_of : (a c : Course) → Some a ≡ Some c → cpu_part c.end cpu ≡ cpu_part a.end cpu
    end_of a c e = let same : c ≡ a = cc in ap (λ (c : Course). cpu_part c.end cpu) same
course_keeps p state cpu (step ∷ steps) answers c h made =
    elim (alone_step p state step.0 step.1 answers) as (λ (o : Option Stepped). alone_step p state step.0 step.1 answers ≡ o →
    option_map_or (λ stepped. option_map_or (λ rest. Some (with_first state stepped rest)) (course p stepped.state steps stepped.left) None) o None ≡ Some c → cpu_part c.end cpu ≡ cpu_part state cpu) [
      | None ↦ λ e f. absurd (cc)
      | Some o ↦ λ e f. by_rest o (course p o.state steps o.left) (λ r g. course_keeps p o.state cpu steps o.left r h.1 g) f ∙ keeps_others p state step.0 cpu step.1 answers o h.0 e
    ] refl made
  where
    by_rest : (o : Stepped) (r : Option Course) → ((rest : Course) → r ≡ Some rest → cpu_part rest.end cpu ≡ cpu_part o.state cpu) → option_map_or (λ rest. Some (with_first state o rest)) r None ≡ Some c → cpu_part c.end cpu ≡ cpu_part o.state cpu
    by_rest o None again f = absurd (cc)
    by_rest o (Some rest) again f = end_of (with_first state o rest) f ∙ again rest refl
      where
        end_of : (a : Course) → Some a ≡ Some c → cpu_part c.end cpu ≡ cpu_part a.end cpu
        end_of a e = let same : c ≡ a = cc in ap (λ (c : Course). cpu_part c.end cpu) same
