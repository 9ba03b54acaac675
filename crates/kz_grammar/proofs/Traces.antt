-- The steps of a bundle's traces, and the step lines that they are of.
use Rattle.std.proofs.Common.{◌≡◌, ⊎_elim, ℕ, zero, suc, ◌+◌, List, [], ◌∷◌, map, slice_index_or, ap, sym, ◌∙◌, subst, arith}
use Rattle.std.specs.Prelude.{Contains}
use Rattle.std.proofs.lemmas.List.Elements.{Contains-append_left, Contains-append_right, Contains-append_cases}
use Rattle.kz_model.specs.declared.bundle.TraceStep.{TraceStep}
use Rattle.kz_model.specs.Grammar.Form.{StepLine, Section}
use Rattle.kz_model.specs.Grammar.Stages.{CpuLine, of_cpu, lines_from, step_of}
use Rattle.kz_grammar.proofs.Members.{contains_first, contains_later, contains_cases, contains_none}

-- ---- what a list contains, mapped

pub contains_mapped : {A B : Type 0} (f : A → B) (xs : List A) (x : A) → Contains xs x → Contains (map f xs) (f x)
contains_mapped f [] x there = contains_none x there
contains_mapped {A} {B} f (y ∷ xs) x there =
    ⊎_elim
    (λ (here : y ≡ x). subst (λ (z : A). Contains (map f (y ∷ xs)) (f z)) here (contains_first (f y) (map f xs)))
    (λ later. contains_later (f y) (map f xs) (f x) (contains_mapped f xs x later))
    (contains_cases y xs x there)

pub record IsImage {A B : Type 0} (f : A → B) (xs : List A) (y : B) : Type 0 where
  pub of : A
  pub there : Contains xs of
  pub is : f of ≡ y

pub contains_image : {A B : Type 0} (f : A → B) (xs : List A) (y : B) → Contains (map f xs) y → IsImage f xs y
contains_image f [] y there = contains_none y there
contains_image f (x ∷ xs) y there =
    ⊎_elim
    (λ here. record { of = x; there = contains_first x xs; is = here })
    (λ later. let rest = contains_image f xs y later in record { of = rest.of; there = contains_later x xs rest.of rest.there; is = rest.is })
    (contains_cases (f x) (map f xs) y there)

-- ---- traces

module _ (types names : List (List ℕ)) where
  abbrev traces_of : List Section → List (List TraceStep)
  traces_of sections = map (λ section. map (step_of types names) section.steps) sections

  -- the step line of a step, on its CPU
  pub record IsOfLine (first cpu : ℕ) (sections : List Section) (step : TraceStep) : Type 0 where
    pub line : StepLine
    pub there : Contains (lines_from first sections) (first + cpu, line)
    pub is : step_of types names line ≡ step

  pub line_of_step : (first cpu : ℕ) (sections : List Section) (step : TraceStep) → Contains (slice_index_or (traces_of sections) cpu []) step → IsOfLine first cpu sections step
  line_of_step first cpu [] step there = contains_none step there
  line_of_step first zero (section ∷ sections) step there =
      let line = contains_image (step_of types names) section.steps step there in
      let here : first ≡ first + 0 = omega arith in
      record {
        line = line.of;
        there = subst (λ cpu. Contains (lines_from first (section ∷ sections)) (cpu, line.of)) here
            (Contains-append_left (of_cpu first section.steps) (lines_from (first + 1) sections) (first, line.of) (contains_mapped (λ line. (first, line)) section.steps line.of line.there));
        is = line.is;
      }
  line_of_step first (suc cpu) (section ∷ sections) step there =
      let rest = line_of_step (first + 1) cpu sections step there in
      let here : first + 1 + cpu ≡ first + suc cpu = omega arith in
      record {
        line = rest.line;
        there = subst (λ cpu. Contains (lines_from first (section ∷ sections)) (cpu, rest.line)) here
            (Contains-append_right (of_cpu first section.steps) (lines_from (first + 1) sections) (first + 1 + cpu, rest.line) rest.there);
        is = rest.is;
      }

  -- the step of a step line, on its CPU
  pub record IsOfStep (first : ℕ) (sections : List Section) (line : CpuLine) : Type 0 where
    pub cpu : ℕ
    pub on : line.0 ≡ first + cpu
    pub there : Contains (slice_index_or (traces_of sections) cpu []) (step_of types names line.1)

  pub step_of_line : (first : ℕ) (sections : List Section) (line : CpuLine) → Contains (lines_from first sections) line → IsOfStep first sections line
  step_of_line first [] line there = contains_none line there
  step_of_line first (section ∷ sections) line there =
      ⊎_elim
      (λ here. let of = contains_image (λ (l : StepLine). (first, l)) section.steps line here in
      record { cpu = 0; on = sym (ap (λ (l : CpuLine). l.0) of.is) ∙ same first; there = subst (λ (l : StepLine). Contains (map (step_of types names) section.steps) (step_of types names l)) (ap (λ (l : CpuLine). l.1) of.is) (contains_mapped (step_of types names) section.steps of.of of.there) })
      (λ later. let rest = step_of_line (first + 1) sections line later in record { cpu = suc rest.cpu; on = rest.on ∙ further first rest.cpu; there = rest.there })
      (Contains-append_cases (of_cpu first section.steps) (lines_from (first + 1) sections) line there)
    where
      same : (n : ℕ) → n ≡ n + 0
      same n = omega arith

      further : (n m : ℕ) → n + 1 + m ≡ n + suc m
      further n m = omega arith
