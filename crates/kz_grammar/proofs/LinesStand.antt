-- Each step line of a draft stands in the text at its number.
use Rattle.std.proofs.Common.{◌≡◌, ⊎_elim, ℕ, ◌+◌, ◌==◌, true, false, if◌then◌else◌, List, [], ◌∷◌, ◌++◌, length, Some, Ok, Err, refl, ap, sym, ◌∙◌, subst, arith, length-append}
use Rattle.std.specs.Prelude.{Contains}
use Rattle.std.proofs.lemmas.List.{append_assoc, append-nil, map-append}
use Rattle.std.proofs.lemmas.List.Elements.{Contains-append_left, Contains-push_cases}
use Rattle.kz_model.specs.declared.bundle.OrderLine.TheVariants as turn
use Rattle.kz_model.specs.declared.bundle.TypeDecl.{TypeDecl}
use Rattle.kz_model.specs.declared.grammar.Place.{Place}
use Rattle.kz_model.specs.declared.grammar.Place.TheVariants as place
use Rattle.kz_model.specs.declared.grammar.Cause.TheVariants as cause
use Rattle.kz_model.specs.declared.grammar.Counted.TheVariants as counted
use Rattle.kz_model.specs.Grammar.Form.{Line, Machine, SeedOf, Cpus, Frames, Pages, Budget, Magazine, Depot, Declares, Opens, Does, Break, Orders, Turns, Ends, StepLine, Section, Draft, empty_draft, new_section, with_header, with_type, with_section, with_step, with_turn, with_break, with_line}
use Rattle.kz_model.specs.Grammar.Steps.{NamedStep}
use Rattle.kz_model.specs.Grammar.Stages.{CpuLine, of_cpu, lines_from, sections_of}
use Rattle.kz_model.specs.Grammar.Spelling.{Leads}
use Rattle.kz_bundle.proofs.Walking.{leads_to, led_same, failed}
use Rattle.kz_bundle.proofs.Scanning.{lines_from-push}
use Rattle.kz_grammar.specs.LineNumbers.{StandsAt, StepLinesStand}
use Rattle.kz_grammar.proofs.Members.{contains_none}

stands_still : (lines : List Line) (next : Line) (number : ℕ) (line : Line) → StandsAt lines number line → StandsAt (lines ++ next ∷ []) number line
stands_still lines next number line at = record {
  before = at.before;
  after = at.after ++ next ∷ [];
  parts = ap (λ (xs : List Line). xs ++ next ∷ []) at.parts ∙ append_assoc at.before (line ∷ at.after) (next ∷ []);
  numbered = at.numbered;
}

-- the step lines of these sections stand in these lines
abbrev AreThere : List Section → List Line → Type 0
AreThere sections lines = (line : CpuLine) → Contains (lines_from 0 sections) line → StandsAt lines line.1.line (Does line.1.said)

abbrev Stand : Draft → List Line → Type 0
Stand d lines = AreThere (sections_of d) lines

still : (d : Draft) (lines : List Line) (next : Line) → Stand d lines → Stand d (lines ++ next ∷ [])
still d lines next are line there = stands_still lines next line.1.line (Does line.1.said) (are line there)

-- a section with no step adds none
empty_section : (before : List Section) (section : Section) (lines : List Line) → section.steps ≡ [] → ((line : CpuLine) → Contains (lines_from 0 before) line → StandsAt lines line.1.line (Does line.1.said)) → AreThere (before ++ section ∷ []) lines
empty_section before section lines none are line there =
    are line (subst (λ (xs : List CpuLine). Contains xs line) (lines_from-push 0 before section ∙ ap (λ (steps : List StepLine). lines_from 0 before ++ of_cpu (0 + length before) steps) none ∙ append-nil (lines_from 0 before)) there)

before_stand : (d : Draft) (lines : List Line) → Stand d lines → (line : CpuLine) → Contains (lines_from 0 d.before) line → StandsAt lines line.1.line (Does line.1.said)
before_stand d lines are line there =
    are line (subst (λ (xs : List CpuLine). Contains xs line) (sym (lines_from-push 0 d.before d.section)) (Contains-append_left (lines_from 0 d.before) (of_cpu (0 + length d.before) d.section.steps) line there))

-- a section with the same steps
same_steps : (d more : Draft) (lines : List Line) → d.before ≡ more.before → d.section.steps ≡ more.section.steps → Stand d lines → Stand more lines
same_steps d more lines before steps are line there =
    are line (subst (λ (xs : List CpuLine). Contains xs line)
    (lines_from-push 0 more.before more.section
    ∙ ap (λ (s : List StepLine). lines_from 0 more.before ++ of_cpu (0 + length more.before) s) (sym steps)
    ∙ ap (λ (b : List Section). lines_from 0 b ++ of_cpu (0 + length b) d.section.steps) (sym before)
    ∙ sym (lines_from-push 0 d.before d.section)) there)

one_step : (d : Draft) (step : StepLine) (section : Section) (lines : List Line) → section.steps ≡ d.section.steps ++ step ∷ [] → Stand d lines → StandsAt lines step.line (Does step.said) → AreThere (d.before ++ section ∷ []) lines
one_step d step section lines steps are new line there =
    ⊎_elim
    (λ old. are line (subst (λ (xs : List CpuLine). Contains xs line) (sym (lines_from-push 0 d.before d.section)) old))
    (λ last. subst (λ (l : CpuLine). StandsAt lines l.1.line (Does l.1.said)) last new)
    (Contains-push_cases (lines_from 0 d.before ++ of_cpu (0 + length d.before) d.section.steps) (0 + length d.before, step) line
    (subst (λ (xs : List CpuLine). Contains xs line)
    (lines_from-push 0 d.before section ∙ ap (λ (s : List StepLine). lines_from 0 d.before ++ of_cpu (0 + length d.before) s) steps
    ∙ ap (λ (xs : List CpuLine). lines_from 0 d.before ++ xs) (map-append (λ (line : StepLine). (0 + length d.before, line)) d.section.steps (step ∷ []))
    ∙ sym (append_assoc (lines_from 0 d.before) (of_cpu (0 + length d.before) d.section.steps) ((0 + length d.before, step) ∷ []))) there))

-- ---- one line more

led : (d more : Draft) (lines : List Line) (next : Line) → leads_to d ≡ leads_to more → Stand d (lines ++ next ∷ []) → Stand more (lines ++ next ∷ [])
led d more lines next e are = subst (λ (d : Draft). Stand d (lines ++ next ∷ [])) (led_same d more e) are

opened : (p : Place) (d more : Draft) (lines : List Line) (next : Line) (number : ℕ) → leads_to (with_section p d number) ≡ leads_to more → Stand d lines → Stand more (lines ++ next ∷ [])
opened place.Types d more lines next number e are = led (with_section place.Types d number) more lines next e (empty_section d.before (new_section number) (lines ++ next ∷ []) refl (before_stand d (lines ++ next ∷ []) (still d lines next are)))
opened place.Steps d more lines next number e are = led (with_section place.Steps d number) more lines next e (empty_section (d.before ++ d.section ∷ []) (new_section number) (lines ++ next ∷ []) refl (still d lines next are))
opened place.Order d more lines next number e are = led (with_section place.Order d number) more lines next e (empty_section (d.before ++ d.section ∷ []) (new_section number) (lines ++ next ∷ []) refl (still d lines next are))
opened place.Ended d more lines next number e are = led (with_section place.Ended d number) more lines next e (empty_section (d.before ++ d.section ∷ []) (new_section number) (lines ++ next ∷ []) refl (still d lines next are))
opened (place.Header at) d more lines next number e are = led (with_section (place.Header at) d number) more lines next e (empty_section (d.before ++ d.section ∷ []) (new_section number) (lines ++ next ∷ []) refl (still d lines next are))

one_break : (d more : Draft) (lines : List Line) (next : Line) →
    (if d.section.breaks == 999 then Err (cause.TooMany counted.Rounds) else Ok (record d { section = record d.section { breaks = d.section.breaks + 1 } })) ≡ leads_to more → Stand d lines → Stand more (lines ++ next ∷ [])
one_break d more lines next e are =
    elim (d.section.breaks == 999) as (λ b. (if b then Err (cause.TooMany counted.Rounds) else Ok (record d { section = record d.section { breaks = d.section.breaks + 1 } })) ≡ leads_to more → Stand more (lines ++ next ∷ [])) [
      | true ↦ λ e. failed (cause.TooMany counted.Rounds) more e
      | false ↦ λ e. led (record d { section = record d.section { breaks = d.section.breaks + 1 } }) more lines next e (same_steps d (record d { section = record d.section { breaks = d.section.breaks + 1 } }) (lines ++ next ∷ []) refl refl (still d lines next are))
    ] e

broken : (p : Place) (d more : Draft) (lines : List Line) (next : Line) → with_break p d ≡ leads_to more → Stand d lines → Stand more (lines ++ next ∷ [])
broken place.Order d more lines next e are = led (with_turn d turn.Round) more lines next e (still d lines next are)
broken place.Types d more lines next e are = one_break d more lines next e are
broken place.Steps d more lines next e are = one_break d more lines next e are
broken place.Ended d more lines next e are = one_break d more lines next e are
broken (place.Header at) d more lines next e are = one_break d more lines next e are

stepped : (d more : Draft) (lines : List Line) (next : Line) (number : ℕ) (said : NamedStep) → next ≡ Does said → number ≡ length lines + 1 → with_step d number said ≡ leads_to more → Stand d lines → Stand more (lines ++ next ∷ [])
stepped d more lines next number said is here e are =
    elim (d.steps == 1000000) as (λ b. (if b then Err (cause.TooMany counted.Steps) else Ok stepped_draft) ≡ leads_to more → Stand more (lines ++ next ∷ [])) [
      | true ↦ λ e. failed (cause.TooMany counted.Steps) more e
      | false ↦ λ e. led stepped_draft more lines next e (one_step d step stepped_draft.section (lines ++ next ∷ []) refl (still d lines next are)
          (record { before = lines; after = []; parts = ap (λ (l : Line). lines ++ l ∷ []) is; numbered = here }))
    ] e
  where
    step : StepLine
    step = record { line = number; round = d.section.breaks; said = said }

    stepped_draft : Draft
    stepped_draft = record d { steps = d.steps + 1; section = record d.section { steps = d.section.steps ++ step ∷ [] } }

declared : (d more : Draft) (lines : List Line) (next : Line) (decl : TypeDecl) → with_type d decl ≡ leads_to more → Stand d lines → Stand more (lines ++ next ∷ [])
declared d more lines next decl e are =
    elim (length d.types == 1024) as (λ b. (if b then Err (cause.TooMany counted.Types) else Ok (record d { types = d.types ++ decl ∷ [] })) ≡ leads_to more → Stand more (lines ++ next ∷ [])) [
      | true ↦ λ e. failed (cause.TooMany counted.Types) more e
      | false ↦ λ e. led (record d { types = d.types ++ decl ∷ [] }) more lines next e (still d lines next are)
    ] e

one_line : (d more : Draft) (lines : List Line) (number : ℕ) (next : Line) → number ≡ length lines + 1 → with_line d number next ≡ leads_to more → Stand d lines → Stand more (lines ++ next ∷ [])
one_line d more lines number (Machine n) here e are = led (with_header d (record d.header { machine = n })) more lines (Machine n) e (still d lines (Machine n) are)
one_line d more lines number (SeedOf seed) here e are = led (with_header d (record d.header { seed = seed })) more lines (SeedOf seed) e (still d lines (SeedOf seed) are)
one_line d more lines number (Cpus n) here e are = led (with_header d (record d.header { cpus = n })) more lines (Cpus n) e (still d lines (Cpus n) are)
one_line d more lines number (Frames n) here e are = led (with_header d (record d.header { frames = n })) more lines (Frames n) e (still d lines (Frames n) are)
one_line d more lines number (Pages n) here e are = led (with_header d (record d.header { pages = n })) more lines (Pages n) e (still d lines (Pages n) are)
one_line d more lines number (Budget n) here e are = led (with_header d (record d.header { budget = n })) more lines (Budget n) e (still d lines (Budget n) are)
one_line d more lines number (Magazine n) here e are = led (with_header d (record d.header { magazine = n })) more lines (Magazine n) e (still d lines (Magazine n) are)
one_line d more lines number (Depot n) here e are = led (with_header d (record d.header { depot = n })) more lines (Depot n) e (still d lines (Depot n) are)
one_line d more lines number (Declares decl) here e are = declared d more lines (Declares decl) decl e are
one_line d more lines number (Opens cpu) here e are = opened d.place d more lines (Opens cpu) number e are
one_line d more lines number (Does said) here e are = stepped d more lines (Does said) number said refl here e are
one_line d more lines number Break here e are = broken d.place d more lines Break e are
one_line d more lines number Orders here e are = led (record d { place = place.Order; order = Some []; order_at = number }) more lines Orders e (still d lines Orders are)
one_line d more lines number (Turns cpu) here e are = led (with_turn d (turn.Cpu cpu)) more lines (Turns cpu) e (still d lines (Turns cpu) are)
one_line d more lines number Ends here e are = led (record d { place = place.Ended }) more lines Ends e (still d lines Ends are)

-- ---- all lines

all_lines : (d : Draft) (number : ℕ) (done lines : List Line) (end : Draft) → number ≡ length done + 1 → Stand d done → Leads d number lines end → Stand end (done ++ lines)
all_lines d number done [] end here are leads =
    subst (λ (d : Draft). Stand d (done ++ [])) leads (subst (Stand d) (sym (append-nil done)) are)
all_lines d number done (next ∷ lines) end here are leads =
    subst (Stand end) (append_assoc done (next ∷ []) lines)
    (all_lines leads.1.0 (number + 1) (done ++ next ∷ []) lines end (omega (arith, here, length-append done (next ∷ []))) (one_line d leads.1.0 done number next here leads.1.1.0 are) leads.1.1.1)

none_stand : Stand empty_draft []
none_stand line there = contains_none line there

pub step_lines_stand : StepLinesStand
step_lines_stand bytes b spells line there = all_lines empty_draft 1 [] spells.lines spells.said (omega arith) none_stand spells.leads line there
