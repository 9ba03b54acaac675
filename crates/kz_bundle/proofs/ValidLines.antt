-- What holds of each draft that lines lead to: its numbers keep to their ranges.
use Rattle.std.proofs.Common.{◌≡◌, ℕ, ◌+◌, ◌-◌, ◌<◌, ◌≤◌, ◌==◌, true, false, List, [], ◌∷◌, ◌++◌, length, sum_by, All, Option, Some, Err, Ok, refl, arith, subst, if◌then◌else◌, length-append}
use Rattle.std.specs.List.Sorted.{IsNonDecreasingBy}
use Rattle.std.proofs.lemmas.List.Elements.{All-nil, All-push, All-weaker}
use Rattle.std.proofs.lemmas.List.Sorted.{IsNonDecreasingBy-push}
use Rattle.std.proofs.lemmas.List.Sums.{sum_by_push}
use Rattle.kz_model.specs.declared.bundle.OrderLine.{OrderLine}
use Rattle.kz_model.specs.declared.bundle.OrderLine.TheVariants as turn
use Rattle.kz_model.specs.declared.grammar.Place.{Place}
use Rattle.kz_model.specs.declared.grammar.Place.TheVariants as place
use Rattle.kz_model.specs.declared.grammar.Cause.TheVariants as cause
use Rattle.kz_model.specs.declared.grammar.Counted.TheVariants as counted
use Rattle.kz_model.specs.declared.grammar.Header.{Header}
use Rattle.kz_model.specs.Grammar.Steps.{NamedStep, Alloc, AllocZero, Free, FreeAs, Give, Take, Read, Write, Flush, Trim}
use Rattle.kz_model.specs.Grammar.Form.{Line, Machine, SeedOf, Cpus, Frames, Pages, Budget, Magazine, Depot, Declares, Opens, Does, Break, Orders, Turns, Ends, StepLine, Section, Draft, empty_draft, new_section, with_header, turns_of, with_line}
use Rattle.kz_model.specs.Grammar.Spelling.{IsName, IsNamedStep, IsDeclared, IsAllowed, Leads}
use Rattle.kz_bundle.proofs.Choices.{equal}
use Rattle.kz_bundle.proofs.Walking.{leads_to, led_same, failed, IsReached, reached_more}

-- ---- what is kept

-- what is bound is a name, and a piece that is read is short
abbrev pub KeepsTo : NamedStep → Type 0
KeepsTo (Alloc name of) = IsName name
KeepsTo (AllocZero name of) = IsName name
KeepsTo (Read name off len) = len ≤ 32
KeepsTo said = Unit {0}

-- the frames, the pages, the budget, the magazine and the depot
abbrev pub IsHeader : Header → Type 0
IsHeader h = (h.frames ≤ 8192) × (h.pages ≤ 4096) × (h.budget ≤ 128) × (h.magazine ≤ 32) × (h.depot ≤ 16)

-- a step of a section with so many breaks
abbrev pub IsStep : ℕ → StepLine → Type 0
IsStep breaks line = KeepsTo line.said × (line.round ≤ breaks)

pub record IsSection (section : Section) : Type 0 where
  pub steps : All (IsStep section.breaks) section.steps
  pub in_rounds : IsNonDecreasingBy (λ line. line.round) section.steps
  pub breaks : section.breaks ≤ 999

abbrev pub count_of : Section → ℕ
count_of section = length section.steps

-- what is said once a place is reached: the magazine, and behind the sections one for each CPU
abbrev pub IsTold : Place → ℕ → ℕ → ℕ → Type 0
IsTold (place.Header at) magazine cpus before = 6 < at → 1 ≤ magazine
IsTold place.Types magazine cpus before = 1 ≤ magazine
IsTold place.Steps magazine cpus before = 1 ≤ magazine
IsTold other magazine cpus before = (1 ≤ magazine) × (before + 1 ≡ cpus)

pub record IsDraft (d : Draft) : Type 0 where
  pub header : IsHeader d.header
  pub types : All IsDeclared d.types
  pub few_types : length d.types ≤ 1024
  pub before : All IsSection d.before
  pub section : IsSection d.section
  pub counted : sum_by count_of d.before + length d.section.steps ≤ d.steps
  pub few_steps : d.steps ≤ 1000000
  pub told : IsTold d.place d.header.magazine d.header.cpus (length d.before)

-- ---- one line

keeps_to : (cpus : ℕ) (said : NamedStep) → IsNamedStep cpus said → KeepsTo said
keeps_to cpus (Alloc name of) is = is.0
keeps_to cpus (AllocZero name of) is = is.0
keeps_to cpus (Free name) is = tt
keeps_to cpus (FreeAs name of) is = tt
keeps_to cpus (Give name to) is = tt
keeps_to cpus (Take name) is = tt
keeps_to cpus (Read name off len) is = is.2.1
keeps_to cpus (Write name off bytes) is = tt
keeps_to cpus (Flush of) is = tt
keeps_to cpus (Trim of) is = tt

-- there is room for one more
room : (n most : ℕ) → (n == most) ≡ false → n ≤ most → n + 1 ≤ most
room n most other h = grind arith

told_more : (at magazine cpus before : ℕ) → (6 ≤ at → 1 ≤ magazine) → IsTold (if at == 7 then place.Types else place.Header (at + 1)) magazine cpus before
told_more at magazine cpus before some =
    elim (at == 7) as (λ b. (at == 7) ≡ b → IsTold (if b then place.Types else place.Header (at + 1)) magazine cpus before) [
      | true ↦ λ e. let here : at ≡ 7 = equal at 7 e in some (omega (arith, here))
      | false ↦ λ e. λ later. some (omega (arith, later))
    ] refl

header_more : (at : ℕ) (d : Draft) (h : Header) (more : Draft) → IsDraft (record d { place = place.Header at }) → IsHeader h → (6 ≤ at → 1 ≤ h.magazine) →
    leads_to (with_header (record d { place = place.Header at }) h) ≡ leads_to more → IsDraft more
header_more at d h more ok is some e =
    subst IsDraft (led_same _ more e) (record {
      header = is;
      types = ok.types;
      few_types = ok.few_types;
      before = ok.before;
      section = ok.section;
      counted = ok.counted;
      few_steps = ok.few_steps;
      told = told_more at h.magazine h.cpus (length d.before) some;
    })

-- with the order at another place
turned : (p q : Place) (d : Draft) (order : Option (List OrderLine)) (at : ℕ) (more : Draft) → IsDraft (record d { place = p }) → IsTold q d.header.magazine d.header.cpus (length d.before) →
    leads_to (record d { place = q; order = order; order_at = at }) ≡ leads_to more → IsDraft more
turned p q d order at more ok told e =
    subst IsDraft (led_same _ more e) (record {
      header = ok.header;
      types = ok.types;
      few_types = ok.few_types;
      before = ok.before;
      section = ok.section;
      counted = ok.counted;
      few_steps = ok.few_steps;
      told = told;
    })

-- with other sections
stepped : (p : Place) (d : Draft) (before : List Section) (section : Section) (steps : ℕ) (more : Draft) → IsDraft (record d { place = p }) → 1 ≤ d.header.magazine → All IsSection before → IsSection section →
    sum_by count_of before + length section.steps ≤ steps → steps ≤ 1000000 → leads_to (record d { place = place.Steps; before = before; section = section; steps = steps }) ≡ leads_to more → IsDraft more
stepped p d before section steps more ok some are is counted few e =
    subst IsDraft (led_same _ more e) (record {
      header = ok.header;
      types = ok.types;
      few_types = ok.few_types;
      before = are;
      section = is;
      counted = counted;
      few_steps = few;
      told = some;
    })

empty : (line : ℕ) → IsSection (new_section line)
empty line = record { steps = All-nil (IsStep 0); in_rounds = λ i j d le lt. absurd (omega arith); breaks = omega arith }

-- a line keeps the numbers in their ranges
draft_next : (p : Place) (d : Draft) (number : ℕ) (line : Line) (more : Draft) → IsDraft (record d { place = p }) → IsAllowed p d line →
    with_line (record d { place = p }) number line ≡ leads_to more → IsDraft more
draft_next (place.Header at) d number (Machine n) more ok is e = header_more at d (record d.header { machine = n }) more ok ok.header (λ h. absurd (omega (arith, h, is.0))) e
draft_next (place.Header at) d number (SeedOf seed) more ok is e = header_more at d (record d.header { seed = seed }) more ok ok.header (λ h. absurd (omega (arith, h, is.0))) e
draft_next (place.Header at) d number (Cpus n) more ok is e = header_more at d (record d.header { cpus = n }) more ok ok.header (λ h. absurd (omega (arith, h, is.0))) e
draft_next (place.Header at) d number (Frames n) more ok is e =
    header_more at d (record d.header { frames = n }) more ok (is.1.1, ok.header.1, ok.header.2, ok.header.3, ok.header.4) (λ h. absurd (omega (arith, h, is.0))) e
draft_next (place.Header at) d number (Pages n) more ok is e =
    header_more at d (record d.header { pages = n }) more ok (ok.header.0, is.1.1, ok.header.2, ok.header.3, ok.header.4) (λ h. absurd (omega (arith, h, is.0))) e
draft_next (place.Header at) d number (Budget n) more ok is e =
    header_more at d (record d.header { budget = n }) more ok (ok.header.0, ok.header.1, is.1.1, ok.header.3, ok.header.4) (λ h. absurd (omega (arith, h, is.0))) e
draft_next (place.Header at) d number (Magazine n) more ok is e =
    header_more at d (record d.header { magazine = n }) more ok (ok.header.0, ok.header.1, ok.header.2, is.1.1, ok.header.4) (λ h. is.1.0) e
draft_next (place.Header at) d number (Depot n) more ok is e =
    header_more at d (record d.header { depot = n }) more ok (ok.header.0, ok.header.1, ok.header.2, ok.header.3, is.1.1) (λ h. ok.told (omega (arith, is.0))) e
draft_next place.Types d number (Declares decl) more ok is e =
    elim (length d.types == 1024) as (λ b. (length d.types == 1024) ≡ b → (if b then Err (cause.TooMany counted.Types) else Ok (record d { place = place.Types; types = d.types ++ decl ∷ [] })) ≡ leads_to more → IsDraft more) [
      | true ↦ λ full e. failed (cause.TooMany counted.Types) more e
      | false ↦ λ full e.
          subst IsDraft (led_same _ more e) (record {
            header = ok.header;
            types = All-push IsDeclared d.types decl ok.types is;
            few_types = one_longer (length d.types) (length (d.types ++ decl ∷ [])) (length-append d.types (decl ∷ [])) (room (length d.types) 1024 full ok.few_types);
            before = ok.before;
            section = ok.section;
            counted = ok.counted;
            few_steps = ok.few_steps;
            told = ok.told;
          })
    ] refl e
  where
    one_longer : (n m : ℕ) → m ≡ n + 1 → n + 1 ≤ 1024 → m ≤ 1024
    one_longer n m e h = omega arith
draft_next place.Types d number (Opens cpu) more ok is e = stepped place.Types d d.before (new_section number) d.steps more ok ok.told ok.before (empty number) (omega (arith, ok.counted)) ok.few_steps e
draft_next place.Steps d number (Does said) more ok is e =
    elim (d.steps == 1000000) as (λ b. (d.steps == 1000000) ≡ b → (if b then Err (cause.TooMany counted.Steps) else Ok (record d { place = place.Steps; steps = d.steps + 1; section = longer })) ≡ leads_to more → IsDraft more) [
      | true ↦ λ full e. failed (cause.TooMany counted.Steps) more e
      | false ↦ λ full e.
          stepped place.Steps d d.before longer (d.steps + 1) more ok ok.told ok.before
          (record {
            steps = All-push (IsStep d.section.breaks) d.section.steps line ok.section.steps (keeps_to d.header.cpus said is, omega arith);
            in_rounds = IsNonDecreasingBy-push (λ (line : StepLine). line.round) d.section.steps line ok.section.in_rounds (λ e some. (ok.section.steps (length d.section.steps - 1) e (omega arith)).1);
            breaks = ok.section.breaks;
          })
          (one_longer (sum_by count_of d.before) (length d.section.steps) (length (d.section.steps ++ line ∷ [])) d.steps (length-append d.section.steps (line ∷ [])) ok.counted)
          (room d.steps 1000000 full ok.few_steps) e
    ] refl e
  where
    line : StepLine
    line = record { line = number; round = d.section.breaks; said = said }

    longer : Section
    longer = record d.section { steps = d.section.steps ++ line ∷ [] }

    one_longer : (sum n m steps : ℕ) → m ≡ n + 1 → sum + n ≤ steps → sum + m ≤ steps + 1
    one_longer sum n m steps e h = omega arith
draft_next place.Steps d number Break more ok is e =
    elim (d.section.breaks == 999) as (λ b. (d.section.breaks == 999) ≡ b → (if b then Err (cause.TooMany counted.Rounds) else Ok (record d { place = place.Steps; section = record d.section { breaks = d.section.breaks + 1 } })) ≡ leads_to more → IsDraft more) [
      | true ↦ λ full e. failed (cause.TooMany counted.Rounds) more e
      | false ↦ λ full e.
          stepped place.Steps d d.before (record d.section { breaks = d.section.breaks + 1 }) d.steps more ok ok.told ok.before
          (record {
            steps = All-weaker (IsStep d.section.breaks) (IsStep (d.section.breaks + 1)) (λ line h. (h.0, omega (arith, h.1))) d.section.steps ok.section.steps;
            in_rounds = ok.section.in_rounds;
            breaks = room d.section.breaks 999 full ok.section.breaks;
          })
          ok.counted ok.few_steps e
    ] refl e
draft_next place.Steps d number (Opens cpu) more ok is e =
    stepped place.Steps d (d.before ++ d.section ∷ []) (new_section number) d.steps more ok ok.told (All-push IsSection d.before d.section ok.before ok.section) (empty number)
    (omega (arith, ok.counted, sum_by_push count_of d.before d.section)) ok.few_steps e
draft_next place.Steps d number Orders more ok is e = turned place.Steps place.Order d (Some []) number more ok (ok.told, equal (length d.before + 1) d.header.cpus is) e
draft_next place.Steps d number Ends more ok is e = turned place.Steps place.Ended d d.order d.order_at more ok (ok.told, equal (length d.before + 1) d.header.cpus is) e
draft_next place.Order d number (Turns cpu) more ok is e = turned place.Order place.Order d (Some (turns_of d.order ++ turn.Cpu cpu ∷ [])) d.order_at more ok ok.told e
draft_next place.Order d number Break more ok is e = turned place.Order place.Order d (Some (turns_of d.order ++ turn.Round ∷ [])) d.order_at more ok ok.told e
draft_next place.Order d number Ends more ok is e = turned place.Order place.Ended d d.order d.order_at more ok ok.told e
draft_next p d number line more ok is e = absurd is

-- ---- all lines

pub draft_first : IsDraft empty_draft
draft_first = record {
  header = (omega arith, omega arith, omega arith, omega arith, omega arith);
  types = All-nil IsDeclared;
  few_types = omega arith;
  before = All-nil IsSection;
  section = empty 0;
  counted = omega arith;
  few_steps = omega arith;
  told = λ more. absurd (omega (arith, more));
}

pub draft_last : (d : Draft) (number : ℕ) (lines : List Line) (end : Draft) → IsDraft d → Leads d number lines end → IsDraft end
draft_last d number [] end ok leads = subst IsDraft leads ok
draft_last d number (line ∷ lines) end ok leads = draft_last leads.1.0 (number + 1) lines end (draft_next d.place d number line leads.1.0 ok leads.0 leads.1.1.0) leads.1.1.1

pub reached_last : (d : Draft) (number : ℕ) (lines : List Line) (end : Draft) → IsReached d → Leads d number lines end → IsReached end
reached_last d number [] end reached leads = subst IsReached leads reached
reached_last d number (line ∷ lines) end reached leads = reached_last leads.1.0 (number + 1) lines end (reached_more d number line leads.1.0 reached leads.0 leads.1.1.0) leads.1.1.1
