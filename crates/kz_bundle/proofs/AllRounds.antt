-- Sections with the same number of rounds.
use Rattle.std.proofs.Common.{◌≡◌, ℕ, zero, suc, ◌+◌, ◌-◌, ◌<◌, ◌≤◌, ◌==◌, not, Bool, true, false, List, [], ◌∷◌, length, map, slice_index_or, Option, None, Some, refl, ap, sym, ◌∙◌, arith}
use Rattle.std.specs.List.{All}
use Rattle.std.proofs.lemmas.List.Sums.{get_or-le-sum_by}
use Rattle.std.proofs.lemmas.List.{take_more, take_all, length-map, get_or-map}
use Rattle.kz_model.specs.declared.bundle.OrderLine.{OrderLine}
use Rattle.kz_model.specs.declared.grammar.Cause.TheVariants as cause
use Rattle.kz_model.specs.declared.grammar.Refusal.{Refusal}
use Rattle.kz_model.specs.Grammar.Form.{Section, new_section}
use Rattle.kz_model.specs.Grammar.Stages.{rounds_of, rounds_from, else_fault, fault_if, order_from, left_in, sections_of, rounds_fault, order_fault}
use Rattle.kz_bundle.specs.declared.form.parts.Part.{Part}
use Rattle.kz_bundle.specs.declared.form.parts.Parts.{Parts}
use Rattle.kz_model.specs.Grammar.Tokens.{texts}
use Rattle.kz_bundle.specs.Parts.{section_meant, sections_meant, draft_of, AreParts}
use Rattle.kz_bundle.specs.Rounds.{IsCountable}

first_none : (a b : Option Refusal) → else_fault a b ≡ None → (a ≡ None) × (b ≡ None)
first_none None b e = (refl, e)
first_none (Some r) b e = absurd (cc)

no_fault : (wrong : Bool) (line : ℕ) → fault_if wrong line cause.RoundsDiffer ≡ None → wrong ≡ false
no_fault true line e = absurd (let h : Some (record { line = line; cause = cause.RoundsDiffer }) ≡ None = e in cc)
no_fault false line e = refl

not_false : (b : Bool) → not b ≡ false → b ≡ true
not_false true e = refl
not_false false e = absurd (cc)

pub none_other : (names words : List (List ℕ)) (breaks : ℕ) (parts : List Part) → rounds_from breaks (map (section_meant names words) parts) ≡ None → All (λ (part : Part). part.breaks ≡ breaks) parts
none_other names words breaks [] e = λ k d lt. absurd (omega (arith, lt))
none_other names words breaks (part ∷ parts) e =
    let both = first_none (fault_if (not (part.breaks == breaks)) part.line cause.RoundsDiffer) (rounds_from breaks (map (section_meant names words) parts)) e in
    let test : (part.breaks == breaks) ≡ true = not_false _ (no_fault _ part.line both.0) in
    let here : part.breaks ≡ breaks = grind arith in
    there here (none_other names words breaks parts both.1)
  where
    there : part.breaks ≡ breaks → All (λ (part : Part). part.breaks ≡ breaks) parts → All (λ (part : Part). part.breaks ≡ breaks) (part ∷ parts)
    there here rest zero d lt = here
    there here rest (suc k) d lt = rest k d (omega (arith, lt))

abbrev breaks_of : List Part → ℕ
breaks_of [] = 0
breaks_of (part ∷ parts) = part.breaks

pub same_breaks : (names words : List (List ℕ)) (parts : List Part) → rounds_of (map (section_meant names words) parts) ≡ None → All (λ (part : Part). part.breaks ≡ breaks_of parts) parts
same_breaks names words [] e = λ k d lt. absurd (omega (arith, lt))
same_breaks names words (part ∷ parts) e = there (none_other names words part.breaks parts e)
  where
    there : All (λ (other : Part). other.breaks ≡ part.breaks) parts → All (λ (other : Part). other.breaks ≡ part.breaks) (part ∷ parts)
    there rest zero d lt = refl
    there rest (suc k) d lt = rest k d (omega (arith, lt))

pub countable : (parts : Parts) (last : ℕ) (e : Part) → AreParts parts → rounds_of (sections_meant parts) ≡ None → last < length parts.sections.items →
    All (λ part. IsCountable ((slice_index_or parts.sections.items last e).breaks + 1) part) parts.sections.items
countable parts last e h none there = λ k d lt.
    let same = same_breaks (texts parts.names.items) (texts parts.words.items) parts.sections.items none in
    let mine = same k d lt in
    let lasts = same last e there in
    let few = get_or-le-sum_by (λ (part : Part). length part.steps) parts.sections.items k d lt in
    record {
      within = λ j s there. omega (arith, (h.sections k d lt).rounds j s there, mine, lasts);
      few = omega (arith, few, h.steps);
    }

pub sections_back : (parts : Parts) → AreParts parts → sections_of (draft_of parts) ≡ sections_meant parts
sections_back parts h =
    let all = sections_meant parts in
    let n = length parts.sections.items in
    let some : 1 ≤ n = omega (arith, h.cpus, h.some_cpus) in
    let long : length all ≡ n = length-map parts.sections.items (section_meant (texts parts.names.items) (texts parts.words.items)) in
    sym (take_more all (n - 1) (new_section 0) (omega (arith, some, long))) ∙ take_all (n - 1 + 1) all (omega (arith, some, long))

pub last_breaks : (parts : Parts) (last : ℕ) (e : Part) → last ≡ length parts.sections.items - 1 → 1 ≤ length parts.sections.items →
    (draft_of parts).section.breaks ≡ (slice_index_or parts.sections.items last e).breaks
last_breaks parts last e is some =
    let meant = section_meant (texts parts.names.items) (texts parts.words.items) in
    ap (λ (section : Section). section.breaks) (
    ap (λ at. slice_index_or (sections_meant parts) at (new_section 0)) (sym is)
    ∙ get_or-map meant parts.sections.items last e (new_section 0) (omega (arith, is, some)))

pub no_order : (parts : Parts) → AreParts parts → rounds_of (sections_meant parts) ≡ None → parts.order ≡ None → None ≡ rounds_fault (draft_of parts)
no_order parts h none e =
    sym (ap (λ (sections : List Section). else_fault (rounds_of sections) (order_fault (draft_of parts) parts.order)) (sections_back parts h)
    ∙ ap (λ (f : Option Refusal). else_fault f (order_fault (draft_of parts) parts.order)) none
    ∙ ap (order_fault (draft_of parts)) e)

pub differing : (parts : Parts) (refusal : Refusal) → AreParts parts → rounds_of (sections_meant parts) ≡ Some refusal → Some refusal ≡ rounds_fault (draft_of parts)
differing parts refusal h e =
    sym (ap (λ (sections : List Section). else_fault (rounds_of sections) (order_fault (draft_of parts) parts.order)) (sections_back parts h)
    ∙ ap (λ (f : Option Refusal). else_fault f (order_fault (draft_of parts) parts.order)) e)

pub by_order : (parts : Parts) (turns : List OrderLine) (last : ℕ) (e : Part) (fault : Option Refusal) → AreParts parts → rounds_of (sections_meant parts) ≡ None → parts.order ≡ Some turns →
    last ≡ length parts.sections.items - 1 →
    fault ≡ order_from (sections_meant parts) ((slice_index_or parts.sections.items last e).breaks + 1 - 1) 0 (left_in 0 (sections_meant parts)) (parts.order_at + 1) turns →
    fault ≡ rounds_fault (draft_of parts)
by_order parts turns last e fault h none order is told =
    let some : 1 ≤ length parts.sections.items = omega (arith, h.cpus, h.some_cpus) in
    let d = draft_of parts in
    let b : (slice_index_or parts.sections.items last e).breaks + 1 - 1 ≡ d.section.breaks = omega (arith, last_breaks parts last e is some) in
    told
    ∙ ap (λ n. order_from (sections_meant parts) n 0 (left_in 0 (sections_meant parts)) (parts.order_at + 1) turns) b
    ∙ ap (λ (sections : List Section). order_from sections d.section.breaks 0 (left_in 0 sections) (parts.order_at + 1) turns) (sym (sections_back parts h))
    ∙ sym (ap (λ (sections : List Section). else_fault (rounds_of sections) (order_fault d parts.order)) (sections_back parts h)
    ∙ ap (λ (f : Option Refusal). else_fault f (order_fault d parts.order)) none
    ∙ ap (order_fault d) order)
