-- A zone's visits, written one after another, are the lines of its rounds.
use Rattle.std.proofs.Common.{◌≡◌, ℕ, zero, suc, ◌+◌, ◌<◌, ◌≤◌, ◌==◌, Bool, true, false, if◌then◌else◌, List, [], ◌∷◌, ◌++◌, length, map, None, Some, All, codes, refl, ap, sym, ◌∙◌, subst, arith, append_assoc}
use Rattle.std.specs.List.{filter, flat_map, range_with_len}
use Rattle.std.specs.List.Sorted.{IsNonDecreasing}
use Rattle.std.proofs.lemmas.Grind.{flat_map-append}
use Rattle.kz_model.specs.declared.bundle.Bundle.{Bundle}
use Rattle.kz_model.specs.declared.record.Visit.{Visit}
use Rattle.kz_model.specs.Text.Report.{zone_visits_lines}
use Rattle.kz_model.specs.Text.Lines.{visit_text, visits_line, text_of_lines}
use Rattle.kz_report.specs.Lines.{visits_begin, visits_after}

-- the rounds of these visits do not fall, and lie in this range
abbrev pub RiseWithin : ℕ → ℕ → List Visit → Type 0
RiseWithin low high [] = Unit {0}
RiseWithin low high (v ∷ visits) = (low ≤ v.round) × (v.round < high) × RiseWithin v.round high visits

rise_lower : (low lower high : ℕ) (visits : List Visit) → lower ≤ low → RiseWithin low high visits → RiseWithin lower high visits
rise_lower low lower high [] le rise = rise
rise_lower low lower high (v ∷ visits) le rise = (omega (arith, rise.0), rise.1, rise.2)

-- the visits of one round
abbrev of_round : ℕ → List Visit → List Visit
of_round round visits = filter (λ v. v.round == round) visits

abbrev line_of : ℕ → List Visit → ℕ → List (List ℕ)
line_of zone visits round = let there = of_round round visits in if length there == 0 then [] else visits_line zone round there ∷ []

-- the lines of these rounds
abbrev lines_from : ℕ → List Visit → ℕ → ℕ → List ℕ
lines_from zone visits round n = text_of_lines (flat_map (line_of zone visits) (range_with_len round n))

-- ---- rounds with no visit

none_of : (round low high : ℕ) (visits : List Visit) → round < low → RiseWithin low high visits → of_round round visits ≡ []
none_of round low high [] lt rise = refl
none_of round low high (v ∷ visits) lt rise =
    let other : (v.round == round) ≡ false = grind (arith, rise.0) in
    ap (λ (t : Bool). if t then v ∷ of_round round visits else of_round round visits) other
    ∙ none_of round v.round high visits (omega (arith, rise.0)) rise.2

no_visits : (zone n round : ℕ) → flat_map (line_of zone []) (range_with_len round n) ≡ []
no_visits zone zero round = refl
no_visits zone (suc n) round = no_visits zone n (round + 1)

-- a visit of an earlier round is in none of these lines
past_visit : (zone : ℕ) (v : Visit) (visits : List Visit) (n round : ℕ) → v.round < round → flat_map (line_of zone (v ∷ visits)) (range_with_len round n) ≡ flat_map (line_of zone visits) (range_with_len round n)
past_visit zone v visits zero round lt = refl
past_visit zone v visits (suc n) round lt =
    let other : (v.round == round) ≡ false = grind arith in
    let F : List Visit → List (List ℕ) = λ there. if length there == 0 then [] else visits_line zone round there ∷ [] in
    ap (λ (t : Bool). F (if t then v ∷ of_round round visits else of_round round visits) ++ flat_map (line_of zone (v ∷ visits)) (range_with_len (round + 1) n)) other
    ∙ ap (λ (lines : List (List ℕ)). line_of zone visits round ++ lines) (past_visit zone v visits n (round + 1) (omega arith))

text-append : (xs ys : List (List ℕ)) → text_of_lines (xs ++ ys) ≡ text_of_lines xs ++ text_of_lines ys
text-append xs ys = flat_map-append (λ (line : List ℕ). line ++ 10 ∷ []) xs ys

-- ---- the line of a round that is open

-- what is left to write where the line of this round is open
abbrev OpenLeft : ℕ → ℕ → List Visit → ℕ → Type 0
OpenLeft zone round visits n = flat_map visit_text (of_round round visits) ++ (codes "\n" ++ lines_from zone visits (round + 1) n) ≡ visits_after zone (Some round) visits

some_line : (zone round : ℕ) (v : Visit) (there : List Visit) → (if length (v ∷ there) == 0 then [] else visits_line zone round (v ∷ there) ∷ []) ≡ visits_line zone round (v ∷ there) ∷ []
some_line zone round v there =
    let some : (length (v ∷ there) == 0) ≡ false = grind arith in
    ap (λ (t : Bool). if t then [] else visits_line zone round (v ∷ there) ∷ []) some

-- the first visit begins its round's line
begun : (zone : ℕ) (v : Visit) (visits : List Visit) (high : ℕ) → RiseWithin v.round high visits → ((n : ℕ) → v.round + 1 + n ≡ high → OpenLeft zone v.round visits n) →
    (n round : ℕ) → round ≤ v.round → v.round < high → round + n ≡ high → lines_from zone (v ∷ visits) round n ≡ visits_after zone None (v ∷ visits)
begun zone v visits high rise again zero round low below is = absurd (omega arith)
begun zone v visits high rise again (suc n) round low below is =
    let F : List Visit → List (List ℕ) = λ there. if length there == 0 then [] else visits_line zone round there ∷ [] in
    let rest = flat_map (line_of zone (v ∷ visits)) (range_with_len (round + 1) n) in
    elim (v.round == round) as (λ t. (v.round == round) ≡ t → text_of_lines (F (if t then v ∷ of_round round visits else of_round round visits) ++ rest) ≡ visits_after zone None (v ∷ visits)) [
      | true ↦ λ e.
          let same : round ≡ v.round = grind arith in
          let P : ℕ → Type 0 = λ round. text_of_lines (visits_line zone round (v ∷ of_round round visits) ∷ flat_map (line_of zone (v ∷ visits)) (range_with_len (round + 1) n)) ≡ visits_after zone None (v ∷ visits) in
          ap (λ (lines : List (List ℕ)). text_of_lines (lines ++ rest)) (some_line zone round v (of_round round visits))
          ∙ subst P (sym same)
          (ap (λ (lines : List (List ℕ)). ((visits_begin zone v.round ++ (visit_text v ++ flat_map visit_text (of_round v.round visits))) ++ codes "\n") ++ text_of_lines lines) (past_visit zone v visits n (v.round + 1) (omega arith))
          ∙ whole (visits_begin zone v.round) (visit_text v) (flat_map visit_text (of_round v.round visits)) (lines_from zone visits (v.round + 1) n)
          ∙ ap (λ (left : List ℕ). visits_begin zone v.round ++ (visit_text v ++ left)) (again n (omega arith)))
      | false ↦ λ e.
          let lt : round < v.round = grind arith in
          ap (λ (there : List Visit). text_of_lines (F there ++ rest)) (none_of round v.round high visits lt rise)
          ∙ begun zone v visits high rise again n (round + 1) (omega arith) below (omega arith)
    ] refl
  where
    whole : (begin first visits rest : List ℕ) → ((begin ++ (first ++ visits)) ++ codes "\n") ++ rest ≡ begin ++ (first ++ (visits ++ (codes "\n" ++ rest)))
    whole begin first visits rest = simp append_assoc

open_left : (zone high : ℕ) (visits : List Visit) (round n : ℕ) → RiseWithin round high visits → round + 1 + n ≡ high → OpenLeft zone round visits n
open_left zone high [] round n rise is = ap (λ (lines : List (List ℕ)). codes "\n" ++ text_of_lines lines) (no_visits zone n (round + 1))
open_left zone high (v ∷ visits) round n rise is =
    let again : (n : ℕ) → v.round + 1 + n ≡ high → OpenLeft zone v.round visits n = λ n is. open_left zone high visits v.round n rise.2 is in
    elim (v.round == round) as (λ t. (v.round == round) ≡ t → flat_map visit_text (if t then v ∷ of_round round visits else of_round round visits) ++ (codes "\n" ++ lines_from zone (v ∷ visits) (round + 1) n) ≡ visits_after zone (Some round) (v ∷ visits)) [
      | true ↦ λ e.
          let same : round ≡ v.round = grind arith in
          let here : (round == v.round) ≡ true = grind arith in
          ap (λ (lines : List (List ℕ)). (visit_text v ++ flat_map visit_text (of_round round visits)) ++ (codes "\n" ++ text_of_lines lines)) (past_visit zone v visits n (round + 1) (omega arith))
          ∙ append_assoc (visit_text v) (flat_map visit_text (of_round round visits)) (codes "\n" ++ lines_from zone visits (round + 1) n)
          ∙ ap (λ (left : List ℕ). visit_text v ++ left) (subst (λ round. OpenLeft zone round visits n) (sym same) (again n (omega arith)) ∙ ap (λ round. visits_after zone (Some round) visits) same)
          ∙ ap (λ (t : Bool). (if t then [] else codes "\n" ++ visits_begin zone v.round) ++ (visit_text v ++ visits_after zone (Some v.round) visits)) (sym here)
      | false ↦ λ e.
          let lt : round < v.round = grind (arith, rise.0) in
          let other : (round == v.round) ≡ false = grind arith in
          ap (λ (there : List Visit). flat_map visit_text there ++ (codes "\n" ++ lines_from zone (v ∷ visits) (round + 1) n)) (none_of round v.round high visits lt rise.2)
          ∙ ap (λ (lines : List ℕ). codes "\n" ++ lines) (begun zone v visits high rise.2 again n (round + 1) (omega arith) rise.1 (omega arith))
          ∙ sym (append_assoc (codes "\n") (visits_begin zone v.round) (visit_text v ++ visits_after zone (Some v.round) visits))
          ∙ ap (λ (t : Bool). (if t then [] else codes "\n" ++ visits_begin zone v.round) ++ (visit_text v ++ visits_after zone (Some v.round) visits)) (sym other)
    ] refl

-- ---- a zone

pub visits_same : (b : Bundle) (zone : ℕ) (visits : List Visit) → RiseWithin 0 b.rounds visits → visits_after zone None visits ≡ text_of_lines (zone_visits_lines b zone visits)
visits_same b zone [] rise = sym (ap text_of_lines (no_visits zone b.rounds 0))
visits_same b zone (v ∷ visits) rise =
    sym (begun zone v visits b.rounds rise.2 (λ n is. open_left zone b.rounds visits v.round n rise.2 is) b.rounds 0 rise.0 rise.1 (omega arith))

-- ---- the rounds of a journal

pub rises : (high : ℕ) (visits : List Visit) → IsNonDecreasing (map (λ v. v.round) visits) → All (λ v. v.round < high) visits → RiseWithin 0 high visits
rises high [] rising below = tt
rises high (v ∷ visits) rising below =
    (omega arith, below 0 v (omega arith), after v visits rising (λ k d lt. below (suc k) d (omega arith)))
  where
    after : (v : Visit) (visits : List Visit) → IsNonDecreasing (map (λ v. v.round) (v ∷ visits)) → All (λ v. v.round < high) visits → RiseWithin v.round high visits
    after v [] rising below = tt
    after v (w ∷ visits) rising below =
        (rising 0 1 0 (omega arith) (omega arith), below 0 w (omega arith), after w visits (λ i j d le lt. rising (suc i) (suc j) d (omega arith) (omega arith)) (λ k d lt. below (suc k) d (omega arith)))
