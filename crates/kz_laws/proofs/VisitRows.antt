-- The visits lines of a report, as rows of a zone, a round and visits: they tell each zone's journal.
use Rattle.std.proofs.Common.{◌≡◌, ◌≢◌, ◌<◌, ◌≤◌, ℕ, ◌==◌, ◌^◌, Bool, true, false, if◌then◌else◌, List, [], ◌∷◌, length, map, slice_index_or, refl, ap, sym, ◌∙◌, arith}
use Rattle.std.specs.List.{AllByRecursion, flat_map, range_with_len}
use Rattle.std.specs.List.Sorted.{IsNonDecreasingBy}
use Rattle.std.proofs.lemmas.List.{append-nil}
use Rattle.kz_model.specs.declared.bundle.Bundle.{Bundle}
use Rattle.kz_model.specs.declared.record.Visit.{Visit}
use Rattle.kz_model.specs.Text.Report.{zone_visits_lines}
use Rattle.kz_model.specs.Text.Lines.{visits_line}
use Rattle.kz_laws.proofs.ByNumber.{of_number, all_by_number, flat_map-flat_map, map-flat_map, flat_map_same, one_of_range}
use Rattle.kz_laws.proofs.Each.{each-range}
use Rattle.kz_laws.proofs.Reading.{VisitSays, says, FitVisits, same_visits_line}
use Rattle.kz_laws.proofs.VisitsOfRuns.{IsInRange}

-- a zone's visits of a round
pub record Row : Type 0 where
  pub zone : ℕ
  pub round : ℕ
  pub visits : List Visit

abbrev pub row_line : Row → List ℕ
row_line row = visits_line row.zone row.round row.visits

-- ---- a row is told by its line

abbrev AreOfRound : ℕ → List Visit → Type 0
AreOfRound round visits = AllByRecursion (λ v. v.round ≡ round) visits

-- a row's numbers are in range, and its visits are of its round
pub record IsRow (row : Row) : Type 0 where
  pub of_zone : row.zone < 2 ^ 64
  pub of_round : row.round < 2 ^ 64
  pub fit : FitVisits row.visits
  pub in_round : AreOfRound row.round row.visits

-- a visit of what its text says and its round
abbrev visit_of : ℕ → VisitSays → Visit
visit_of round said = record { round = round; cpu = said.0; count = said.1; settled = said.2 }

visits_of : (round : ℕ) (visits : List Visit) → AreOfRound round visits → map (visit_of round) (map says visits) ≡ visits
visits_of round [] h = refl
visits_of round (v ∷ visits) h =
    ap (λ (at : ℕ). visit_of at (says v) ∷ map (visit_of round) (map says visits)) (sym h.0)
    ∙ ap (λ (l : List Visit). v ∷ l) (visits_of round visits h.1)

same_fields : (x y : Row) → x.zone ≡ y.zone → x.round ≡ y.round → x.visits ≡ y.visits → x ≡ y
same_fields x y zone round visits =
    ap (λ (zone : ℕ). record { zone = zone; round = x.round; visits = x.visits }) zone
    ∙ ap (λ (round : ℕ). record { zone = y.zone; round = round; visits = x.visits }) round
    ∙ ap (λ (visits : List Visit). record { zone = y.zone; round = y.round; visits = visits }) visits

pub same_row : (x y : Row) → IsRow x → IsRow y → row_line x ≡ row_line y → x ≡ y
same_row x y hx hy e =
    let told = same_visits_line x.zone y.zone x.round y.round x.visits y.visits hx.of_zone hy.of_zone hx.of_round hy.of_round hx.fit hy.fit e in
    let visits : x.visits ≡ y.visits =
    sym (visits_of x.round x.visits hx.in_round)
    ∙ ap (λ (round : ℕ). map (visit_of round) (map says x.visits)) told.1
    ∙ ap (λ (said : List VisitSays). map (visit_of y.round) said) told.2
    ∙ visits_of y.round y.visits hy.in_round in
    same_fields x y told.0 told.1 visits

-- ---- the rows of a zone

-- a row, where there are visits
abbrev row_of : ℕ → ℕ → List Visit → List Row
row_of zone round [] = []
row_of zone round (v ∷ visits) = record { zone = zone; round = round; visits = v ∷ visits } ∷ []

-- a zone's rows, round by round
abbrev pub zone_rows : Bundle → ℕ → List Visit → List Row
zone_rows b zone visits = flat_map (λ round. row_of zone round (of_number (λ v. v.round) round visits)) (range_with_len 0 b.rounds)

line_of_row : (zone round : ℕ) (there : List Visit) → (if length there == 0 then [] else visits_line zone round there ∷ []) ≡ map row_line (row_of zone round there)
line_of_row zone round [] = refl
line_of_row zone round (v ∷ there) = let some : (length (v ∷ there) == 0) ≡ false = grind arith in ap (λ t. if t then [] else visits_line zone round (v ∷ there) ∷ []) some

pub lines_of_rows : (b : Bundle) (zone : ℕ) (visits : List Visit) → zone_visits_lines b zone visits ≡ map row_line (zone_rows b zone visits)
lines_of_rows b zone visits =
    let there = λ (round : ℕ). of_number (λ (v : Visit). v.round) round visits in
    flat_map_same (λ round. if length (there round) == 0 then [] else visits_line zone round (there round) ∷ []) (λ round. map row_line (row_of zone round (there round))) (λ round. line_of_row zone round (there round)) (range_with_len 0 b.rounds)
    ∙ sym (map-flat_map row_line (λ round. row_of zone round (there round)) (range_with_len 0 b.rounds))

there_are_of_round : (round : ℕ) (visits : List Visit) → AreOfRound round (of_number (λ v. v.round) round visits)
there_are_of_round round [] = tt
there_are_of_round round (v ∷ visits) =
    let rest = of_number (λ (v : Visit). v.round) round visits in
    elim (v.round == round) as (λ t. (v.round == round) ≡ t → AreOfRound round (if t then v ∷ rest else rest)) [
      | true ↦ λ e. let is : v.round ≡ round = grind arith in (is, there_are_of_round round visits)
      | false ↦ λ e. there_are_of_round round visits
    ] refl

there_are_fit : (b : Bundle) (round : ℕ) (visits : List Visit) → AllByRecursion (IsInRange b) visits → FitVisits (of_number (λ v. v.round) round visits)
there_are_fit b round [] h = tt
there_are_fit b round (v ∷ visits) h =
    let rest = of_number (λ (v : Visit). v.round) round visits in
    elim (v.round == round) as (λ t. FitVisits (if t then v ∷ rest else rest)) [ true ↦ (h.0.cpu, h.0.count, there_are_fit b round visits h.1) | false ↦ there_are_fit b round visits h.1 ]

row_is : (zone round : ℕ) (there : List Visit) → zone < 2 ^ 64 → round < 2 ^ 64 → FitVisits there → AreOfRound round there → AllByRecursion IsRow (row_of zone round there)
row_is zone round [] small early fit are = tt
row_is zone round (v ∷ there) small early fit are = (record { of_zone = small; of_round = early; fit = fit; in_round = are }, tt)

pub zone_rows_are : (b : Bundle) (zone : ℕ) (visits : List Visit) → zone < 2 ^ 64 → b.rounds ≤ 1000 → AllByRecursion (IsInRange b) visits → AllByRecursion IsRow (zone_rows b zone visits)
zone_rows_are b zone visits small few are =
    each-range IsRow (λ round. row_of zone round (of_number (λ (v : Visit). v.round) round visits)) 0 b.rounds b.rounds (omega arith) (λ round lt.
    row_is zone round (of_number (λ (v : Visit). v.round) round visits) small (omega arith) (there_are_fit b round visits are) (there_are_of_round round visits))

-- ---- the visits of a zone are told by the rows

abbrev visits_in : ℕ → Row → List Visit
visits_in zone row = if row.zone == zone then row.visits else []

-- the visits of a zone's rows
abbrev pub visits_at : ℕ → List Row → List Visit
visits_at zone rows = flat_map (visits_in zone) rows

visits_of_row : (zone other round : ℕ) (there : List Visit) → visits_at zone (row_of other round there) ≡ (if other == zone then there else [])
visits_of_row zone other round [] = either (other == zone) []
  where
    either : (t : Bool) (visits : List Visit) → visits ≡ (if t then visits else visits)
    either true visits = refl
    either false visits = refl
visits_of_row zone other round (v ∷ there) = append-nil (if other == zone then v ∷ there else [])

by_rounds : (b : Bundle) (zone other : ℕ) (visits : List Visit) → visits_at zone (zone_rows b other visits) ≡ flat_map (λ round. if other == zone then of_number (λ v. v.round) round visits else []) (range_with_len 0 b.rounds)
by_rounds b zone other visits =
    let there = λ (round : ℕ). of_number (λ (v : Visit). v.round) round visits in
    flat_map-flat_map (visits_in zone) (λ round. row_of other round (there round)) (range_with_len 0 b.rounds)
    ∙ flat_map_same (λ round. visits_at zone (row_of other round (there round))) (λ round. if other == zone then there round else []) (λ round. visits_of_row zone other round (there round)) (range_with_len 0 b.rounds)

abbrev no_visits : List Visit
no_visits = []

nothing : (rounds : List ℕ) → flat_map (λ (round : ℕ). no_visits) rounds ≡ []
nothing [] = refl
nothing (round ∷ rounds) = nothing rounds

visits_of_others : (b : Bundle) (zone other : ℕ) (visits : List Visit) → other ≢ zone → visits_at zone (zone_rows b other visits) ≡ []
visits_of_others b zone other visits ne =
    let differs : (other == zone) ≡ false = grind arith in
    by_rounds b zone other visits
    ∙ ap (λ t. flat_map (λ round. if t then of_number (λ (v : Visit). v.round) round visits else []) (range_with_len 0 b.rounds)) differs
    ∙ nothing (range_with_len 0 b.rounds)

visits_of_zone : (b : Bundle) (zone : ℕ) (visits : List Visit) → IsNonDecreasingBy (λ v. v.round) visits → AllByRecursion (λ v. v.round < b.rounds) visits → visits_at zone (zone_rows b zone visits) ≡ visits
visits_of_zone b zone visits rising below =
    let same : (zone == zone) ≡ true = grind arith in
    by_rounds b zone zone visits
    ∙ ap (λ t. flat_map (λ round. if t then of_number (λ (v : Visit). v.round) round visits else []) (range_with_len 0 b.rounds)) same
    ∙ all_by_number (λ (v : Visit). v.round) visits b.rounds rising below

-- the rows of these journals
abbrev pub rows_of : Bundle → ℕ → List (List Visit) → List Row
rows_of b zones journals = flat_map (λ zone. zone_rows b zone (slice_index_or journals zone [])) (range_with_len 0 zones)

pub journal_of_rows : (b : Bundle) (zones : ℕ) (journals : List (List Visit)) (zone : ℕ) → zone < zones → IsNonDecreasingBy (λ v. v.round) (slice_index_or journals zone []) →
    AllByRecursion (λ v. v.round < b.rounds) (slice_index_or journals zone []) → visits_at zone (rows_of b zones journals) ≡ slice_index_or journals zone []
journal_of_rows b zones journals zone lt rising below =
    let rows = λ (other : ℕ). zone_rows b other (slice_index_or journals other []) in
    flat_map-flat_map (visits_in zone) rows (range_with_len 0 zones)
    ∙ one_of_range (λ other. visits_at zone (rows other)) zone (λ other ne. visits_of_others b zone other (slice_index_or journals other []) ne) 0 zones (omega arith) (omega arith)
    ∙ visits_of_zone b zone (slice_index_or journals zone []) rising below
