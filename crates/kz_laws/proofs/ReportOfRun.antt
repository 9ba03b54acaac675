-- The report of a run tells its journals and its log.
use Rattle.std.proofs.Common.{◌≡◌, ◌<◌, ◌≤◌, ℕ, List, [], length, map, slice_index_or, ap, sym, ◌∙◌, arith}
use Rattle.std.specs.List.{AllByRecursion, range_with_len}
use Rattle.std.specs.List.Sorted.{IsNonDecreasingBy}
use Rattle.std.proofs.Math.ListN.{get_or-map}
use Rattle.std.proofs.lemmas.List.{same_lists, get_or_default, length-map}
use Rattle.kz_model.specs.declared.bundle.Bundle.{Bundle}
use Rattle.kz_model.specs.declared.record.Plan.{Plan}
use Rattle.kz_model.specs.declared.record.Visit.{Visit}
use Rattle.kz_model.specs.declared.supply.SupplyEntry.{SupplyEntry}
use Rattle.kz_model.specs.Run.Journal.{params_of}
use Rattle.kz_model.specs.Text.Report.{zone_visits_lines}
use Rattle.kz_model.specs.Run.Runs.{IsRun, needs_along}
use Rattle.kz_model.specs.Text.Lines.{ask_line}
use Rattle.kz_model.specs.Grammar.Valid.{IsValid, layouts_in}
use Rattle.kz_plan.proofs.Fit.{plans_are_fit}
use Rattle.kz_laws.specs.Reports.{ReportNamesItsRun}
use Rattle.kz_laws.proofs.AskLines.{IsEntry, same_entry}
use Rattle.kz_laws.proofs.ByNumber.{map-flat_map, flat_map_same}
use Rattle.kz_laws.proofs.Each.{each-range, each-weaker, same_by_map}
use Rattle.kz_laws.proofs.LogEntries.{entries_of_run}
use Rattle.kz_laws.proofs.ReportParts.{visits_lines, same_parts}
use Rattle.kz_laws.proofs.VisitRows.{Row, IsRow, row_line, same_row, zone_rows, lines_of_rows, zone_rows_are, visits_at, rows_of, journal_of_rows}
use Rattle.kz_laws.proofs.VisitsOfRuns.{IsInRange, visits_in_range}

-- the visits lines are those of the rows
lines_are : (b : Bundle) (plan : Plan) (journals : List (List Visit)) (log : List SupplyEntry) → visits_lines b plan journals log ≡ map row_line (rows_of b (length plan.zones) journals)
lines_are b plan journals log =
    let zones = range_with_len 0 (length plan.zones) in
    let journal = λ (zone : ℕ). slice_index_or journals zone [] in
    flat_map_same (λ zone. zone_visits_lines b zone (journal zone)) (λ zone. map row_line (zone_rows b zone (journal zone))) (λ zone. lines_of_rows b zone (journal zone)) zones
    ∙ sym (map-flat_map row_line (λ zone. zone_rows b zone (journal zone)) zones)

-- a zone's journal is in order, and its visits are in range
record IsTold (b : Bundle) (visits : List Visit) : Type 0 where
  rising : IsNonDecreasingBy (λ v. v.round) visits
  in_range : AllByRecursion (IsInRange b) visits

rounds_rise : (visits : List Visit) → IsNonDecreasingBy (λ x. x) (map (λ v. v.round) visits) → IsNonDecreasingBy (λ v. v.round) visits
rounds_rise visits h i j d le lt =
    let round = λ (v : Visit). v.round in
    omega (arith, h i j d.round le (omega (arith, length-map visits round)), get_or-map round visits i d, get_or-map round visits j d)

journal_is_told : (b : Bundle) (plan : Plan) (journals : List (List Visit)) (log : List SupplyEntry) → IsValid b → IsRun b plan journals log → (zone : ℕ) → zone < length plan.zones → IsTold b (slice_index_or journals zone [])
journal_is_told b plan journals log valid run zone lt =
    let is = run.each zone lt in
    let visits = slice_index_or journals zone [] in
    record {
      rising = rounds_rise visits is.in_rounds;
      in_range = visits_in_range b plan zone visits (needs_along (params_of b plan zone) (run.steps zone) (run.made zone).before) valid is.complete is.carries;
    }

rows_are : (b : Bundle) (zones : ℕ) (journals : List (List Visit)) → IsValid b → zones ≤ 160 → ((zone : ℕ) → zone < zones → IsTold b (slice_index_or journals zone [])) → AllByRecursion IsRow (rows_of b zones journals)
rows_are b zones journals valid few told =
    each-range IsRow (λ zone. zone_rows b zone (slice_index_or journals zone [])) 0 zones zones (omega arith) (λ zone lt.
    zone_rows_are b zone (slice_index_or journals zone []) (omega arith) valid.rounds.1 (told zone lt).in_range)

-- equal rows, equal journals
same_journals : (b : Bundle) (zones : ℕ) (journals others : List (List Visit)) → length journals ≡ zones → length others ≡ zones → ((zone : ℕ) → zone < zones → IsTold b (slice_index_or journals zone [])) →
    ((zone : ℕ) → zone < zones → IsTold b (slice_index_or others zone [])) → rows_of b zones journals ≡ rows_of b zones others → journals ≡ others
same_journals b zones journals others long as_long told other e =
    same_lists journals others (long ∙ sym as_long) (λ zone d lt.
    let below : zone < zones = omega (arith, long) in
    get_or_default journals zone d [] lt
    ∙ sym (of_rows journals told zone below)
    ∙ ap (λ (rows : List Row). visits_at zone rows) e
    ∙ of_rows others other zone below
    ∙ get_or_default others zone [] d (omega (arith, as_long, long)))
  where
    of_rows : (journals : List (List Visit)) → ((zone : ℕ) → zone < zones → IsTold b (slice_index_or journals zone [])) → (zone : ℕ) → zone < zones → visits_at zone (rows_of b zones journals) ≡ slice_index_or journals zone []
    of_rows journals told zone lt =
        journal_of_rows b zones journals zone lt (told zone lt).rising
        (each-weaker (IsInRange b) (λ (v : Visit). v.round < b.rounds) (λ v is. is.round) (slice_index_or journals zone []) (told zone lt).in_range)

pub report_names_its_run : ReportNamesItsRun
report_names_its_run b plan journals others log another valid is_plan run other e =
    let fit = plans_are_fit b plan valid is_plan in
    let zones = length plan.zones in
    let told = journal_is_told b plan journals log valid run in
    let other_told = journal_is_told b plan others another valid other in
    let parts = same_parts b plan (layouts_in b) journals others log another valid.type_names e in
    let rows = same_by_map IsRow row_line same_row (rows_of b zones journals) (rows_of b zones others) (rows_are b zones journals valid fit.few told) (rows_are b zones others valid fit.few other_told)
    (sym (lines_are b plan journals log) ∙ parts.0 ∙ lines_are b plan others another) in
    let params = params_of b plan in (
      same_journals b zones journals others run.one_journal_each other.one_journal_each told other_told rows,
      same_by_map (IsEntry params) ask_line (same_entry params) log another (entries_of_run b plan journals log valid.pages fit.few fit.rows run) (entries_of_run b plan others another valid.pages fit.few fit.rows other) parts.1,
    )
