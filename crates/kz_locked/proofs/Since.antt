-- The log since a turn was opened, with one more entry.
use Rattle.std.proofs.Common.{◌≡◌, ℕ, ◌^◌, ◌<◌, ◌≤◌, ◌==◌, true, false, if◌then◌else◌, List, [], ◌∷◌, ◌++◌, length, take, drop, map, refl, ap, sym, ◌∙◌, subst, arith, length-append}
use Rattle.std.specs.List.{filter}
use Rattle.std.proofs.lemmas.List.{map-append, length-map, length-drop, take-append-le, drop-append-le, take-append-drop}
use Rattle.std.proofs.lemmas.List.Elements.{filter-append}
use Rattle.kz_model.specs.declared.supply.SupplyEntry.{SupplyEntry}
use Rattle.kz_model.specs.Run.Journal.{log_at}
use Rattle.kz_supply.specs.Thin.{ThinSupply, thin_with_entry}
use Rattle.kz_turn.specs.Journal.{entries_of}
use Rattle.kz_turn.specs.Passes.{PassView}
use Rattle.kz_locked.specs.declared.supply.Share.{Share}
use Rattle.kz_locked.specs.declared.supply.SupplyStart.{SupplyStart}
use Rattle.kz_locked.specs.Supply.{start_of, entries_since, own_log}

abbrev timed : SupplyEntry → ℕ × SupplyEntry
timed entry = (entry.zone, entry)

pub start_same : (shares : List Share) (opened : ℕ) (s : ThinSupply) (entry : SupplyEntry) → opened ≤ length s.counted.log → start_of shares opened (thin_with_entry entry s) ≡ start_of shares opened s
start_same shares opened s entry le =
    ap (λ (log : List SupplyEntry). record { frames = s.counted.frames; made = s.made; pages = s.counted.pages; room = s.counted.room; shares = shares; log = log }) (take-append-le opened s.counted.log (entry ∷ []) le)

pub since_more : (opened : ℕ) (s : ThinSupply) (entry : SupplyEntry) → opened ≤ length s.counted.log → entries_since opened (thin_with_entry entry s) ≡ entries_since opened s ++ (entry.zone, entry) ∷ []
since_more opened s entry le =
    ap (map timed) (drop-append-le opened s.counted.log (entry ∷ []) le) ∙ map-append timed (drop opened s.counted.log) (entry ∷ [])

pub since_short : (opened : ℕ) (s : ThinSupply) (entry : SupplyEntry) → length s.counted.log < s.counted.room → s.counted.room < 2 ^ 32 → length (entries_since opened (thin_with_entry entry s)) < 2 ^ 62
since_short opened s entry less few =
    let log = s.counted.log ++ entry ∷ [] in
    omega (arith, length-map (drop opened log) timed, length-drop opened log, length-append s.counted.log (entry ∷ []))

pub still_since : (opened : ℕ) (s : ThinSupply) (entry : SupplyEntry) → opened ≤ length s.counted.log → opened ≤ length (thin_with_entry entry s).counted.log
still_since opened s entry le = omega (arith, length-append s.counted.log (entry ∷ []))

-- ---- what a zone's pass knows

entries_of_log : (zone : ℕ) (log : List SupplyEntry) → entries_of zone (map timed log) ≡ log_at zone log
entries_of_log zone [] = refl
entries_of_log zone (entry ∷ log) =
    let rest = entries_of_log zone log in
    elim (entry.zone == zone) as (λ t. map (λ (x : ℕ × SupplyEntry). x.1) (if t then timed entry ∷ filter (λ (x : ℕ × SupplyEntry). x.0 == zone) (map timed log) else filter (λ (x : ℕ × SupplyEntry). x.0 == zone) (map timed log)) ≡ (if t then entry ∷ log_at zone log else log_at zone log)) [
      | true ↦ ap (λ (l : List SupplyEntry). entry ∷ l) rest
      | false ↦ rest
    ]

-- a zone's entries are those of the opening and its pass's own
pub own_log_is : (zone opened : ℕ) (shares : List Share) (s : ThinSupply) (pass : PassView SupplyStart SupplyEntry) → pass.number ≡ zone → start_of shares opened s ≡ pass.base → entries_of pass.number (entries_since opened s) ≡ pass.own → log_at zone s.counted.log ≡ own_log pass
own_log_is zone opened shares s pass number base own =
    let log = s.counted.log in
    ap (log_at zone) (sym (take-append-drop opened log)) ∙ filter-append (λ (e : SupplyEntry). e.zone == zone) (take opened log) (drop opened log)
    ∙ ap (λ (l : List SupplyEntry). log_at zone (take opened log) ++ l) (sym (entries_of_log zone (drop opened log)) ∙ ap (λ n. entries_of n (entries_since opened s)) (sym number) ∙ own)
    ∙ ap (λ (start : SupplyStart). log_at zone start.log ++ pass.own) base
    ∙ ap (λ n. log_at n pass.base.log ++ pass.own) (sym number)

-- what a stay finds of the supply's beginning and of the zone's entries is so of the pass
pub found_by_pass : (zone opened : ℕ) (shares : List Share) (s : ThinSupply) (pass : PassView SupplyStart SupplyEntry) → pass.number ≡ zone → start_of shares opened s ≡ pass.base → entries_of pass.number (entries_since opened s) ≡ pass.own →
    (P : SupplyStart → List SupplyEntry → Type 0) → P (start_of shares opened s) (log_at zone s.counted.log) → P pass.base (own_log pass)
found_by_pass zone opened shares s pass number base own P found =
    subst (P pass.base) (own_log_is zone opened shares s pass number base own) (subst (λ (start : SupplyStart). P start (log_at zone s.counted.log)) base found)
