-- How much stays hold.
use Rattle.std.specs.Prelude.{◌≡◌, ◌+◌, ◌*◌, ◌≤◌, List, length}
use Rattle.std.specs.List.{filter_map}
use Rattle.kz_model.specs.declared.record.ZoneParams.{ZoneParams}
use Rattle.kz_model.specs.Run.Journal.{page_of}
use Rattle.kz_model.specs.Run.Supply.{granted_in, returned_in}
use Rattle.kz_model.specs.Zone.State.{ZoneState, opening}
use Rattle.kz_laws.specs.declared.stays.Stay.{Stay}
use Rattle.kz_laws.specs.Amounts.{mapped_count, gifts_most_in, chunks_most_in}
use Rattle.kz_laws.specs.Stays.{AreStays, steps_in, entries_in, answers_in}

-- A zone after stays has just the pages that it was granted and did not give back, a chunk for each that was granted,
-- and no more chunks, entries and gifts than its allocating and giving steps bring.
pub record HoldsWithin (p : ZoneParams) (stays : List Stay) (end : ZoneState) : Type 0 where
  pub pages : p.pages * mapped_count end.shared.chunks + returned_in (entries_in stays) ≡ granted_in (entries_in stays)
  pub bases : length (filter_map page_of (answers_in (entries_in stays))) ≡ length end.shared.chunks
  pub chunks : length end.shared.chunks ≤ chunks_most_in (steps_in stays)
  pub entries : length (entries_in stays)
      + mapped_count end.shared.chunks ≤ 2 * chunks_most_in (steps_in stays)
  pub gifts : length end.shared.transit ≤ gifts_most_in (steps_in stays)

-- Stays from a zone's opening hold no more than they bring.
abbrev pub StaysHoldWithin : Type 0
StaysHoldWithin = (p : ZoneParams) (end : ZoneState) (stays : List Stay) → AreStays p (opening p) stays end →
    HoldsWithin p stays end
