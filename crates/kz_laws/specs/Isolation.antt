-- What keeps the zones of a run apart.
use Rattle.std.specs.Prelude.{◌≡◌, ℕ, ◌<◌, ◌≤◌, List, length, map, slice_index, Some, All}
use Rattle.std.specs.List.{AllByRecursion}
use Rattle.kz_model.specs.declared.bundle.Bundle.{Bundle}
use Rattle.kz_model.specs.declared.record.Plan.{Plan}
use Rattle.kz_model.specs.declared.record.Visit.{Visit}
use Rattle.kz_model.specs.declared.record.ZoneParams.{ZoneParams}
use Rattle.kz_model.specs.declared.step.Block.{Block}
use Rattle.kz_model.specs.declared.step.Step.{Step}
use Rattle.kz_model.specs.declared.supply.SupplyEntry.{SupplyEntry}
use Rattle.kz_model.specs.Zone.State.{ZoneState}
use Rattle.kz_model.specs.Zone.Alone.{Course, alone}
use Rattle.kz_model.specs.Run.Journal.{params_of, spell, answers_at}
use Rattle.kz_laws.specs.Agreement.{numbered, numbered_course, without_page}
use Rattle.kz_model.specs.Zone.Whole.{places, times_live, AreWithin, IsWhole}
use Rattle.kz_laws.specs.Addresses.{IsAddress}
use Rattle.kz_laws.specs.PlayedAt.{IsReplyWithin}
use Rattle.kz_model.specs.Run.Journal.{bases}
use Rattle.kz_model.specs.Types.Planned.{IsFitRow}
use Rattle.kz_model.specs.Run.Runs.{IsRun}
use Rattle.kz_model.specs.Grammar.Valid.{IsValid}

-- no block is live twice
abbrev pub IsLiveOnce : ZoneState → Type 0
IsLiveOnce state = (block : Block) → times_live block state ≤ 1

-- before each step of a course, and at its end
abbrev pub HoldsAlong : (ZoneState → Type 0) → Course → Type 0
HoldsAlong P c = AllByRecursion P c.before × P c.end

-- each block that stands anywhere in a zone, or is bound to a name, is an element of one of so many chunks
pub record AreBlocksWithin (p : ZoneParams) (chunks : ℕ) (state : ZoneState) : Type 0 where
  pub standing : (block : Block) → 0 < places state block → (block.chunk < chunks) × (block.index < p.count)
  pub bound : All (λ own. AreWithin p chunks own.names) state.own

-- Each zone answers as it does alone, from its own steps and the supply's answers to it, and no address is of two
-- blocks.
pub record IsIsolated (b : Bundle) (plan : Plan) (journals : List (List Visit)) (log : List SupplyEntry) : Type 0 where
  -- the steps that each zone's visits carry, and what the zone alone makes of them
  pub steps : ℕ → List (ℕ × Step)
  pub made : ℕ → Course
  pub spelled : (zone : ℕ) → zone < length plan.zones → spell b plan journals zone ≡ Some (steps zone)
  pub answered : (zone : ℕ) → zone < length plan.zones →
      alone (params_of b plan zone) (steps zone) (answers_at zone log) ≡ Some (made zone)
  -- neither the numbers of names nor the pages that were granted have a say
  pub own : (zone : ℕ) → zone < length plan.zones →
      alone (params_of b plan zone) (numbered (steps zone)) (map without_page (answers_at zone log))
      ≡ Some (numbered_course (steps zone) (made zone))
  -- all along each element of the zone is in its one place, and so no block is live twice
  pub whole : (zone : ℕ) → zone < length plan.zones → HoldsAlong (IsWhole (params_of b plan zone)) (made zone)
  pub once : (zone : ℕ) → zone < length plan.zones → HoldsAlong IsLiveOnce (made zone)
  -- an address is of one block of one zone, whatever was trimmed
  pub apart : (y z x : ℕ) (one other : Block) → y < length plan.zones → z < length plan.zones →
      one.chunk < length (bases y log) → other.chunk < length (bases z log) →
      IsAddress (params_of b plan y) (slice_index (bases y log) one.chunk) one x →
      IsAddress (params_of b plan z) (slice_index (bases z log) other.chunk) other x →
      (y ≡ z) × (one ≡ other)
  -- each block that was ever answered is of a chunk whose first page is in the log
  pub answered_within : (zone : ℕ) → zone < length plan.zones →
      AllByRecursion (IsReplyWithin (length (bases zone log))) (made zone).replies
  -- and so is, all along, each block that stands anywhere or is bound to a name
  pub within : (zone : ℕ) → zone < length plan.zones →
      HoldsAlong (AreBlocksWithin (params_of b plan zone) (length (bases zone log))) (made zone)
  -- Those are all its chunks: chunk k begins at the page of its Base answer number k, also while it is unmapped.
  pub bases : (zone : ℕ) → zone < length plan.zones → length (bases zone log) ≡ length (made zone).end.shared.chunks

-- a run of a bundle, whose zones are fit, is isolated
abbrev pub RunsAreIsolated : Type 0
RunsAreIsolated =
    (b : Bundle) (plan : Plan) (journals : List (List Visit)) (log : List SupplyEntry) → IsValid b →
    All IsFitRow plan.zones → IsRun b plan journals log →
    IsIsolated b plan journals log
