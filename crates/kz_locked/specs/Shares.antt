-- What each zone may use of a supply that all share, and a supply that keeps to it.
use Rattle.std.specs.Prelude.{◌≡◌, ℕ, ◌+◌, ◌-◌, ◌^◌, ◌<◌, ◌≤◌, List, length, slice_index_or}
use Rattle.std.specs.List.{All}
use Rattle.kz_model.specs.declared.supply.SupplyEntry.{SupplyEntry}
use Rattle.kz_model.specs.Run.Journal.{log_at}
use Rattle.kz_model.specs.Run.Rooms.{sum_below}
use Rattle.kz_model.specs.Run.Supply.{granted_in, returned_in}
use Rattle.kz_supply.specs.Supply.{frames_out, stock_of}
use Rattle.kz_supply.specs.Thin.{ThinSupply}
use Rattle.kz_locked.specs.declared.supply.Share.{Share}

-- a zone that isn't there has nothing
abbrev pub share_of : List Share → ℕ → Share
share_of shares zone = slice_index_or shares zone (record { entries = 0; frames = 0 })

-- the frames that a zone has out after these entries of its own
abbrev pub frames_held : List SupplyEntry → ℕ
frames_held log = granted_in log - returned_in log

-- A zone's own entries keep to its share: it gave back no more than it was granted.
pub record KeepsShare (share : Share) (own : List SupplyEntry) : Type 0 where
  pub entries : length own ≤ share.entries
  pub returned : returned_in own ≤ granted_in own
  pub frames : frames_held own ≤ share.frames

-- one more ask of the zone keeps to its share, whatever the answer
pub record MayAsk (share : Share) (own : List SupplyEntry) (pages : ℕ) : Type 0 where
  pub entry : length own < share.entries
  pub frames : frames_held own + pages ≤ share.frames

-- one more give-back of the zone
pub record MayGiveBack (share : Share) (own : List SupplyEntry) (pages : ℕ) : Type 0 where
  pub entry : length own < share.entries
  pub frames : pages ≤ frames_held own

-- The supply's log is of zones that have a share, and each keeps to it. The shares together are no more than the log's
-- room and the frames that were made.
pub record IsShared (shares : List Share) (s : ThinSupply) : Type 0 where
  pub of_zones : All (λ entry. entry.zone < length shares) s.counted.log
  pub each : (zone : ℕ) → zone < length shares → KeepsShare (share_of shares zone) (log_at zone s.counted.log)
  pub count : length s.counted.log ≡ sum_below (λ zone. length (log_at zone s.counted.log)) (length shares)
  pub out : frames_out s.counted ≡ sum_below (λ zone. frames_held (log_at zone s.counted.log)) (length shares)
  pub free : (stock_of s.counted).free ≤ s.counted.frames
  pub few : s.counted.room < 2 ^ 32
  pub room : sum_below (λ zone. (share_of shares zone).entries) (length shares) ≤ s.counted.room
  pub made : s.made < s.counted.frames →
      sum_below (λ zone. (share_of shares zone).frames) (length shares) ≤ s.made
