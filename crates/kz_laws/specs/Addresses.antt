-- The chunks that a supply's log names by its Base entries, and their addresses.
use Rattle.std.specs.Prelude.{◌≡◌, ◌⊎◌, ℕ, ◌+◌, ◌*◌, ◌<◌, ◌≤◌, List, map, slice_index_or}
use Rattle.std.specs.List.{All}
use Rattle.kz_model.specs.declared.step.Block.{Block}
use Rattle.kz_model.specs.declared.record.ZoneParams.{ZoneParams}
use Rattle.kz_model.specs.declared.supply.SupplyEntry.{SupplyEntry}
use Rattle.kz_model.specs.declared.supply.Ask.{Ask}
use Rattle.kz_model.specs.declared.supply.Ask.TheVariants.{Chunk, Frames, Back}
use Rattle.kz_model.specs.declared.supply.Answer.TheVariants.{Taken}
use Rattle.kz_model.specs.Run.Supply.{supply_answers, address}

-- a zone's elements fit in the pages of a chunk, and its submap is one of the five
pub record IsFit (p : ZoneParams) : Type 0 where
  pub elements : p.count * p.element ≤ 4096 * p.pages
  pub submap : p.submap < 5

-- an ask for a chunk is for the zone's pages in the zone's submap
abbrev pub IsForZone : ZoneParams → Ask → Type 0
IsForZone p (Chunk submap pages) = (submap ≡ p.submap) × (pages ≡ p.pages)
IsForZone p (Frames pages) = Unit {0}
IsForZone p (Back pages) = Unit {0}

-- the log of a supply with so many frames and pages per submap, whose zones have these parameters
pub record IsLog (frames pages : ℕ) (params : ℕ → ZoneParams) (log : List SupplyEntry) : Type 0 where
  pub fit : All (λ entry. IsFit (params entry.zone)) log
  pub own : All (λ entry. IsForZone (params entry.zone) entry.ask) log
  pub answers : map (λ entry. entry.answer) log ≡ supply_answers frames pages (map (λ entry. entry.ask) log)

-- an entry of a log by its place
abbrev pub entry_at : List SupplyEntry → ℕ → SupplyEntry
entry_at log place = slice_index_or log place (record { zone = 0; ask = Back 0; answer = Taken })

-- an address of this block of a chunk that begins at this page
pub record IsAddress (p : ZoneParams) (page : ℕ) (block : Block) (x : ℕ) : Type 0 where
  pub element : block.index < p.count
  pub from : address p.submap page p.element block ≤ x
  pub below : x < address p.submap page p.element block + p.element

-- of two ranges of so many numbers, which begin at these, one ends before the other begins
abbrev pub AreRangesApart : ℕ → ℕ → ℕ → Type 0
AreRangesApart size one other = (one + size ≤ other) ⊎ (other + size ≤ one)
