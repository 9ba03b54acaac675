-- How much there is of what a play holds: mapped chunks and pages, visits, and lines.
use Rattle.std.specs.Prelude.{ℕ, ◌+◌, ◌*◌, Bool, if◌then◌else◌, List, [], ◌∷◌, length, take}
use Rattle.std.specs.List.{fold}
use Rattle.kz_model.specs.declared.bundle.Act.{Act}
use Rattle.kz_model.specs.declared.bundle.Bundle.{Bundle}
use Rattle.kz_model.specs.declared.record.Plan.{Plan}
use Rattle.kz_model.specs.declared.step.Step.{Step}
use Rattle.kz_model.specs.declared.step.Step.TheVariants.{Alloc, AllocZero, Give}
use Rattle.kz_model.specs.declared.supply.SupplyEntry.{SupplyEntry}
use Rattle.kz_model.specs.Zone.State.{Chunk}
use Rattle.kz_model.specs.Run.Rooms.{sum_below, lines_among, kind_among, is_allocating, is_giving}
use Rattle.kz_model.specs.Run.Supply.{Stock, opening_stock, stock_after}
use Rattle.kz_model.specs.Run.Journal.{params_of, trace_of}
use Rattle.kz_laws.specs.Play.{Play, zone_play, replies_so_far}

-- ---- pages

-- how many of these chunks are mapped
abbrev pub mapped_count : List Chunk → ℕ
mapped_count [] = 0
mapped_count (chunk ∷ chunks) = (if chunk.mapped then 1 else 0) + mapped_count chunks

-- the pages of a zone's mapped chunks
abbrev pub pages_held : Bundle → Plan → Play → ℕ → ℕ
pages_held b plan s zone = (params_of b plan zone).pages * mapped_count (zone_play s zone).state.shared.chunks

-- the stock after a log
abbrev pub stock_of : Bundle → List SupplyEntry → Stock
stock_of b log = fold (λ stock entry. stock_after stock entry.ask entry.answer) (opening_stock b.frames) log

-- ---- visits and lines

-- how many of the lines of a CPU on a zone are done
abbrev pub lines_done : Bundle → Plan → Play → ℕ → ℕ → ℕ
lines_done b plan s zone cpu = lines_among b plan zone (take (length (replies_so_far s cpu)) (trace_of b cpu))

-- those of all CPUs
abbrev pub zone_lines_done : Bundle → Plan → Play → ℕ → ℕ
zone_lines_done b plan s zone = sum_below (lines_done b plan s zone) b.cpus

-- ---- lines of a kind that are done

abbrev pub kind_done : Bundle → Plan → (Act → Bool) → Play → ℕ → ℕ → ℕ
kind_done b plan kind s zone cpu = kind_among b plan kind zone (take (length (replies_so_far s cpu)) (trace_of b cpu))

abbrev pub zone_kind_done : Bundle → Plan → (Act → Bool) → Play → ℕ → ℕ
zone_kind_done b plan kind s zone = sum_below (kind_done b plan kind s zone) b.cpus

abbrev pub zone_allocations_done : Bundle → Plan → Play → ℕ → ℕ
zone_allocations_done b plan s zone = zone_kind_done b plan is_allocating s zone

abbrev pub zone_gifts_done : Bundle → Plan → Play → ℕ → ℕ
zone_gifts_done b plan s zone = zone_kind_done b plan is_giving s zone

-- ---- steps

-- how many gifts a step adds at most
abbrev pub new_gifts : Step → ℕ
new_gifts (Give name to) = 1
new_gifts step = 0

-- how many chunks a step adds at most
abbrev pub new_chunks_most : Step → ℕ
new_chunks_most (Alloc name) = 1
new_chunks_most (AllocZero name) = 1
new_chunks_most step = 0

-- how many gifts and chunks steps add at most
abbrev pub gifts_most_in : List (ℕ × Step) → ℕ
gifts_most_in [] = 0
gifts_most_in (step ∷ steps) = new_gifts step.1 + gifts_most_in steps

abbrev pub chunks_most_in : List (ℕ × Step) → ℕ
chunks_most_in [] = 0
chunks_most_in (step ∷ steps) = new_chunks_most step.1 + chunks_most_in steps
