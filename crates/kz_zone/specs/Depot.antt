-- The depot, as contracts see it, and how its lists lie in one list.
use Rattle.std.specs.Prelude.{◌≡◌, ℕ, ◌*◌, ◌≤◌, ◌<◌, nat_lt, if◌then◌else◌, List, [], ◌∷◌, ◌++◌, length, take, drop}
use Rattle.std.specs.List.{All, sum, flat_map}
use Rattle.kz_model.specs.declared.step.Block.{Block}
use Rattle.kz_model.specs.Zone.Rules.{below_newest, last_list, before_last_list}

-- the magazine's size, how many lists there can be, and the lists, the oldest first
pub record Depot : Type 0 where
  pub magazine : ℕ
  pub room : ℕ
  pub lists : List (List Block)

-- blocks in a row as lists of these lengths
abbrev pub lists_of : List ℕ → List Block → List (List Block)
lists_of [] blocks = []
lists_of (n ∷ lengths) blocks = take n blocks ∷ lists_of lengths (drop n blocks)

-- all blocks of lists, the oldest list first
abbrev pub row_of : List (List Block) → List Block
row_of lists = flat_map (λ blocks. blocks) lists

-- the lists without the last block of the last list; a list with no block left is gone
abbrev pub drained : List (List Block) → List (List Block)
drained lists =
    before_last_list lists ++ (if nat_lt 1 (length (last_list lists)) then below_newest (last_list lists) ∷ [] else [])

-- lengths with that of the rest of a list, if something is left
abbrev pub with_rest : List ℕ → ℕ → List ℕ
with_rest lengths rest = if nat_lt 0 rest then lengths ++ rest ∷ [] else lengths

-- lists of these lengths in a row, each of at least one block and at most a magazine's size, with room for all lists
-- that there can be
pub record IsDepot (magazine room : ℕ) (lengths : List ℕ) (blocks : List Block)
    (lengths_capacity blocks_capacity : ℕ) : Type 0 where
  pub some : 0 < magazine
  pub fit : magazine ≤ 32
  pub within : length lengths ≤ room
  pub each : All (λ n. (0 < n) × (n ≤ magazine)) lengths
  pub whole : length blocks ≡ sum lengths
  pub enough_lists : room ≤ lengths_capacity
  pub enough_blocks : room * magazine ≤ blocks_capacity
