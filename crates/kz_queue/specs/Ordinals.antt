-- A set of ordinals as bits of words, and the numbers of the words that aren't 0 as a set of the same kind.
use Rattle.std.specs.Prelude.{◌≡◌, ℕ, ◌*◌, ◌<◌, ◌≤◌, ◌/◌, ◌%◌, ◌^◌, ◌==◌, Bool, true, false, List, length, slice_index}
use Rattle.std.specs.Int.{bit_at}

-- the ordinal is in the set of these words
abbrev pub has : List ℕ → ℕ → Bool
has words ordinal = bit_at (slice_index words (ordinal / 64)) (ordinal % 64) == 1

-- the first word that isn't 0
pub record IsFirstWord (words : List ℕ) (word : ℕ) : Type 0 where
  pub there : word < length words
  pub some : 0 < slice_index words word
  pub none_before : (other : ℕ) → other < word → slice_index words other ≡ 0

-- the lowest ordinal of the set
pub record IsLowest (words : List ℕ) (ordinal : ℕ) : Type 0 where
  pub within : ordinal < 64 * length words
  pub there : has words ordinal ≡ true
  pub none_before : (other : ℕ) → other < ordinal → has words other ≡ false

-- the summary has the numbers of the words that aren't 0
pub record IsSummed (words summary : List ℕ) : Type 0 where
  pub few : length words ≤ 2 ^ 26
  pub few_sums : length summary ≤ 2 ^ 26
  pub covered : length words ≤ 64 * length summary
  pub there : (word : ℕ) → word < length words → has summary word ≡ true → 0 < slice_index words word
  pub not_there : (word : ℕ) → word < length words → has summary word ≡ false → slice_index words word ≡ 0
  pub beyond : (word : ℕ) → word < 64 * length summary → length words ≤ word → has summary word ≡ false
