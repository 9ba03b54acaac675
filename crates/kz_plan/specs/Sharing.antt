-- How the parts of a division grow: one mark after another is given, each before those that are left.
use Rattle.std.specs.Prelude.{◌≡◌, ◌≢◌, ℕ, ◌*◌, ◌<◌, ◌≤◌, List, length, slice_index, sum}

-- A mark (i, k) of count c comes before a mark (j, l) of count d: its value c / k is greater, or they are equal and i
-- is smaller.
abbrev pub ComesBefore : ℕ → ℕ → ℕ → ℕ → ℕ → ℕ → Type 0
ComesBefore i c k j d l = (d * k ≤ c * l) × (d * k ≡ c * l → i < j)

-- Each part is from 1 to its count, and the marks below the parts come before the others.
pub record IsInOrder (counts parts : List ℕ) : Type 0 where
  pub same_length : length parts ≡ length counts
  pub at_least : (i : ℕ) → i < length counts → 1 ≤ slice_index parts i
  pub at_most : (i : ℕ) → i < length counts → slice_index parts i ≤ slice_index counts i
  pub order : (i j k l : ℕ) → i < length counts → j < length counts → 1 ≤ k → k < slice_index parts i →
      slice_index parts j ≤ l → l < slice_index counts j →
      ComesBefore i (slice_index counts i) k j (slice_index counts j) l

-- Such parts spend the budget, or each is its count.
pub record IsDivision (counts parts : List ℕ) (budget : ℕ) : Type 0 where
  pub in_order : IsInOrder counts parts
  pub within : sum parts ≤ budget
  pub spent : (i : ℕ) → i < length counts → slice_index parts i < slice_index counts i → sum parts ≡ budget

-- of the first n classes none has more signatures than zones
abbrev pub AreFull : List ℕ → List ℕ → ℕ → Type 0
AreFull counts parts n = (j : ℕ) → j < n → slice_index counts j ≤ slice_index parts j

-- of the first n classes, class i is the one that the next zone goes to
pub record IsNextClass (counts parts : List ℕ) (n i : ℕ) : Type 0 where
  pub inside : i < n
  pub wants : slice_index parts i < slice_index counts i
  pub first : (j : ℕ) → j < n → j ≢ i → slice_index parts j < slice_index counts j →
      ComesBefore i (slice_index counts i) (slice_index parts i) j (slice_index counts j) (slice_index parts j)
