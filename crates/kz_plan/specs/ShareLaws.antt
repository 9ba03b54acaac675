-- Laws of the division of a budget.
use Rattle.std.specs.Prelude.{◌≡◌, ℕ, ◌+◌, ◌*◌, ◌<◌, ◌≤◌, min, List, length, replicate, slice_index, slice_set, sum, All}
use Rattle.kz_model.specs.Types.Share.{share}
use Rattle.kz_plan.specs.Sharing.{IsNextClass, AreFull}

-- each class has a signature
abbrev pub HaveSignatures : List ℕ → Type 0
HaveSignatures counts = All (λ count. 1 ≤ count) counts

-- parts of the classes: each is from 1 to its count, and together they are within the budget
pub record AreWithin (counts parts : List ℕ) (budget : ℕ) : Type 0 where
  pub same_length : length parts ≡ length counts
  pub at_least : (i : ℕ) → i < length counts → 1 ≤ slice_index parts i
  pub at_most : (i : ℕ) → i < length counts → slice_index parts i ≤ slice_index counts i
  pub within : sum parts ≤ budget

-- the shares are parts within the budget
abbrev pub SharesAreWithin : Type 0
SharesAreWithin =
    (counts : List ℕ) (budget : ℕ) → HaveSignatures counts → length counts ≤ budget →
    AreWithin counts (share counts budget) budget

-- they spend the budget, or each class has a zone for each signature
abbrev pub SharesSpend : Type 0
SharesSpend =
    (counts : List ℕ) (budget : ℕ) → HaveSignatures counts → length counts ≤ budget → sum (share counts budget)
    ≡ min budget (sum counts)

-- No parts within the budget have a smaller greatest ratio of count and part: each ratio of these parts is at most one
-- of theirs.
abbrev pub AreFairest : List ℕ → List ℕ → ℕ → Type 0
AreFairest counts parts budget =
    (others : List ℕ) (i : ℕ) → AreWithin counts others budget → i < length counts →
    (j : ℕ) × ((j < length counts) ×
    (slice_index counts i * slice_index others j ≤ slice_index counts j * slice_index parts i))

-- the shares are the fairest
abbrev pub SharesAreFairest : Type 0
SharesAreFairest = (counts : List ℕ) (budget : ℕ) → AreFairest counts (share counts budget) budget

-- at first each class has one zone
abbrev pub OneForEach : Type 0
OneForEach = (counts : List ℕ) → HaveSignatures counts → share counts (length counts) ≡ replicate (length counts) 1

-- Each further zone goes to the class with more signatures than zones whose ratio is the greatest, and of equal ones to
-- the smallest.
abbrev pub OneMoreForNext : Type 0
OneMoreForNext =
    (counts : List ℕ) (budget i : ℕ) → HaveSignatures counts → length counts ≤ budget →
    IsNextClass counts (share counts budget) (length counts) i →
    share counts (budget + 1) ≡ slice_set (share counts budget) i (slice_index (share counts budget) i + 1)

-- where no class has more signatures than zones, the rest is unused
abbrev pub RestIsUnused : Type 0
RestIsUnused =
    (counts : List ℕ) (budget : ℕ) → HaveSignatures counts → length counts ≤ budget →
    AreFull counts (share counts budget) (length counts) →
    share counts (budget + 1) ≡ share counts budget
