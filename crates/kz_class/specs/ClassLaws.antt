-- Laws over the classes.
use Rattle.std.specs.Prelude.{◌≡◌, ℕ, ◌-◌, ◌*◌, ◌%◌, ◌<◌, ◌≤◌, ◌↔◌, Some, None, List, length, slice_index}
use Rattle.std.specs.List.Sorted.{IsStrictlyIncreasing}
use Rattle.kz_model.specs.Types.Class.{class_of, pages_of, geometry_of, IsClass, IsFitGeometry}

-- the least class that is not below a size: each class before it is below the size
pub record IsLeastNotBelow (sizes : List ℕ) (size class : ℕ) : Type 0 where
  pub inside : class < length sizes
  pub not_below : size ≤ slice_index sizes class
  pub least : (k : ℕ) → k < class → slice_index sizes k < size

-- the class of a size is the least that is not below it
abbrev pub ClassIsLeast : Type 0
ClassIsLeast = (sizes : List ℕ) (size class : ℕ) → (class_of sizes size ≡ Some class) ↔ IsLeastNotBelow sizes size class

-- where the classes rise, a size has none exactly where it is above the last
abbrev pub NoneIsAboveTheLast : Type 0
NoneIsAboveTheLast =
    (sizes : List ℕ) (size : ℕ) → 0 < length sizes → IsStrictlyIncreasing sizes →
    (class_of sizes size ≡ None) ↔ (slice_index sizes (length sizes - 1) < size)

-- these pages hold an element of this size, and at most an eighth of them is left over
pub record IsChunk (element pages : ℕ) : Type 0 where
  pub holds : element ≤ 4096 * pages
  pub waste : 8 * (4096 * pages % element) ≤ 4096 * pages

-- the least pages, of 1 to 8, that make a chunk
pub record IsLeastChunk (element pages : ℕ) : Type 0 where
  pub some : 1 ≤ pages
  pub most : pages ≤ 8
  pub chunk : IsChunk element pages
  pub least : (fewer : ℕ) → 1 ≤ fewer → fewer < pages → ¬ IsChunk element fewer

-- a size has the least pages that make a chunk of it
abbrev pub PagesAreLeast : Type 0
PagesAreLeast = (element pages : ℕ) → (pages_of element ≡ Some pages) ↔ IsLeastChunk element pages

-- each class has a chunk, of 1 to 256 elements in 1 to 8 pages
abbrev pub ClassesFit : Type 0
ClassesFit = (element : ℕ) → IsClass element → IsFitGeometry (geometry_of element)
