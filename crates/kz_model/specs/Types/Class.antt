-- The size classes, and the chunks that are cut into their elements.
use Rattle.std.specs.Prelude.{ℕ, ◌*◌, ◌/◌, ◌%◌, ◌<◌, ◌≤◌, Bool, ◌&&◌, nat_le, IsTrue, Option, unwrap_or, is_some, List, [], ◌∷◌, length, All}
use Rattle.std.specs.List.{find, position, range_with_len}
use Rattle.std.specs.List.Sorted.{IsStrictlyIncreasing}
use Rattle.kz_model.specs.declared.record.Geometry.{Geometry}

-- the place of the first class that is not below this size
abbrev pub class_of : List ℕ → ℕ → Option ℕ
class_of sizes size = position (λ element. nat_le size element) sizes

-- these pages hold an element of this size, and at most an eighth of them is left over
abbrev pub is_chunk : ℕ → ℕ → Bool
is_chunk element pages = nat_le element (4096 * pages) && nat_le (8 * (4096 * pages % element)) (4096 * pages)

-- the least number of pages, of 1 to 8, that make a chunk
abbrev pub pages_of : ℕ → Option ℕ
pages_of element = find (λ pages. is_chunk element pages) (range_with_len 1 8)

-- some number of pages makes a chunk
abbrev pub HasChunk : ℕ → Type 0
HasChunk element = IsTrue (is_some (pages_of element))

-- so many pages, cut into elements of this size
abbrev pub cut : ℕ → ℕ → Geometry
cut element pages = record { element = element; count = 4096 * pages / element; pages = pages }

-- the chunk of this element size, where it has one
abbrev pub geometry_of : ℕ → Geometry
geometry_of element = cut element (unwrap_or (pages_of element) 0)

-- a size of 16 to 8192 bytes that has a chunk
pub record IsClass (element : ℕ) : Type 0 where
  pub least : 16 ≤ element
  pub greatest : element ≤ 8192
  pub chunk : HasChunk element

-- a table of classes: at least one, and they rise
pub record IsTable (sizes : List ℕ) : Type 0 where
  pub some : 0 < length sizes
  pub rising : IsStrictlyIncreasing sizes
  pub classes : All IsClass sizes

-- a chunk that a zone may have: its elements lie in its pages
pub record IsFitGeometry (shape : Geometry) : Type 0 where
  pub least_element : 16 ≤ shape.element
  pub most_element : shape.element ≤ 8192
  pub some_count : 0 < shape.count
  pub most_count : shape.count ≤ 256
  pub some_pages : 0 < shape.pages
  pub most_pages : shape.pages ≤ 8
  pub within : shape.count * shape.element ≤ 4096 * shape.pages

-- the allocator's 32 size classes
abbrev pub kalloc_sizes : List ℕ
kalloc_sizes =
    16 ∷ 32 ∷ 48 ∷ 64 ∷ 80 ∷ 96 ∷ 112 ∷ 128 ∷ 160 ∷ 192 ∷ 224 ∷ 256 ∷ 320 ∷ 384 ∷ 448 ∷ 512 ∷
    640 ∷ 768 ∷ 896 ∷ 1024 ∷ 1280 ∷ 1536 ∷ 1792 ∷ 2048 ∷ 2560 ∷ 3072 ∷ 3584 ∷ 4096 ∷ 5120 ∷ 6144 ∷ 7168 ∷ 8192 ∷ []
