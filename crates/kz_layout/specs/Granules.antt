-- The unions of a cover's sets by blocks of bytes, and bodies that keep nothing else of a cover.
use Rattle.std.specs.Prelude.{◌≡◌, ℕ, ◌+◌, ◌-◌, ◌*◌, ◌/◌, ◌%◌, ◌≤◌, ◌<◌, ◌||◌, ◌==◌, nat_lt, if◌then◌else◌, Bool, true, false, IsTrue, List, [], ◌∷◌, length, map, take, drop, replicate}
use Rattle.std.specs.List.{range_with_len}
use Rattle.kz_model.specs.declared.record.Layout.{Layout}
use Rattle.kz_model.specs.Types.Cover.{Covered, union_of, glyph, at_offset, round_up, «data»}

-- the least number of blocks of this length that hold n bytes
abbrev pub blocks_for : ℕ → ℕ → ℕ
blocks_for long n = (n + (long - 1)) / long

-- a block of some bytes, as far as the cover reaches
abbrev pub block : ℕ → List ℕ → ℕ → List ℕ
block long cover j = take long (drop (long * j) cover)

-- the unions of the sets of all blocks of this length; a last block with fewer bytes counts
abbrev pub unions : ℕ → List ℕ → List ℕ
unions long cover = map (λ j. union_of (block long cover j)) (range_with_len 0 (blocks_for long (length cover)))

-- an alignment is 1, 2, 4 or 8
abbrev pub is_align : ℕ → Bool
is_align n = (n == 1) || (n == 2) || (n == 4) || (n == 8)

-- a size, an alignment, and a code for each granule of eight bytes
pub record Granules : Type 0 where
  pub size : ℕ
  pub align : ℕ
  pub codes : List ℕ

abbrev pub no_granules : Granules
no_granules = record { size = 0; align = 1; codes = [] }

-- what holds of fields in the code
pub record AreFields (size align : ℕ) (codes : List ℕ) : Type 0 where
  pub small : size ≤ 8192
  pub aligned : IsTrue (is_align align)
  pub many : length codes ≡ blocks_for 8 size

-- A whole body has a byte, and its size is a multiple of its alignment.
pub record IsBody (size align : ℕ) (codes : List ℕ) : Type 0 where
  pub fields : AreFields size align codes
  pub some : 1 ≤ size
  pub multiple : size % align ≡ 0

-- The codes are those of the cover. Below the alignment of a pointer there is only data, and some in each block of the
-- alignment.
pub record Stands (body : Granules) (covered : Covered) : Type 0 where
  pub size : covered.size ≡ body.size
  pub align : covered.align ≡ body.align
  pub long : length covered.cover ≡ body.size
  pub codes : body.codes ≡ unions 8 covered.cover
  pub dense : body.align < 8 → unions body.align covered.cover ≡ replicate (blocks_for body.align body.size) «data»

-- the bodies have the codes of the covers
abbrev pub AllStand : List Granules → List Covered → Type 0
AllStand [] [] = Unit {0}
AllStand (body ∷ bodies) (covered ∷ covers) = Stands body covered × AllStand bodies covers
AllStand [] (covered ∷ covers) = ⊥
AllStand (body ∷ bodies) [] = ⊥

-- where a field of this alignment stands behind fields of this size, or over them in a union
abbrev pub offset_at : Bool → ℕ → ℕ → ℕ
offset_at true size align = 0
offset_at false size align = round_up size align

-- The codes of a part's copies at an offset. A part of data alone fills each granule that its copies meet.
abbrev pub laid_codes : ℕ → ℕ → Granules → List ℕ
laid_codes offset count part =
    if nat_lt part.align 8 then at_offset (offset / 8) (blocks_for 8 (offset + count * part.size) - offset / 8)
    («data» ∷ [])
    else at_offset (offset / 8) count part.codes

-- a type's layout, by the codes of its granules
abbrev pub layout_by_codes : Granules → Layout
layout_by_codes body = record { size = body.size; align = body.align; letters = map glyph body.codes }
