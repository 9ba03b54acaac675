-- What covers each byte of some fields, and a type's letters.
use Rattle.std.specs.Prelude.{ℕ, ◌+◌, ◌-◌, ◌*◌, ◌/◌, Bool, ◌||◌, ◌==◌, max, List, [], ◌∷◌, ◌++◌, take, drop, map, fold, replicate, codes, bit_or, slice_index_or}
use Rattle.std.specs.List.{list_all, repeat, range_with_len}
use Rattle.kz_model.specs.declared.record.Layout.{Layout}

-- A set of kinds is a number, the bitwise or of its kinds' codes: 1 is a pointer, 2 data, 8 an authenticated pointer.
abbrev pub pointer : ℕ
pointer = 1

abbrev pub «data» : ℕ
«data» = 2

abbrev pub authenticated : ℕ
authenticated = 8

-- a size and an alignment, and for each byte the set of the kinds that cover it
pub record Covered : Type 0 where
  pub size : ℕ
  pub align : ℕ
  pub cover : List ℕ

-- the least multiple of the alignment that isn't below n
abbrev pub round_up : ℕ → ℕ → ℕ
round_up n align = (n + align - 1) / align * align

-- bytes of one kind
abbrev pub plain : ℕ → ℕ → ℕ → Covered
plain size align code = record { size = size; align = align; cover = replicate size code }

abbrev pub nothing_covered : Covered
nothing_covered = record { size = 0; align = 1; cover = [] }

-- two covers over one another, byte by byte
abbrev pub over : List ℕ → List ℕ → List ℕ
over [] ys = ys
over (x ∷ xs) [] = x ∷ xs
over (x ∷ xs) (y ∷ ys) = bit_or x y ∷ over xs ys

-- a field with this count at this offset; no kind covers the bytes before it
abbrev pub at_offset : ℕ → ℕ → List ℕ → List ℕ
at_offset offset count cover = replicate offset 0 ++ repeat count cover

-- some fields with one more
abbrev pub placed : ℕ → Covered → ℕ → Covered → Covered
placed offset body count m =
    record {
      size = max body.size (offset + count * m.size);
      align = max body.align m.align;
      cover = over body.cover (at_offset offset count m.cover);
    }

-- the size is rounded up to the alignment; no kind covers the bytes of the padding
abbrev pub rounded : Covered → Covered
rounded m =
    record {
      size = round_up m.size m.align;
      align = m.align;
      cover = over m.cover (replicate (round_up m.size m.align) 0);
    }

-- the bitwise or of some sets
abbrev pub union_of : List ℕ → ℕ
union_of sets = fold bit_or 0 sets

-- granule j of a type has its bytes 8 j to 8 j + 7, as far as the type reaches
abbrev pub granule : List ℕ → ℕ → List ℕ
granule cover j = take 8 (drop (8 * j) cover)

-- a lower-case hexadecimal digit
abbrev pub glyph : ℕ → ℕ
glyph digit = slice_index_or (codes "0123456789abcdef") digit 0

-- the letter of granule j is the digit of the union of its bytes' sets
abbrev pub letter_of : List ℕ → ℕ → ℕ
letter_of cover j = glyph (union_of (granule cover j))

-- a last granule with fewer than eight bytes counts
abbrev pub letters_of : Covered → List ℕ
letters_of m = map (letter_of m.cover) (range_with_len 0 ((m.size + 7) / 8))

abbrev pub layout_of : Covered → Layout
layout_of m = record { size = m.size; align = m.align; letters = letters_of m }

-- each letter is `0` or `2`
abbrev pub is_data_only : Layout → Bool
is_data_only layout = list_all (λ letter. (letter == 48) || (letter == 50)) layout.letters
