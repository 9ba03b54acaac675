-- Names that are kept as texts beside types.
use Rattle.std.proofs.Common.{◌≡◌, ℕ, zero, suc, List, [], ◌∷◌, ◌++◌, length, slice_index_or, refl, ap, arith}
use Rattle.kz_model.specs.declared.bundle.NameRow.{NameRow}
use Rattle.kz_model.specs.Store.NameTable.{no_row, rows_meant}

pub length-rows : (names : List (List ℕ)) (types : List ℕ) → length types ≡ length names → length (rows_meant names types) ≡ length names
length-rows [] [] same = refl
length-rows [] (of ∷ types) same = refl
length-rows (name ∷ names) [] same = absurd (omega arith)
length-rows (name ∷ names) (of ∷ types) same = ap (λ n. suc n) (length-rows names types (omega arith))

-- one more
pub rows-push : (names : List (List ℕ)) (types : List ℕ) (row : NameRow) → length types ≡ length names → rows_meant (names ++ row.name ∷ []) (types ++ row.of ∷ []) ≡ rows_meant names types ++ row ∷ []
rows-push [] [] row same = refl
rows-push [] (of ∷ types) row same = absurd (omega arith)
rows-push (name ∷ names) [] row same = absurd (omega arith)
rows-push (name ∷ names) (of ∷ types) row same = ap (λ (rows : List NameRow). record { name = name; of = of } ∷ rows) (rows-push names types row (omega arith))

-- what stands at a place
pub name-there : (names : List (List ℕ)) (types : List ℕ) (k : ℕ) → length types ≡ length names → (slice_index_or (rows_meant names types) k no_row).name ≡ slice_index_or names k []
name-there [] types k same = refl
name-there (name ∷ names) [] k same = absurd (omega arith)
name-there (name ∷ names) (of ∷ types) zero same = refl
name-there (name ∷ names) (of ∷ types) (suc k) same = name-there names types k (omega arith)

pub type-there : (names : List (List ℕ)) (types : List ℕ) (k : ℕ) → length types ≡ length names → (slice_index_or (rows_meant names types) k no_row).of ≡ slice_index_or types k 0
type-there [] [] k same = refl
type-there [] (of ∷ types) k same = absurd (omega arith)
type-there (name ∷ names) [] k same = absurd (omega arith)
type-there (name ∷ names) (of ∷ types) zero same = refl
type-there (name ∷ names) (of ∷ types) (suc k) same = type-there names types k (omega arith)
