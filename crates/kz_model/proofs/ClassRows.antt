-- The table of the classes, computed from the definitions.
use Rattle.std.proofs.Common.{◌≡◌, ℕ, [], ◌∷◌, None, Some, map, refl}
use Rattle.kz_model.specs.declared.record.Geometry.{Geometry}
use Rattle.kz_model.specs.Types.Class.{class_of, geometry_of, kalloc_sizes}

abbrev row : ℕ → ℕ → ℕ → Geometry
row element pages count = record { element = element; count = count; pages = pages }

pub of_none : class_of kalloc_sizes 0 ≡ Some 0
of_none = refl

pub of_one : class_of kalloc_sizes 1 ≡ Some 0
of_one = refl

pub of_128 : class_of kalloc_sizes 128 ≡ Some 7
of_128 = refl

pub of_129 : class_of kalloc_sizes 129 ≡ Some 8
of_129 = refl

pub of_the_greatest : class_of kalloc_sizes 8192 ≡ Some 31
of_the_greatest = refl

pub of_more : class_of kalloc_sizes 8193 ≡ None
of_more = refl

-- element, pages and count of each class
pub whole_table : map geometry_of kalloc_sizes ≡
    row 16 1 256 ∷ row 32 1 128 ∷ row 48 1 85 ∷ row 64 1 64 ∷ row 80 1 51 ∷ row 96 1 42 ∷ row 112 1 36 ∷ row 128 1 32 ∷
    row 160 1 25 ∷ row 192 1 21 ∷ row 224 1 18 ∷ row 256 1 16 ∷ row 320 1 12 ∷ row 384 1 10 ∷ row 448 1 9 ∷ row 512 1 8 ∷
    row 640 1 6 ∷ row 768 1 5 ∷ row 896 1 4 ∷ row 1024 1 4 ∷ row 1280 1 3 ∷ row 1536 2 5 ∷ row 1792 1 2 ∷ row 2048 1 2 ∷
    row 2560 2 3 ∷ row 3072 3 4 ∷ row 3584 1 1 ∷ row 4096 1 1 ∷ row 5120 4 3 ∷ row 6144 3 2 ∷ row 7168 2 1 ∷ row 8192 2 1 ∷ []
whole_table = refl
