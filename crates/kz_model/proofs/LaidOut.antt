-- How many layouts declarations have.
use Rattle.std.proofs.Common.{◌≡◌, ℕ, ◌+◌, List, [], ◌∷◌, length, map, Result, Ok, Err, ap, subst, arith}
use Rattle.std.proofs.lemmas.List.{length-append, length-map}
use Rattle.kz_model.specs.declared.bundle.TypeDecl.{TypeDecl}
use Rattle.kz_model.specs.declared.record.Layout.{Layout}
use Rattle.kz_model.specs.declared.layout.LayoutCause.{LayoutCause}
use Rattle.kz_model.specs.declared.layout.LayoutFault.{LayoutFault}
use Rattle.kz_model.specs.Types.Cover.{Covered, layout_of}
use Rattle.kz_model.specs.Types.Layouts.{Types, then_do, found_at, type_cover, types_from, with_earlier, all_layouts, layouts_of, names_of}

-- so many declarations are covered, where all are
abbrev IsLong : ℕ → Result (List Covered) LayoutFault → Type 0
IsLong n (Ok covers) = length covers ≡ n
IsLong n (Err fault) = Unit {0}

then_long : (n at : ℕ) (first : Result Covered LayoutCause) (rest : Covered → Result (List Covered) LayoutFault) →
    ((m : Covered) → IsLong n (rest m)) → IsLong n (then_do (found_at at first) rest)
then_long n at (Ok m) rest each = each m
then_long n at (Err cause) rest each = tt

all_long : (types : Types) (decls : List TypeDecl) → IsLong (length types.earlier + length decls) (types_from types decls)
all_long types [] = omega arith
all_long types (decl ∷ decls) =
    then_long (length types.earlier + length (decl ∷ decls)) (length types.earlier) (type_cover types decl) (λ m. types_from (with_earlier types m) decls)
    (λ m. subst (λ n. IsLong n (types_from (with_earlier types m) decls)) (omega (arith, length-append types.earlier (m ∷ []))) (all_long (with_earlier types m) decls))

laid_long : (n : ℕ) (all : Result (List Covered) LayoutFault) (layouts : List Layout) → IsLong n all → then_do all all_layouts ≡ Ok layouts → length layouts ≡ n
laid_long n (Ok covers) layouts long laid = let same : map layout_of covers ≡ layouts = cc in omega (arith, ap length same, length-map covers layout_of, long)
laid_long n (Err fault) layouts long laid = cc

-- each declaration has a layout
pub layouts_of-length : (decls : List TypeDecl) (layouts : List Layout) → layouts_of decls ≡ Ok layouts → length layouts ≡ length decls
layouts_of-length decls layouts laid =
    let types : Types = record { names = names_of decls; earlier = [] } in
    omega (arith, laid_long (length types.earlier + length decls) (types_from types decls) layouts (all_long types decls) laid)
