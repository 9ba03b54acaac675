-- A plan and layouts that were made of a valid bundle can be written.
use Rattle.std.proofs.Common.{◌≡◌, ℕ, zero, suc, ◌+◌, ◌/◌, ◌<◌, ◌==◌, ◌&&◌, ◌||◌, lit<, nat_le, nat_lt, Bool, true, false, List, [], ◌∷◌, ◌++◌, length, map, slice_index_or, All, Result, Ok, Err, codes, refl, ap, sym, ◌∙◌, subst, arith}
use Rattle.std.specs.Bool.{IsTrue}
use Rattle.std.specs.List.{list_all, range_with_len}
use Rattle.std.specs.Str.{IsAscii}
use Rattle.std.proofs.lemmas.List.{length-map, length-append}
use Rattle.std.proofs.lemmas.Bool.Decides.{nat_tests}
use Rattle.kz_model.specs.declared.bundle.TypeDecl.{TypeDecl}
use Rattle.kz_model.specs.declared.bundle.Bundle.{Bundle}
use Rattle.kz_model.specs.declared.layout.LayoutFault.{LayoutFault}
use Rattle.kz_model.specs.declared.layout.LayoutCause.{LayoutCause}
use Rattle.kz_model.specs.declared.record.Layout.{Layout}
use Rattle.kz_model.specs.declared.record.Plan.{Plan}
use Rattle.kz_model.specs.Types.Cover.{Covered, glyph, granule, union_of, letters_of, letter_of, layout_of}
use Rattle.kz_model.specs.Types.Layouts.{Types, names_of, found_at, type_cover, types_from, with_earlier, then_do, all_layouts, layouts_of}
use Rattle.kz_model.specs.Types.Plan.{zone_among, deals_of, general_count, data_classes}
use Rattle.kz_model.specs.Types.Planned.{IsPlanned}
use Rattle.kz_model.specs.Grammar.Tokens.{is_name, is_name_byte, is_small, is_digit}
use Rattle.kz_model.specs.Grammar.Valid.{ok_or_none, layouts_in}
use Rattle.kz_report.specs.Lines.{AreText}
use Rattle.kz_bundle.proofs.Zoned.{planned_is_valid}

-- ---- names

both : (x y : Bool) → (x && y) ≡ true → (x ≡ true) × (y ≡ true)
both true true e = (refl, refl)
both true false e = absurd (cc)
both false y e = absurd (cc)

name_byte : (b : ℕ) → is_name_byte b ≡ true → b < 128
name_byte b e = grind (arith, nat_tests)

name_bytes : (bs : List ℕ) → list_all is_name_byte bs ≡ true → IsAscii bs
name_bytes [] e i = lit< tt
name_bytes (b ∷ bs) e zero = name_byte b (both (is_name_byte b) (list_all is_name_byte bs) e).0
name_bytes (b ∷ bs) e (suc i) = name_bytes bs (both (is_name_byte b) (list_all is_name_byte bs) e).1 i

pub name_ascii : (bs : List ℕ) → IsTrue (is_name bs) → IsAscii bs
name_ascii [] e = absurd (let f : false ≡ true = e in cc)
name_ascii (b ∷ bs) e = name_bytes (b ∷ bs) (all_bytes (is_small b) (list_all is_name_byte bs) (nat_le (length bs) 31) e)
  where
    all_bytes : (small all few : Bool) → (small && all && few) ≡ true → ((small || is_digit b || (b == 95)) && all) ≡ true
    all_bytes true true true e = refl
    all_bytes true true false e = absurd (cc)
    all_bytes true false few e = absurd (cc)
    all_bytes false all few e = absurd (cc)

names_ascii : (types : List TypeDecl) → All (λ decl. IsTrue (is_name decl.name)) types → All (λ decl. IsAscii decl.name) types
names_ascii types h = λ k d lt. name_ascii (slice_index_or types k d).name (h k d lt)

-- ---- letters

all_ascii : (bs : List ℕ) → list_all (λ b. nat_lt b 128) bs ≡ true → IsAscii bs
all_ascii [] e i = lit< tt
all_ascii (b ∷ bs) e zero = let small = (both (nat_lt b 128) (list_all (λ b. nat_lt b 128) bs) e).0 in grind (arith, nat_tests)
all_ascii (b ∷ bs) e (suc i) = all_ascii bs (both (nat_lt b 128) (list_all (λ b. nat_lt b 128) bs) e).1 i

glyph_ascii : (digit : ℕ) → glyph digit < 128
glyph_ascii digit = all_ascii (codes "0123456789abcdef") refl digit

mapped_ascii : (f : ℕ → ℕ) (xs : List ℕ) → ((x : ℕ) → f x < 128) → IsAscii (map f xs)
mapped_ascii f [] h i = lit< tt
mapped_ascii f (x ∷ xs) h zero = h x
mapped_ascii f (x ∷ xs) h (suc i) = mapped_ascii f xs h i

letters_of_ascii : (m : Covered) → IsAscii (letters_of m)
letters_of_ascii m = mapped_ascii (letter_of m.cover) (range_with_len 0 ((m.size + 7) / 8)) (λ j. glyph_ascii (union_of (granule m.cover j)))

layouts_ascii : (covers : List Covered) → All (λ layout. IsAscii layout.letters) (map layout_of covers)
layouts_ascii [] k d lt = absurd (omega arith)
layouts_ascii (m ∷ covers) zero d lt = letters_of_ascii m
layouts_ascii (m ∷ covers) (suc k) d lt = layouts_ascii covers k d (omega arith)

letters_ascii : (r : Result (List Covered) LayoutFault) → All (λ layout. IsAscii layout.letters) (ok_or_none (then_do r all_layouts))
letters_ascii (Ok covers) = layouts_ascii covers
letters_ascii (Err fault) = λ k d lt. absurd (omega arith)

-- ---- lengths

types_long : (types : Types) (decls : List TypeDecl) (covers : List Covered) → types_from types decls ≡ Ok covers → length covers ≡ length types.earlier + length decls
types_long types [] covers e = omega (arith, same_length types.earlier covers e)
  where
    same_length : (a b : List Covered) → ◌≡◌ {A = Result (List Covered) LayoutFault} (Ok a) (Ok b) → length a ≡ length b
    same_length a b e = let same : a ≡ b = cc in ap (λ (covers : List Covered). length covers) same
types_long types (decl ∷ decls) covers e =
    by_cover (type_cover types decl) e (λ m f. types_long (with_earlier types m) decls covers f)
  where
    by_cover : (r : Result Covered LayoutCause) → then_do (found_at (length types.earlier) r) (λ m. types_from (with_earlier types m) decls) ≡ Ok covers →
        ((m : Covered) → types_from (with_earlier types m) decls ≡ Ok covers → length covers ≡ length (types.earlier ++ m ∷ []) + length decls) → length covers ≡ length types.earlier + length (decl ∷ decls)
    by_cover (Ok m) e again = omega (arith, again m e, length-append types.earlier (m ∷ []))
    by_cover (Err cause) e again = absurd (cc)

pub layouts_long : (decls : List TypeDecl) (layouts : List Layout) → layouts_of decls ≡ Ok layouts → length layouts ≡ length decls
layouts_long decls layouts e = by_types (types_from (record { names = names_of decls; earlier = [] }) decls) refl e
  where
    by_types : (r : Result (List Covered) LayoutFault) → types_from (record { names = names_of decls; earlier = [] }) decls ≡ r → then_do r all_layouts ≡ Ok layouts → length layouts ≡ length decls
    by_types (Ok covers) is e =
        let same : map layout_of covers ≡ layouts = cc in
        omega (arith, types_long (record { names = names_of decls; earlier = [] }) decls covers is, ap (λ (layouts : List Layout). length layouts) same, length-map covers layout_of)
    by_types (Err fault) is e = absurd (cc)

-- ---- the whole

pub are_text : (b : Bundle) (plan : Plan) (layouts : List Layout) → IsPlanned b plan → layouts ≡ layouts_in b → AreText b plan layouts
are_text b plan layouts h are_layouts =
    let long : length (layouts_in b) ≡ length b.types = layouts_long b.types (layouts_in b) (planned_is_valid h).laid_out in
    let P : List Layout → Type 0 = λ layouts. All (λ layout. IsAscii layout.letters) layouts in
    record {
      laid_out = ap (λ (layouts : List Layout). length layouts) are_layouts ∙ long;
      zoned = ap (λ (plan : Plan). length plan.of_type) h.is_plan ∙ length-map (layouts_in b) (zone_among (deals_of (layouts_in b) b.budget b.seed) (general_count (layouts_in b) b.budget) (data_classes (layouts_in b))) ∙ long;
      names = names_ascii b.types (planned_is_valid h).type_names;
      letters = subst P (sym are_layouts) (letters_ascii (types_from (record { names = names_of b.types; earlier = [] }) b.types));
    }
