-- The types of a made bundle: they are declared, they have layouts, and few classes are in use.
use Rattle.std.proofs.Common.{◌≡◌, ◌≢◌, ℕ, zero, suc, ◌+◌, ◌-◌, ◌*◌, ◌/◌, ◌%◌, ◌^◌, ◌<◌, ◌≤◌, ◌==◌, ◌&&◌, ◌||◌, not, max, Bool, true, false, nat_lt, nat_le, if◌then◌else◌, List, [], ◌∷◌, ◌++◌, length, map, get_or, codes, All, Option, Some, None, Result, Ok, Err, unwrap_or, refl, ap, sym, ◌∙◌, arith, subst, append_assoc, length-append}
use Rattle.std.specs.Fmt.{decimal}
use Rattle.std.specs.List.{list_any, position_from, position, prefix_len, filter, range_with_len}
use Rattle.std.specs.Cmp.Lexicographic.{bytes_decides}
use Rattle.std.proofs.Math.Nat.{div-mul-le_self}
use Rattle.std.proofs.lemmas.List.{length-map}
use Rattle.std.proofs.lemmas.List.Folds.{list_any-append}
use Rattle.std.proofs.lemmas.List.Sums.{prefix_len_passes}
use Rattle.std.proofs.lemmas.List.Elements.{All-nil, All-cons, All-head, All-tail, All-push}
use Rattle.kz_model.specs.declared.bundle.Kind.{Kind}
use Rattle.kz_model.specs.declared.bundle.Kind.TheVariants as kind
use Rattle.kz_model.specs.declared.bundle.Field.{Field}
use Rattle.kz_model.specs.declared.bundle.TypeDecl.{TypeDecl}
use Rattle.kz_model.specs.declared.grammar.Refusal.{Refusal}
use Rattle.kz_model.specs.declared.grammar.Cause.TheVariants as cause
use Rattle.kz_model.specs.declared.record.Layout.{Layout}
use Rattle.kz_model.specs.declared.layout.LayoutCause.{LayoutCause}
use Rattle.kz_model.specs.declared.layout.LayoutCause.TheVariants.{SameName, Empty, TooLarge}
use Rattle.kz_model.specs.declared.layout.LayoutFault.{LayoutFault}
use Rattle.kz_model.specs.Types.Class.{class_of, kalloc_sizes}
use Rattle.kz_model.specs.Types.Cover.{Covered, plain, placed, rounded, round_up, layout_of, is_data_only, pointer, «data», authenticated}
use Rattle.kz_model.specs.Types.Layouts.{Text, Types, Inside, no_fields, is, has, place_of, then_do, whole, inner_of, own_cover, offset_of, placed_at, with_cover, named, one_field, fields_from, is_earlier, type_cover, found_at, with_earlier, types_from, names_of, all_layouts, layouts_of}
use Rattle.kz_model.specs.Types.Plan.{all_classes, class_at, is_general, classes_in_use}
use Rattle.kz_model.specs.Grammar.Spelling.{IsName, IsKind, IsField, IsDeclared}
use Rattle.kz_model.specs.Grammar.Stages.{fault_if, fault_of_layouts, has as is_among}
use Rattle.kz_model.specs.Grammar.Tokens.{is as is_text}
use Rattle.kz_bundle.proofs.Choices.{is_itself}
use Rattle.kz_model.specs.Text.Made.{drawn, kind_by, kind_made, field_made, fields_made, fields_of_type, type_text, type_made, types_made}
use Rattle.kz_make.proofs.Naming.{lettered_same, type_is_name, field_is_name}

-- ---- kinds

-- a kind of at most 200 bytes, aligned to at most 8
pub record IsSmall (k : Kind) : Type 0 where
  pub cover : Covered
  pub inner : (types : Types) → inner_of types k ≡ Ok no_fields
  pub own : (types : Types) (inside : Inside) → own_cover types inside k ≡ Ok cover
  pub size : cover.size ≤ 200
  pub align : (1 ≤ cover.align) × (cover.align ≤ 8)
  pub may_stand : IsKind 8 k

kind_is_small : (c n : ℕ) → IsSmall (kind_by c n)
kind_is_small c zero = record { cover = plain 8 8 pointer; inner = λ types. refl; own = λ types inside. refl; size = omega arith; align = (omega arith, omega arith); may_stand = tt }
kind_is_small c (suc zero) = record { cover = plain 8 8 authenticated; inner = λ types. refl; own = λ types inside. refl; size = omega arith; align = (omega arith, omega arith); may_stand = tt }
kind_is_small c (suc (suc zero)) = record { cover = plain 8 8 «data»; inner = λ types. refl; own = λ types inside. refl; size = omega arith; align = (omega arith, omega arith); may_stand = tt }
kind_is_small c (suc (suc (suc zero))) = record { cover = plain 4 4 «data»; inner = λ types. refl; own = λ types inside. refl; size = omega arith; align = (omega arith, omega arith); may_stand = tt }
kind_is_small c (suc (suc (suc (suc zero)))) = record { cover = plain 1 1 «data»; inner = λ types. refl; own = λ types inside. refl; size = omega arith; align = (omega arith, omega arith); may_stand = tt }
kind_is_small c (suc (suc (suc (suc (suc n))))) = record {
  cover = plain (1 + c % 200) 1 «data»;
  inner = λ types. refl;
  own = λ types inside. refl;
  size = omega arith;
  align = (omega arith, omega arith);
  may_stand = (omega arith, omega arith);
}

-- ---- names of types and fields

-- two texts differ
differ : (a b : Text) → (a ≡ b → ⊥) → is a b ≡ false
differ a b h = by_test (is a b) refl
  where
    by_test : (t : Bool) → is a b ≡ t → t ≡ false
    by_test true e = absurd (h ((bytes_decides a b).0 e))
    by_test false e = refl

same : (a b : Text) → a ≡ b → is a b ≡ true
same a b e = (bytes_decides a b).1 e

-- no field from this one on is among the names
abbrev AreBefore : ℕ → List Text → Type 0
AreBefore i names = (k : ℕ) → i ≤ k → k < 2 ^ 64 → has (codes "f" ++ decimal k) names ≡ false

before_more : (i : ℕ) (names : List Text) → i < 2 ^ 64 → AreBefore i names → AreBefore (i + 1) (names ++ (codes "f" ++ decimal i) ∷ [])
before_more i names few are = λ k above few_k.
    let other : is (codes "f" ++ decimal k) (codes "f" ++ decimal i) ≡ false = differ (codes "f" ++ decimal k) (codes "f" ++ decimal i) (λ e. let k_is = lettered_same 102 k i few_k few e in omega arith) in
    list_any-append (is (codes "f" ++ decimal k)) names ((codes "f" ++ decimal i) ∷ []) ∙ ap (λ b. b || (is (codes "f" ++ decimal k) (codes "f" ++ decimal i) || false)) (are k (omega arith) few_k) ∙ ap (λ b. b || false) other

-- ---- fields

-- so many fields, of at most 207 bytes each with those before it
record AreLaid (i : ℕ) (inside : Inside) : Type 0 where
  names : AreBefore i inside.names
  many : length inside.names ≡ i
  size : inside.body.size ≤ 207 * i
  align : (1 ≤ inside.body.align) × (inside.body.align ≤ 8)

rounded_few : (n align : ℕ) → 1 ≤ align → align ≤ 8 → round_up n align ≤ n + 7
rounded_few n align some few = let less = div-mul-le_self (n + align - 1) align in omega arith

fits : (n : ℕ) → n ≤ 8192 → nat_lt 8192 n ≡ false
fits n h = grind arith

-- a field that is found to fit
one_laid : (types : Types) (k : Kind) (name : Text) (so_far inside : Inside) (small : IsSmall k) → has name so_far.names ≡ false → offset_of false so_far.body small.cover + 1 * small.cover.size ≤ 8192 →
    one_field types false so_far k name 1 inside ≡ Ok (record { names = so_far.names ++ name ∷ []; body = placed (offset_of false so_far.body small.cover) so_far.body 1 small.cover })
one_laid types k name so_far inside small new room =
    let offset = offset_of false so_far.body small.cover in
    let end = offset + 1 * small.cover.size in
    ap (λ b. if b then Err SameName else then_do (then_do (own_cover types inside k) (with_cover false so_far.body 1)) (named so_far.names name)) new
    ∙ ap (λ own. then_do (then_do own (with_cover false so_far.body 1)) (named so_far.names name)) (small.own types inside)
    ∙ ap (λ b. then_do (if b then Err (TooLarge end) else Ok (placed offset so_far.body 1 small.cover)) (named so_far.names name)) (fits end room)

-- what the fields of a made type come to
record AreFitting (types : Types) (so_far : Inside) (fields : List Field) (count : ℕ) : Type 0 where
  inside : Inside
  found : fields_from types false so_far fields ≡ Ok inside
  laid : AreLaid count inside

fields_laid : (types : Types) (number j i more : ℕ) (so_far : Inside) → i + more ≤ 6 → AreLaid i so_far → AreFitting types so_far (fields_made number j i more) (i + more)
fields_laid types number j i zero so_far few laid = record { inside = so_far; found = refl; laid = subst (λ n. AreLaid n so_far) (none i) laid }
  where
    none : (i : ℕ) → i ≡ i + 0
    none i = omega arith
fields_laid types number j i (suc more) so_far few laid =
    let f = field_made i (drawn number j) (drawn number (j + 1)) in
    let small = kind_is_small (drawn number (j + 1)) (drawn number j % 6) in
    let offset = offset_of false so_far.body small.cover in
    let near : offset ≤ so_far.body.size + 7 = rounded_few so_far.body.size small.cover.align small.align.0 small.align.1 in
    let next : Inside = record { names = so_far.names ++ f.name ∷ []; body = placed offset so_far.body 1 small.cover } in
    let one = one_laid types f.kind f.name so_far no_fields small (laid.names i (omega arith) (omega (arith, few))) (omega (arith, near, laid.size, small.size, few)) in
    let next_laid : AreLaid (i + 1) next = record {
      names = before_more i so_far.names (omega (arith, few)) laid.names;
      many = omega (arith, laid.many, length-append so_far.names (f.name ∷ []));
      size = omega (arith, near, laid.size, small.size);
      align = (omega (arith, laid.align), omega (arith, laid.align, small.align));
    } in
    let rest = fields_laid types number (j + 2) (i + 1) more next (omega (arith, few)) next_laid in
    record {
      inside = rest.inside;
      found = ap (λ inner. then_do (then_do inner (one_field types false so_far f.kind f.name 1)) (λ so_far. fields_from types false so_far (fields_made number (j + 2) (i + 1) more))) (small.inner types)
          ∙ ap (λ found. then_do found (λ so_far. fields_from types false so_far (fields_made number (j + 2) (i + 1) more))) one
          ∙ rest.found;
      laid = subst (λ n. AreLaid n rest.inside) (next_one i more) rest.laid;
    }
  where
    next_one : (i more : ℕ) → i + 1 + more ≡ i + suc more
    next_one i more = omega arith

-- ---- one type

-- at most 1280 bytes
abbrev IsShort : Covered → Type 0
IsShort m = m.size ≤ 1280

record IsCovered (types : Types) (decl : TypeDecl) : Type 0 where
  cover : Covered
  found : type_cover types decl ≡ Ok cover
  short : IsShort cover

nothing_laid : AreLaid 0 no_fields
nothing_laid = record { names = λ k above few. refl; many = refl; size = omega arith; align = (omega arith, omega arith) }

type_laid : (types : Types) (number j t : ℕ) → is_earlier (length types.earlier) (place_of (type_text t) types.names) ≡ false → IsCovered types (type_made number j t)
type_laid types number j t new =
    let count = fields_of_type number j in
    let fields = fields_laid types number (j + 1) 0 count no_fields (omega arith) nothing_laid in
    let some : (length fields.inside.names == 0) ≡ false = let many = fields.laid.many in let positive : 0 < count = omega arith in grind arith in
    let body = fields.inside.body in
    record {
      cover = rounded body;
      found = ap (λ b. if b then Err SameName else then_do (fields_from types false no_fields (fields_made number (j + 1) 0 count)) whole) new
          ∙ ap (λ found. then_do found whole) fields.found
          ∙ ap (λ b. if b then Err Empty else Ok (rounded body)) some;
      short = omega (arith, rounded_few body.size body.align fields.laid.align.0 fields.laid.align.1, fields.laid.size);
    }

-- ---- all types

-- no type before this one has its name
not_earlier : (number j at count t : ℕ) → at ≤ t → t < 2 ^ 64 → is_earlier t (position_from (is (type_text t)) at (names_of (types_made number j at count))) ≡ false
not_earlier number j at zero t below few = refl
not_earlier number j at (suc count) t below few =
    by_test (is (type_text t) (type_text at)) refl
    (λ above. not_earlier number (j + 1 + 2 * fields_of_type number j) (at + 1) count t above few)
  where
    names : List Text
    names = names_of (types_made number (j + 1 + 2 * fields_of_type number j) (at + 1) count)

    not_below : (at t : ℕ) → t ≡ at → nat_lt at t ≡ false
    not_below at t e = grind arith

    by_test : (b : Bool) → is (type_text t) (type_text at) ≡ b → (at + 1 ≤ t → is_earlier t (position_from (is (type_text t)) (at + 1) names) ≡ false) →
        is_earlier t (if b then Some at else position_from (is (type_text t)) (at + 1) names) ≡ false
    by_test true e rest = not_below at t (lettered_same 116 t at few (omega arith) ((bytes_decides (type_text t) (type_text at)).0 e))
    by_test false e rest = rest (above (at == t) refl)
      where
        clash : at ≡ t → false ≡ true
        clash same_number = sym e ∙ same (type_text t) (type_text at) (ap type_text (sym same_number))

        wrong : false ≡ true → ⊥
        wrong f = cc

        above : (b : Bool) → (at == t) ≡ b → at + 1 ≤ t
        above true f = absurd (wrong (clash (equal at t f)))
          where
            equal : (m n : ℕ) → (m == n) ≡ true → m ≡ n
            equal m n f = grind arith
        above false f = let other = different at t f in omega arith
          where
            different : (m n : ℕ) → (m == n) ≡ false → m ≢ n
            different m n f = grind arith

record AreCovered (types : Types) (decls : List TypeDecl) : Type 0 where
  covers : List Covered
  found : types_from types decls ≡ Ok covers
  short : All IsShort covers

types_laid : (types : Types) (number j t more : ℕ) → length types.earlier ≡ t → t + more ≤ 1024 → All IsShort types.earlier →
    ((s : ℕ) → s < 2 ^ 64 → is_earlier s (place_of (type_text s) types.names) ≡ false) → AreCovered types (types_made number j t more)
types_laid types number j t zero many few short new = record { covers = types.earlier; found = refl; short = short }
types_laid types number j t (suc more) many few short new =
    let one = type_laid types number j t (ap (λ n. is_earlier n (place_of (type_text t) types.names)) many ∙ new t (omega (arith, few))) in
    let rest = types_laid (with_earlier types one.cover) number (j + 1 + 2 * fields_of_type number j) (t + 1) more (omega (arith, many, length-append types.earlier (one.cover ∷ []))) (omega (arith, few))
    (All-push IsShort types.earlier one.cover short one.short) new in
    record {
      covers = rest.covers;
      found = ap (λ found. then_do (found_at (length types.earlier) found) (λ m. types_from (with_earlier types m) (types_made number (j + 1 + 2 * fields_of_type number j) (t + 1) more))) one.found ∙ rest.found;
      short = rest.short;
    }

-- ---- classes in use

late : (size : ℕ) → size ≤ 1280 → not (nat_le size 1280) ≡ false
late size h = grind arith

few_before : (size : ℕ) → size ≤ 1280 → prefix_len (λ element. not (nat_le size element)) kalloc_sizes ≤ 20
few_before size short = by_test (nat_lt 20 (prefix_len (λ element. not (nat_le size element)) kalloc_sizes)) refl
  where
    above : (n : ℕ) → nat_lt 20 n ≡ true → 20 < n
    above n e = grind arith

    within : (n : ℕ) → nat_lt 20 n ≡ false → n ≤ 20
    within n e = grind arith

    wrong : true ≡ false → ⊥
    wrong f = cc

    by_test : (b : Bool) → nat_lt 20 (prefix_len (λ element. not (nat_le size element)) kalloc_sizes) ≡ b → prefix_len (λ element. not (nat_le size element)) kalloc_sizes ≤ 20
    by_test true e = absurd (wrong (sym (prefix_len_passes (λ element. not (nat_le size element)) kalloc_sizes 20 0 (above _ e)) ∙ late size short))
    by_test false e = within _ e

chosen_few : (test : Bool) (n : ℕ) → n ≤ 20 → unwrap_or (if test then Some n else None) 0 ≤ 20
chosen_few true n h = h
chosen_few false n h = omega arith

pub class_few : (layout : Layout) → layout.size ≤ 1280 → class_at layout ≤ 20
unfolding class_at
class_few layout short = chosen_few _ (prefix_len (λ element. not (nat_le layout.size element)) kalloc_sizes) (few_before layout.size short)

not_general : (class : ℕ) (layouts : List Layout) → 21 ≤ class → All (λ layout. layout.size ≤ 1280) layouts → list_any (is_general class) layouts ≡ false
not_general class [] above all = refl
not_general class (layout ∷ layouts) above all =
    let few = class_few layout (All-head (λ (layout : Layout). layout.size ≤ 1280) layout layouts all) in
    let other = differs (class_at layout) class (omega (arith, few)) in
    ap (λ b. (b && not (is_data_only layout)) || list_any (is_general class) layouts) other ∙ not_general class layouts above (All-tail (λ (layout : Layout). layout.size ≤ 1280) layout layouts all)
  where
    differs : (m n : ℕ) → m < n → (m == n) ≡ false
    differs m n h = grind arith

none_pass : (p : ℕ → Bool) (at n : ℕ) → ((class : ℕ) → 21 ≤ class → p class ≡ false) → 21 ≤ at → length (filter p (range_with_len at n)) ≡ 0
none_pass p at zero none above = refl
none_pass p at (suc n) none above = ap (λ b. length (if b then at ∷ filter p (range_with_len (at + 1) n) else filter p (range_with_len (at + 1) n))) (none at above) ∙ none_pass p (at + 1) n none (omega arith)

few_pass : (p : ℕ → Bool) (at n : ℕ) → ((class : ℕ) → 21 ≤ class → p class ≡ false) → at ≤ 21 → length (filter p (range_with_len at n)) + at ≤ 21
few_pass p at zero none within = omega arith
few_pass p at (suc n) none within = by_place (nat_lt at 21) refl (λ below. few_pass p (at + 1) n none below)
  where
    below_is : nat_lt at 21 ≡ true → at + 1 ≤ 21
    below_is e = grind arith

    above_is : nat_lt at 21 ≡ false → 21 ≤ at
    above_is e = grind arith

    one_more : (b : Bool) (rest : List ℕ) → length rest + (at + 1) ≤ 21 → length (if b then at ∷ rest else rest) + at ≤ 21
    one_more true rest h = omega arith
    one_more false rest h = omega arith

    by_place : (b : Bool) → nat_lt at 21 ≡ b → (at + 1 ≤ 21 → length (filter p (range_with_len (at + 1) n)) + (at + 1) ≤ 21) → length (filter p (range_with_len at (suc n))) + at ≤ 21
    by_place true e rest = one_more (p at) (filter p (range_with_len (at + 1) n)) (rest (below_is e))
    by_place false e rest = omega (arith, none_pass p at (suc n) none (above_is e))

pub few_classes : (layouts : List Layout) → All (λ layout. layout.size ≤ 1280) layouts → length (classes_in_use layouts) ≤ 21
unfolding all_classes
few_classes layouts all = omega (arith, few_pass (λ class. list_any (is_general class) layouts) 0 32 (λ class above. not_general class layouts above all) (omega arith))

-- ---- the stage of types

all_short : (covers : List Covered) → All IsShort covers → All (λ layout. layout.size ≤ 1280) (map layout_of covers)
all_short [] all = All-nil (λ (layout : Layout). layout.size ≤ 1280)
all_short (m ∷ covers) all = All-cons (λ (layout : Layout). layout.size ≤ 1280) (layout_of m) (map layout_of covers) (All-head IsShort m covers all) (all_short covers (All-tail IsShort m covers all))

pub no_types_fault : (number j count budget : ℕ) → count ≤ 1024 → 21 ≤ budget → fault_of_layouts budget (layouts_of (types_made number j 0 count)) ≡ None
no_types_fault number j count budget few room =
    let decls = types_made number j 0 count in
    let laid = types_laid (record { names = names_of decls; earlier = [] }) number j 0 count refl (omega arith) (All-nil IsShort) (λ s small. not_earlier number j 0 count s (omega arith) small) in
    let classes = few_classes (map layout_of laid.covers) (all_short laid.covers laid.short) in
    ap (λ found. fault_of_layouts budget (then_do found all_layouts)) laid.found
    ∙ ap (λ b. fault_if b 6 (cause.BudgetShort (length (classes_in_use (map layout_of laid.covers))))) (enough budget (length (classes_in_use (map layout_of laid.covers))) (omega (arith, classes)))
  where
    enough : (n m : ℕ) → m ≤ n → nat_lt n m ≡ false
    enough n m h = grind arith

-- ---- what is declared

fields_declared : (number j i more : ℕ) → i + more ≤ 6 → All (IsField 8) (fields_made number j i more)
fields_declared number j i zero few = All-nil (IsField 8)
fields_declared number j i (suc more) few =
    let f = field_made i (drawn number j) (drawn number (j + 1)) in
    All-cons (IsField 8) f (fields_made number (j + 2) (i + 1) more) ((kind_is_small (drawn number (j + 1)) (drawn number j % 6)).may_stand, field_is_name i (omega (arith, few)), (omega arith, omega arith))
    (fields_declared number (j + 2) (i + 1) more (omega (arith, few)))

pub types_declared : (number j t more : ℕ) → t + more ≤ 1024 → All IsDeclared (types_made number j t more)
types_declared number j t zero few = All-nil IsDeclared
types_declared number j t (suc more) few =
    All-cons IsDeclared (type_made number j t) (types_made number (j + 1 + 2 * fields_of_type number j) (t + 1) more) (type_is_name t (omega (arith, few)), fields_declared number (j + 1) 0 (fields_of_type number j) (omega arith))
    (types_declared number (j + 1 + 2 * fields_of_type number j) (t + 1) more (omega (arith, few)))

pub length-types_made : (number j t more : ℕ) → length (types_made number j t more) ≡ more
length-types_made number j t zero = refl
length-types_made number j t (suc more) = ap suc (length-types_made number (j + 1 + 2 * fields_of_type number j) (t + 1) more)

pub has_type : (number j t more s : ℕ) → t ≤ s → s < t + more → is_among (type_text s) (map (λ decl. decl.name) (types_made number j t more)) ≡ true
has_type number j t zero s above below = absurd (omega (arith, above, below))
has_type number j t (suc more) s above below = by_place (t == s) refl (λ after. has_type number (j + 1 + 2 * fields_of_type number j) (t + 1) more s after (omega (arith, below)))
  where
    names : List (List ℕ)
    names = map (λ (decl : TypeDecl). decl.name) (types_made number (j + 1 + 2 * fields_of_type number j) (t + 1) more)

    here : (t == s) ≡ true → t ≡ s
    here e = grind arith

    on : (t == s) ≡ false → t + 1 ≤ s
    on e = let other : t ≢ s = grind arith in omega arith

    later : (b : Bool) → is_among (type_text s) names ≡ true → (b || is_among (type_text s) names) ≡ true
    later true e = refl
    later false e = e

    by_place : (b : Bool) → (t == s) ≡ b → (t + 1 ≤ s → is_among (type_text s) names ≡ true) → is_among (type_text s) (type_text t ∷ names) ≡ true
    by_place true e rest = ap (λ b. b || is_among (type_text s) names) (ap (is_text (type_text s)) (ap type_text (here e)) ∙ is_itself (type_text s))
    by_place false e rest = later (is_text (type_text s) (type_text t)) (rest (on e))
