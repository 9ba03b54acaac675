-- Declarations one after the other: all are sound, or the first that breaks a sentence.
use Rattle.std.proofs.Common.{◌≡◌, inl, inr, ⊎_elim, ℕ, ◌+◌, ◌==◌, true, false, nat_lt, List, [], ◌∷◌, ◌++◌, length, Option, Some, None, Result, Ok, Err, refl, ap, sym, ◌∙◌, subst, arith, length-append}
use Rattle.std.specs.Prelude.{Contains}
use Rattle.std.proofs.lemmas.Bool.{ltb-true, ltb-false}
use Rattle.std.proofs.lemmas.List.{append_assoc, append-nil, length-map, map-append}
use Rattle.std.proofs.lemmas.List.Elements.{Contains-append_left}
use Rattle.kz_model.specs.declared.bundle.TypeDecl.{TypeDecl}
use Rattle.kz_model.specs.declared.record.Layout.{Layout}
use Rattle.kz_model.specs.declared.layout.LayoutCause.{LayoutCause}
use Rattle.kz_model.specs.declared.layout.LayoutCause.TheVariants.{SameName, UnknownType, ForwardUse, Empty, TooLarge, Memory}
use Rattle.kz_model.specs.declared.layout.LayoutFault.{LayoutFault}
use Rattle.kz_model.specs.declared.grammar.Cause.TheVariants as cause
use Rattle.kz_model.specs.declared.grammar.Refusal.{Refusal}
use Rattle.kz_model.specs.Grammar.Form.{Draft}
use Rattle.kz_model.specs.Grammar.Stages.{cause_of, fault_of_layouts, types_fault}
use Rattle.kz_model.specs.Types.Cover.{Covered, rounded}
use Rattle.kz_model.specs.Types.Plan.{classes_in_use}
use Rattle.kz_model.specs.Types.Layouts.{Text, Types, Inside, no_fields, then_do, place_of, is_earlier, whole, fields_from, type_cover, found_at, with_earlier, types_from, names_of, all_layouts, layouts_of}
use Rattle.kz_grammar.specs.Declarations.{braces_in_fields, braces_of, AreSoundBraces, IsSoundDeclaration, AreSoundDeclarations, HasSoundTypes, BreaksDeclaration, IsDeclarationFault, BreaksTypesAt}
use Rattle.kz_grammar.proofs.Cases.{test_alone}
use Rattle.kz_grammar.proofs.Members.{contains_first, contains_later, contains_cases}
use Rattle.kz_grammar.proofs.FoundTypes.{PlaceSays, place_says}
use Rattle.kz_grammar.proofs.BraceWalk.{by_says, by_choice, none_done, no_name, some_names, RowSays, fields_say}

-- ---- one declaration

abbrev DeclSays : List Text → List Text → TypeDecl → Result Covered LayoutCause → Type 0
DeclSays declared earlier decl (Ok m) = IsSoundDeclaration earlier decl
DeclSays declared earlier decl (Err cause) = BreaksDeclaration declared earlier (cause_of cause) decl

module _ (types : Types) (earlier others : List Text) (all : types.names ≡ earlier ++ others) (long : length types.earlier ≡ length earlier) (decl : TypeDecl) where
  is_before : (o : Option ℕ) → PlaceSays decl.name earlier others 0 o → is_earlier (length types.earlier) o ≡ true → Contains earlier decl.name
  is_before None says e = absurd (cc)
  is_before (Some place) says e = says.1.before (omega (arith, ltb-true place (length types.earlier) e, long))

  is_new : (o : Option ℕ) → PlaceSays decl.name earlier others 0 o → is_earlier (length types.earlier) o ≡ false → ¬ Contains earlier decl.name
  is_new None says e = λ there. says (Contains-append_left earlier others decl.name there)
  is_new (Some place) says e = (says.1.behind (omega (arith, ltb-false place (length types.earlier) e, long))).1

  -- the braces of the type itself hold a field
  whole_says : ¬ Contains earlier decl.name → (inside : Inside) → RowSays types earlier others all long (Contains (braces_of decl)) decl.fields (braces_in_fields decl.fields) (Ok inside) →
      DeclSays types.names earlier decl (whole inside)
  whole_says new inside says =
      by_choice (DeclSays types.names earlier decl) (length inside.names == 0) (Err Empty) (Ok (rounded inside.body))
      (λ none. inr (record { fields = decl.fields; there = contains_first decl.fields (braces_in_fields decl.fields); broken = no_name inside decl.fields says.0.names none }))
      (λ some. record {
        new = new;
        braces = λ fields there. ⊎_elim
            (λ (own : decl.fields ≡ fields). subst (AreSoundBraces earlier) own (record { some = some_names inside decl.fields says.0.names some; different = says.0.different; known = says.0.known }))
            (λ later. says.1 fields later)
            (contains_cases decl.fields (braces_in_fields decl.fields) fields there);
      })

  pub decl_says : DeclSays types.names earlier decl (type_cover types decl)
  decl_says =
      let said : PlaceSays decl.name earlier others 0 (place_of decl.name types.names) = subst (λ (names : List Text). PlaceSays decl.name earlier others 0 (place_of decl.name names)) (sym all) (place_says decl.name earlier others 0) in
      by_choice (DeclSays types.names earlier decl) (is_earlier (length types.earlier) (place_of decl.name types.names)) (Err SameName) (then_do (fields_from types false no_fields decl.fields) whole)
      (λ before. inl (refl, is_before (place_of decl.name types.names) said before))
      (λ fresh. by_says (RowSays types earlier others all long (Contains (braces_of decl)) decl.fields (braces_in_fields decl.fields)) (DeclSays types.names earlier decl) (fields_from types false no_fields decl.fields) whole
      (fields_say types earlier others all long (Contains (braces_of decl)) decl.fields [] no_fields decl.fields refl (contains_first decl.fields (braces_in_fields decl.fields))
      (λ braces there. contains_later decl.fields (braces_in_fields decl.fields) braces there) (none_done types earlier others all long))
      (λ inside says. whole_says (is_new (place_of decl.name types.names) said fresh) inside says)
      (λ cause fault. inr fault))

-- ---- all declarations

pub one_sound : (earlier : List Text) (before : List TypeDecl) (decl : TypeDecl) → AreSoundDeclarations earlier before → IsSoundDeclaration (earlier ++ names_of before) decl → AreSoundDeclarations earlier (before ++ decl ∷ [])
one_sound earlier [] decl are is = (subst (λ (names : List Text). IsSoundDeclaration names decl) (append-nil earlier) is, tt)
one_sound earlier (first ∷ before) decl are is =
    (are.0, one_sound (earlier ++ first.name ∷ []) before decl are.1 (subst (λ (names : List Text). IsSoundDeclaration names decl) (sym (append_assoc earlier (first.name ∷ []) (names_of before))) is))

-- a declaration's fault, counted from the first
pub record HasFault (all : List TypeDecl) (fault : LayoutFault) : Type 0 where
  pub before : List TypeDecl
  pub decl : TypeDecl
  pub after : List TypeDecl
  pub parts : all ≡ before ++ decl ∷ after
  pub at : fault.at ≡ length before
  pub broken : BreaksDeclaration (names_of all) (names_of before) (cause_of fault.cause) decl
  pub first : AreSoundDeclarations [] before

abbrev pub TypesSay : List TypeDecl → Result (List Covered) LayoutFault → Type 0
TypesSay all (Ok covers) = AreSoundDeclarations [] all
TypesSay all (Err fault) = HasFault all fault

names_parts : (before : List TypeDecl) (decl : TypeDecl) (decls : List TypeDecl) → names_of (before ++ decl ∷ decls) ≡ names_of before ++ names_of (decl ∷ decls)
names_parts before decl decls = map-append (λ (decl : TypeDecl). decl.name) before (decl ∷ decls)

by_found : {A B : Type 0} (S : Result A LayoutCause → Type 0) (R : Result B LayoutFault → Type 0) (at : ℕ) (o : Result A LayoutCause) (f : A → Result B LayoutFault) → S o →
    ((a : A) → S (Ok a) → R (f a)) → ((cause : LayoutCause) → S (Err cause) → R (Err (record { at = at; cause = cause }))) → R (then_do (found_at at o) f)
by_found S R at (Ok a) f says good bad = good a says
by_found S R at (Err cause) f says good bad = bad cause says

types_scan : (all before decls : List TypeDecl) (types : Types) → all ≡ before ++ decls → types.names ≡ names_of all → length types.earlier ≡ length before → AreSoundDeclarations [] before →
    TypesSay all (types_from types decls)
types_scan all before [] types parts names long are = subst (AreSoundDeclarations []) (sym (parts ∙ append-nil before)) are
types_scan all before (decl ∷ decls) types parts names long are =
    by_found (DeclSays types.names (names_of before) decl) (TypesSay all) (length types.earlier) (type_cover types decl) (λ m. types_from (with_earlier types m) decls)
    (decl_says types (names_of before) (names_of (decl ∷ decls)) (names ∙ ap names_of parts ∙ names_parts before decl decls) (long ∙ sym (length-map before (λ (decl : TypeDecl). decl.name))) decl)
    (λ m says. types_scan all (before ++ decl ∷ []) decls (with_earlier types m) (parts ∙ sym (append_assoc before (decl ∷ []) decls)) names
    (omega (arith, long, length-append types.earlier (m ∷ []), length-append before (decl ∷ []))) (one_sound [] before decl are says))
    (λ cause says. record {
      before = before;
      decl = decl;
      after = decls;
      parts = parts;
      at = long;
      broken = subst (λ (declared : List Text). BreaksDeclaration declared (names_of before) (cause_of cause) decl) names says;
      first = are;
    })

-- ---- the stage

abbrev pub StageSays : Draft → Option Refusal → Type 0
StageSays d None = HasSoundTypes d
StageSays d (Some refusal) = BreaksTypesAt d refusal.line refusal.cause

abbrev LayoutsSay : Draft → Result (List Layout) LayoutFault → Type 0
LayoutsSay d (Ok layouts) = AreSoundDeclarations [] d.types
LayoutsSay d (Err fault) = HasFault d.types fault

layouts_say : (d : Draft) → LayoutsSay d (layouts_of d.types)
layouts_say d = by_types (types_from (record { names = names_of d.types; earlier = [] }) d.types) (types_scan d.types [] d.types (record { names = names_of d.types; earlier = [] }) refl refl refl tt)
  where
    by_types : (o : Result (List Covered) LayoutFault) → TypesSay d.types o → LayoutsSay d (then_do o all_layouts)
    by_types (Ok covers) are = are
    by_types (Err fault) has = has

declaration_fault : (d : Draft) (fault : LayoutFault) → HasFault d.types fault → IsDeclarationFault d.types (9 + fault.at) (cause_of fault.cause)
declaration_fault d fault has = record { before = has.before; decl = has.decl; after = has.after; parts = has.parts; numbered = ap (λ n. 9 + n) has.at; broken = has.broken; first = has.first }

by_cause : (d : Draft) (line : ℕ) (layout : LayoutCause) → IsDeclarationFault d.types line (cause_of layout) → BreaksTypesAt d line (cause_of layout)
by_cause d line SameName is = is
by_cause d line UnknownType is = is
by_cause d line ForwardUse is = is
by_cause d line Empty is = is
by_cause d line (TooLarge size) is = is
by_cause d line Memory is = is

pub stage_says : (d : Draft) → StageSays d (types_fault d)
stage_says d = by_layouts (layouts_of d.types) refl (layouts_say d)
  where
    by_layouts : (o : Result (List Layout) LayoutFault) → layouts_of d.types ≡ o → LayoutsSay d o → StageSays d (fault_of_layouts d.header.budget o)
    by_layouts (Err fault) e has = by_cause d (9 + fault.at) fault.cause (declaration_fault d fault has)
    by_layouts (Ok layouts) e are =
        test_alone (StageSays d) (nat_lt d.header.budget (length (classes_in_use layouts))) 6 (cause.BudgetShort (length (classes_in_use layouts)))
        (λ short. record { numbered = refl; declared = are; layouts = layouts; laid_out = e; counted = refl; short = ltb-true d.header.budget (length (classes_in_use layouts)) short })
        (λ enough. record { declared = are; layouts = layouts; laid_out = e; enough = ltb-false d.header.budget (length (classes_in_use layouts)) enough })
