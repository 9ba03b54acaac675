-- A union's fields, read from the list of them.
use Rattle.std.proofs.lemmas.List.Elements.{All-nil, All-cons, All-head, All-tail}
use Rattle.std.proofs.Common.{◌≡◌, ℕ, zero, suc, All, subst, sym, List, Result, Ok, Err, refl, rules, true}
use Rattle.kz_model.specs.declared.bundle.Kind.{Row_of-Field, end_of-Field, more_of-Field, items-the_row-Field}
use Rattle.kz_model.specs.declared.bundle.Kind.TheVariants.{Union}
use Rattle.kz_model.specs.declared.bundle.Kind.TheViews.{the_lemmas}
use Rattle.kz_model.specs.declared.bundle.Kind.TheBlock.{hidden-the_row-Field-0, items_hidden-the_row-Field-0}
use Rattle.kz_model.specs.declared.bundle.Field.{Field}
use Rattle.kz_model.specs.declared.layout.LayoutCause.{LayoutCause}
use Rattle.kz_model.specs.Types.Layouts.{IsSoundKind, AreSound, IsSoundField, Types, Inside, no_fields, inner_of, row_of, fields_from, one_field, then_do}

both : (first : Result Inside LayoutCause) (f g : Inside → Result Inside LayoutCause) →
    ((inside : Inside) → f inside ≡ g inside) → then_do first f ≡ then_do first g
both (Ok inside) f g same = same inside
both (Err cause) f g same = refl

row_is : {m : _} (types : Types) (so_far : Inside) (row : Row_of-Field m) →
    row_of types so_far row ≡ fields_from types true so_far (items-the_row-Field m row)
row_is types so_far end_of-Field = refl
row_is types so_far (more_of-Field kind name count rest) =
    both (then_do (inner_of types kind) (one_field types true so_far kind name count)) (λ more. row_of types more rest)
    (λ more. fields_from types true more (items-the_row-Field _ rest)) (λ more. row_is types more rest)

pub inner_of-union : (types : Types) (fields : List Field) → inner_of types (Union fields) ≡ fields_from types true no_fields fields
inner_of-union types fields = search (rules, the_lemmas, row_is)

sound_row : {m : _} (deep : ℕ) (row : Row_of-Field m) → AreSound deep row → All (IsSoundField deep) (items-the_row-Field m row)
sound_row deep end_of-Field sound = All-nil (IsSoundField deep)
sound_row deep (more_of-Field kind name count rest) sound =
    All-cons (IsSoundField deep) _ _ (record { kind = sound.0; count = sound.1 }) (sound_row deep rest sound.2)

-- the fields of a union in range are in range
pub sound_fields : (deep : ℕ) (fields : List Field) → IsSoundKind deep (Union fields) → (d : ℕ) × All (IsSoundField d) fields
sound_fields zero fields sound = absurd sound
sound_fields (suc deep) fields sound =
    (deep, subst (All (IsSoundField deep)) (items_hidden-the_row-Field-0 fields) (sound_row deep (hidden-the_row-Field-0 fields) sound))

row_sound : {m : _} (deep : ℕ) (row : Row_of-Field m) → All (IsSoundField deep) (items-the_row-Field m row) → AreSound deep row
row_sound deep end_of-Field all = tt
row_sound deep (more_of-Field kind name count rest) all =
    let P = IsSoundField deep in
    let first = All-head P _ (items-the_row-Field _ rest) all in
    (first.kind, first.count, row_sound deep rest (All-tail P _ (items-the_row-Field _ rest) all))

-- a union of fields in range is in range, one union deeper
pub sound_union : (deep : ℕ) (fields : List Field) → All (IsSoundField deep) fields → IsSoundKind (suc deep) (Union fields)
sound_union deep fields all =
    row_sound deep (hidden-the_row-Field-0 fields) (subst (All (IsSoundField deep)) (sym (items_hidden-the_row-Field-0 fields)) all)
