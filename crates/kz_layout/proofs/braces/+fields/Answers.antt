use Rattle.std.proofs.Common.{List, rules, ◌≡◌, ◌≤◌, ◌+◌, All, true, false, max, take, drop, [], ◌∷◌, ◌++◌, refl, sym, ap, ◌∙◌, subst, arith}
use Rattle.std.specs.List.{list_any}
use Rattle.std.proofs.lemmas.List.{drop_more}
use Rattle.std.proofs.lemmas.Result.{err_from_is_err_and}
use Rattle.std.specs.BTreeMap.{is_at}
use Rattle.std.specs.Cmp.Lexicographic.{slice_cmp}
use Rattle.std.specs.Ordering.{nat_cmp}
use Rattle.kz_model.specs.declared.bundle.Field.{Field}
use Rattle.kz_model.specs.Types.Cover.{nothing_covered}
use Rattle.kz_model.specs.Types.Layouts.{Text, no_fields, fields_from, inner_of as inner_by_kind, has, IsSoundKind, IsSoundField}
use Rattle.kz_model.proofs.Unions.{inner_of-union, sound_fields}
use Rattle.kz_layout.specs.Gives.{Gives}
use Rattle.kz_layout.specs.Shown.{ShowsInside, types_at, field_names}
use Rattle.kz_layout.specs.Tables.{AreNames}
use Rattle.kz_layout.proofs.Tables.{names_added, field_names_more, not_seen, was_seen}
use Rattle.kz_layout.proofs.Walks.{same_name, one_fault, goes_on, shows_more, shows_none}
use Rattle.kz_model.specs.declared.bundle.Kind.TheViews.{sized-Union, size-Kind}
use Rattle.kz_model.proofs.bundle.Field.TheLaws.{the_size}
use denote.Param.Weighed.{most}
use Rattle.kz_layout.proofs.braces.+fields.Goals as goal

pub inner_of-fields_of-requires : goal.inner_of-fields_of-requires
inner_of-fields_of-requires t c =
    let size : size-Kind c.args.kind.now ≡ max (most the_size c.as_slice.result.now) 0 + 1 =
    ap size-Kind c.in-Union.is ∙ sized-Union c.in-Union.fields ∙ ap (λ xs. max (most the_size xs) 0 + 1) (sym c.as_slice.ensures) in
    let falls : size-Kind c.args.kind.now ≤ t = search rules in
    let sound = sound_fields c.requires.0 c.in-Union.fields (subst (IsSoundKind c.requires.0) c.in-Union.is c.requires.1) in
    (omega (arith, size, falls), (sound.0, subst (All (IsSoundField sound.0)) (sym c.as_slice.ensures) sound.1))

pub inner_of-returns-in-Union : goal.inner_of-returns-in-Union
inner_of-returns-in-Union t c = λ covers all.
    let types = types_at c.args.names.now covers in
    let given = ap (inner_by_kind types) c.in-Union.is ∙ inner_of-union types c.in-Union.fields ∙ ap (fields_from types true no_fields) (sym c.as_slice.ensures) in
    subst (Gives ShowsInside c.fields_of.result) (sym given) (c.fields_of.ensures covers all)

pub inner_of-returns-in-Ptr : goal.inner_of-returns-in-Ptr
inner_of-returns-in-Ptr t c = λ covers all. (no_fields, ap (inner_by_kind (types_at c.args.names.now covers)) c.in-Ptr.is, shows_none c.new.result c.new.ensures)

pub inner_of-returns-in-Auth : goal.inner_of-returns-in-Auth
inner_of-returns-in-Auth t c = λ covers all. (no_fields, ap (inner_by_kind (types_at c.args.names.now covers)) c.in-Auth.is, shows_none c.new-in-Auth.result c.new-in-Auth.ensures)

pub inner_of-returns-in-U8 : goal.inner_of-returns-in-U8
inner_of-returns-in-U8 t c = λ covers all. (no_fields, ap (inner_by_kind (types_at c.args.names.now covers)) c.in-U8.is, shows_none c.new-in-U8.result c.new-in-U8.ensures)

pub inner_of-returns-in-U16 : goal.inner_of-returns-in-U16
inner_of-returns-in-U16 t c = λ covers all. (no_fields, ap (inner_by_kind (types_at c.args.names.now covers)) c.in-U16.is, shows_none c.new-in-U16.result c.new-in-U16.ensures)

pub inner_of-returns-in-U32 : goal.inner_of-returns-in-U32
inner_of-returns-in-U32 t c = λ covers all. (no_fields, ap (inner_by_kind (types_at c.args.names.now covers)) c.in-U32.is, shows_none c.new-in-U32.result c.new-in-U32.ensures)

pub inner_of-returns-in-U64 : goal.inner_of-returns-in-U64
inner_of-returns-in-U64 t c = λ covers all. (no_fields, ap (inner_by_kind (types_at c.args.names.now covers)) c.in-U64.is, shows_none c.new-in-U64.result c.new-in-U64.ensures)

pub inner_of-returns-in-Bytes : goal.inner_of-returns-in-Bytes
inner_of-returns-in-Bytes t c = λ covers all. (no_fields, ap (inner_by_kind (types_at c.args.names.now covers)) c.in-Bytes.is, shows_none c.new-in-Bytes.result c.new-in-Bytes.ensures)

pub inner_of-returns-in-Struct : goal.inner_of-returns-in-Struct
inner_of-returns-in-Struct t c = λ covers all. (no_fields, ap (inner_by_kind (types_at c.args.names.now covers)) c.in-Struct.is, shows_none c.new-in-Struct.result c.new-in-Struct.ensures)

pub fields_of-loop-field-init : goal.fields_of-loop-field-init
fields_of-loop-field-init t c = record {
  seen = λ name. ap (list_any (is_at (λ k. slice_cmp nat_cmp name k.now))) c.new-seen.ensures.empty;
  rest = λ covers all. (nothing_covered, shows_none c.new-so_far.result c.new-so_far.ensures, refl);
}

pub fields_of-returns-then-not-is_new : goal.fields_of-returns-then-not-is_new
fields_of-returns-then-not-is_new t c = λ covers all other.
    let l = c.loop-field in
    let f = c.field-item.result in
    let types = types_at c.args.names.now covers in
    let names = field_names (take l.field-index c.args.fields.now) in
    let more = drop (l.field-index + 1) c.args.fields.now in
    let so_far = l.invariant.rest covers all in
    let here : drop l.field-index c.args.fields.now ≡ f ∷ more = drop_more c.args.fields.now l.field-index f (omega arith) ∙ ap (λ y. y ∷ more) (sym c.field-item.is) in
    let whole = ap (fields_from types c.args.in_union (record { names = names; body = so_far.0 })) (sym here) ∙ so_far.2 in
    let inner = c.in_ok-inner.ensures covers all in
    let seen : has f.name names ≡ true = ap (λ q. has q names) (sym c.as_slice.ensures) ∙ sym (l.invariant.seen c.as_slice.result.now) ∙ was_seen c.in-Ok.is_new _ c.in-Ok.ensures.added (search rules) in
    sym whole ∙ same_name types c.args.in_union names so_far.0 f more inner.0 inner.1 seen

pub fields_of-returns-in_err-so_far : goal.fields_of-returns-in_err-so_far
fields_of-returns-in_err-so_far t c = λ covers all.
    let p = err_from_is_err_and c.from_residual-in_err-so_far.result c.from_residual-in_err-so_far.ensures.1 in
    let l = c.loop-field in
    let f = c.field-item.result in
    let types = types_at c.args.names.now covers in
    let names = field_names (take l.field-index c.args.fields.now) in
    let more = drop (l.field-index + 1) c.args.fields.now in
    let so_far = l.invariant.rest covers all in
    let here : drop l.field-index c.args.fields.now ≡ f ∷ more = drop_more c.args.fields.now l.field-index f (omega arith) ∙ ap (λ y. y ∷ more) (sym c.field-item.is) in
    let whole = ap (fields_from types c.args.in_union (record { names = names; body = so_far.0 })) (sym here) ∙ so_far.2 in
    let inner = c.in_ok-inner.ensures covers all in
    let unseen : has f.name names ≡ false = ap (λ q. has q names) (sym c.as_slice.ensures) ∙ sym (l.invariant.seen c.as_slice.result.now) ∙ not_seen c.in-Ok.is_new _ c.in-Ok.ensures.added (search rules) in
    rw (p.1, p.2) (λ other.
    sym whole ∙ one_fault types c.args.in_union names so_far.0 f more inner.0 c.in_err-so_far.field-0.0 inner.1 unseen (c.in_err-so_far.ensures.gives covers inner.0 so_far.0 all inner.2 so_far.1.stands other))

pub fields_of-loop-field-preserved : goal.fields_of-loop-field-preserved
fields_of-loop-field-preserved t c =
    let l = c.loop-field in
    let f = c.field-item.result in
    let names = field_names (take l.field-index c.args.fields.now) in
    let longer : names ++ f.name ∷ [] ≡ field_names (take (l.field-index + 1) c.args.fields.now) =
    ap (λ (g : Field). names ++ g.name ∷ []) c.field-item.is ∙ sym (field_names_more c.args.fields.now l.field-index f (omega arith)) in
    record {
      seen = subst (AreNames c.insert.new.self) (ap (λ q. names ++ q ∷ []) c.as_slice.ensures ∙ longer)
          (names_added l.seen c.insert.new.self names c.as_slice.result.now l.invariant.seen c.in-Ok.ensures.updates);
      rest = λ covers all.
          let types = types_at c.args.names.now covers in
          let more = drop (l.field-index + 1) c.args.fields.now in
          let so_far = l.invariant.rest covers all in
          let here : drop l.field-index c.args.fields.now ≡ f ∷ more = drop_more c.args.fields.now l.field-index f (omega arith) ∙ ap (λ y. y ∷ more) (sym c.field-item.is) in
          let whole = ap (fields_from types c.args.in_union (record { names = names; body = so_far.0 })) (sym here) ∙ so_far.2 in
          let inner = c.in_ok-inner.ensures covers all in
          let unseen : has f.name names ≡ false = ap (λ q. has q names) (sym c.as_slice.ensures) ∙ sym (l.invariant.seen c.as_slice.result.now) ∙ not_seen c.in-Ok.is_new _ c.in-Ok.ensures.added (search rules) in
          let laid = c.in_ok-so_far.ensures.gives covers inner.0 so_far.0 all inner.2 so_far.1.stands in
          let step = goes_on types c.args.in_union names so_far.0 f more inner.0 laid.0 inner.1 unseen laid.1 in
          let R : List Text → Type 0 = λ ns. ShowsInside c.in_ok-so_far.so_far (record { names = ns; body = laid.0 }) in (
            laid.0,
            subst R longer (shows_more c.in_ok-so_far.so_far names f.name laid.0 laid.2 c.in_ok-so_far.ensures.some),
            ap (λ ns. fields_from types c.args.in_union (record { names = ns; body = laid.0 }) more) (sym longer) ∙ sym step ∙ whole,
          );
    }
