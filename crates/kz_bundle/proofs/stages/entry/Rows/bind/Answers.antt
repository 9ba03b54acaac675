-- One entry more, where the name has none.
use Rattle.std.proofs.Common.{◌≡◌, ◌<◌, ◌^◌, length, None, slice_index_or, arith, ap, ◌∙◌, sym, refl}
use Rattle.std.proofs.lemmas.List.{length-map, get_or_default}
use Rattle.kz_model.specs.Grammar.Tokens.{texts}
use Rattle.kz_bundle.specs.Rows.{Rows}
use Rattle.kz_bundle.proofs.EntryRows.{one_more_entry, somes-le, not_some}
use Rattle.kz_bundle.proofs.stages.entry.Rows.bind.Goals as goal

pub overflow_cast-place : goal.overflow_cast-place
overflow_cast-place c =
    let h = c.self.invariant.1 in
    let few : c.len-place.result < 2 ^ 32 = omega (arith, c.len-place.ensures, c.self.inside.entries.ok, h.counted, somes-le c.self.inside.places.items, h.lengths, length-map c.self.inside.names.now (λ word. word.now), c.self.invariant.2) in
    omega (arith, few)

pub invariant_of-self-then-is_none : goal.invariant_of-self-then-is_none
invariant_of-self-then-is_none c =
    let h = c.self.invariant.1 in
    let places = c.self.inside.places.items in
    let name = c.args.entry.name in
    let there : name < length (texts c.self.inside.names.now) = omega (arith, c.requires.name, ap (λ (rows : Rows). length rows.names) c.self.view_is) in
    let word : c.args.entry.of < length (texts c.self.inside.words.now) = omega (arith, c.requires.word, ap (λ (rows : Rows). length rows.words) c.self.view_is) in
    let none : slice_index_or places name None ≡ None =
    get_or_default places name None c.index.result.now (omega (arith, there, h.lengths)) ∙ sym c.index.ensures ∙ not_some c.index.result.now c.is_none.result c.is_none.ensures c.if-is_none.true in (
      c.self.invariant.0,
      one_more_entry _ _ c.self.inside.entries.items _ places _ c.args.entry c.len-place.result c.self.invariant.0 h there word none (omega (arith, c.len-place.ensures, c.self.inside.entries.ok)) c.in_ok-push.ensures.items refl,
      c.self.invariant.2,
    )
