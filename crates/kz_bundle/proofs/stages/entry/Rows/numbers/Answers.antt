use Rattle.std.proofs.Common.{◌≡◌, ◌<◌, ◌^◌, ℕ, List, length, map, unwrap_or, arith, ap, ◌∙◌, subst}
use Rattle.std.proofs.lemmas.List.{length-map}
use Rattle.kz_model.specs.Grammar.Stages.{row_names}
use Rattle.kz_model.specs.Grammar.Tokens.{texts}
use Rattle.kz_bundle.specs.Rows.{Rows, ArePlacesOf}
use Rattle.kz_bundle.proofs.Columns.{if_ok}
use Rattle.kz_bundle.proofs.EntryRows.{numbers_are, somes-le}
use Rattle.kz_bundle.proofs.stages.entry.Rows.numbers.Goals as goal

pub overflow_cast-len : goal.overflow_cast-len
overflow_cast-len c =
    let h = c.self.invariant.1 in
    let few : c.len.result < 2 ^ 32 = omega (arith, c.len.ensures, c.self.inside.entries.ok, h.counted, somes-le c.self.inside.places.items, h.lengths, length-map c.self.inside.names.now (λ word. word.now), c.self.invariant.2) in
    omega (arith, few)

pub returns : goal.returns
returns c =
    let names = texts c.self.inside.names.now in
    let words = texts c.self.inside.words.now in
    let entries = c.self.inside.entries.items in
    let P : Rows → List ℕ → Type 0 = λ rows numbers. ArePlacesOf (row_names rows.rows) rows.names numbers in
    let count : c.len.result ≡ length entries = omega (arith, c.len.ensures, c.self.inside.entries.ok) in
    if_ok c.placed_or.result _ _
    (λ numbers is.
    subst (λ rows. P rows numbers.items) c.self.view_is
    (numbers_are names words entries c.self.inside.places.items numbers.items c.self.invariant.1
    (is ∙ ap (λ n. map (λ place. unwrap_or place n) c.deref.result.now) count ∙ ap (map (λ place. unwrap_or place (length entries))) c.deref.ensures.value)))
    c.placed_or.ensures
