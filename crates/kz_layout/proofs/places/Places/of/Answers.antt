use Rattle.std.proofs.Common.{◌≡◌, ◌+◌, [], ◌∷◌, ◌++◌, List, length, take, get_or, ℕ, Bor, ap, ◌∙◌, sym, subst, arith, rules}
use Rattle.std.proofs.lemmas.List.{length-map, length-take-le}
use Rattle.kz_model.specs.Types.Layouts.{Text}
use Rattle.kz_model.specs.Grammar.Tokens.{texts}
use Rattle.kz_layout.specs.Tables.{ArePlaces}
use Rattle.kz_layout.proofs.Tables.{places_kept, places_added, texts_more}
use Rattle.kz_layout.proofs.places.Places.of.Goals.{then-not-contains_key+in_ok-insert, else-not-contains_key}
use Rattle.kz_layout.proofs.places.Places.of.Goals as goal

pub loop-place-preserved : goal.loop-place-preserved
loop-place-preserved c =
    let l = c.loop-place in
    let all = c.args.names.items in
    let none : Bor (List ℕ) = record { ref_ptr = (0, 0); now = [] } in
    let listed = c.deref-name-items.ensures.value in
    let name : Text = (get_or c.deref-name-items.result.now l.place none).now in
    let names : List Text = texts (take l.place all) in
    let within : length c.deref-name-items.result.now ≡ length all = ap length listed in
    let longer : names ++ name ∷ [] ≡ texts (take (l.place + 1) all) =
    ap (λ (bs : List (Bor (List ℕ))). names ++ (get_or bs l.place none).now ∷ []) listed ∙ sym (texts_more all l.place none (omega arith)) in
    let many : l.place ≡ length names = sym (length-map (take l.place all) (λ (b : Bor (List ℕ)). b.now) ∙ length-take-le l.place all (omega arith)) in
    elim c.if-not-contains_key.branch [
      | then-not-contains_key+in_ok-insert w ↦
          let absent = sym c.contains_key.ensures ∙ (search rules) in
          subst (λ m. ArePlaces m (texts (take (l.place + 1) all))) (sym w.places-is)
          (subst (ArePlaces w.insert.new.self) longer (places_added l.places w.insert.new.self names name l.place l.invariant absent w.in_ok-insert.ensures.updates many))
      | else-not-contains_key w ↦
          let there = sym c.contains_key.ensures ∙ (search rules) in
          subst (λ m. ArePlaces m (texts (take (l.place + 1) all))) (sym w.places-is)
          (subst (ArePlaces l.places) longer (places_kept l.places names name l.invariant there))
    ]
