-- Items that are kept short, with what is longer beside them: more of that behind it changes no item's meaning.
use Rattle.std.proofs.Common.{◌≡◌, ℕ, zero, suc, subst, ◌+◌, ◌≤◌, List, [], ◌∷◌, ◌++◌, length, map, refl, ap, ◌∙◌, sym, arith, slice_index_or, length-append}
use Rattle.std.proofs.lemmas.List.{map-append}
use Rattle.std.proofs.lemmas.List.Elements.{All-append}
use Rattle.std.specs.List.{All}

-- two functions that agree on each element give one list
pub maps_alike : {A B : Type 0} (f g : A → B) (P : A → Type 0) → ((a : A) → P a → f a ≡ g a) → (xs : List A) → All P xs → map f xs ≡ map g xs
maps_alike f g P same [] all = refl
maps_alike f g P same (x ∷ xs) all =
    let here : f x ≡ g x = same x (all 0 x (omega arith)) in
    let rest : map f xs ≡ map g xs = maps_alike f g P same xs (λ k d lt. all (suc k) d (omega (arith, lt))) in
    ap (λ y. y ∷ map f xs) here ∙ ap (λ ys. g x ∷ ys) rest

-- how items are meant beside long ones, and that an item finds its own among so many
pub record Meaning (Long Item Meant : Type 0) : Type 1 where
  pub meant : List Long → Item → Meant
  pub HasItsBytes : ℕ → Item → Type 0
  pub meant_more : (longs more : List Long) (item : Item) → HasItsBytes (length longs) item → meant (longs ++ more) item ≡ meant longs item
  pub within_more : (few many : ℕ) (item : Item) → few ≤ many → HasItsBytes few item → HasItsBytes many item

-- these long ones, with more behind them
abbrev pub GrowsFrom : {Long : Type 0} → List Long → List Long → Type 0
GrowsFrom {Long} old new = (more : List Long) × (new ≡ old ++ more)

module _ {Long Item Meant : Type 0} (m : Meaning Long Item Meant) where
  abbrev pub AreWithin : List Long → List Item → Type 0
  AreWithin longs items = All (m.HasItsBytes (length longs)) items

  -- the items before mean what they meant
  pub items_stay : (longs more : List Long) (items : List Item) → AreWithin longs items → map (m.meant (longs ++ more)) items ≡ map (m.meant longs) items
  items_stay longs more items all = maps_alike (m.meant (longs ++ more)) (m.meant longs) (m.HasItsBytes (length longs)) (λ item within. m.meant_more longs more item within) items all

  pub items_stay_within : (longs more : List Long) (items : List Item) → AreWithin longs items → AreWithin (longs ++ more) items
  items_stay_within longs more items all =
      λ k d lt. m.within_more (length longs) (length (longs ++ more)) (slice_index_or items k d)
      (let e : length (longs ++ more) ≡ length longs + length more = length-append longs more in omega (arith, e)) (all k d lt)

  -- one more item behind them
  pub one_more_within : (longs more : List Long) (items : List Item) (item : Item) → AreWithin longs items → m.HasItsBytes (length (longs ++ more)) item →
      AreWithin (longs ++ more) (items ++ item ∷ [])
  one_more_within longs more items item all within =
      All-append (m.HasItsBytes (length (longs ++ more))) items (item ∷ []) (items_stay_within longs more items all) (only within)
    where
      only : m.HasItsBytes (length (longs ++ more)) item → All (m.HasItsBytes (length (longs ++ more))) (item ∷ [])
      only within zero d lt = within
      only within (suc k) d lt = absurd (omega (arith, lt))

  pub one_more_meant : (longs more : List Long) (items : List Item) (item : Item) (meaning : Meant) → AreWithin longs items →
      m.meant (longs ++ more) item ≡ meaning → map (m.meant (longs ++ more)) (items ++ item ∷ []) ≡ map (m.meant longs) items ++ meaning ∷ []
  one_more_meant longs more items item meaning all e =
      map-append (m.meant (longs ++ more)) items (item ∷ []) ∙
      ap (λ before. before ++ m.meant (longs ++ more) item ∷ []) (items_stay longs more items all) ∙
      ap (λ last. map (m.meant longs) items ++ last ∷ []) e

  -- what a push leaves
  pub pushed_meant : (old new : List Long) (before after : List Item) (item : Item) (meaning : Meant) → GrowsFrom old new → AreWithin old before →
      m.meant new item ≡ meaning → after ≡ before ++ item ∷ [] → map (m.meant new) after ≡ map (m.meant old) before ++ meaning ∷ []
  pushed_meant old new before after item meaning grows all e pushed =
      let P : List Long → Type 0 = λ longs. m.meant longs item ≡ meaning → map (m.meant longs) after ≡ map (m.meant old) before ++ meaning ∷ [] in
      subst P (sym grows.1)
      (λ told. ap (map (m.meant (old ++ grows.0))) pushed ∙ one_more_meant old grows.0 before item meaning all told) e

  pub pushed_within : (old new : List Long) (before after : List Item) (item : Item) → GrowsFrom old new → AreWithin old before →
      m.HasItsBytes (length new) item → after ≡ before ++ item ∷ [] → AreWithin new after
  pushed_within old new before after item grows all within pushed =
      let P : List Long → Type 0 = λ longs. m.HasItsBytes (length longs) item → AreWithin longs after in
      let Q : List Item → Type 0 = λ items. AreWithin (old ++ grows.0) items in
      subst P (sym grows.1) (λ told. subst Q (sym pushed) (one_more_within old grows.0 before item all told)) within

  pub kept_meant : (old new : List Long) (before after : List Item) → GrowsFrom old new → AreWithin old before → after ≡ before →
      map (m.meant new) after ≡ map (m.meant old) before
  kept_meant old new before after grows all same =
      let P : List Long → Type 0 = λ longs. map (m.meant longs) after ≡ map (m.meant old) before in
      subst P (sym grows.1) (ap (map (m.meant (old ++ grows.0))) same ∙ items_stay old grows.0 before all)

  pub kept_within : (old new : List Long) (before after : List Item) → GrowsFrom old new → AreWithin old before → after ≡ before → AreWithin new after
  kept_within old new before after grows all same =
      let P : List Long → Type 0 = λ longs. AreWithin longs after in
      let Q : List Item → Type 0 = λ items. AreWithin (old ++ grows.0) items in
      subst P (sym grows.1) (subst Q (sym same) (items_stay_within old grows.0 before all))
