-- What a turn gives, once the passes of all its seats are joined into that of seat 0.
use Rattle.std.proofs.Common.{◌≡◌, ◌⊎◌, ℕ, ◌<◌, List, [], ◌∷◌, ◌++◌, length, arith, sym, refl, ap, ◌∙◌, subst, inl, inr, ⊎_elim, Option, Some}
use Rattle.std.specs.Prelude.{All, Contains, IsPermutation}
use Rattle.std.proofs.lemmas.List.Elements.{All-contains_itself, All-weaker}
use Rattle.std.proofs.lemmas.List.Sorted.{Contains-permutation}
use mathlib.Core.Option.{some, some-injective}
use mathlib.Core.Option as maybe
use lib.ListN.{get_elem?}
use Rattle.atomic_table.specs.Seated.{TableId}
use Rattle.atomic_table.specs.Table.{Me, Seen, Final}
use Rattle.atomic_table.proofs.Lists.{at_last, at_longer}
use Rattle.kz_turn.specs.declared.view.Stage.TheVariants.{Idle}
use Rattle.kz_turn.specs.declared.view.Sitting.{Sitting}
use Rattle.kz_turn.specs.declared.view.Ended.{Ended}
use Rattle.kz_turn.specs.declared.view.View.{View}
use Rattle.kz_turn.specs.declared.view.View.TheVariants.{Sits}
use Rattle.kz_turn.specs.Journal.{entries_of}
use Rattle.kz_turn.specs.Views.{join_of}
use Rattle.kz_turn.specs.Rule.{IsInTurn}
use Rattle.kz_turn.specs.Passes.{PassView, HasNumber, pass_of, ended_pass}
use Rattle.kz_turn.proofs.Steps.{ends}
use Rattle.kz_turn.proofs.Views.{same_value}
use Rattle.kz_turn.proofs.Passes.{still_there, contains_none, contains_front}

module _ {B E : Type 0} where
  -- seat 0 has kept the pass
  abbrev pub IsKept : List (Ended B E) → PassView B E → Type 0
  IsKept ended p = (j : ℕ) × (get_elem? ended j ≡ some (ended_pass p))

  -- each pass is that of seat 0, is still to be joined, or is kept
  abbrev pub AreAccounted : List (PassView B E) → TableId → Sitting B E → List (PassView B E) → Type 0
  AreAccounted all z a left = (p : PassView B E) → Contains all p → (p ≡ pass_of z a) ⊎ (Contains left p ⊎ IsKept a.ended p)

  -- before the first join, where q is the pass of seat 0
  pub accounted_first : (all left : List (PassView B E)) (z : TableId) (a : Sitting B E) (q : PassView B E) → IsPermutation all (q ∷ left) → q ≡ pass_of z a → AreAccounted all z a left
  accounted_first all left z a q same is p there =
      ⊎_elim (λ (t : p ≡ q). inl (t ∙ is)) (λ (t : Contains left p). inr (inl t)) (contains_front q left p (Contains-permutation all (q ∷ left) p same there))

  -- one join more
  pub accounted_more : (all left left' : List (PassView B E)) (z : TableId) (a : Sitting B E) (q : PassView B E) → left ≡ left' ++ q ∷ [] → AreAccounted all z a left → AreAccounted all z (record a { ended = a.ended ++ ended_pass q ∷ [] }) left'
  accounted_more all left left' z a q is before p there =
      ⊎_elim (λ (t : p ≡ pass_of z a). inl t)
      (λ (u : Contains left p ⊎ IsKept a.ended p). inr (⊎_elim
      (λ (t : Contains left p). ⊎_elim
      (λ (e : p ≡ q). inr (length a.ended, at_last a.ended (ended_pass q) (length a.ended) refl ∙ ap (λ (r : PassView B E). some (ended_pass r)) (sym e)))
      (λ (e : Contains left' p). inl e)
      (still_there left left' p q is t))
      (λ (t : IsKept a.ended p). inr (t.0, at_longer a.ended (ended_pass q ∷ []) t.0 (ended_pass p) t.1))
      u))
      (before p there)

  pub joining : {S : Type 0} → (m m' : Me S (View B E)) (w : View B E) (a b : Sitting B E) (z : TableId) (p : PassView B E) → m ≡ (Sits a, []) → w ≡ Sits b → m' ≡ (join_of m.0 w, m.1) → pass_of z b ≡ p
      → m' ≡ (Sits (record a { ended = a.ended ++ ended_pass p ∷ [] }), [])
  joining {S} m m' w a b z p is is_b after pass_is = after ∙ ((λ i. (join_of ((is i).0) (is_b i), (is i).1)) ∙ ap (λ (q : PassView B E). (Sits (record a { ended = a.ended ++ ended_pass q ∷ [] }), [])) pass_is)

-- what the value x that was closed is to its passes
pub record IsClosed {T B E : Type 0} (base : T → B) (journal : T → List (ℕ × E)) (all : List (PassView B E)) (x : T) : Type 0 where
  pub base_is : All (λ p. base x ≡ p.base) all
  pub own : All (λ p. entries_of p.number (journal x) ≡ p.own) all
  pub numbers : All (λ y. HasNumber all y.0) (journal x)

-- the slot of a closed table has the value x, so what comes out of it is x
pub came_out : {T B E : Type 0} (base : T → B) (journal : T → List (ℕ × E)) (all : List (PassView B E)) (xs : List (Option T)) (slot : Option T) (x y : T) → get_elem? xs 0 ≡ some (Some x) → get_elem? xs 0 ≡ some slot → slot ≡ Some y
    → IsClosed base journal all x → IsClosed base journal all y
came_out base journal all xs slot x y there taken is known = subst (IsClosed base journal all) (same_value x y (some-injective (Some x) slot (sym there ∙ taken) ∙ is)) known

module _ {T B E : Type 0} (base : T → B) (journal : T → List (ℕ × E)) (start : B) (seats : ℕ) where
  all_kept : (all left : List (PassView B E)) (z : TableId) (a : Sitting B E) → a.number ≡ 0 → length left ≡ 0 → AreAccounted all z a left → ((n : ℕ) → n < seats → HasNumber all n)
      → (n : ℕ) → 0 < n → n < seats → (k : ℕ) × (p : Ended B E) × (get_elem? a.ended k ≡ some p) × (p.number ≡ n)
  all_kept all left z a zeroth none each covered n more few =
      let it = covered n few in
      ⊎_elim (λ (t : it.1 ≡ pass_of z a). absurd (let e : it.1.number ≡ a.number = ap (λ (p : PassView B E). p.number) t in let f = it.4 in omega arith))
      (λ (u : Contains left it.1 ⊎ IsKept a.ended it.1). ⊎_elim
      (λ (t : Contains left it.1). absurd (contains_none left it.1 none t))
      (λ (t : IsKept a.ended it.1). (t.0, ended_pass it.1, t.1, it.4))
      u)
      (each it.1 (it.0, it.2, it.3))

  pub closed : (id : ℕ) (m : Me (Option T) (View B E)) (a : Sitting B E) (z : TableId) (all left : List (PassView B E)) (ws : List ℕ) (xs : List (Option T)) → m ≡ (Sits a, [])
      → Final (Seen (IsInTurn base journal start seats) id m.0) ws xs → a.stage ≡ Idle → a.number ≡ 0 → length left ≡ 0 → AreAccounted all z a left → ((n : ℕ) → n < seats → HasNumber all n)
      → (x : T) × (get_elem? xs 0 ≡ some (Some x)) × IsClosed base journal all x
  closed id m a z all left ws xs is final idle zeroth none each covered =
      let seen = subst (λ (k : Me (Option T) (View B E)). Seen (IsInTurn base journal start seats) id k.0 final.0) is final.1 in
      let known = ends base journal start seats final.0 id a seen idle zeroth (all_kept all left z a zeroth none each covered) in
      let home = known.1 in let log = home.journal_is in
      let meets : (p : PassView B E) → Contains all p → (base home.value ≡ p.base) × (entries_of p.number (journal home.value) ≡ p.own) = λ p there.
      ⊎_elim (λ (t : p ≡ pass_of z a).
      let P : PassView B E → Type 0 = λ q. (base home.value ≡ q.base) × (entries_of q.number (journal home.value) ≡ q.own) in
      subst P (sym t) (home.base_is ∙ sym known.3, (λ i. entries_of (zeroth i) (log i)) ∙ known.2))
      (λ (u : Contains left p ⊎ IsKept a.ended p). ⊎_elim
      (λ (t : Contains left p). absurd (contains_none left p none t))
      (λ (t : IsKept a.ended p). let it = known.4 t.0 (ended_pass p) t.1 in (home.base_is ∙ sym it.1, ap (entries_of p.number) log ∙ it.0))
      u)
      (each p there) in (
        home.value,
        final.4 0 (Some home.value) (ap (λ (hs : List (maybe.Option (Option T))). get_elem? hs 0) home.home),
        record {
          base_is = All-weaker (Contains all) (λ p. base home.value ≡ p.base) (λ p there. (meets p there).0) all (All-contains_itself all);
          own = All-weaker (Contains all) (λ p. entries_of p.number (journal home.value) ≡ p.own) (λ p there. (meets p there).1) all (All-contains_itself all);
          numbers = All-weaker (λ y. y.0 < seats) (λ y. HasNumber all y.0) (λ y below. covered y.0 below) (journal home.value) (subst (All (λ (y : ℕ × E). y.0 < seats)) (sym log) known.5);
        },
      )
