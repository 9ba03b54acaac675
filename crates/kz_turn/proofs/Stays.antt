-- From a draw to the slot in hand, and from the slot in hand to the raise.
use Rattle.std.proofs.Common.{◌≡◌, ◌≢◌, ℕ, List, [], ◌∷◌, ◌++◌, sym, ap, ◌∙◌, subst, true, Option, Some, None}
use Rattle.atomic_table.specs.Seated.{TableId}
use Rattle.atomic_table.specs.Table.{Me, rest}
use Rattle.kz_turn.specs.declared.view.Stage.TheVariants.{Waits, Serves}
use Rattle.kz_turn.specs.declared.view.Sitting.{Sitting}
use Rattle.kz_turn.specs.declared.view.View.{View}
use Rattle.kz_turn.specs.declared.view.View.TheVariants.{Sits}
use Rattle.kz_turn.specs.Journal.{entries_of}
use Rattle.kz_turn.specs.Views.{at_stage, with_entry, noted_in}
use Rattle.kz_turn.specs.Steps.{TakesSlot, HoldsMore}
use Rattle.kz_turn.specs.Passes.{PassView, HeldView, AddsEntry, hold_from, hold_of, pass_of, is_live, sitting_of}
use Rattle.kz_turn.proofs.Views.{sits_is}

abbrev first_or : {S : Type 0} → S → List (ℕ × S) → S
first_or d [] = d
first_or d (p ∷ ps) = p.1

module _ {S B E : Type 0} where
  -- a seat with one slot in hand may exchange it
  pub in_hand : (m : Me S (View B E)) (w : View B E) (x : S) → m ≡ (w, (0, x) ∷ []) → m.1 ≡ (0, x) ∷ rest m.1
  in_hand m w x is = ap (λ (k : Me S (View B E)). k.1) is ∙ sym (ap (λ (k : Me S (View B E)). (0, x) ∷ rest k.1) is)

  -- it finds what the seat had
  pub found : (m : Me S (View B E)) (w : View B E) (x y : S) → m ≡ (w, (0, x) ∷ []) → m.1 ≡ (0, y) ∷ rest m.1 → y ≡ x
  found m w x y is has = sym (ap (first_or x) has) ∙ ap (λ (k : Me S (View B E)). first_or x k.1) is

  -- and the seat then has what it put there
  pub in_other_order : (m m' : Me S (View B E)) (w : View B E) (x y : S) → m ≡ (w, (0, x) ∷ []) → m' ≡ (m.0, (0, y) ∷ rest m.1) → m' ≡ (w, (0, y) ∷ [])
  in_other_order m m' w x y is after = after ∙ ap (λ (k : Me S (View B E)). (k.0, (0, y) ∷ rest k.1)) is

  -- the seat of a pass, once it has drawn the ticket t, as a loop that changes nothing finds it
  pub waiting : (m m' l : Me S (View B E)) (live : is_live m.0 ≡ true) (t : ℕ) → m.1 ≡ []
      → ((b : Sitting B E) → m.0 ≡ Sits b → m' ≡ (Sits (at_stage b (Waits t)), m.1)) → l ≡ m'
      → l ≡ (Sits (at_stage (sitting_of m.0 live) (Waits t)), [])
  waiting m m' l live t none drawn same =
      let a : Sitting B E = sitting_of m.0 live in
      same ∙ (drawn a (sits_is m.0 live) ∙ ap (λ (c : List (ℕ × S)). (Sits (at_stage a (Waits t)), c)) none)

module _ {T B E : Type 0} where
  -- the seat of a hold, once it has put the value x into the slot
  pub filled : (m m' : Me (Option T) (View B E)) (live : is_live m.0 ≡ true) (x : T) → m.1 ≡ (0, None) ∷ [] → m' ≡ (m.0, (0, Some x) ∷ rest m.1) → m' ≡ (Sits (sitting_of m.0 live), (0, Some x) ∷ [])
  filled m m' live x out after = in_other_order m m' (Sits (sitting_of m.0 live)) None (Some x) (λ i. (sits_is m.0 live i, out i)) after

module _ {T B E : Type 0} (journal : T → List (ℕ × E)) where
  -- what the value's journal is, as the sitting of the hold h has it
  pub adds_to : (z : TableId) (a : Sitting B E) (h : HeldView B E) (x : T) (e : E) → hold_of z a ≡ h → AddsEntry (journal x) h e → journal x ≡ noted_in a.stage ++ (a.number, e) ∷ []
  adds_to z a h x e seen adds = subst (λ (y : HeldView B E). AddsEntry (journal x) y e) (sym seen) adds

module _ {T B E : Type 0} (base : T → B) (journal : T → List (ℕ × E)) where
  -- the seat a with the ticket t has the value in hand
  pub record HasValue (m : Me (Option T) (View B E)) (a : Sitting B E) (t : ℕ) : Type 0 where
    pub value : T
    pub now : m ≡ (Sits (at_stage a (Serves t (journal value))), (0, Some value) ∷ [])
    pub base_is : base value ≡ a.base
    pub own : entries_of a.number (journal value) ≡ a.own

  -- m is the seat of a pass, m' the same once it has drawn t, l as it waits, and n what its look found
  pub entered : (m m' l k : Me (Option T) (View B E)) (live : is_live m.0 ≡ true) (t n : ℕ) → m.1 ≡ []
      → ((b : Sitting B E) → m.0 ≡ Sits b → m' ≡ (Sits (at_stage b (Waits t)), m.1)) → l ≡ m'
      → ((b : Sitting B E) (u : ℕ) → l.0 ≡ Sits (at_stage b (Waits u)) → (n ≡ u → TakesSlot base journal l k b u) × (n ≢ u → k ≡ l))
      → n ≡ t
      → HasValue k (sitting_of m.0 live) t
  entered m m' l k live t n none drawn same looks hit =
      let now = waiting m m' l live t none drawn same in
      let it = (looks (sitting_of m.0 live) t (ap (λ (x : Me (Option T) (View B E)). x.0) now)).0 hit in
      record {
        value = it.value;
        now = it.now ∙ ap (λ (x : Me (Option T) (View B E)). (Sits (at_stage (sitting_of m.0 live) (Serves t (journal it.value))), (0, Some it.value) ∷ x.1)) now;
        base_is = it.base_is;
        own = it.own;
      }

  -- a look at another ticket leaves the seat as it drew
  pub missed : (m m' l k : Me (Option T) (View B E)) (live : is_live m.0 ≡ true) (t n : ℕ) → m.1 ≡ []
      → ((b : Sitting B E) → m.0 ≡ Sits b → m' ≡ (Sits (at_stage b (Waits t)), m.1)) → l ≡ m'
      → ((b : Sitting B E) (u : ℕ) → l.0 ≡ Sits (at_stage b (Waits u)) → (n ≡ u → TakesSlot base journal l k b u) × (n ≢ u → k ≡ l))
      → n ≢ t
      → k ≡ m'
  missed m m' l k live t n none drawn same looks miss =
      let now = waiting m m' l live t none drawn same in
      (looks (sitting_of m.0 live) t (ap (λ (x : Me (Option T) (View B E)). x.0) now)).1 miss ∙ same

  -- m is the seat of the hold h, m' the same once the slot has the value x, and k once it has raised
  pub left : (m m' k : Me (Option T) (View B E)) (live : is_live m.0 ≡ true) (z : TableId) (h : HeldView B E) (x : T) (e : E)
      → hold_of z (sitting_of m.0 live) ≡ h → m.1 ≡ (0, None) ∷ [] → m' ≡ (m.0, (0, Some x) ∷ rest m.1)
      → ((b : Sitting B E) (f : E) → m'.0 ≡ Sits b → HoldsMore base journal m' b f → k ≡ (Sits (with_entry b f), []))
      → base x ≡ h.base → AddsEntry (journal x) h e
      → k ≡ (Sits (with_entry (sitting_of m.0 live) e), [])
  left m m' k live z h x e seen out after raised base_is adds =
      let a : Sitting B E = sitting_of m.0 live in
      let has = filled m m' live x out after in
      raised a e (ap (λ (y : Me (Option T) (View B E)). y.0) has)
      (x, base_is ∙ sym (ap (λ (y : HeldView B E). y.base) seen), adds_to journal z a h x e seen adds, ap (λ (y : Me (Option T) (View B E)). y.1) has)

-- y is the value that came out of the slot, and z and z' name the turn; a is the sitting of the pass p, and b that of the hold
module _ {T B E : Type 0} (base : T → B) (journal : T → List (ℕ × E)) (z : TableId) (a : Sitting B E) (p : PassView B E) (x y : T) (seen : pass_of z a ≡ p) (same : y ≡ x) where
  pub held_is : (z' : TableId) (b : Sitting B E) (t : ℕ) → z' ≡ z → b ≡ at_stage a (Serves t (journal x)) → hold_of z' b ≡ hold_from p (journal y)
  held_is z' b t name at_b = (λ i. hold_of (name i) (at_b i)) ∙ (λ i. hold_from (seen i) (journal (sym same i)))

  pub base_is : base x ≡ a.base → base y ≡ p.base
  base_is kept = ap base same ∙ (kept ∙ ap (λ (q : PassView B E). q.base) seen)

  pub own_is : entries_of a.number (journal x) ≡ a.own → entries_of p.number (journal y) ≡ p.own
  own_is own = (λ i. entries_of (sym seen i).number (journal (same i))) ∙ (own ∙ ap (λ (q : PassView B E). q.own) seen)
