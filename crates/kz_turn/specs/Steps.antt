-- What a draw, a look and a raise tell the seat that steps.
-- `m` is the seat before the step and `m'` the seat after it, each its view and the slots that it holds. `n` is the
-- word that the step found.
use Rattle.std.specs.Prelude.{◌≡◌, ◌≢◌, ℕ, List, [], ◌∷◌, ◌++◌, Option, Some}
use Rattle.atomic_table.specs.Table.{Me, Step}
use Rattle.kz_turn.specs.declared.view.Stage.TheVariants.{Waits, Serves}
use Rattle.kz_turn.specs.declared.view.Sitting.{Sitting}
use Rattle.kz_turn.specs.declared.view.View.{View}
use Rattle.kz_turn.specs.declared.view.View.TheVariants.{Sits}
use Rattle.kz_turn.specs.Journal.{entries_of}
use Rattle.kz_turn.specs.Views.{at_stage, with_entry, noted_in}

module _ {B E : Type 0} where
  -- the seat has the ticket that was next
  abbrev pub Draws : {S : Type 0} → Step S → Me S (View B E) → ℕ → Me S (View B E) → Type 0
  Draws st m n m' = (a : Sitting B E) → m.0 ≡ Sits a → m' ≡ (Sits (at_stage a (Waits n)), m.1)

module _ {T B E : Type 0} (base : T → B) (journal : T → List (ℕ × E)) where
  -- the seat a with the ticket t has taken the slot, and noted the journal of its value
  pub record TakesSlot (m m' : Me (Option T) (View B E)) (a : Sitting B E) (t : ℕ) : Type 0 where
    pub value : T
    pub now : m' ≡ (Sits (at_stage a (Serves t (journal value))), (0, Some value) ∷ m.1)
    pub base_is : base value ≡ a.base
    pub own : entries_of a.number (journal value) ≡ a.own

  -- a seat whose ticket is served takes the slot, and else nothing changes
  abbrev pub Looks : Step (Option T) → Me (Option T) (View B E) → ℕ → Me (Option T) (View B E) → Type 0
  Looks st m n m' =
      (a : Sitting B E) (t : ℕ)
      → m.0 ≡ Sits (at_stage a (Waits t))
      → (n ≡ t → TakesSlot m m' a t) × (n ≢ t → m' ≡ m)

  -- the seat a holds a value whose journal is the noted one and the entry e of its own number
  abbrev pub HoldsMore : Me (Option T) (View B E) → Sitting B E → E → Type 0
  HoldsMore m a e = (x : T) × (base x ≡ a.base) × (journal x ≡ noted_in a.stage ++ (a.number, e) ∷ []) ×
      (m.1 ≡ (0, Some x) ∷ [])

  -- the slot has gone home, the ticket is gone, and the seat's list got the entry
  abbrev pub Raises : Step (Option T) → Me (Option T) (View B E) → ℕ → Me (Option T) (View B E) → Type 0
  Raises st m n m' = (a : Sitting B E) (e : E) → m.0 ≡ Sits a → HoldsMore m a e → m' ≡ (Sits (with_entry a e), [])
