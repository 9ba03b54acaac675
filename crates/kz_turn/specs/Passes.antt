-- What a pass and a hold mean.
use Rattle.std.specs.Prelude.{◌≡◌, ℕ, ◌<◌, List, [], ◌∷◌, ◌++◌, Any, Bool, true, false, length, slice_get, Option, None, Some}
use Rattle.std.proofs.lemmas.Bool.{false≢true}
use Rattle.atomic_table.specs.Seated.{TableId}
use Rattle.kz_turn.specs.declared.view.Stage.{Stage}
use Rattle.kz_turn.specs.declared.view.Stage.TheVariants.{Idle, Serves}
use Rattle.kz_turn.specs.declared.view.Ended.{Ended}
use Rattle.kz_turn.specs.declared.view.Sitting.{Sitting}
use Rattle.kz_turn.specs.declared.view.View.{View}
use Rattle.kz_turn.specs.declared.view.View.TheVariants.{Spent, Sits}
use Rattle.kz_turn.specs.Views.{noted_in}

-- the name of the turn, the number of the seat, the base of the value that was handed in, and the seat's own entries
pub record PassView (B E : Type 0) : Type 0 where
  pub name : TableId
  pub number : ℕ
  pub base : B
  pub own : List E

-- the same, and the journal of the value as it was handed out
pub record HeldView (B E : Type 0) : Type 0 where
  pub name : TableId
  pub number : ℕ
  pub base : B
  pub own : List E
  pub journal : List (ℕ × E)

module _ {B E : Type 0} where
  abbrev pub new_pass : TableId → ℕ → B → PassView B E
  new_pass name number base = record { name = name; number = number; base = base; own = [] }

  -- the passes of a new turn, in order
  abbrev pub AreNew : TableId → ℕ → B → List (PassView B E) → Type 0
  AreNew name seats base passes =
      (length passes ≡ seats) × ((k : ℕ) → k < seats → slice_get passes k ≡ Some (new_pass name k base))

  -- what the pass is while its seat holds a value with this journal
  abbrev pub hold_from : PassView B E → List (ℕ × E) → HeldView B E
  hold_from p journal = record { name = p.name; number = p.number; base = p.base; own = p.own; journal = journal }

  -- the journal is the one handed out and one more entry, of the hold's number
  abbrev pub AddsEntry : List (ℕ × E) → HeldView B E → E → Type 0
  AddsEntry journal h e = journal ≡ h.journal ++ (h.number, e) ∷ []

  -- the pass of the seat that had the value
  pub record IsSameSeat (h : HeldView B E) (p : PassView B E) : Type 0 where
    pub name : p.name ≡ h.name
    pub number : p.number ≡ h.number
    pub base : p.base ≡ h.base

  -- one of the passes has the number n
  abbrev pub HasNumber : List (PassView B E) → ℕ → Type 0
  HasNumber passes n = Any (λ p. p.number ≡ n) passes

-- what the fields of a pass and of a hold stand for
module _ {E : Type 0} where
  abbrev pub is_idle : Stage E → Bool
  is_idle Idle = true
  is_idle _ = false

  abbrev pub is_serving : Stage E → Bool
  is_serving (Serves t log) = true
  is_serving _ = false

module _ {B E : Type 0} where
  abbrev pub is_live : View B E → Bool
  is_live Spent = false
  is_live (Sits a) = true

  abbrev pub sitting_of : (v : View B E) → is_live v ≡ true → Sitting B E
  sitting_of Spent live = absurd (false≢true live)
  sitting_of (Sits a) live = a

  abbrev pub pass_of : TableId → Sitting B E → PassView B E
  pass_of name a = record { name = name; number = a.number; base = a.base; own = a.own }

  abbrev pub hold_of : TableId → Sitting B E → HeldView B E
  hold_of name a = record { name = name; number = a.number; base = a.base; own = a.own; journal = noted_in a.stage }

  -- a seat with the number n, which carries no slot and has no ticket
  abbrev pub IsResting : {S : Type 0} → List (ℕ × S) → Sitting B E → ℕ → Type 0
  IsResting carried a n = (carried ≡ []) × (is_idle a.stage ≡ true) × (a.number ≡ n)

  -- a seat with the number n, which carries the slot, whose value was taken out
  abbrev pub IsStaying : {T : Type 0} → List (ℕ × Option T) → Sitting B E → ℕ → Type 0
  IsStaying carried a n = (carried ≡ (0, None) ∷ []) × (is_serving a.stage ≡ true) × (a.number ≡ n)

  -- what seat 0 keeps of a pass that was joined into it
  abbrev pub ended_pass : PassView B E → Ended B E
  ended_pass p = record { number = p.number; base = p.base; own = p.own }
