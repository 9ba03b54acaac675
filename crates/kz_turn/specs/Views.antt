-- What is read of a seat's view, and what a step makes of it.
use Rattle.std.specs.Prelude.{◌≡◌, ℕ, ◌+◌, List, [], ◌∷◌, ◌++◌}
use mathlib.Core.Option.{Option, some, none}
use lib.ListN.{get_elem?}
use Rattle.kz_turn.specs.declared.view.Stage.{Stage}
use Rattle.kz_turn.specs.declared.view.Stage.TheVariants.{Idle, Waits, Serves}
use Rattle.kz_turn.specs.declared.view.Sitting.{Sitting}
use Rattle.kz_turn.specs.declared.view.Ended.{Ended}
use Rattle.kz_turn.specs.declared.view.View.{View}
use Rattle.kz_turn.specs.declared.view.View.TheVariants.{Spent, Sits}

module _ {E : Type 0} where
  abbrev pub ticket_in : Stage E → Option ℕ
  ticket_in Idle = none
  ticket_in (Waits t) = some t
  ticket_in (Serves t log) = some t

  -- the journal that was noted when the slot was taken
  abbrev pub noted_in : Stage E → List (ℕ × E)
  noted_in (Serves t log) = log
  noted_in _ = []

  abbrev pub IsServing : Stage E → Type 0
  IsServing (Serves t log) = Unit {0}
  IsServing _ = ⊥

abbrev pub one_if : Option ℕ → ℕ
one_if none = 0
one_if (some t) = 1

module _ {B E : Type 0} where
  abbrev pub ticket_of : View B E → Option ℕ
  ticket_of Spent = none
  ticket_of (Sits a) = ticket_in a.stage

  abbrev pub number_of : View B E → Option ℕ
  number_of Spent = none
  number_of (Sits a) = some a.number

  abbrev pub ended_number : Ended B E → Option ℕ
  ended_number p = some p.number

  -- 1 for a view with a ticket
  abbrev pub ticket_count : View B E → ℕ
  ticket_count v = one_if (ticket_of v)

  -- 1 for a view that is not spent
  abbrev pub seat_count : View B E → ℕ
  seat_count v = one_if (number_of v)

  -- the seat has taken the slot
  abbrev pub IsMarked : View B E → Type 0
  IsMarked Spent = ⊥
  IsMarked (Sits a) = IsServing a.stage

  -- some view is that of seat 0
  abbrev pub HasZeroth : List (View B E) → Type 0
  HasZeroth views = (j : ℕ) × (v : View B E) × (get_elem? views j ≡ some v) × (number_of v ≡ some 0)

-- no two have the same number, where they have any
abbrev pub Differ : {A : Type 0} → (A → Option ℕ) → List A → Type 0
Differ {A} f xs =
    (i j : ℕ) (v w : A) (n : ℕ)
    → get_elem? xs i ≡ some v
    → get_elem? xs j ≡ some w
    → f v ≡ some n
    → f w ≡ some n
    → i ≡ j

module _ {B E : Type 0} where
  -- the seat n, with no entry and no ticket
  abbrev pub new_sitting : ℕ → B → Sitting B E
  new_sitting n base = record { number = n; made = 1; base = base; own = []; ended = []; stage = Idle }

  abbrev pub new_view : ℕ → B → View B E
  new_view n base = Sits (new_sitting n base)

  abbrev pub at_stage : Sitting B E → Stage E → Sitting B E
  at_stage a stage = record a { stage = stage }

  -- with one more entry of its own, and no ticket
  abbrev pub with_entry : Sitting B E → E → Sitting B E
  with_entry a e = record a { own = a.own ++ e ∷ []; stage = Idle }

  -- seat 0, once it has made one more number
  abbrev pub split_left : View B E → View B E
  split_left Spent = Spent
  split_left (Sits a) = Sits (record a { made = a.made + 1 })

  -- the seat of that number
  abbrev pub split_right : View B E → View B E
  split_right Spent = Spent
  split_right (Sits a) = new_view a.made a.base

  abbrev pub ended_of : Sitting B E → Ended B E
  ended_of b = record { number = b.number; base = b.base; own = b.own }

  -- seat 0, once it has taken in another seat
  abbrev pub join_of : View B E → View B E → View B E
  join_of (Sits a) (Sits b) = Sits (record a { ended = a.ended ++ ended_of b ∷ [] })
  join_of v _ = v
