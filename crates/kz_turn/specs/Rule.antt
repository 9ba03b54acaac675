-- The rule of the table, which holds between any two steps.
-- Word 0 is the next ticket, and word 1 the ticket that is served.
-- There is one slot. It has the value, unless a seat has taken it.
use Rattle.std.specs.Prelude.{◌≡◌, ◌≢◌, ◌⊎◌, ℕ, ◌+◌, ◌^◌, ◌<◌, ◌≤◌, List, [], ◌∷◌, length, sum_by, Option, Some}
use mathlib.Core.Option.{some, none}
use mathlib.Core.Option as maybe
use lib.ListN.{get_elem?}
use Rattle.atomic_table.specs.Table.{State}
use Rattle.kz_turn.specs.declared.view.Stage.{Stage}
use Rattle.kz_turn.specs.declared.view.Stage.TheVariants.{Idle, Waits, Serves}
use Rattle.kz_turn.specs.declared.view.Sitting.{Sitting}
use Rattle.kz_turn.specs.declared.view.Ended.{Ended}
use Rattle.kz_turn.specs.declared.view.View.{View}
use Rattle.kz_turn.specs.declared.view.View.TheVariants.{Spent, Sits}
use Rattle.kz_turn.specs.Journal.{entries_of}
use Rattle.kz_turn.specs.Views.{number_of, ticket_of, ended_number, seat_count, ticket_count, IsMarked, HasZeroth, Differ}

-- `log` is the journal of record, and `next` the next ticket
module _ {T E : Type 0} (log : List (ℕ × E)) (next : ℕ) (homes : List (maybe.Option (Option T))) where
  -- a seat's ticket is not below the one that is served,
  -- or is that one, while the slot is out and the journal of record is the noted one
  abbrev pub Stands : Stage E → Type 0
  Stands Idle = Unit {0}
  Stands (Waits t) = (length log ≤ t) × (t < next)
  Stands (Serves t noted) = (t ≡ length log) × (t < next) × (noted ≡ log) × (homes ≡ none ∷ [])

  -- `start` is the base of the value that was handed in, `made` how many numbers were made,
  -- and `ended` the seats that were joined into seat 0
  module _ {B : Type 0} (start : B) (made : ℕ) (ended : List (Ended B E)) where
    pub record SitsWell (a : Sitting B E) : Type 0 where
      pub base : a.base ≡ start
      pub number : a.number < made
      pub own : entries_of a.number log ≡ a.own
      pub first : a.number ≡ 0 → (a.made ≡ made) × (a.ended ≡ ended)
      pub stands : Stands a.stage

    abbrev pub Knows : View B E → Type 0
    Knows Spent = Unit {0}
    Knows (Sits a) = SitsWell a

-- a seat that was joined into seat 0: its list is that of its number, and no view has the number any more
pub record IsEnded {B E : Type 0} (start : B) (log : List (ℕ × E)) (made : ℕ) (views : List (View B E))
    (p : Ended B E) : Type 0 where
  pub base : p.base ≡ start
  pub below : p.number < made
  pub own : entries_of p.number log ≡ p.own
  pub gone : (j : ℕ) (v : View B E) → get_elem? views j ≡ some v → number_of v ≢ some p.number

-- the slot has a value, whose journal is the journal of record
module _ {T B E : Type 0} (base : T → B) (journal : T → List (ℕ × E)) (start : B) where
  pub record AtHome (log : List (ℕ × E)) (homes : List (maybe.Option (Option T))) : Type 0 where
    pub value : T
    pub home : homes ≡ some (Some value) ∷ []
    pub base_is : base value ≡ start
    pub journal_is : journal value ≡ log

-- the slot is out, and a seat is marked
pub record IsOut {T B E : Type 0} (homes : List (maybe.Option (Option T))) (views : List (View B E)) : Type 0 where
  pub out : homes ≡ none ∷ []
  pub seat : ℕ
  pub view : View B E
  pub here : get_elem? views seat ≡ some view
  pub marked : IsMarked view

-- Of a turn of so many seats, whose value was handed in with the base `start`:
--   `words`: the ticket that is served is the number of entries in the journal of record,
--     and the next ticket is larger by the number of views with a ticket;
--   `short`, `few`, `room`: no word comes near its end;
--   `tickets`, `Stands`: tickets differ, and that of a marked view is the one that is served, so one view at most is
-- marked;
--   `numbers`, `apart`, `IsEnded`, `counted`: the numbers of views and of ended seats differ, are below `made`,
--     and are as many, so they are all the numbers that were made;
--   `zeroth`, `SitsWell`: one of the views is that of seat 0, which knows `made` and `ended`;
--   `SitsWell`, `IsEnded`, `unmade`: the list of each view and of each ended seat is what the journal of record has of
-- its number,
--     and it has nothing of numbers that are not made yet;
--   `slot`: the slot has a value with that base and that journal, or is out while a seat is marked.
pub record IsInTurn {T B E : Type 0} (base : T → B) (journal : T → List (ℕ × E)) (start : B) (seats : ℕ)
    (s : State (Option T) (View B E)) : Type 0 where
  pub log : List (ℕ × E)
  pub made : ℕ
  pub ended : List (Ended B E)
  pub words : s.words ≡ (length log + sum_by ticket_count s.views) ∷ length log ∷ []
  pub short : length log < 2 ^ 62
  pub counted : sum_by seat_count s.views + length ended ≡ made
  pub few : made ≤ seats
  pub room : seats < 2 ^ 32
  pub numbers : Differ number_of s.views
  pub tickets : Differ ticket_of s.views
  pub each_view : (j : ℕ) (v : View B E) → get_elem? s.views j ≡ some v →
      Knows log (length log + sum_by ticket_count s.views) s.homes start made ended v
  pub zeroth : HasZeroth s.views
  pub apart : Differ ended_number ended
  pub each_ended : (k : ℕ) (p : Ended B E) → get_elem? ended k ≡ some p → IsEnded start log made s.views p
  pub unmade : (n : ℕ) → made ≤ n → entries_of n log ≡ []
  pub slot : AtHome base journal start log s.homes ⊎ IsOut s.homes s.views
