-- Slots of gifts, and the table that finds them.
use Rattle.std.specs.Prelude.{◌≡◌, ℕ, ◌+◌, ◌<◌, ◌≤◌, Bool, true, ◌&&◌, not, nat_eq, nat_lt, List, length, map, Option, None, Some, IfSome, slice_index_or}
use Rattle.std.specs.List.{filter}
use Rattle.std.specs.Map.{lookup}
use Rattle.kz_model.specs.Zone.State.{Gift}
use Rattle.kz_zone.specs.declared.slots.Slot.{Slot}
use Rattle.kz_zone.specs.declared.slots.Ends.{Ends}

-- for how many gifts there is room, how many came, and those that aren't taken, the oldest first
pub record Slots : Type 0 where
  pub room : ℕ
  pub used : ℕ
  pub gifts : List Gift

abbrev pub is_free : Slot → Bool
is_free slot = not slot.taken

-- the CPU and the name that a slot's gift is for
abbrev pub key_of : Slot → ℕ × ℕ
key_of slot = (slot.gift.to, slot.gift.name)

-- the gifts that aren't taken
abbrev pub gifts_in : List Slot → List Gift
gifts_in slots = map (λ slot. slot.gift) (filter is_free slots)

abbrev pub no_slot : Slot
no_slot = record {
  gift = record { to = 0; name = 0; block = record { chunk = 0; index = 0 } };
  taken = true;
  next =
      None;
}

abbrev pub slot_at : List Slot → ℕ → Slot
slot_at slots place = slice_index_or slots place no_slot

abbrev pub key_at : List Slot → ℕ → ℕ × ℕ
key_at slots place = key_of (slot_at slots place)

abbrev pub same_key : ℕ × ℕ → ℕ × ℕ → Bool
same_key a b = nat_eq a.0 b.0 && nat_eq a.1 b.1

-- no gift behind the one place and before the other is for the key
abbrev pub NoneBetween : List Slot → ℕ × ℕ → ℕ → ℕ → Type 0
NoneBetween slots key low high = (place : ℕ) → low < place → place < high → key_at slots place ≡ key → ⊥

-- where the next gift for the same key as that at the place stands
abbrev pub IsNextSlot : List Slot → ℕ → Option ℕ → Type 0
IsNextSlot slots place None = NoneBetween slots (key_at slots place) place (length slots)
IsNextSlot slots place (Some next) =
    (place < next) × (next < length slots) × (key_at slots next ≡ key_at slots place) ×
    NoneBetween slots (key_at slots place) place next

-- whether a place is before the first that isn't taken
abbrev pub is_before : ℕ → Option ℕ → Bool
is_before place None = true
is_before place (Some first) = nat_lt place first

-- where the gifts for a key begin and end
pub record AreEnds (slots : List Slot) (key : ℕ × ℕ) (ends : Ends) : Type 0 where
  pub first : IfSome ends.first (λ first. (first < length slots) × (key_at slots first ≡ key))
  pub taken : (place : ℕ) → place < length slots → key_at slots place ≡ key → (slot_at slots place).taken
      ≡ is_before place ends.first
  pub last : ends.last < length slots
  pub last_key : key_at slots ends.last ≡ key
  pub none_behind : NoneBetween slots key ends.last (length slots)

-- what the table has for a key
abbrev pub IsFound : List Slot → ℕ × ℕ → Option Ends → Type 0
IsFound slots key None = (place : ℕ) → place < length slots → key_at slots place ≡ key → ⊥
IsFound slots key (Some ends) = AreEnds slots key ends

pub record AreLinked (slots : List Slot) (index : List ((ℕ × ℕ) × Ends)) : Type 0 where
  pub next : (place : ℕ) → place < length slots → IsNextSlot slots place (slot_at slots place).next
  pub found : (key : ℕ × ℕ) → IsFound slots key (lookup (same_key key) index)

-- what slots keep: the room is within what the list and the table can take
pub record AreSlots (room list_room table_room : ℕ) (slots : List Slot) (index : List ((ℕ × ℕ) × Ends)) : Type 0 where
  pub linked : AreLinked slots index
  pub few : length slots ≤ room
  pub list : room ≤ list_room
  pub keys : length index ≤ length slots
  pub table : room ≤ length index + table_room
