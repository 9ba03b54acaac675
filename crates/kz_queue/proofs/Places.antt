-- The lowest ordinal at a place, by what stands where.
use Rattle.std.proofs.Common.{◌≡◌, ℕ, ◌*◌, ◌^◌, ◌/◌, ◌%◌, ◌<◌, ◌≤◌, ◌==◌, ◌&&◌, nat_lt, Bool, true, false, if◌then◌else◌, List, [], length, slice_index_or, replicate, Option, Some, None, IfSome, IfNone, refl, sym, ap, subst, ◌∙◌, arith}
use Rattle.std.specs.List.{position_or_len}
use Rattle.std.proofs.lemmas.List.Sums.{position_or_len_is}
use Rattle.std.specs.Int.{bit_at}
use Rattle.std.proofs.lemmas.List.{length-replicate, get_or-replicate}
use Rattle.std.proofs.lemmas.Nat.Bits.{bit_at-zero}
use Rattle.std.proofs.lemmas.Bool.{ltb-true, lt-ltb, le-ltb}
use Rattle.kz_queue.specs.declared.place.Place.{Place}
use Rattle.kz_queue.specs.declared.place.Place.TheVariants.{Gone}
use Rattle.kz_queue.specs.Shelf.{is_place, lowest_at}
use Rattle.kz_queue.specs.Ordinals.{has}
use Rattle.kz_queue.specs.Sets.{IsShelf, set_of, stands}
use Rattle.kz_queue.specs.declared.sets.Sets.{Sets}

both_true : (a b : Bool) → (a && b) ≡ true → (a ≡ true) × (b ≡ true)
both_true true b h = (refl, h)
both_true false true h = (h, refl)
both_true false false h = (h, h)

second_false : (a b : Bool) → a ≡ true → (a && b) ≡ false → b ≡ false
second_false a b is h = ap (λ t. t && b) (sym is) ∙ h

-- the place of the first that passes, by its number
found : (places : List Place) (place : Place) (at : ℕ) → position_or_len (is_place place) places ≡ at →
    lowest_at place places ≡ (if nat_lt at (length places) then Some at else None)
found places place at is = ap (λ n. if nat_lt n (length places) then Some n else None) is

pub lowest_is : (places : List Place) (place : Place) (ordinal : ℕ) → stands places place ordinal ≡ true → ((other : ℕ) → other < ordinal → stands places place other ≡ false) → Some ordinal ≡ lowest_at place places
lowest_is places place ordinal here before =
    let both = both_true (nat_lt ordinal (length places)) (is_place place (slice_index_or places ordinal Gone)) here in
    let within : ordinal < length places = ltb-true ordinal (length places) both.0 in
    let first : position_or_len (is_place place) places ≡ ordinal =
    position_or_len_is (is_place place) places ordinal Gone (omega (arith, within))
    (λ k lt. second_false (nat_lt k (length places)) (is_place place (slice_index_or places k Gone)) (lt-ltb k (length places) (omega (arith, lt, within))) (before k lt)) (λ lt. both.1) in
    sym (found places place ordinal first ∙ ap (λ t. if t then Some ordinal else None) both.0)

pub lowest_none : (places : List Place) (place : Place) → ((ordinal : ℕ) → ordinal < length places → stands places place ordinal ≡ false) → None ≡ lowest_at place places
lowest_none places place none =
    let first : position_or_len (is_place place) places ≡ length places =
    position_or_len_is (is_place place) places (length places) Gone (omega arith)
    (λ k lt. second_false (nat_lt k (length places)) (is_place place (slice_index_or places k Gone)) (lt-ltb k (length places) lt) (none k lt)) (λ lt. absurd (omega (arith, lt))) in
    sym (found places place (length places) first ∙ ap (λ t. if t then Some (length places) else None) (not_less (length places)))
  where
    not_less : (n : ℕ) → nat_lt n n ≡ false
    not_less n = le-ltb n n (omega arith)

-- what the sets say of the lowest is what the places say
pub lowest_of_sets : (room capacity : ℕ) (places : List Place) (sets : Sets) (place : Place) (result : Option ℕ) → IsShelf room capacity places sets →
    IfSome result (λ ordinal. (has (set_of sets place) ordinal ≡ true) × ((other : ℕ) → other < ordinal → has (set_of sets place) other ≡ false)) →
    IfNone result ((ordinal : ℕ) → ordinal < 64 * length (set_of sets place) → has (set_of sets place) ordinal ≡ false) →
    IfSome result (λ ordinal. ordinal < 64 * length (set_of sets place)) → result ≡ lowest_at place places
lowest_of_sets room capacity places sets place None s some none within =
    lowest_none places place (λ ordinal lt. let far : ordinal < 64 * length (set_of sets place) = omega (arith, lt, s.fit, s.have_room place) in sym (s.are_sets place ordinal far) ∙ none ordinal far)
lowest_of_sets room capacity places sets place (Some ordinal) s some none within =
    lowest_is places place ordinal (sym (s.are_sets place ordinal within) ∙ some.0) (λ other lt. sym (s.are_sets place other (omega (arith, lt, within))) ∙ some.1 other lt)

-- no ordinal stands anywhere before the first has a place
none_stands : (place : Place) (ordinal : ℕ) → stands [] place ordinal ≡ false
none_stands place ordinal = ap (λ test. test && is_place place (slice_index_or [] ordinal Gone)) (le-ltb ordinal 0 (omega arith))

pub opened : (room capacity words : ℕ) (places : List Place) (sets : Sets) → places ≡ [] → room < 2 ^ 32 → room ≤ capacity → room ≤ 64 * words → ((place : Place) → set_of sets place ≡ replicate words 0) → IsShelf room capacity places sets
opened room capacity words places sets none most enough fit are =
    record {
      most = most;
      fit = subst (λ (l : List Place). length l ≤ room) (sym none) (omega arith);
      enough = enough;
      have_room = λ place. omega (arith, fit, ap length (are place), length-replicate {A = ℕ} words 0);
      are_sets = λ place ordinal lt.
          let below : ordinal / 64 < words = omega (arith, lt, ap length (are place), length-replicate {A = ℕ} words 0) in
          ap (λ (l : List ℕ). has l ordinal) (are place)
          ∙ ap (λ word. bit_at word (ordinal % 64) == 1) (get_or-replicate words (ordinal / 64) 0 0 below)
          ∙ ap (λ n. n == 1) (bit_at-zero (ordinal % 64))
          ∙ sym (ap (λ (l : List Place). stands l place ordinal) none ∙ none_stands place ordinal);
    }
