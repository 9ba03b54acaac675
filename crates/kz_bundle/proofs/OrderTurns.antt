-- The turns of an order, one after the other.
use Rattle.std.proofs.Common.{◌≡◌, ℕ, ◌+◌, ◌-◌, ◌<◌, List, length}
use Rattle.std.specs.List.{All}
use Rattle.kz_model.specs.declared.bundle.OrderLine.{OrderLine}
use Rattle.kz_model.specs.Grammar.Form.{Section}
use Rattle.kz_model.specs.Grammar.Stages.{order_from, left_in}
use Rattle.kz_bundle.specs.Parts.{IsTurnWithin}
use Rattle.kz_bundle.specs.Rounds.{AreTables}

-- the turns ahead, in this round with these steps left, have the fault of all turns
pub record IsWalked (tables : List (List ℕ)) (turns : List OrderLine) (rounds order_at : ℕ) (left : List ℕ) (ahead : List OrderLine) (round line : ℕ) : Type 0 where
  pub so_far : (sections : List Section) → AreTables tables sections rounds →
      order_from sections (rounds - 1) round left line ahead ≡ order_from sections (rounds - 1) 0 (left_in 0 sections) (order_at + 1) turns
  pub within : round < rounds
  pub lengths : length left ≡ length tables
  pub ahead_within : All (IsTurnWithin (length tables)) ahead
  pub lines : line + length ahead ≡ order_at + 1 + length turns
