-- The lines of an order, turn by turn.
use Rattle.std.specs.Prelude.{◌≡◌, ℕ, ◌+◌, ◌-◌, ◌<◌, ◌==◌, Bool, List, [], ◌∷◌, length, map, slice_index, slice_set}
use Rattle.std.specs.List.{All, filter}
use Rattle.kz_model.specs.declared.bundle.Bundle.{Bundle}
use Rattle.kz_model.specs.declared.bundle.TraceStep.{TraceStep}
use Rattle.kz_model.specs.declared.bundle.OrderLine.{OrderLine}
use Rattle.kz_model.specs.declared.bundle.OrderLine.TheVariants.{Cpu, Round}

abbrev pub is_of_round : ℕ → TraceStep → Bool
is_of_round round line = line.round == round

-- how many lines of a round each CPU has
abbrev pub counts_in : Bundle → ℕ → List ℕ
counts_in b round = map (λ trace. length (filter (is_of_round round) trace)) b.traces

-- no CPU has a line left
abbrev pub AreDone : List ℕ → Type 0
AreDone left = All (λ n. n ≡ 0) left

-- Lines of an order from where each CPU has so many lines of a round left: a CPU's turn is of one that has a line left,
-- and each round, but for the last, is ended by a line when no CPU has one left.
abbrev pub AreInTurn : Bundle → ℕ → List ℕ → List OrderLine → Type 0
AreInTurn b round left [] = AreDone left × (round + 1 ≡ b.rounds)
AreInTurn b round left (Cpu cpu ∷ lines) = (cpu < b.cpus) × (0 < slice_index left cpu) ×
    AreInTurn b round (slice_set left cpu (slice_index left cpu - 1)) lines
AreInTurn b round left (Round ∷ lines) = AreDone left × (round + 1 < b.rounds) ×
    AreInTurn b (round + 1) (counts_in b (round + 1)) lines
