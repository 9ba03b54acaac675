-- What is left of an order.
use Rattle.std.specs.Prelude.{◌≡◌, ℕ, ◌+◌, ◌-◌, ◌<◌, ◌==◌, nat_lt, Bool, ◌&&◌, if◌then◌else◌, List, [], ◌∷◌, ◌++◌, length, replicate, slice_index_or}
use Rattle.std.specs.List.{filter, flat_map, range_with_len}
use Rattle.kz_model.specs.declared.bundle.Bundle.{Bundle}
use Rattle.kz_model.specs.declared.bundle.OrderLine.{OrderLine}
use Rattle.kz_model.specs.declared.bundle.OrderLine.TheVariants.{Cpu, Round}
use Rattle.kz_model.specs.declared.bundle.TraceStep.{TraceStep}
use Rattle.kz_model.specs.declared.record.Plan.{Plan}
use Rattle.kz_model.specs.Run.Journal.{trace_of, lines_of_round}
use Rattle.kz_model.specs.Run.Order.{default_rounds, order_of}
use Rattle.kz_laws.specs.Play.{play_after_lines}
use Rattle.kz_model.specs.Run.Journal.{no_step}
use Rattle.kz_machine.specs.Machine.{Machine}
use Rattle.kz_machine.specs.Stands.{StandsForPlay}

-- The machine has done the order up to these lines, which are left.
pub record IsLeft (b : Bundle) (plan : Plan) (m : Machine) (left : List OrderLine) : Type 0 where
  pub lines : List OrderLine
  pub parted : lines ++ left ≡ order_of b
  pub at : StandsForPlay b plan m (play_after_lines b plan lines)

-- ---- the default order

-- the turns of a round from this CPU on
abbrev pub turns_from : Bundle → ℕ → ℕ → List OrderLine
turns_from b round cpu = flat_map (λ cpu. replicate (length (lines_of_round b cpu round)) (Cpu cpu))
    (range_with_len cpu (b.cpus - cpu))

-- what follows a round: the line between two, and the rounds from this one on
abbrev pub rounds_after : Bundle → ℕ → List OrderLine
rounds_after b next = if nat_lt next b.rounds then Round ∷ default_rounds b next (b.rounds - next) else []

-- ---- how much is left

-- how many turns of a CPU there are among lines, and how many rounds they end
abbrev pub turns_of : ℕ → List OrderLine → ℕ
turns_of cpu [] = 0
turns_of cpu (Cpu other ∷ lines) = (if other == cpu then 1 else 0) + turns_of cpu lines
turns_of cpu (Round ∷ lines) = turns_of cpu lines

abbrev pub rounds_in : List OrderLine → ℕ
rounds_in [] = 0
rounds_in (Cpu other ∷ lines) = rounds_in lines
rounds_in (Round ∷ lines) = 1 + rounds_in lines

-- how many lines a CPU has before this round
abbrev pub lines_until : Bundle → ℕ → ℕ → ℕ
lines_until b cpu round = length (filter (λ line. nat_lt line.round round) (trace_of b cpu))

-- These lines follow a CPU's turns in a round of the order: its turns among them are of later rounds.
pub record IsRest (b : Bundle) (cpu round : ℕ) (rest : List OrderLine) : Type 0 where
  pub is_cpu : cpu < b.cpus
  pub total : turns_of cpu (order_of b) ≡ length (trace_of b cpu)
  pub later : turns_of cpu rest + lines_until b cpu (round + 1) ≡ length (trace_of b cpu)
  pub rounds : rounds_in rest + round ≡ rounds_in (order_of b)

-- a trace has a line of this round at this place
abbrev pub has_line_at : List TraceStep → ℕ → ℕ → Bool
has_line_at trace at round = nat_lt at (length trace) && ((slice_index_or trace at no_step).round == round)
