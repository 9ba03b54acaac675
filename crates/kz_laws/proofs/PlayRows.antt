-- Worked rows of runs of orders as they go, computed from the definitions.
use Rattle.std.proofs.Common.{◌≡◌, ℕ, true, false, List, [], ◌∷◌, None, refl}
use Rattle.kz_model.specs.declared.bundle.Bundle.{Bundle}
use Rattle.kz_model.specs.declared.bundle.TraceStep.{TraceStep}
use Rattle.kz_model.specs.declared.bundle.Act.{Act}
use Rattle.kz_model.specs.declared.bundle.Act.TheVariants.{Alloc, Free, Flush}
use Rattle.kz_model.specs.declared.bundle.OrderLine.TheVariants.{Cpu, Round}
use Rattle.kz_model.specs.declared.step.Reply.TheVariants.{NotGiven, Done, NameBusy, Block, Trimmed}
use Rattle.kz_model.specs.declared.record.Visit.{Visit}
use Rattle.kz_model.specs.declared.supply.SupplyEntry.{SupplyEntry}
use Rattle.kz_model.specs.declared.supply.Ask.TheVariants.{Chunk}
use Rattle.kz_model.specs.declared.supply.Answer.TheVariants.{Base}
use Rattle.kz_laws.specs.Play.{play_run, record_of}
use Rattle.kz_model.proofs.OrderRows.{plan, two, visit_by, gift_bundle, late_free, there_and_back}

-- the one chunk that each of these runs asks for
abbrev one_chunk : List SupplyEntry
one_chunk = record { zone = 0; ask = Chunk 4 1; answer = Base 0 } ∷ []

pub gift_record : record_of (play_run gift_bundle plan) ≡ record {
  replies = (Block (record { chunk = 0; index = 1 }) ∷ Done ∷ []) ∷ (NotGiven ∷ Done ∷ []) ∷ [];
  visits = (visit_by 0 1 false ∷ visit_by 1 1 false ∷ visit_by 0 1 false ∷ visit_by 1 1 false ∷ []) ∷ [];
  mapped = (true ∷ []) ∷ [];
  supply = one_chunk;
}
gift_record = refl

-- the free stands late, and is settled after the trim
pub late_free_record : record_of (play_run late_free plan) ≡ record {
  replies = (Block (record { chunk = 0; index = 1 }) ∷ Done ∷ []) ∷ (Trimmed 0 ∷ []) ∷ [];
  visits = (visit_by 0 1 false ∷ visit_by 1 1 false ∷ visit_by 0 1 true ∷ []) ∷ [];
  mapped = (true ∷ []) ∷ [];
  supply = one_chunk;
}
late_free_record = refl

pub there_and_back_record : record_of (play_run there_and_back plan) ≡ record {
  replies = (Block (record { chunk = 0; index = 1 }) ∷ Done ∷ Block (record { chunk = 0; index = 0 }) ∷ NameBusy ∷ []) ∷ (Done ∷ Done ∷ []) ∷ [];
  visits = (visit_by 0 1 false ∷ visit_by 0 1 false ∷ visit_by 1 1 false ∷ visit_by 1 1 false ∷ visit_by 0 2 true ∷ []) ∷ [];
  mapped = (true ∷ []) ∷ [];
  supply = one_chunk;
}
there_and_back_record = refl

-- two rounds: what is late in one is settled at its end
abbrev in_round : ℕ → Act → TraceStep
in_round round act = record { line = 0; round = round; act = act }

abbrev two_rounds : Bundle
two_rounds =
    record (two (in_round 0 (Alloc 0 0) ∷ in_round 0 (Free 0 None) ∷ in_round 1 (Alloc 0 0) ∷ []) (in_round 1 (Flush 0) ∷ []) (Cpu 0 ∷ Cpu 0 ∷ Round ∷ Cpu 1 ∷ Cpu 0 ∷ [])) { rounds = 2 }

abbrev visit_in : ℕ → ℕ → ℕ → Visit
visit_in round cpu count = record { round = round; cpu = cpu; count = count; settled = false }

abbrev settled_in : ℕ → ℕ → ℕ → Visit
settled_in round cpu count = record { round = round; cpu = cpu; count = count; settled = true }

pub two_rounds_record : record_of (play_run two_rounds plan) ≡ record {
  replies = (Block (record { chunk = 0; index = 1 }) ∷ Done ∷ Block (record { chunk = 0; index = 1 }) ∷ []) ∷ (Done ∷ []) ∷ [];
  visits = (visit_in 0 0 1 ∷ settled_in 0 0 1 ∷ visit_in 1 1 1 ∷ settled_in 1 0 1 ∷ []) ∷ [];
  mapped = (true ∷ []) ∷ [];
  supply = one_chunk;
}
two_rounds_record = refl
