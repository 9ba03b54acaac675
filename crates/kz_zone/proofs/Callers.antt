-- What a caller who knows the zone's state says to meet the conditions of its calls.
use Rattle.std.proofs.Common.{◌≡◌, ℕ, ◌+◌, List, sym, subst, arith}
use Rattle.kz_model.specs.declared.step.Block.{Block}
use Rattle.kz_model.specs.Zone.State.{Shared}
use Rattle.kz_model.specs.Zone.Whole.{times, AreAway}
use Rattle.kz_model.proofs.Standing.{Stands}
use Rattle.kz_zone.specs.Zone.{Zone, StandsFor, shared_of}

-- a state that the zone stands for, but for its draws
pub same_state : (z : Zone) (s : Shared) → StandsFor z s → shared_of z ≡ record s { drawn = 0 }
same_state z s h = λ i. record { chunks = sym h.chunks i; depot = sym h.depot i; transit = sym h.transit i; drawn = 0 }

-- for `away`, where each element is in one place
pub are_away : (z : Zone) (s : Shared) (blocks : List Block) (away : Block → ℕ) → StandsFor z s → Stands z.params s (λ b. times b blocks + away b) → AreAway z.params (shared_of z) blocks
are_away z s blocks away h stands =
    subst (λ (t : Shared). AreAway z.params t blocks) (sym (same_state z s h)) (λ block. omega (arith, stands.once block))
