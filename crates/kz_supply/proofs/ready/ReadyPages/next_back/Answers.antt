use Rattle.kz_supply.proofs.Gets.{none_ready}
use Rattle.kz_supply.proofs.ready.ReadyPages.next_back.Goals as goal

pub returns-clause-once : goal.returns-clause-once
returns-clause-once c = none_ready _ _ c.self.invariant.once
