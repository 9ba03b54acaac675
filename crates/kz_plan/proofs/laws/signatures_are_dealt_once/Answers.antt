use Rattle.kz_plan.proofs.Order.{signatures-rise, has-signatures}
use Rattle.kz_plan.proofs.Shuffles.{shuffled-permuted}
use Rattle.kz_plan.proofs.laws.signatures_are_dealt_once.Goals as goal

pub returns : goal.returns
returns c = record {
  rising = signatures-rise;
  exact = has-signatures;
  kept = λ seed drawn all. shuffled-permuted seed drawn all;
}
