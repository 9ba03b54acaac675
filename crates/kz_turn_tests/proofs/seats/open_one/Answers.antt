use Rattle.std.proofs.Common.{◌<◌, length, arith}
use Rattle.kz_turn_tests.proofs.Pairs.{first_is}
use Rattle.kz_turn_tests.proofs.seats.open_one.Goals as goal

pub returns-clause-pass : goal.returns-clause-pass
returns-clause-pass g c =
    let all = c.in_ok-turn.ensures.passes in let count = all.0 in let some : 0 < length c.in_ok-turn.passes.items = omega arith in
    first_is c.in_ok-turn.passes.items c.remove-pass.result _ some c.remove-pass.ensures.value (all.1 0 (omega arith))
