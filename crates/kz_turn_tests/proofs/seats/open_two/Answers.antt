use Rattle.std.proofs.Common.{◌<◌, length, arith}
use Rattle.kz_turn_tests.proofs.Pairs.{first_is, second_is}
use Rattle.kz_turn_tests.proofs.seats.open_two.Goals as goal

pub returns-clause-zero : goal.returns-clause-zero
returns-clause-zero g c =
    let all = c.in_ok-turn.ensures.passes in let count = all.0 in let some : 0 < length c.in_ok-turn.passes.items = omega arith in
    first_is c.in_ok-turn.passes.items c.remove-zero.result _ some c.remove-zero.ensures.value (all.1 0 (omega arith))

pub returns-clause-one : goal.returns-clause-one
returns-clause-one g c =
    let all = c.in_ok-turn.ensures.passes in let count = all.0 in let left = c.remove-zero.ensures.len in
    let some : 0 < length c.remove-zero.new.self.items = omega (arith, c.in_ok-turn.passes.ok, c.remove-zero.new.self.ok) in
    second_is c.in_ok-turn.passes.items c.remove-zero.new.self.items c.remove-one.result _ some c.remove-zero.ensures.items c.remove-one.ensures.value (all.1 1 (omega arith))
