use Rattle.std.proofs.Common.{rules, ◌≡◌, ◌∷◌, ◌++◌, []}
use Rattle.kz_turn_tests.proofs.Pairs.{mirrored_more}
use Rattle.kz_turn_tests.proofs.nested.stay.Goals as goal

pub leave-kept-requires-clause-entry : goal.leave-kept-requires-clause-entry
leave-kept-requires-clause-entry g c = (c.args.entry, search rules)

pub invariant_of-leave-clause-mirrored : goal.invariant_of-leave-clause-mirrored
invariant_of-leave-clause-mirrored g c =
    let had = c.enter-held.result.1 in
    let own : c.leave-kept.result.own ≡ had.pass.own ++ c.args.entry ∷ [] = search rules in
    let log : c.push.new.self.items ≡ had.log.items ++ (c.args.number, c.args.entry) ∷ [] = search rules in
    mirrored_more had.pass.own c.leave-kept.result.own had.log.items c.push.new.self.items c.args.number c.args.entry had.mirrored own log

pub leave-requires-clause-entry : goal.leave-requires-clause-entry
leave-requires-clause-entry g c = (c.args.entry, search rules)
