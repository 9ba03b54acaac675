use Rattle.std.proofs.Common.{◌≡◌, sym, ap, ◌∙◌}
use Rattle.kz_turn.specs.Journal.{entries_of}
use Rattle.kz_turn.specs.Turns.{turn_name}
use Rattle.kz_turn_tests.proofs.Pairs.{one_item, all_one, of_one, covers_one, numbers_of}
use Rattle.kz_turn_tests.proofs.seats.close_one.Goals as goal

pub close-requires-clause-turn : goal.close-requires-clause-turn
close-requires-clause-turn g c = all_one (λ p. p.name ≡ turn_name c.args.turn) _ c.args.pass (one_item _ _ c.args.pass c.new-passes.ensures.items c.in_ok-push.ensures.items) c.requires.pass.0

pub close-requires-clause-seats : goal.close-requires-clause-seats
close-requires-clause-seats g c = covers_one _ c.args.pass _ (one_item _ _ c.args.pass c.new-passes.ensures.items c.in_ok-push.ensures.items) c.requires.pass.1 c.requires.seats

pub returns-clause-base : goal.returns-clause-base
returns-clause-base g c = of_one (λ p. g.T.Kept.base c.close.result ≡ p.base) _ c.args.pass (one_item _ _ c.args.pass c.new-passes.ensures.items c.in_ok-push.ensures.items) c.close.ensures.base

pub returns-clause-own : goal.returns-clause-own
returns-clause-own g c =
    ap (λ n. entries_of n (g.T.Kept.journal c.close.result)) (sym c.requires.pass.1)
    ∙ of_one (λ p. entries_of p.number (g.T.Kept.journal c.close.result) ≡ p.own) _ c.args.pass (one_item _ _ c.args.pass c.new-passes.ensures.items c.in_ok-push.ensures.items) c.close.ensures.own

pub returns-clause-numbers : goal.returns-clause-numbers
returns-clause-numbers g c =
    numbers_of (λ n. n ≡ 0) _ (g.T.Kept.journal c.close.result)
    (all_one (λ p. p.number ≡ 0) _ c.args.pass (one_item _ _ c.args.pass c.new-passes.ensures.items c.in_ok-push.ensures.items) c.requires.pass.1) c.close.ensures.numbers
