use Rattle.std.proofs.Common.{◌≡◌, ◌<◌, sym, ap, ◌∙◌, arith}
use Rattle.kz_turn.specs.Journal.{entries_of}
use Rattle.kz_turn.specs.Turns.{turn_name}
use Rattle.kz_turn_tests.proofs.Pairs.{two_items, all_two, of_two, covers_two, numbers_of}
use Rattle.kz_turn_tests.proofs.seats.close_two.Goals as goal

pub close-requires-clause-turn : goal.close-requires-clause-turn
close-requires-clause-turn g c =
    all_two (λ p. p.name ≡ turn_name c.args.turn) _ c.args.one c.args.zero (two_items _ _ _ c.args.one c.args.zero c.new-passes.ensures.items c.in_ok-push.ensures.items c.in_ok-push-2.ensures.items) c.requires.one.0 c.requires.zero.0

pub close-requires-clause-seats : goal.close-requires-clause-seats
close-requires-clause-seats g c =
    covers_two _ c.args.one c.args.zero _ (two_items _ _ _ c.args.one c.args.zero c.new-passes.ensures.items c.in_ok-push.ensures.items c.in_ok-push-2.ensures.items) c.requires.one.1 c.requires.zero.1 c.requires.seats

pub returns-clause-base : goal.returns-clause-base
returns-clause-base g c =
    (of_two (λ p. g.T.Kept.base c.close.result ≡ p.base) _ c.args.one c.args.zero (two_items _ _ _ c.args.one c.args.zero c.new-passes.ensures.items c.in_ok-push.ensures.items c.in_ok-push-2.ensures.items) c.close.ensures.base).1

pub returns-clause-zero : goal.returns-clause-zero
returns-clause-zero g c =
    ap (λ n. entries_of n (g.T.Kept.journal c.close.result)) (sym c.requires.zero.1)
    ∙ (of_two (λ p. entries_of p.number (g.T.Kept.journal c.close.result) ≡ p.own) _ c.args.one c.args.zero (two_items _ _ _ c.args.one c.args.zero c.new-passes.ensures.items c.in_ok-push.ensures.items c.in_ok-push-2.ensures.items) c.close.ensures.own).1

pub returns-clause-one : goal.returns-clause-one
returns-clause-one g c =
    ap (λ n. entries_of n (g.T.Kept.journal c.close.result)) (sym c.requires.one.1)
    ∙ (of_two (λ p. entries_of p.number (g.T.Kept.journal c.close.result) ≡ p.own) _ c.args.one c.args.zero (two_items _ _ _ c.args.one c.args.zero c.new-passes.ensures.items c.in_ok-push.ensures.items c.in_ok-push-2.ensures.items) c.close.ensures.own).0

pub returns-clause-numbers : goal.returns-clause-numbers
returns-clause-numbers g c =
    let at_one = c.requires.one.1 in let at_zero = c.requires.zero.1 in
    numbers_of (λ n. n < 2) _ (g.T.Kept.journal c.close.result)
    (all_two (λ p. p.number < 2) _ c.args.one c.args.zero (two_items _ _ _ c.args.one c.args.zero c.new-passes.ensures.items c.in_ok-push.ensures.items c.in_ok-push-2.ensures.items) (omega arith) (omega arith)) c.close.ensures.numbers
