use Rattle.std.proofs.Common.{rules, ◌≡◌, ◌∷◌, ◌++◌, [], ap, sym, ◌∙◌, arith}
use Rattle.std.specs.List.{range_with_len}
use Rattle.kz_turn_tests.proofs.Pairs.{range_more}
use Rattle.kz_turn_tests.proofs.tally.work.Goals as goal

pub loop-count-preserved : goal.loop-count-preserved
loop-count-preserved g c =
    let own : c.leave-pass.result.own ≡ c.loop-count.pass.own ++ c.loop-count.count ∷ [] = search rules in
    record {
      name = search rules;
      number = search rules;
      base = search rules;
      own = own ∙ (ap (λ l. l ++ c.loop-count.count ∷ []) c.loop-count.invariant.own ∙ sym (range_more c.loop-count.count));
    }

pub returns-clause-own : goal.returns-clause-own
returns-clause-own g c =
    let end = c.loop-count.auto.count-end in let stop = c.loop-count-test.false in let same : c.loop-count.count ≡ c.args.times = omega arith in
    c.loop-count.invariant.own ∙ ap (range_with_len 0) same
