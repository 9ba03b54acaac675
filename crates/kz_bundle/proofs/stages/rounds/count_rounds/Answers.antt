-- One step more is counted in its round.
use Rattle.std.proofs.Common.{◌≡◌, ◌+◌, ◌<◌, ℕ, List, length, take, slice_set, slice_index, ap, sym, ◌∙◌, arith}
use Rattle.std.proofs.lemmas.List.{get_or_default, take_all}
use Rattle.kz_model.specs.declared.bundle.TraceStep.{TraceStep}
use Rattle.kz_bundle.proofs.Columns.{one_counted, steps_in-meant, rounds_among, round_within}
use Rattle.kz_bundle.proofs.stages.rounds.count_rounds.Goals as goal

pub loop-at-preserved : goal.loop-at-preserved
loop-at-preserved c =
    let counts = c.loop-at.counts.items in
    let r = c.round.result in
    let lt : c.loop-at.at < length c.args.steps.now = omega (arith, c.loop-at-test.true, c.loop-at.auto.at-end, c.len-at-end.ensures) in
    let within : r < c.args.rounds = round_within c.args.steps.now c.args.rounds c.loop-at.at r c.requires.within lt c.round.ensures in
    let there : r < length counts = omega (arith, within, c.loop-at.invariant.lengths) in
    let is : c.index_mut.result.now ≡ slice_index counts r = c.index_mut.ensures.value ∙ get_or_default counts r _ 0 there in
    one_counted counts _ c.args.steps.now c.loop-at.at r c.args.rounds lt c.loop-at.invariant c.round.ensures within
    (ap (λ n. slice_set counts r (n + 1)) is)

pub returns-clause-counts : goal.returns-clause-counts
returns-clause-counts c = λ names words round lt.
    let all : take c.loop-at.at c.args.steps.now ≡ c.args.steps.now = take_all c.loop-at.at c.args.steps.now (omega (arith, c.loop-at-test.false, c.loop-at.auto.at-end, c.len-at-end.ensures)) in
    ap (λ (counts : List ℕ). slice_index counts round) c.from_vec.ensures
    ∙ c.loop-at.invariant.each round lt
    ∙ ap (λ (steps : List TraceStep). rounds_among round steps) all
    ∙ sym (steps_in-meant names words round c.args.steps.now)
