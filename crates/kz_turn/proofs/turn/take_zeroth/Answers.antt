use Rattle.std.proofs.Common.{◌<◌, length, arith, sym, ap, ◌∙◌}
use Rattle.std.specs.Prelude.{slice_index_or}
use Rattle.std.proofs.lemmas.Bool.{false≢true}
use Rattle.kz_turn.proofs.Passes.{none_more, swapped_out}
use Rattle.kz_turn.proofs.turn.take_zeroth.Goals as goal

pub returns-then-is_zeroth-clause-others : goal.returns-then-is_zeroth-clause-others
returns-then-is_zeroth-clause-others g c =
    let same = c.loop-place.invariant.same in let more = c.loop-place-test.true in let len = c.len-place-end.ensures in
    let inside : c.loop-place.place < length c.loop-place.passes.items = omega (arith, ap length same, c.args.passes.now.ok) in
    swapped_out c.args.passes.now.items c.loop-place.passes.items c.swap_remove.new.self.items c.loop-place.place c.swap_remove.result same inside c.swap_remove.ensures.value c.swap_remove.ensures.items

pub loop-place-preserved : goal.loop-place-preserved
loop-place-preserved g c =
    let same = c.loop-place.invariant.same in let more = c.loop-place-test.true in let len = c.len-place-end.ensures in
    let inside : c.loop-place.place < length c.loop-place.passes.items = omega (arith, ap length same, c.args.passes.now.ok) in
    record {
      same = same;
      before = none_more (λ p. p.number) 0 c.loop-place.passes.items c.loop-place.place c.index.result.now inside c.index.ensures
          (λ zeroth. false≢true (sym c.if-is_zeroth.false ∙ c.is_zeroth.ensures.1 zeroth)) c.loop-place.invariant.before;
    }

pub unreachable-requires : goal.unreachable-requires
unreachable-requires g c =
    let it = c.requires in let same = c.loop-place.invariant.same in let all = c.loop-place-test.false in let len = c.len-place-end.ensures in let inside = it.2 in
    c.loop-place.invariant.before it.0 it.1 (omega (arith, c.args.passes.now.ok)) (ap (λ l. (slice_index_or l it.0 it.1).number) same ∙ (ap (λ p. p.number) it.3 ∙ it.4))
