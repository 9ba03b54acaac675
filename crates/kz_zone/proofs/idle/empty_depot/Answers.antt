use Rattle.std.proofs.Common.{ap, ◌∙◌}
use Rattle.kz_zone.specs.Depot.{Depot, row_of}
use Rattle.kz_zone.proofs.PutBack.{last_out, puts_last}
use Rattle.kz_zone.proofs.idle.empty_depot.Goals as goal

pub put-requires-clause-mapped : goal.put-requires-clause-mapped
put-requires-clause-mapped c = (last_out c.loop-block.chunks c.in-Some.block (row_of c.loop-block.depot.lists) (row_of c.drain_one.new.self.lists) c.in-Some.ensures.row c.loop-block.invariant.out).mapped

pub put-requires-clause-within : goal.put-requires-clause-within
put-requires-clause-within c = (last_out c.loop-block.chunks c.in-Some.block (row_of c.loop-block.depot.lists) (row_of c.drain_one.new.self.lists) c.in-Some.ensures.row c.loop-block.invariant.out).within

pub put-requires-clause-out : goal.put-requires-clause-out
put-requires-clause-out c = (last_out c.loop-block.chunks c.in-Some.block (row_of c.loop-block.depot.lists) (row_of c.drain_one.new.self.lists) c.in-Some.ensures.row c.loop-block.invariant.out).out

pub loop-block-preserved : goal.loop-block-preserved
loop-block-preserved c =
    let l = c.loop-block in
    let step = puts_last l.chunks c.put.new.self c.in-Some.block (row_of l.depot.lists) (row_of c.drain_one.new.self.lists) c.in-Some.ensures.row c.put.ensures l.invariant.out in
    record {
      same = step.same ∙ l.invariant.same;
      magazine = ap (λ (d : Depot). d.magazine) c.in-Some.ensures.left ∙ l.invariant.magazine;
      room = ap (λ (d : Depot). d.room) c.in-Some.ensures.left ∙ l.invariant.room;
      out = step.out;
    }
