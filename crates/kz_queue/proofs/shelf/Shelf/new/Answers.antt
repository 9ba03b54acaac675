use Rattle.std.proofs.Common.{◌+◌, ◌/◌, arith, rules}
use Rattle.std.specs.Vec.{vec_capacity}
use Rattle.kz_queue.proofs.Places.{opened}
use Rattle.kz_queue.proofs.shelf.Shelf.new.Goals as goal

pub invariant_of-result : goal.invariant_of-result
invariant_of-result c =
    let most = c.ranges.room.fits in
    let enough = c.in_ok-with_capacity.ensures.capacity in
    opened c.args.room (vec_capacity c.in_ok-with_capacity.field-0) ((c.args.room + 63) / 64) c.in_ok-with_capacity.field-0.items c.in_ok-new.field-0 (search (rules, c.in_ok-with_capacity.ensures)) most (search (rules, enough)) (omega arith) c.in_ok-new.ensures
