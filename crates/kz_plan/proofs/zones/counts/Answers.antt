use Rattle.std.proofs.Common.{◌<◌, slice_index, arith}
use Rattle.kz_plan.proofs.ZoneRows.{counts-small, counts-more}
use Rattle.kz_plan.proofs.zones.counts.Goals as goal

pub overflow_add-index_mut : goal.overflow_add-index_mut
overflow_add-index_mut c =
    let l = c.loop-zone in
    let inside : slice_index c.args.of_type.now l.zone-index < c.args.zones = c.requires.there l.zone-index 0 (omega arith) in
    let small = counts-small l.counts.items c.args.zones (slice_index c.args.of_type.now l.zone-index) l.zone-index c.index_mut.result.now c.args.of_type.now l.invariant inside (omega arith) c.index_mut.ensures.value in
    omega arith

pub loop-zone-preserved : goal.loop-zone-preserved
loop-zone-preserved c =
    let l = c.loop-zone in
    let inside : slice_index c.args.of_type.now l.zone-index < c.args.zones = c.requires.there l.zone-index 0 (omega arith) in
    counts-more l.counts.items c.args.zones l.zone-index c.index_mut.result.now c.args.of_type.now l.invariant (omega arith) inside c.index_mut.ensures.value
