use Rattle.std.proofs.Common.{Some, ap, sym, ◌∙◌}
use Rattle.kz_model.proofs.Standing.{mapped_within}
use Rattle.kz_chunk.specs.Chunk.{with_idle_element}
use Rattle.kz_zone.proofs.OneChange.{seen_within, is_there, still_chunks, seen_changed}
use Rattle.kz_zone.proofs.chunks.Chunks.put.Goals as goal

pub settle-requires : goal.settle-requires
settle-requires c =
    let i = c.self.inside in
    let k = c.args.block.chunk in
    let lt = seen_within c.args.self.now i.params i.most k i.chunks.items c.self.view_is (mapped_within c.args.self.now.chunks k c.requires.mapped) in
    (is_there i.params i.most i.chunks.cap k i.chunks.items i.shelf c.index_mut-chunk.result.now c.self.invariant lt c.index_mut-chunk.ensures.value).place
    ∙ ap (λ p. Some p) (sym c.place_of-before.ensures)

pub invariant_of-self : goal.invariant_of-self
invariant_of-self c =
    let i = c.self.inside in
    let k = c.args.block.chunk in
    let lt = seen_within c.args.self.now i.params i.most k i.chunks.items c.self.view_is (mapped_within c.args.self.now.chunks k c.requires.mapped) in
    let kept = c.keeps.ensures in
    still_chunks i.params i.most i.chunks.cap k i.chunks.items i.shelf c.settle.new.shelf c.index_mut-chunk.result.now c.put.new.self (with_idle_element c.args.block.index) c.place_of-after.result
    c.self.invariant lt c.index_mut-chunk.ensures.value c.put.ensures kept.rises kept.unmapped kept.bytes c.settle.ensures c.place_of-after.ensures

pub returns : goal.returns
returns c =
    let i = c.self.inside in
    let k = c.args.block.chunk in
    let lt = seen_within c.args.self.now i.params i.most k i.chunks.items c.self.view_is (mapped_within c.args.self.now.chunks k c.requires.mapped) in
    seen_changed c.args.self.now i.params i.most k i.chunks.items c.index_mut-chunk.result.now c.put.new.self (with_idle_element c.args.block.index) c.self.view_is lt c.index_mut-chunk.ensures.value c.put.ensures
