use Rattle.std.proofs.Common.{ℕ, ◌+◌, ◌*◌, refl, ap, ◌∙◌}
use Rattle.kz_model.specs.declared.record.Geometry.{Geometry}
use Rattle.kz_chunk.specs.Chunk.{first_of, with_bytes_at}
use Rattle.kz_zone.specs.Chunks.{Chunks as Seen}
use Rattle.kz_zone.proofs.OneChange.{seen_within, is_there, still_there, seen_changed}
use Rattle.kz_zone.proofs.chunks.Chunks.write.Goals as goal

pub invariant_of-self-2 : goal.invariant_of-self-2
invariant_of-self-2 c =
    let i = c.self.inside in
    let k = c.args.block.chunk in
    let lt = seen_within c.args.self.now i.params i.most k i.chunks.items c.self.view_is c.requires.there in
    let kept = c.keeps.ensures in
    still_there i.params i.most i.chunks.cap k i.chunks.items i.shelf c.index_mut-chunk.result.now c.write.new.self (with_bytes_at (first_of c.index_mut-chunk.result.now.shape c.args.block.index + c.args.off) c.args.bytes.now)
    c.self.invariant lt c.index_mut-chunk.ensures.value c.write.ensures kept.rises kept.unmapped kept.bytes refl

pub returns-clause-written : goal.returns-clause-written
returns-clause-written c = λ _.
    let i = c.self.inside in
    let k = c.args.block.chunk in
    let old = c.index_mut-chunk.result.now in
    let lt = seen_within c.args.self.now i.params i.most k i.chunks.items c.self.view_is c.requires.there in
    let there = is_there i.params i.most i.chunks.cap k i.chunks.items i.shelf old c.self.invariant lt c.index_mut-chunk.ensures.value in
    let at = λ (element : ℕ). with_bytes_at (c.args.block.index * element + c.args.off) c.args.bytes.now in
    let element = ap (λ (s : Geometry). s.element) there.shape ∙ ap (λ (z : Seen). z.params.element) c.self.view_is in
    seen_changed c.args.self.now i.params i.most k i.chunks.items old c.write.new.self (at c.args.self.now.params.element) c.self.view_is lt c.index_mut-chunk.ensures.value
    (c.write.ensures ∙ ap (λ n. record old { state = at n old.state }) element)
