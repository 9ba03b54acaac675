use Rattle.std.proofs.Common.{◌≡◌, ℕ, ◌+◌, ◌*◌, replicate, refl, ap, ◌∙◌, arith}
use Rattle.kz_model.proofs.Standing.{mapped_within}
use Rattle.kz_model.specs.declared.record.Geometry.{Geometry}
use Rattle.kz_chunk.specs.Chunk.{first_of, with_bytes_at}
use Rattle.kz_zone.specs.Chunks.{Chunks as Seen}
use Rattle.kz_zone.proofs.OneChange.{seen_within, is_there, still_there, seen_changed}
use Rattle.kz_zone.proofs.chunks.Chunks.zero.Goals as goal

pub invariant_of-self : goal.invariant_of-self
invariant_of-self c =
    let i = c.self.inside in
    let k = c.args.block.chunk in
    let lt = seen_within c.args.self.now i.params i.most k i.chunks.items c.self.view_is (mapped_within c.args.self.now.chunks k c.requires.mapped) in
    let kept = c.keeps.ensures in
    let shape = c.index_mut-chunk.result.now.shape in
    still_there i.params i.most i.chunks.cap k i.chunks.items i.shelf c.index_mut-chunk.result.now c.zero.new.self (with_bytes_at (first_of shape c.args.block.index) (replicate shape.element 0))
    c.self.invariant lt c.index_mut-chunk.ensures.value c.zero.ensures kept.rises kept.unmapped kept.bytes refl

pub returns : goal.returns
returns c =
    let i = c.self.inside in
    let k = c.args.block.chunk in
    let old = c.index_mut-chunk.result.now in
    let lt = seen_within c.args.self.now i.params i.most k i.chunks.items c.self.view_is (mapped_within c.args.self.now.chunks k c.requires.mapped) in
    let there = is_there i.params i.most i.chunks.cap k i.chunks.items i.shelf old c.self.invariant lt c.index_mut-chunk.ensures.value in
    let at = λ (element : ℕ). with_bytes_at (c.args.block.index * element) (replicate element 0) in
    let from = λ (n : ℕ). with_bytes_at n (replicate c.args.self.now.params.element 0) in
    let element = ap (λ (s : Geometry). s.element) there.shape ∙ ap (λ (z : Seen). z.params.element) c.self.view_is in
    let begins : c.args.block.index * c.args.self.now.params.element ≡ c.args.block.index * c.args.self.now.params.element + 0 = omega arith in
    seen_changed c.args.self.now i.params i.most k i.chunks.items old c.zero.new.self (from (c.args.block.index * c.args.self.now.params.element + 0)) c.self.view_is lt c.index_mut-chunk.ensures.value
    (c.zero.ensures ∙ ap (λ n. record old { state = at n old.state }) element ∙ ap (λ n. record old { state = from n old.state }) begins)
