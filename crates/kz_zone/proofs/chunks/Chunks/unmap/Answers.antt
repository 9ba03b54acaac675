use Rattle.std.proofs.Common.{◌≡◌, ℕ, ◌*◌, ◌++◌, true, List, length, take, Some, ap, sym, ◌∙◌}
use Rattle.std.proofs.Math.Seq.{take-append_seam}
use Rattle.kz_model.specs.Zone.State.{Chunk as State, no_chunk, chunk_at}
use Rattle.kz_frame.specs.Frames.{joined}
use Rattle.kz_zone.specs.Chunks.{Chunks as Seen}
use Rattle.kz_zone.proofs.OneChange.{seen_within, whole_mapped, whole_within, is_there, still_chunks, seen_changed}
use Rattle.kz_zone.proofs.chunks.Chunks.unmap.Goals as goal

pub settle-requires : goal.settle-requires
settle-requires c =
    let i = c.self.inside in
    let k = c.args.ordinal in
    let lt = seen_within c.args.self.now i.params i.most k i.chunks.items c.self.view_is (whole_within c.args.self.now.params.count c.args.self.now.chunks k c.requires) in
    (is_there i.params i.most i.chunks.cap k i.chunks.items i.shelf c.index_mut-chunk.result.now c.self.invariant lt c.index_mut-chunk.ensures.value).place
    ∙ ap (λ p. Some p) (sym c.place_of-before.ensures)

pub invariant_of-self : goal.invariant_of-self
invariant_of-self c =
    let i = c.self.inside in
    let k = c.args.ordinal in
    let lt = seen_within c.args.self.now i.params i.most k i.chunks.items c.self.view_is (whole_within c.args.self.now.params.count c.args.self.now.chunks k c.requires) in
    let kept = c.keeps.ensures in
    still_chunks i.params i.most i.chunks.cap k i.chunks.items i.shelf c.settle.new.shelf c.index_mut-chunk.result.now c.unmap-frames.new.self (λ _. no_chunk) c.place_of-after.result
    c.self.invariant lt c.index_mut-chunk.ensures.value c.unmap-frames.ensures.unmapped kept.rises kept.unmapped kept.bytes c.settle.ensures c.place_of-after.ensures

pub returns-clause-left : goal.returns-clause-left
returns-clause-left c =
    let i = c.self.inside in
    let k = c.args.ordinal in
    let lt = seen_within c.args.self.now i.params i.most k i.chunks.items c.self.view_is (whole_within c.args.self.now.params.count c.args.self.now.chunks k c.requires) in
    seen_changed c.args.self.now i.params i.most k i.chunks.items c.index_mut-chunk.result.now c.unmap-frames.new.self (λ _. no_chunk) c.self.view_is lt c.index_mut-chunk.ensures.value c.unmap-frames.ensures.unmapped

-- the bytes of the elements stand first
first_bytes : (many : ℕ) (bytes slack all : List ℕ) → all ≡ bytes ++ slack → length bytes ≡ many → take many all ≡ bytes
first_bytes many bytes slack all is long = ap (take many) is ∙ ap (λ n. take n (bytes ++ slack)) (sym long) ∙ take-append_seam bytes slack

pub returns-clause-bytes : goal.returns-clause-bytes
returns-clause-bytes c =
    let i = c.self.inside in
    let k = c.args.ordinal in
    let old = c.index_mut-chunk.result.now in
    let z = c.args.self.now in
    let lt = seen_within z i.params i.most k i.chunks.items c.self.view_is (whole_within z.params.count z.chunks k c.requires) in
    let there = is_there i.params i.most i.chunks.cap k i.chunks.items i.shelf old c.self.invariant lt c.index_mut-chunk.ensures.value in
    let state : chunk_at z.chunks k ≡ old.state = ap (λ (z : Seen). chunk_at z.chunks k) (sym c.self.view_is) ∙ there.state in
    let mapped : old.state.mapped ≡ true = ap (λ (s : State). s.mapped) (sym state) ∙ whole_mapped z.params.count (chunk_at z.chunks k) c.requires in
    let many = there.kept.bytes mapped ∙ ap (λ (z : Seen). z.params.count * z.params.element) c.self.view_is in
    first_bytes (z.params.count * z.params.element) old.state.bytes old.slack (joined c.unmap-frames.result) c.unmap-frames.ensures.bytes many ∙ sym (ap (λ (s : State). s.bytes) state)
