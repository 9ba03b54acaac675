use Rattle.std.proofs.Common.{◌≡◌, ℕ, ◌<◌, Some, List, length, ap, sym, ◌∙◌}
use Rattle.kz_model.specs.declared.record.ZoneParams.{ZoneParams}
use Rattle.kz_model.specs.Zone.State.{chunk_at}
use Rattle.kz_model.specs.Zone.Pick.{without_idle}
use Rattle.kz_chunk.specs.Chunk.{Chunk}
use Rattle.kz_zone.specs.Chunks.{Chunks as Seen}
use Rattle.kz_zone.proofs.OneChange.{seen, idle_within, seen_within, is_there, still_chunks, seen_changed}
use Rattle.kz_zone.proofs.chunks.Chunks.pick.Goals as goal

-- the chunk that is picked from is there
within : (z : Seen) (p : ZoneParams) (most k : ℕ) (chunks : List Chunk) → seen p most chunks ≡ z → 0 < length (chunk_at z.chunks k).idle → k < length chunks
within z p most k chunks is some = seen_within z p most k chunks is (idle_within z.chunks k some)

pub settle-requires : goal.settle-requires
settle-requires c =
    let i = c.self.inside in
    let lt = within c.args.self.now i.params i.most c.args.ordinal i.chunks.items c.self.view_is c.requires in
    (is_there i.params i.most i.chunks.cap c.args.ordinal i.chunks.items i.shelf c.index_mut-chunk.result.now c.self.invariant lt c.index_mut-chunk.ensures.value).place
    ∙ ap (λ p. Some p) (sym c.place_of-before.ensures)

pub invariant_of-self : goal.invariant_of-self
invariant_of-self c =
    let i = c.self.inside in
    let lt = within c.args.self.now i.params i.most c.args.ordinal i.chunks.items c.self.view_is c.requires in
    let kept = c.keeps.ensures in
    still_chunks i.params i.most i.chunks.cap c.args.ordinal i.chunks.items i.shelf c.settle.new.shelf c.index_mut-chunk.result.now c.take-taken.new.self (without_idle c.unwrap.result) c.place_of-after.result
    c.self.invariant lt c.index_mut-chunk.ensures.value (rw c.unwrap.ensures at c.take-taken.ensures.left) kept.rises kept.unmapped kept.bytes c.settle.ensures c.place_of-after.ensures

pub returns-clause-left : goal.returns-clause-left
returns-clause-left c =
    let i = c.self.inside in
    let lt = within c.args.self.now i.params i.most c.args.ordinal i.chunks.items c.self.view_is c.requires in
    seen_changed c.args.self.now i.params i.most c.args.ordinal i.chunks.items c.index_mut-chunk.result.now c.take-taken.new.self (without_idle c.unwrap.result) c.self.view_is lt c.index_mut-chunk.ensures.value (rw c.unwrap.ensures at c.take-taken.ensures.left)
