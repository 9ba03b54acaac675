use Rattle.std.proofs.Common.{ap, sym, ◌∙◌}
use Rattle.kz_model.specs.Zone.Pick.{fresh_chunk}
use Rattle.kz_chunk.specs.Chunk.{slack_of}
use Rattle.kz_zone.specs.Chunks.{Chunks as Seen}
use Rattle.kz_zone.proofs.OneChange.{seen_within, is_there, still_chunks, seen_changed}
use Rattle.kz_zone.proofs.Fresh.{mapped_fresh}
use Rattle.kz_zone.proofs.chunks.Chunks.remap.Goals as goal

pub invariant_of-self : goal.invariant_of-self
invariant_of-self c =
    let i = c.self.inside in
    let k = c.args.ordinal in
    let old = c.index_mut-chunk.result.now in
    let h = c.self.invariant in
    let lt = seen_within c.args.self.now i.params i.most k i.chunks.items c.self.view_is c.requires.there in
    let there = is_there i.params i.most i.chunks.cap k i.chunks.items i.shelf old h lt c.index_mut-chunk.ensures.value in
    let kept = c.keeps.ensures in
    let pages = ap (λ (z : Seen). z.params.pages) (sym c.self.view_is) in
    let made = c.map.ensures ∙ ap (λ state. record old { state = state; slack = slack_of old.shape c.args.frames }) (mapped_fresh i.params old.shape c.args.frames c.args.self.now.params.pages there.shape c.requires.zero pages h.fit.shape.within) in
    still_chunks i.params i.most i.chunks.cap k i.chunks.items i.shelf c.settle.new.shelf old c.map.new.self (λ _. fresh_chunk i.params) c.place_of-after.result
    h lt c.index_mut-chunk.ensures.value made kept.rises kept.unmapped kept.bytes c.settle.ensures c.place_of-after.ensures

pub returns : goal.returns
returns c =
    let i = c.self.inside in
    let k = c.args.ordinal in
    let old = c.index_mut-chunk.result.now in
    let h = c.self.invariant in
    let lt = seen_within c.args.self.now i.params i.most k i.chunks.items c.self.view_is c.requires.there in
    let there = is_there i.params i.most i.chunks.cap k i.chunks.items i.shelf old h lt c.index_mut-chunk.ensures.value in
    let pages = ap (λ (z : Seen). z.params.pages) (sym c.self.view_is) in
    let made = c.map.ensures ∙ ap (λ state. record old { state = state; slack = slack_of old.shape c.args.frames }) (mapped_fresh i.params old.shape c.args.frames c.args.self.now.params.pages there.shape c.requires.zero pages h.fit.shape.within ∙ ap (λ (z : Seen). fresh_chunk z.params) c.self.view_is) in
    seen_changed c.args.self.now i.params i.most k i.chunks.items old c.map.new.self (λ _. fresh_chunk c.args.self.now.params) c.self.view_is lt c.index_mut-chunk.ensures.value made
