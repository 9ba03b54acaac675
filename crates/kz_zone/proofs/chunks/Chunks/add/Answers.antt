use Rattle.std.proofs.Common.{◌≡◌, ℕ, ◌<◌, ◌++◌, ◌∷◌, [], List, length, ap, sym, ◌∙◌, arith}
use Rattle.std.proofs.lemmas.List.{length-map, map_push}
use Rattle.kz_model.specs.declared.record.ZoneParams.{ZoneParams}
use Rattle.kz_model.specs.Zone.Pick.{fresh_chunk}
use Rattle.kz_chunk.specs.Chunk.{Chunk}
use Rattle.kz_zone.specs.Chunks.{Chunks as Seen, shape_of}
use Rattle.kz_zone.proofs.OneChange.{seen, is_chunk, one_added}
use Rattle.kz_zone.proofs.Fresh.{mapped_fresh}
use Rattle.kz_zone.proofs.chunks.Chunks.add.Goals as goal

-- one more chunk
seen_more : (z : Seen) (p : ZoneParams) (most page : ℕ) (chunks all : List Chunk) (c : Chunk) → seen p most chunks ≡ z → all ≡ chunks ++ c ∷ [] → c.base ≡ page → c.state ≡ fresh_chunk z.params →
    seen p most all ≡ record z { chunks = z.chunks ++ fresh_chunk z.params ∷ []; bases = z.bases ++ page ∷ [] }
seen_more z p most page chunks all c is made base state =
    ap (seen p most) made
    ∙ (λ i. record { params = p; most = most; chunks = map_push (λ (c : Chunk). c.state) chunks c i; bases = map_push (λ (c : Chunk). c.base) chunks c i })
    ∙ (λ i. record { params = (is i).params; most = (is i).most; chunks = (is i).chunks ++ state i ∷ []; bases = (is i).bases ++ base i ∷ [] })

pub invariant_of-self : goal.invariant_of-self
invariant_of-self c =
    let i = c.self.inside in
    let new = c.map.new.self in
    let shape = ap (λ (c : Chunk). c.shape) c.map.ensures ∙ ap (λ (c : Chunk). c.shape) c.new-chunk.ensures ∙ c.shape.ensures ∙ ap (λ (z : Seen). shape_of z.params) (sym c.self.view_is) in
    let lt : length i.chunks.items < i.most = omega (arith, c.requires.room, length-map i.chunks.items (λ chunk. chunk.state), ap (λ (z : Seen). length z.chunks) c.self.view_is, ap (λ (z : Seen). z.most) c.self.view_is) in
    let moved = c.add.ensures ∙ ap (λ place. record i.shelf { places = i.shelf.places ++ place ∷ [] }) c.place_of-place.ensures in
    let kept = c.keeps.ensures in
    one_added i.params i.most i.chunks.cap c.push_within.new.items.cap i.chunks.items c.push_within.new.items.items i.shelf c.add.new.self new c.self.invariant lt c.push_within.ensures.capacity c.push_within.ensures.items shape
    (is_chunk i.params new shape kept.rises kept.unmapped kept.bytes) moved

pub returns : goal.returns
returns c =
    let i = c.self.inside in
    let shape = ap (λ (c : Chunk). c.shape) c.new-chunk.ensures ∙ c.shape.ensures ∙ ap (λ (z : Seen). shape_of z.params) (sym c.self.view_is) in
    let pages = ap (λ (z : Seen). z.params.pages) (sym c.self.view_is) in
    let state = ap (λ (c : Chunk). c.state) c.map.ensures ∙ mapped_fresh i.params c.new-chunk.result.shape c.args.frames c.args.self.now.params.pages shape c.requires.zero pages c.self.invariant.fit.shape.within ∙ ap (λ (z : Seen). fresh_chunk z.params) c.self.view_is in
    let base = ap (λ (c : Chunk). c.base) c.map.ensures ∙ ap (λ (c : Chunk). c.base) c.new-chunk.ensures in
    seen_more c.args.self.now i.params i.most c.args.page i.chunks.items c.push_within.new.items.items c.map.new.self c.self.view_is c.push_within.ensures.items base state
