use Rattle.std.proofs.Common.{◌≡◌, ◌<◌, ap, ◌∙◌, subst, sym, arith}
use Rattle.kz_model.specs.Zone.Whole.{times_idle}
use Rattle.kz_chunk.specs.Chunk.{Chunk}
use Rattle.kz_chunk.proofs.InPlace.{room_for_one}
use Rattle.kz_chunk.proofs.Pieces.{put_keeps}
use Rattle.kz_chunk.proofs.chunk.Chunk.put.Goals as goal

pub put_in_place-requires-clause-room : goal.put_in_place-requires-clause-room
put_in_place-requires-clause-room c =
    let within : c.args.index < c.self.inside.shape.count = subst (λ (now : Chunk). c.args.index < now.shape.count) (sym c.self.view_is) c.requires.within in
    let out : times_idle c.args.index c.self.inside.idle.items ≡ 0 = subst (λ (now : Chunk). times_idle c.args.index now.state.idle ≡ 0) (sym c.self.view_is) c.requires.out in
    omega (arith, room_for_one c.self.inside.shape.count c.args.index c.self.inside.idle.items within out c.self.invariant.rises, c.self.invariant.shape.most_count)

pub invariant_of-self : goal.invariant_of-self
invariant_of-self c =
    let within : c.args.index < c.self.inside.shape.count = subst (λ (now : Chunk). c.args.index < now.shape.count) (sym c.self.view_is) c.requires.within in
    let out : times_idle c.args.index c.self.inside.idle.items ≡ 0 = subst (λ (now : Chunk). times_idle c.args.index now.state.idle ≡ 0) (sym c.self.view_is) c.requires.out in
    put_keeps c.self.inside.shape c.self.inside.mapped c.self.inside.idle.items c.put_in_place.new.idle.items c.self.inside.frames c.args.index c.self.invariant (ap (λ (now : Chunk). now.state.mapped) c.self.view_is ∙ c.requires.mapped) within out c.put_in_place.ensures
