use Rattle.std.proofs.Common.{◌≡◌, ℕ, length, nat_lt, unwrap_or, Option, ap, ap₂, ◌∙◌}
use Rattle.std.specs.List.{position}
use Rattle.kz_chunk.proofs.InPlace.{put_is}
use Rattle.kz_chunk.proofs.idle.put_in_place.Goals as goal

pub returns : goal.returns
returns c =
    let here : c.unwrap_or-place.result ≡ unwrap_or (position (λ element. nat_lt c.args.index element) c.args.idle.now.items) (length c.args.idle.now.items) =
    c.unwrap_or-place.ensures ∙ ap₂ (λ (o : Option ℕ) n. unwrap_or o n) (c.first_above.ensures ∙ ap (position (λ element. nat_lt c.args.index element)) c.as_slice.ensures.value) c.len.ensures.value in
    put_is c.args.index c.unwrap_or-place.result c.args.idle.now.items c.insert.new.self.items here c.insert.ensures.items
