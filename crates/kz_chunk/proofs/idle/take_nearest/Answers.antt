use Rattle.std.proofs.Common.{◌≡◌, ℕ, nat_le, unwrap_or, Option, ap, sym, ◌∙◌}
use Rattle.std.specs.List.{position}
use Rattle.kz_chunk.specs.Kept.{without}
use Rattle.kz_chunk.proofs.Nearest.{nearest_taken, place_inside, rest_taken, taken_within}
use Rattle.kz_chunk.proofs.idle.take_nearest.Goals as goal

pub returns-clause-nearest : goal.returns-clause-nearest
returns-clause-nearest c = λ count within h.
    let here : c.unwrap_or-place.result ≡ unwrap_or (position (λ element. nat_le c.args.start element) c.args.idle.now.items) 0 =
    c.unwrap_or-place.ensures ∙ ap (λ (o : Option ℕ). unwrap_or o 0) (c.first_from.ensures ∙ ap (position (λ element. nat_le c.args.start element)) c.as_slice.ensures.value) in
    c.from.ensures ∙ nearest_taken count c.args.start c.unwrap_or-place.result c.remove.result c.args.idle.now.items here c.remove.ensures.value c.requires.some within h

pub returns-clause-within : goal.returns-clause-within
returns-clause-within c = λ count h.
    let here : c.unwrap_or-place.result ≡ unwrap_or (position (λ element. nat_le c.args.start element) c.args.idle.now.items) 0 =
    c.unwrap_or-place.ensures ∙ ap (λ (o : Option ℕ). unwrap_or o 0) (c.first_from.ensures ∙ ap (position (λ element. nat_le c.args.start element)) c.as_slice.ensures.value) in
    rw c.from.ensures
    (taken_within count c.unwrap_or-place.result c.remove.result c.args.idle.now.items c.remove.ensures.value (place_inside c.args.start c.unwrap_or-place.result c.args.idle.now.items here c.requires.some) h)

pub returns-clause-rest : goal.returns-clause-rest
returns-clause-rest c = λ count h.
    let here : c.unwrap_or-place.result ≡ unwrap_or (position (λ element. nat_le c.args.start element) c.args.idle.now.items) 0 =
    c.unwrap_or-place.ensures ∙ ap (λ (o : Option ℕ). unwrap_or o 0) (c.first_from.ensures ∙ ap (position (λ element. nat_le c.args.start element)) c.as_slice.ensures.value) in
    rest_taken count c.unwrap_or-place.result c.remove.result c.args.idle.now.items c.remove.new.self.items c.remove.ensures.value c.remove.ensures.items
    (place_inside c.args.start c.unwrap_or-place.result c.args.idle.now.items here c.requires.some) h
    ∙ ap (λ e. without e c.args.idle.now.items) (sym c.from.ensures)
