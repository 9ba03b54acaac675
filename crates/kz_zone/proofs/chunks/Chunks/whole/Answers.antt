use Rattle.std.proofs.Common.{ap, ◌∙◌}
use Rattle.std.specs.List.{position}
use Rattle.kz_queue.specs.Shelf.{lowest_at}
use Rattle.kz_queue.specs.declared.place.Place.TheVariants.{Whole}
use Rattle.kz_model.specs.Zone.Pick.{is_whole}
use Rattle.kz_zone.specs.Chunks.{Chunks as Seen, states_of}
use Rattle.kz_zone.proofs.Places.{whole-lowest}
use Rattle.kz_zone.proofs.chunks.Chunks.whole.Goals as goal

pub returns : goal.returns
returns c =
    let i = c.self.inside in
    c.lowest.ensures ∙ ap (lowest_at Whole) c.self.invariant.places ∙ whole-lowest i.params.count (states_of i.chunks.items) ∙ ap (λ (z : Seen). position (is_whole z.params.count) z.chunks) c.self.view_is
