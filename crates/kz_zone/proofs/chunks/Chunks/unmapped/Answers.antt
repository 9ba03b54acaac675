use Rattle.std.proofs.Common.{ap, ◌∙◌}
use Rattle.kz_queue.specs.Shelf.{lowest_at}
use Rattle.kz_queue.specs.declared.place.Place.TheVariants.{Gone}
use Rattle.kz_model.specs.Zone.Pick.{unmapped_place}
use Rattle.kz_zone.specs.Chunks.{Chunks as Seen, states_of}
use Rattle.kz_zone.proofs.Places.{unmapped-lowest}
use Rattle.kz_zone.proofs.chunks.Chunks.unmapped.Goals as goal

pub returns : goal.returns
returns c =
    let i = c.self.inside in
    c.lowest.ensures ∙ ap (lowest_at Gone) c.self.invariant.places ∙ unmapped-lowest i.params.count (states_of i.chunks.items) ∙ ap (λ (z : Seen). unmapped_place z.chunks) c.self.view_is
