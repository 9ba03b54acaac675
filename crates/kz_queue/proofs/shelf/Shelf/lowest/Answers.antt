use Rattle.std.proofs.Common.{ap, ◌∙◌}
use Rattle.std.specs.Vec.{vec_capacity}
use Rattle.kz_queue.specs.Shelf.{Shelf, lowest_at}
use Rattle.kz_queue.proofs.Places.{lowest_of_sets}
use Rattle.kz_queue.proofs.shelf.Shelf.lowest.Goals as goal

pub returns : goal.returns
returns c =
    lowest_of_sets c.self.inside.room (vec_capacity c.self.inside.places) c.self.inside.places.items c.self.inside.sets c.args.place c.lowest.result c.self.invariant c.lowest.ensures.some c.lowest.ensures.none c.lowest.ensures.within
    ∙ ap (λ (s : Shelf). lowest_at c.args.place s.places) c.self.view_is
