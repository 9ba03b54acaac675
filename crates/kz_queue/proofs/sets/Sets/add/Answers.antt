use Rattle.kz_queue.specs.declared.place.Place.TheVariants.{Part, Whole, Out, Gone}
use Rattle.kz_queue.proofs.sets.Sets.add.Goals as goal

pub add-requires : goal.add-requires
add-requires c = c.requires Part

pub add-requires-in-Whole : goal.add-requires-in-Whole
add-requires-in-Whole c = c.requires Whole

pub add-requires-in-Out : goal.add-requires-in-Out
add-requires-in-Out c = c.requires Out

pub add-requires-in-Gone : goal.add-requires-in-Gone
add-requires-in-Gone c = c.requires Gone
