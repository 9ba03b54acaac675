use Rattle.kz_queue.specs.declared.place.Place.TheVariants.{Part, Whole, Out, Gone}
use Rattle.kz_queue.proofs.sets.Sets.remove.Goals as goal

pub remove-requires : goal.remove-requires
remove-requires c = c.requires Part

pub remove-requires-in-Whole : goal.remove-requires-in-Whole
remove-requires-in-Whole c = c.requires Whole

pub remove-requires-in-Out : goal.remove-requires-in-Out
remove-requires-in-Out c = c.requires Out

pub remove-requires-in-Gone : goal.remove-requires-in-Gone
remove-requires-in-Gone c = c.requires Gone
