use Rattle.kz_zone.proofs.Places.{unmapped_there}
use Rattle.kz_zone.proofs.grow.map_again.Goals as goal

pub remap-requires-clause-unmapped : goal.remap-requires-clause-unmapped
remap-requires-clause-unmapped g c = (unmapped_there c.args.chunks.now.chunks c.args.ordinal c.requires.unmapped).1
