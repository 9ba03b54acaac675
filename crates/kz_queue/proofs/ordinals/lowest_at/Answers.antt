use Rattle.std.proofs.Common.{rules}
use Rattle.kz_queue.proofs.Words.{lowest_there}
use Rattle.kz_queue.proofs.ordinals.lowest_at.Goals as goal

pub returns : goal.returns
returns c = lowest_there c.args.words.now c.args.word c.requires.first (search (rules, c.type_inv.words c.args.word))
