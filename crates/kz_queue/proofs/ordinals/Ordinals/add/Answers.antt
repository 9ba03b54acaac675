use Rattle.std.proofs.Common.{◌/◌, ◌<◌, length, ap, arith}
use Rattle.kz_queue.proofs.Words.{summed_more}
use Rattle.kz_queue.proofs.ordinals.Ordinals.add.Goals as goal

pub invariant_of-self : goal.invariant_of-self
invariant_of-self c =
    let i = c.self.inside in
    let within : c.args.ordinal / 64 < length i.words.items = omega (arith, c.requires, ap length c.self.view_is) in
    summed_more i.words.items c.take_in.new.words.items i.summary.items c.take_in-2.new.words.items (c.args.ordinal / 64) c.self.invariant within c.take_in.ensures.words c.take_in.ensures.others
    c.take_in-2.ensures.words c.take_in-2.ensures.has c.take_in.ensures.some
