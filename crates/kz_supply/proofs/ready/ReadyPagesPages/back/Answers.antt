use Rattle.kz_model.specs.declared.supply.Answer.TheVariants.{Taken}
use Rattle.kz_supply.specs.Ready.{ready_of}
use Rattle.kz_supply.proofs.Gets.{base_after_back}
use Rattle.kz_supply.proofs.ready.ReadyPagesPages.back.Goals as goal

pub returns-clause-base : goal.returns-clause-base
returns-clause-base c =
    let r = c.self.inside in
    rw (c.push_reserved.ensures.items, c.push_back_reserved.ensures.items, ← c.self.view_is)
    (base_after_back r.params r.chunks (ready_of r.readied) r.exchanges.items r.waiting.items r.params.pages Taken c.args.frames)
