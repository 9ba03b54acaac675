use Rattle.std.proofs.Common.{◌∙◌, ap, refl, sym, Some}
use Rattle.kz_supply.specs.declared.ready.Readied.{Readied}
use Rattle.kz_supply.specs.Exchange.{Exchange, ask_for_frames}
use Rattle.kz_supply.specs.Ready.{exchange_ready, answers_ready, ready_of}
use Rattle.kz_supply.proofs.Gets.{base_after_ask}
use Rattle.kz_supply.proofs.ready.ReadyPagesPages.frames.Goals as goal

pub returns-clause-base : goal.returns-clause-base
returns-clause-base c =
    let r = c.self.inside in
    let ready = sym c.replace.ensures.value ∙ c.in-Frames.is in
    let exchange : Exchange = (ask_for_frames r.params, c.answer_to_frames.result) in
    rw (c.replace.ensures.after, c.push_reserved.ensures.items, ← c.self.view_is)
    (base_after_ask r.params r.chunks (ready_of r.readied) r.exchanges.items r.waiting.items exchange
    (ap (λ (q : Readied). exchange_ready r.params (ready_of q)) ready ∙ ap (λ a. Some (ask_for_frames r.params, a)) (sym c.answer_to_frames.ensures)) (ap (λ (q : Readied). answers_ready (ready_of q)) ready) refl c.self.invariant.once)
