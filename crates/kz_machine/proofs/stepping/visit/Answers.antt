use Rattle.std.proofs.Common.{◌≡◌, ◌∙◌, ap, sym, subst, map, rules}
use Rattle.kz_model.specs.declared.record.ZoneParams.{ZoneParams}
use Rattle.kz_model.specs.Run.Order.{answered}
use Rattle.kz_supply.specs.Exchange.{ask_of, entries_of}
use Rattle.kz_supply.specs.Thin.{thin_with_exchanges}
use Rattle.kz_supply.proofs.Uses.{thin_used, thin_used_answered}
use Rattle.kz_machine.specs.Steps.{parties}
use Rattle.kz_machine.proofs.Answering.{answers_ready, places_ready, backs_ready}
use Rattle.kz_machine.proofs.Steps.{visit_does}
use Rattle.kz_machine.proofs.stepping.visit.Goals as goal

pub slow-requires-clause-step : goal.slow-requires-clause-step
slow-requires-clause-step c = record { gifts = c.requires.ready.gifts; reads = c.requires.ready.reads }

pub slow-requires-clause-serves : goal.slow-requires-clause-serves
slow-requires-clause-serves c =
    let made = c.new-pages.ensures in
    let here = parties c.args.cpu.now c.args.book.now c.args.supply.now in
    let ready = c.requires.ready in
    record {
      params = made.params ∙ sym (ready.keeps.params ∙ ready.params);
      answers = rw (made.supply, made.params, made.start) (answers_ready c.args.params.now here c.args.step.now ready _);
      place = rw (made.supply, made.params) (places_ready c.args.params.now here c.args.step.now ready _);
      room = rw (made.supply, made.params) (backs_ready c.args.params.now here c.args.step.now ready);
    }

pub returns : goal.returns
returns c =
    let made = c.slow.ensures.keeps in
    let used = made.1.used in
    let old = c.args.supply.now in
    let kept = c.slow.ensures.same in
    let same = c.new-pages.ensures.params in
    let left = thin_used old c.new-pages.result c.slow.new.pages made.0 c.new-pages.ensures.supply c.new-pages.ensures.start used.base used.params used.asked in
    let left = left ∙ ap (λ (p : ZoneParams). thin_with_exchanges p.zone made.0 old) same in
    visit_does c.args.params.now c.args.round (parties c.args.cpu.now c.args.book.now old) _ c.args.step.now c.slow.result made.0
    c.requires.ready c.requires.needs
    (search (rules, left))
    (λ b frames pages.
    subst (λ (p : ZoneParams). entries_of p.zone made.0 ≡ answered b p.zone old.counted.log (map ask_of made.0)) same
    (thin_used_answered b old c.new-pages.result c.slow.new.pages made.0 c.new-pages.ensures.supply c.new-pages.ensures.start used.base used.params used.asked frames pages))
    c.slow.ensures.visits kept.room kept.most_chunks kept.most_gifts made.2 c.slow.ensures.recent c.slow.ensures.elsewhere
