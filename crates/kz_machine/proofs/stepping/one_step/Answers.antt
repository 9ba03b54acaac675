use Rattle.std.proofs.Common.{List, subst}
use Rattle.kz_supply.specs.Exchange.{Exchange}
use Rattle.kz_book.specs.Book.{History}
use Rattle.kz_cpu.specs.Cpu.{Cpu}
use Rattle.kz_cpu.specs.Caught.{IsCaughtUpWith}
use Rattle.kz_machine.specs.Steps.{IsStepDone, parties}
use Rattle.kz_machine.proofs.Steps.{late_does}
use Rattle.kz_machine.proofs.stepping.one_step.Goals as goal

pub returns-in-Some-clause-does : goal.returns-in-Some-clause-does
returns-in-Some-clause-does c =
    late_does c.args.params.now c.args.round (parties c.args.cpu.now c.args.book.now c.args.supply.now) c.local.new.self c.args.step.now c.in-Some.own c.requires.ready
    c.in-Some.ensures.needs c.in-Some.ensures.reply c.in-Some.ensures.has c.in-Some.ensures.recent c.in-Some.ensures.elsewhere

pub returns-in-None-clause-does : goal.returns-in-None-clause-does
returns-in-None-clause-does c j keeps caught =
    let with_visit = c.visit-reply in
    subst
    (λ (cpu : Cpu). IsCaughtUpWith cpu c.args.params.now.zone j →
    (after : History) × (exchanges : List Exchange) × IsStepDone c.args.params.now c.args.round (parties cpu c.args.book.now c.args.supply.now) (parties with_visit.new.cpu with_visit.new.book with_visit.new.supply) c.args.step.now with_visit.result j after exchanges)
    c.in-None.ensures.none (with_visit.ensures j keeps) caught
