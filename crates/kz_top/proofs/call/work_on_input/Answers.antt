-- What was read is what the command takes.
use Rattle.std.proofs.Common.{arith}
use Rattle.kz_top.proofs.Outcomes.{work_finished, taken_input}
use Rattle.kz_top.proofs.Reading.{read_finished}
use Rattle.kz_top.proofs.call.work_on_input.Goals as goal

pub returns-in-Ok-clause-done : goal.returns-in-Ok-clause-done
returns-in-Ok-clause-done g c words asks =
    work_finished words _ _ _ _ _ _ _ _ _ _ c.args.command c.in-Ok.bytes.items
    (record {
      asks = asks;
      taken = taken_input c.args.command (g.S.Source.rest c.args.input.now) c.in-Ok.bytes.items c.requires c.in-Ok.ensures.whole;
      few = omega (arith, c.in-Ok.bytes.ok, c.in-Ok.ensures.within);
      later = c.in-Ok.ensures.later;
      sure = λ sure. (c.in-Ok.ensures.sure sure).1;
    })
    c.finish.ensures.done

pub returns-in-Ok-clause-read : goal.returns-in-Ok-clause-read
returns-in-Ok-clause-read g c =
    read_finished c.args.command c.in-Ok.bytes.items _ _ _ _ _ _ _ _ c.finish.ensures.done (record {
      bytes = c.in-Ok.bytes.items;
      few = omega (arith, c.in-Ok.bytes.ok, c.in-Ok.ensures.within);
      front = c.in-Ok.ensures.ok;
      at_end = c.in-Ok.ensures.at_end;
    })
