-- What was made of the number is what the command takes.
use Rattle.std.proofs.Common.{refl, arith}
use Rattle.kz_top.specs.declared.command.Command.TheVariants as command
use Rattle.kz_top.proofs.Outcomes.{work_finished}
use Rattle.kz_top.proofs.call.work_on_made.Goals as goal

pub returns-in-Ok-clause-done : goal.returns-in-Ok-clause-done
returns-in-Ok-clause-done g c words rest faults is_sure asks =
    work_finished words rest faults faults is_sure _ _ _ _ _ _ (command.Make c.args.number) c.in-Ok.bytes.items
    (record {
      asks = asks;
      taken = c.in-Ok.ensures.text;
      few = omega (arith, c.in-Ok.bytes.ok, c.in-Ok.ensures.few);
      later = omega arith;
      sure = λ sure. refl;
    })
    c.finish.ensures.done
