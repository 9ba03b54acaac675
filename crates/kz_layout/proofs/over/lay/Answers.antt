use Rattle.std.proofs.Common.{◌++◌, length, replicate, arith, ap, ◌∙◌}
use Rattle.kz_model.specs.Types.Cover.{over}
use Rattle.kz_layout.proofs.Overs.{laid_none, laid_again, length-over_copy}
use Rattle.kz_layout.proofs.over.lay.Goals as goal

pub loop-init : goal.loop-init
loop-init c = record { laid = laid_none c.args.codes.now.items c.args.first c.requires.within; begins = omega arith; within = c.requires.within }

pub loop-preserved : goal.loop-preserved
loop-preserved c =
    let laid = laid_again c.args.codes.now.items c.loop.codes.items c.args.part.now c.args.first c.loop.counter c.loop.invariant.laid in
    let items = c.in_ok-lay_one.ensures in
    record {
      laid = items ∙ ap (λ n. over c.loop.codes.items (replicate n 0 ++ c.args.part.now)) c.loop.invariant.begins ∙ laid;
      begins = omega arith;
      within = omega (arith, ap length items, length-over_copy c.loop.codes.items c.args.part.now c.loop.from);
    }
