use Rattle.std.proofs.Common.{length, ap, arith}
use Rattle.kz_model.proofs.LaidOut.{layouts_of-length}
use Rattle.kz_bundle.proofs.stages.typing.read_types.Goals as goal

pub general_classes-requires-clause-few : goal.general_classes-requires-clause-few
general_classes-requires-clause-few c =
    omega (arith, ap length c.deref.ensures.value, layouts_of-length c.args.types.now c.in-Ok.layouts.items c.in-Ok.ensures.ok, c.requires)

pub returns-in-None-clause-few : goal.returns-in-None-clause-few
returns-in-None-clause-few c =
    omega (arith, layouts_of-length c.args.types.now c.in-Ok.layouts.items c.in-Ok.ensures.ok, c.requires)
