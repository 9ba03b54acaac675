use Rattle.std.proofs.Common.{arith}
use Rattle.kz_model.proofs.LaidOut.{layouts_of-length}
use Rattle.kz_bundle.proofs.Validity.{spelled_is_valid}
use Rattle.kz_bundle.proofs.stages.typing.bundle_layouts.Goals as goal

pub layouts_of_lines-requires : goal.layouts_of_lines-requires
layouts_of_lines-requires c = (spelled_is_valid c.args.bundle.now c.requires).types.few

pub returns-in-Ok-clause-few : goal.returns-in-Ok-clause-few
returns-in-Ok-clause-few c =
    omega (arith, layouts_of-length c.args.bundle.now.types c.in-Ok.layouts.items c.in-Ok.ensures.ok, (spelled_is_valid c.args.bundle.now c.requires).types.few)
