use Rattle.std.proofs.lemmas.Result.{on_ok_weaker}
use Rattle.kz_make.proofs.Results.{pushed}
use Rattle.kz_make.proofs.NamedSteps.{read_said, write_said}
use Rattle.kz_make.proofs.steps.write_said.Goals as goal

pub returns-in_ok-write_on_name-in-11 : goal.returns-in_ok-write_on_name-in-11
returns-in_ok-write_on_name-in-11 c =
    pushed c.extend_from_slice.result _ _ _ c.extend_from_slice.ensures.items (λ after. read_said c.args.out.now.items _ _ c.args.cpu c.args.k c.args.word c.args.number c.in-11.is c.in_ok-write_on_name-in-11.ensures after)

pub returns-in_ok-extend_from_slice-in-12 : goal.returns-in_ok-extend_from_slice-in-12
returns-in_ok-extend_from_slice-in-12 c =
    on_ok_weaker c.write_word.result (λ after. write_said c.args.out.now.items _ _ _ c.args.cpu c.args.k c.args.word c.args.number c.in-12.is c.in_ok-write_on_name-in-12.ensures c.in_ok-extend_from_slice-in-12.ensures.items after) c.write_word.ensures
