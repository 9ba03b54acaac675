use Rattle.kz_model.specs.Text.Made.{turns_made}
use Rattle.kz_bundle.specs.Printing.{lines_text}
use Rattle.kz_make.proofs.Pieces.{text_more, turns_more}
use Rattle.kz_make.proofs.order.write_turns.Goals as goal

pub loop-preserved : goal.loop-preserved
loop-preserved c =
    text_more c.loop.out.items _ _ _ _ _ (turns_more c.args.times c.loop.counter c.loop-test.true) c.loop.invariant c.in_ok-extend_from_slice.ensures.items
