use Rattle.std.proofs.Common.{◌+◌, drop, get_or, ◌∙◌}
use Rattle.std.proofs.lemmas.List.{drop_more}
use Rattle.kz_model.specs.declared.step.Block.{Block}
use Rattle.kz_zone.proofs.PutBack.{puts_first}
use Rattle.kz_zone.proofs.idle.put_all.Goals as goal

abbrev no_block : Block
no_block = record { chunk = 0; index = 0 }

pub loop-block-preserved : goal.loop-block-preserved
loop-block-preserved c =
    let l = c.loop-block in
    let blocks = c.args.blocks.now in
    let step = puts_first l.chunks c.put.new.self (get_or blocks l.block-index no_block) (drop l.block-index blocks) (drop (l.block-index + 1) blocks) (drop_more blocks l.block-index no_block c.loop-block-test.true) c.put.ensures l.invariant.out in
    record { same = step.same ∙ l.invariant.same; out = step.out }
