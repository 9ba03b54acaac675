use Rattle.std.proofs.Common.{false, rules}
use Rattle.kz_report.specs.Lines.{mapped_line}
use Rattle.kz_report.proofs.PlanText.{more_numbered}
use Rattle.kz_report.proofs.zones.write_chunks.Goals as goal

pub loop-chunk-preserved : goal.loop-chunk-preserved
loop-chunk-preserved c =
    more_numbered (mapped_line c.args.zone c.args.row c.args.pages.now) c.args.mapped.now c.loop-chunk.chunk _ false (c.args.out.now.items) (c.loop-chunk.out.items) (c.write_chunk.new.out.items) c.loop-chunk-test.true (search rules) c.loop-chunk.invariant c.in_ok-write_chunk.ensures
