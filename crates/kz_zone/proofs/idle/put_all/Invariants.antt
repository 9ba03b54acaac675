use Rattle.std.proofs.Common.{◌≡◌, drop}
use Rattle.kz_model.specs.Zone.Rules.{all_idle}
use Rattle.kz_zone.specs.Out.{AreOut}
use Rattle.kz_zone.proofs.idle.put_all.Given as goal

-- what is left becomes idle too
abbrev pub invariant-loop-block : goal.invariant-loop-block
invariant-loop-block l = record {
  same : record l.chunks { chunks = all_idle (drop l.block-index l.blocks) l.chunks.chunks } ≡ record l.fn.chunks { chunks = all_idle l.blocks l.fn.chunks.chunks };
  out : AreOut l.chunks.params l.chunks.chunks (drop l.block-index l.blocks);
}
