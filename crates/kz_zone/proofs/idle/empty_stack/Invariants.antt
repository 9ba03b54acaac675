use Rattle.std.proofs.Common.{◌≡◌, length}
use Rattle.kz_model.specs.Zone.Rules.{all_idle}
use Rattle.kz_zone.specs.Out.{AreOut}
use Rattle.kz_zone.proofs.idle.empty_stack.Given as goal

-- what is left becomes idle too
abbrev pub invariant-loop-block : goal.invariant-loop-block
invariant-loop-block l = record {
  same : record l.chunks { chunks = all_idle l.from.blocks l.chunks.chunks } ≡ record l.fn.chunks { chunks = all_idle l.fn.from.blocks l.fn.chunks.chunks };
  magazine : l.from.magazine ≡ l.fn.from.magazine;
  out : AreOut l.chunks.params l.chunks.chunks l.from.blocks;
}

abbrev pub decreases-loop-block : goal.decreases-loop-block
decreases-loop-block l = length l.from.blocks
