use Rattle.std.proofs.Common.{◌≡◌, length}
use Rattle.kz_model.specs.Zone.Rules.{all_idle}
use Rattle.kz_zone.specs.Depot.{row_of}
use Rattle.kz_zone.specs.Out.{AreOut}
use Rattle.kz_zone.proofs.idle.empty_depot.Given as goal

-- what is left becomes idle too
abbrev pub invariant-loop-block : goal.invariant-loop-block
invariant-loop-block l = record {
  same : record l.chunks { chunks = all_idle (row_of l.depot.lists) l.chunks.chunks } ≡ record l.fn.chunks { chunks = all_idle (row_of l.fn.depot.lists) l.fn.chunks.chunks };
  magazine : l.depot.magazine ≡ l.fn.depot.magazine;
  room : l.depot.room ≡ l.fn.depot.room;
  out : AreOut l.chunks.params l.chunks.chunks (row_of l.depot.lists);
}

abbrev pub decreases-loop-block : goal.decreases-loop-block
decreases-loop-block l = length (row_of l.depot.lists)
