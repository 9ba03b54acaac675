use Rattle.std.proofs.Common.{◌≡◌, ◌+◌, ◌≤◌, replicate}
use Rattle.kz_model.specs.declared.supply.Ask.TheVariants.{Back}
use Rattle.kz_model.specs.declared.supply.Answer.TheVariants.{Taken}
use Rattle.kz_model.specs.Zone.Rules.{count_whole}
use Rattle.kz_supply.specs.Pages.{IsUsed}
use Rattle.kz_zone.specs.Unmapping.{unmapped_chunks}
use Rattle.kz_zone.proofs.trim.unmap_whole.Given as goal

-- those unmapped so far and those that are left are all that were wholly idle
abbrev pub invariant-loop-ordinal : goal.invariant-loop-ordinal
invariant-loop-ordinal g l =
    let pages = g.P.Pages in
    record {
      count : l.unmapped + count_whole l.chunks.params l.chunks.chunks ≡ count_whole l.fn.chunks.params l.fn.chunks.chunks;
      few : count_whole l.fn.chunks.params l.fn.chunks.chunks ≤ 4096;
      same : record l.chunks { chunks = unmapped_chunks l.chunks.params.count l.chunks.chunks } ≡ record l.fn.chunks { chunks = unmapped_chunks l.fn.chunks.params.count l.fn.chunks.chunks };
      same_zone : (pages.seen l.pages).params ≡ l.chunks.params;
      zone : l.chunks.params ≡ l.fn.chunks.params;
      room : count_whole l.chunks.params l.chunks.chunks ≤ (pages.seen l.pages).backs;
      used : IsUsed (pages.seen l.fn.pages) (pages.seen l.pages) (replicate l.unmapped (Back l.fn.chunks.params.pages, Taken)) 0 0;
    }

abbrev pub decreases-loop-ordinal : goal.decreases-loop-ordinal
decreases-loop-ordinal g l = count_whole l.chunks.params l.chunks.chunks
