use Rattle.std.proofs.Common.{◌∙◌, refl, sym, ap, arith, add-zero}
use Rattle.kz_supply.specs.Exchange.{ask_for_chunk, chunk_answer}
use Rattle.kz_supply.specs.Supply.{Supply}
use Rattle.kz_supply.proofs.Entries.{asked_once, begun_same}
use Rattle.kz_supply.proofs.Grants.{chunk_made, frames_before}
use Rattle.kz_supply.proofs.Rooms.{grants_after}
use Rattle.kz_supply.proofs.thin_pages.ThinPagesPages.chunk.Goals as goal

pub chunk-requires-clause-made : goal.chunk-requires-clause-made
chunk-requires-clause-made c =
    let pages = c.args.self.now in
    chunk_made pages.start pages.params pages.supply.now c.requires

pub returns-clause-used : goal.returns-clause-used
returns-clause-used c =
    let pages = c.args.self.now in
    record {
      asked = rw c.chunk.ensures.logged (asked_once pages.params.zone (ask_for_chunk pages.params) (chunk_answer c.chunk.result) pages.supply.now.counted.log);
      params = refl;
      base = rw c.chunk.ensures.logged (ap (λ (s : Supply). record { counted = record { borrow = pages.supply.ghost_name; supply = s }; made = pages.supply.now.made }) (begun_same pages.start _ pages.supply.now.counted pages.begun));
      grants = rw c.chunk.ensures.logged (sym (grants_after pages.params.zone pages.params.submap pages.params.pages pages.supply.now.counted c.chunk.result pages.submap (omega (arith, pages.some)) c.chunk.ensures.answer) ∙ sym (add-zero _));
      chunks = λ can. c.requires;
      frames = rw c.chunk.ensures.logged (frames_before pages.start pages.params _ pages.supply.now pages.begun);
    }
