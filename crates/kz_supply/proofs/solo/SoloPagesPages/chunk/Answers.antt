use Rattle.std.proofs.Common.{◌∙◌, refl, sym, ap, arith, add-zero}
use Rattle.kz_supply.specs.Exchange.{ask_for_chunk, chunk_answer}
use Rattle.kz_supply.specs.Supply.{Supply}
use Rattle.kz_supply.proofs.Entries.{asked_once, begun_same}
use Rattle.kz_supply.proofs.Rooms.{grants_after}
use Rattle.kz_supply.proofs.solo.SoloPagesPages.chunk.Goals as goal

pub returns-clause-used : goal.returns-clause-used
returns-clause-used c =
    let pages = c.args.self.now in
    record {
      asked = rw c.chunk.ensures.logged (asked_once pages.params.zone (ask_for_chunk pages.params) (chunk_answer c.chunk.result) pages.supply.now.log);
      params = refl;
      base = rw c.chunk.ensures.logged (ap (λ (s : Supply). record { borrow = pages.supply.ghost_name; supply = s }) (begun_same pages.start _ pages.supply.now pages.begun));
      grants = rw c.chunk.ensures.logged (sym (grants_after pages.params.zone pages.params.submap pages.params.pages pages.supply.now c.chunk.result pages.submap (omega (arith, pages.some)) c.chunk.ensures.answer) ∙ sym (add-zero _));
      chunks = λ can. c.requires;
      frames = λ can. c.requires;
    }
