use Rattle.std.proofs.Common.{◌+◌, refl, ap}
use Rattle.kz_supply.specs.Exchange.{ask_for_frames, frames_answer}
use Rattle.kz_supply.specs.Supply.{Supply}
use Rattle.kz_supply.proofs.Entries.{asked_once, begun_same, grants_after_frames}
use Rattle.kz_supply.proofs.Grants.{frames_made, give_place}
use Rattle.kz_supply.proofs.thin_pages.ThinPagesPages.frames.Goals as goal

pub frames-requires-clause-made : goal.frames-requires-clause-made
frames-requires-clause-made c =
    let pages = c.args.self.now in
    frames_made pages.start pages.params pages.supply.now c.requires

pub returns-clause-used : goal.returns-clause-used
returns-clause-used c =
    let pages = c.args.self.now in
    record {
      asked = rw c.frames.ensures.logged (asked_once pages.params.zone (ask_for_frames pages.params) (frames_answer c.frames.result) pages.supply.now.counted.log);
      params = refl;
      base = rw c.frames.ensures.logged (ap (λ (s : Supply). record { counted = record { borrow = pages.supply.ghost_name; supply = s }; made = pages.supply.now.made }) (begun_same pages.start _ pages.supply.now.counted pages.begun));
      grants = rw c.frames.ensures.logged (ap (λ n. n + 0) (grants_after_frames pages.params.zone pages.params.pages pages.params.submap pages.params.pages pages.supply.now.counted (frames_answer c.frames.result)));
      chunks = λ can. give_place pages.start pages.params pages.supply.now c.requires;
      frames = λ can. c.requires;
    }
