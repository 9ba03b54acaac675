use Rattle.std.proofs.Common.{◌+◌, refl, ap}
use Rattle.kz_supply.specs.Exchange.{ask_for_frames, frames_answer}
use Rattle.kz_supply.specs.Supply.{Supply}
use Rattle.kz_supply.proofs.Entries.{asked_once, begun_same, grants_after_frames}
use Rattle.kz_supply.proofs.solo.SoloPagesPages.frames.Goals as goal

pub returns-clause-used : goal.returns-clause-used
returns-clause-used c =
    let pages = c.args.self.now in
    record {
      asked = rw c.frames.ensures.logged (asked_once pages.params.zone (ask_for_frames pages.params) (frames_answer c.frames.result) pages.supply.now.log);
      params = refl;
      base = rw c.frames.ensures.logged (ap (λ (s : Supply). record { borrow = pages.supply.ghost_name; supply = s }) (begun_same pages.start _ pages.supply.now pages.begun));
      grants = rw c.frames.ensures.logged (ap (λ n. n + 0) (grants_after_frames pages.params.zone pages.params.pages pages.params.submap pages.params.pages pages.supply.now (frames_answer c.frames.result)));
      chunks = λ can. c.requires;
      frames = λ can. c.requires;
    }
