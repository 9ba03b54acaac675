use Rattle.std.proofs.Common.{◌+◌, refl, ap, arith}
use Rattle.kz_model.specs.declared.supply.Ask.TheVariants.{Back}
use Rattle.kz_model.specs.declared.supply.Answer.TheVariants.{Taken}
use Rattle.kz_supply.specs.Supply.{Supply}
use Rattle.kz_supply.proofs.Entries.{asked_once, begun_same, grants_after_back, room_before}
use Rattle.kz_supply.proofs.Rooms.{backs_after}
use Rattle.kz_supply.proofs.solo.SoloPagesPages.back.Goals as goal

pub returns-clause-room : goal.returns-clause-room
returns-clause-room c =
    let pages = c.args.self.now in
    rw (c.back.ensures.logged, c.requires.whole) (backs_after pages.params.zone pages.params.pages pages.supply.now (omega (arith, pages.some)) c.requires.room)

pub returns-clause-used : goal.returns-clause-used
returns-clause-used c =
    let pages = c.args.self.now in
    record {
      asked = rw (c.back.ensures.logged, c.requires.whole) (asked_once pages.params.zone (Back pages.params.pages) Taken pages.supply.now.log);
      params = refl;
      base = rw (c.back.ensures.logged, c.requires.whole) (ap (λ (s : Supply). record { borrow = pages.supply.ghost_name; supply = s }) (begun_same pages.start _ pages.supply.now pages.begun));
      grants = rw (c.back.ensures.logged, c.requires.whole) (ap (λ n. n + 0) (grants_after_back pages.params.zone pages.params.pages pages.params.submap pages.params.pages pages.supply.now));
      chunks = rw (c.back.ensures.logged, c.requires.whole) (room_before _ pages.supply.now);
      frames = rw (c.back.ensures.logged, c.requires.whole) (room_before _ pages.supply.now);
    }
