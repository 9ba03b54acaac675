use Rattle.std.proofs.Common.{◌<◌, ◌≤◌, ◌^◌, length, sym, ◌∙◌, ap, subst}
use Rattle.kz_model.specs.declared.supply.SupplyEntry.{SupplyEntry}
use Rattle.kz_model.specs.declared.supply.Ask.TheVariants.{Back}
use Rattle.kz_model.specs.declared.supply.Answer.TheVariants.{Taken}
use Rattle.kz_supply.specs.Thin.{ThinSupply}
use Rattle.kz_locked.specs.Shares.{IsShared}
use Rattle.kz_locked.specs.Supply.{start_of, entries_since}
use Rattle.kz_locked.proofs.Shares.{room_for_entry, out_for_back, shared_after_back}
use Rattle.kz_locked.proofs.Since.{start_same, since_more, since_short, still_since}
use Rattle.kz_locked.proofs.supply.LockedSupply.back.Goals as goal

pub back-requires-clause-room : goal.back-requires-clause-room
back-requires-clause-room c = room_for_entry c.args.self.shares.items c.args.self.supply c.args.zone c.args.self.kept c.requires.zone c.requires.may.entry

pub back-requires-clause-out : goal.back-requires-clause-out
back-requires-clause-out c = out_for_back c.args.self.shares.items c.args.self.supply c.args.zone (length c.args.frames) c.args.self.kept c.requires.zone c.requires.may

pub invariant_of-result : goal.invariant_of-result
invariant_of-result c =
    let shares = c.args.self.shares.items in
    let s = c.args.self.supply in
    let entry : SupplyEntry = record { zone = c.args.zone; ask = Back (length c.args.frames); answer = Taken } in
    let room = room_for_entry shares s c.args.zone c.args.self.kept c.requires.zone c.requires.may.entry in
    record {
      kept = subst (λ (s : ThinSupply). IsShared shares s) (sym c.back.ensures.logged) (shared_after_back shares s c.args.zone (length c.args.frames) c.args.self.kept c.requires.zone c.requires.may);
      since = subst (λ (s : ThinSupply). c.args.self.opened ≤ length s.counted.log) (sym c.back.ensures.logged) (still_since c.args.self.opened s entry c.args.self.since);
      short = subst (λ (s : ThinSupply). length (entries_since c.args.self.opened s) < 2 ^ 62) (sym c.back.ensures.logged) (since_short c.args.self.opened s entry room c.args.self.kept.few);
    }

pub returns-clause-base : goal.returns-clause-base
returns-clause-base c =
    let shares = c.args.self.shares.items in
    let entry : SupplyEntry = record { zone = c.args.zone; ask = Back (length c.args.frames); answer = Taken } in
    ap (λ (s : ThinSupply). start_of shares c.args.self.opened s) c.back.ensures.logged ∙ start_same shares c.args.self.opened c.args.self.supply entry c.args.self.since

pub returns-clause-journal : goal.returns-clause-journal
returns-clause-journal c =
    let entry : SupplyEntry = record { zone = c.args.zone; ask = Back (length c.args.frames); answer = Taken } in
    ap (λ (s : ThinSupply). entries_since c.args.self.opened s) c.back.ensures.logged ∙ since_more c.args.self.opened c.args.self.supply entry c.args.self.since
