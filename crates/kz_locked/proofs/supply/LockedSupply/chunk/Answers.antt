use Rattle.std.proofs.Common.{◌<◌, ◌≤◌, ◌^◌, length, sym, ◌∙◌, ap, subst}
use Rattle.kz_model.specs.declared.supply.SupplyEntry.{SupplyEntry}
use Rattle.kz_supply.specs.Exchange.{chunk_answer}
use Rattle.kz_supply.specs.Exchange.{ask_for_chunk as ask_of}
use Rattle.kz_supply.specs.Supply.{stock_of}
use Rattle.kz_supply.specs.Thin.{ThinSupply}
use Rattle.kz_locked.specs.Shares.{IsShared}
use Rattle.kz_locked.specs.Supply.{start_of, entries_since}
use Rattle.kz_locked.proofs.Shares.{room_for_entry, made_for_ask, shared_after_ask, chunk_entry}
use Rattle.kz_locked.proofs.Grants.{chunk_fits, chunk_below}
use Rattle.kz_locked.proofs.Since.{start_same, since_more, since_short, still_since}
use Rattle.kz_locked.proofs.supply.LockedSupply.chunk.Goals as goal

pub chunk-granted-requires-clause-room : goal.chunk-granted-requires-clause-room
chunk-granted-requires-clause-room c = room_for_entry c.args.self.shares.items c.args.self.supply c.args.params.now.zone c.args.self.kept c.requires.zone c.requires.may.entry

pub chunk-granted-requires-clause-made : goal.chunk-granted-requires-clause-made
chunk-granted-requires-clause-made c = λ fits. made_for_ask c.args.self.shares.items c.args.self.supply c.args.params.now.zone c.args.params.now.pages c.args.self.kept c.requires.zone c.requires.may

pub invariant_of-result : goal.invariant_of-result
invariant_of-result c =
    let shares = c.args.self.shares.items in
    let s = c.args.self.supply in
    let p = c.args.params.now in
    let answer = chunk_answer c.chunk-granted.result in
    let entry : SupplyEntry = record { zone = p.zone; ask = ask_of p; answer = answer } in
    let room = room_for_entry shares s p.zone c.args.self.kept c.requires.zone c.requires.may.entry in
    record {
      kept = subst (λ (s : ThinSupply). IsShared shares s) (sym c.chunk-granted.ensures.logged) (shared_after_ask shares s entry p.pages c.args.self.kept c.requires.zone c.requires.may (chunk_entry p.zone p.submap p.pages answer) c.chunk-granted.ensures.answer);
      since = subst (λ (s : ThinSupply). c.args.self.opened ≤ length s.counted.log) (sym c.chunk-granted.ensures.logged) (still_since c.args.self.opened s entry c.args.self.since);
      short = subst (λ (s : ThinSupply). length (entries_since c.args.self.opened s) < 2 ^ 62) (sym c.chunk-granted.ensures.logged) (since_short c.args.self.opened s entry room c.args.self.kept.few);
    }

pub returns-clause-base : goal.returns-clause-base
returns-clause-base c =
    let shares = c.args.self.shares.items in
    let p = c.args.params.now in
    let entry : SupplyEntry = record { zone = p.zone; ask = ask_of p; answer = chunk_answer c.chunk-granted.result } in
    ap (λ (s : ThinSupply). start_of shares c.args.self.opened s) c.chunk-granted.ensures.logged ∙ start_same shares c.args.self.opened c.args.self.supply entry c.args.self.since

pub returns-clause-journal : goal.returns-clause-journal
returns-clause-journal c =
    let p = c.args.params.now in
    let entry : SupplyEntry = record { zone = p.zone; ask = ask_of p; answer = chunk_answer c.chunk-granted.result } in
    ap (λ (s : ThinSupply). entries_since c.args.self.opened s) c.chunk-granted.ensures.logged ∙ since_more c.args.self.opened c.args.self.supply entry c.args.self.since

pub returns-clause-fits : goal.returns-clause-fits
returns-clause-fits c =
    let p = c.args.params.now in
    chunk_fits c.args.self.shares.items c.args.self.supply p.zone p.submap p.pages c.chunk-granted.result c.args.self.kept c.requires.zone c.chunk-granted.ensures.answer

pub returns-clause-below : goal.returns-clause-below
returns-clause-below c =
    let p = c.args.params.now in
    let s = c.args.self.supply.counted in
    chunk_below s.pages (stock_of s) p.submap p.pages c.chunk-granted.result c.requires.some c.chunk-granted.ensures.answer
