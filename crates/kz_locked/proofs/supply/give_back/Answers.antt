use Rattle.std.proofs.Common.{◌≡◌, ◌++◌, ◌∷◌, [], List, length, sym, ◌∙◌, ap, subst}
use Rattle.kz_model.specs.Run.Journal.{log_at}
use Rattle.kz_model.specs.declared.supply.SupplyEntry.{SupplyEntry}
use Rattle.kz_model.specs.declared.supply.Ask.TheVariants.{Back}
use Rattle.kz_model.specs.declared.supply.Answer.TheVariants.{Taken}
use Rattle.kz_turn.specs.Passes.{HeldView}
use Rattle.kz_locked.specs.declared.supply.Share.{Share}
use Rattle.kz_locked.specs.declared.supply.SupplyStart.{SupplyStart}
use Rattle.kz_locked.specs.Shares.{MayGiveBack, share_of}
use Rattle.kz_locked.specs.Supply.{entries_since}
use Rattle.kz_locked.proofs.Since.{own_log_is}
use Rattle.kz_locked.proofs.supply.give_back.Goals as goal

pub back-supply-requires-clause-may : goal.back-supply-requires-clause-may
back-supply-requires-clause-may g c =
    let value = c.enter-held.result.1 in
    let zone = c.args.zone in
    let pass = c.args.pass in
    let log = own_log_is zone value.opened value.shares.items value.supply pass c.requires.seat c.enter-held.ensures.base c.enter-held.ensures.own in
    let share : share_of pass.base.shares pass.number ≡ share_of value.shares.items zone =
    ap (λ n. share_of pass.base.shares n) c.requires.seat ∙ ap (λ (start : SupplyStart). share_of start.shares zone) (sym c.enter-held.ensures.base) in
    subst (λ (share : Share). MayGiveBack share (log_at zone value.supply.counted.log) (length c.args.frames)) share
    (subst (λ (l : List SupplyEntry). MayGiveBack (share_of pass.base.shares pass.number) l (length c.args.frames)) (sym log) c.requires.may)

pub leave-requires-clause-entry : goal.leave-requires-clause-entry
leave-requires-clause-entry g c =
    let value = c.enter-held.result.1 in
    let entry : SupplyEntry = record { zone = c.args.zone; ask = Back (length c.args.frames); answer = Taken } in
    let journal = entries_since value.opened value.supply in (
      entry,
      c.back-supply.ensures.journal ∙ ap (λ n. journal ++ (n, entry) ∷ []) (sym c.requires.seat)
          ∙ sym (ap (λ (h : HeldView SupplyStart SupplyEntry). h.journal ++ (h.number, entry) ∷ []) c.enter-held.ensures.held),
    )
