use Rattle.std.proofs.Common.{◌≡◌, ◌+◌, ◌≤◌, ◌++◌, ◌∷◌, [], List, IfOk, sym, ◌∙◌, ap, subst}
use Rattle.kz_model.specs.Run.Journal.{log_at}
use Rattle.kz_model.specs.declared.supply.SupplyEntry.{SupplyEntry}
use Rattle.kz_supply.specs.Exchange.{chunk_answer, ask_for_chunk as ask_of}
use Rattle.kz_turn.specs.Passes.{HeldView}
use Rattle.kz_locked.specs.declared.supply.Share.{Share}
use Rattle.kz_locked.specs.declared.supply.SupplyStart.{SupplyStart}
use Rattle.kz_locked.specs.Shares.{MayAsk, share_of, frames_held}
use Rattle.kz_locked.specs.Supply.{entries_since}
use Rattle.kz_locked.proofs.Since.{own_log_is, found_by_pass}
use Rattle.kz_locked.proofs.supply.ask_for_chunk.Goals as goal

pub chunk-supply-requires-clause-may : goal.chunk-supply-requires-clause-may
chunk-supply-requires-clause-may g c =
    let value = c.enter-held.result.1 in
    let zone = c.args.params.now.zone in
    let pass = c.args.pass in
    let log = own_log_is zone value.opened value.shares.items value.supply pass c.requires.seat c.enter-held.ensures.base c.enter-held.ensures.own in
    let share : share_of pass.base.shares pass.number ≡ share_of value.shares.items zone =
    ap (λ n. share_of pass.base.shares n) c.requires.seat ∙ ap (λ (start : SupplyStart). share_of start.shares zone) (sym c.enter-held.ensures.base) in
    subst (λ (share : Share). MayAsk share (log_at zone value.supply.counted.log) (c.args.params.now.pages)) share
    (subst (λ (l : List SupplyEntry). MayAsk (share_of pass.base.shares pass.number) l (c.args.params.now.pages)) (sym log) c.requires.may)

pub leave-requires-clause-entry : goal.leave-requires-clause-entry
leave-requires-clause-entry g c =
    let value = c.enter-held.result.1 in
    let entry : SupplyEntry = record { zone = c.args.params.now.zone; ask = ask_of c.args.params.now; answer = chunk_answer c.chunk-supply.result.1 } in
    let journal = entries_since value.opened value.supply in (
      entry,
      c.chunk-supply.ensures.journal ∙ ap (λ n. journal ++ (n, entry) ∷ []) (sym c.requires.seat)
          ∙ sym (ap (λ (h : HeldView SupplyStart SupplyEntry). h.journal ++ (h.number, entry) ∷ []) c.enter-held.ensures.held),
    )

pub returns-clause-fits : goal.returns-clause-fits
returns-clause-fits g c =
    let value = c.enter-held.result.1 in
    found_by_pass c.args.params.now.zone value.opened value.shares.items value.supply c.args.pass c.requires.seat c.enter-held.ensures.base c.enter-held.ensures.own
    (λ start own. IfOk c.chunk-supply.result.1 (λ grant. frames_held own + c.args.params.now.pages ≤ start.frames)) c.chunk-supply.ensures.fits

pub returns-clause-below : goal.returns-clause-below
returns-clause-below g c =
    subst (λ (start : SupplyStart). IfOk c.chunk-supply.result.1 (λ grant. grant.page + c.args.params.now.pages ≤ start.pages)) c.enter-held.ensures.base c.chunk-supply.ensures.below
