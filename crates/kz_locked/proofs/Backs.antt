-- A zone that gives several packs back, one after another.
use Rattle.std.proofs.Common.{◌≡◌, ℕ, ◌+◌, suc, List, [], ◌∷◌, ◌++◌, sym, ap, ap₂, ◌∙◌, subst, arith, length-append}
use Rattle.std.proofs.Math.Nat.{mul-suc}
use Rattle.std.proofs.lemmas.List.{append_assoc}
use Rattle.kz_model.specs.declared.supply.Ask.TheVariants.{Back}
use Rattle.kz_model.specs.declared.supply.Answer.TheVariants.{Taken}
use Rattle.kz_model.specs.declared.supply.SupplyEntry.{SupplyEntry}
use Rattle.kz_model.specs.Run.Journal.{log_at}
use Rattle.kz_model.specs.Run.Supply.{granted_in, returned_in}
use Rattle.kz_model.proofs.Grants.{granted_in-append, returned_in-append}
use Rattle.kz_supply.specs.Ready.{Ready}
use Rattle.kz_turn.specs.Passes.{PassView}
use Rattle.kz_locked.specs.declared.supply.Share.{Share}
use Rattle.kz_locked.specs.declared.supply.SupplyStart.{SupplyStart}
use Rattle.kz_locked.specs.Readying.{MayGiveBackAll, backs_of}
use Rattle.kz_locked.specs.Shares.{MayGiveBack, share_of}
use Rattle.kz_locked.specs.Supply.{own_log, own_share}

abbrev back : ℕ → ℕ → SupplyEntry
back zone pages = record { zone = zone; ask = Back pages; answer = Taken }

-- ---- the share

pub gives_one : (share : Share) (own : List SupplyEntry) (pages count : ℕ) → MayGiveBackAll share own pages (suc count) → MayGiveBack share own pages
gives_one share own pages count may =
    record { entry = omega (arith, may.entries); frames = omega (arith, may.frames, mul-suc pages count) }

gives_rest : (share : Share) (own : List SupplyEntry) (zone pages count : ℕ) → MayGiveBackAll share own pages (suc count) → MayGiveBackAll share (own ++ back zone pages ∷ []) pages count
gives_rest share own zone pages count may =
    let entry = back zone pages in
    let granted : granted_in (own ++ entry ∷ []) ≡ granted_in own + 0 = granted_in-append own (entry ∷ []) in
    let returned : returned_in (own ++ entry ∷ []) ≡ returned_in own + (pages + 0) = returned_in-append own (entry ∷ []) in
    record {
      entries = omega (arith, may.entries, length-append own (entry ∷ []));
      frames = omega (arith, may.frames, mul-suc pages count, granted, returned);
    }

-- ---- the pass after one more entry

module _ (was now : PassView SupplyStart SupplyEntry) (number : now.number ≡ was.number) (base : now.base ≡ was.base) where
  share_same : own_share now ≡ own_share was
  share_same = ap₂ (λ (start : SupplyStart) n. share_of start.shares n) base number

  log_more : (entry : SupplyEntry) → now.own ≡ was.own ++ entry ∷ [] → own_log now ≡ own_log was ++ entry ∷ []
  log_more entry own =
      ap₂ (λ (start : SupplyStart) n. log_at n start.log ++ now.own) base number
      ∙ ap (λ l. log_at was.number was.base.log ++ l) own ∙ sym (append_assoc (log_at was.number was.base.log) was.own (entry ∷ []))

  pub may_after : (zone pages size count : ℕ) → size ≡ pages → now.own ≡ was.own ++ back zone size ∷ [] → MayGiveBackAll (own_share was) (own_log was) pages (suc count) → MayGiveBackAll (own_share now) (own_log now) pages count
  may_after zone pages size count same own may =
      let log : own_log now ≡ own_log was ++ back zone pages ∷ [] = log_more (back zone size) own ∙ ap (λ n. own_log was ++ back zone n ∷ []) same in
      subst (λ share. MayGiveBackAll share (own_log now) pages count) (sym share_same)
      (subst (λ l. MayGiveBackAll (own_share was) l pages count) (sym log) (gives_rest (own_share was) (own_log was) zone pages count may))

-- ---- what is left

pub own_after : (zone pages size count all : ℕ) (first own more : List SupplyEntry) → size ≡ pages → own ++ backs_of zone pages (suc count) ≡ first ++ backs_of zone pages all → more ≡ own ++ back zone size ∷ [] → more ++ backs_of zone pages count ≡ first ++ backs_of zone pages all
own_after zone pages size count all first own more same is next =
    ap (λ l. l ++ backs_of zone pages count) (next ∙ ap (λ n. own ++ back zone n ∷ []) same)
    ∙ append_assoc own (back zone pages ∷ []) (backs_of zone pages count) ∙ is

pub rest_after : (first was now : Ready) (handed : ℕ) (waiting : List (List (List ℕ))) → was ≡ record first { handed = was.handed; waiting = was.waiting } → now ≡ record was { handed = handed; waiting = waiting } → now ≡ record first { handed = now.handed; waiting = now.waiting }
rest_after first was now handed waiting is next =
    next ∙ ap (λ (r : Ready). record r { handed = handed; waiting = waiting }) is ∙ sym (ap (λ (r : Ready). record first { handed = r.handed; waiting = r.waiting }) next)
