use Rattle.std.proofs.Common.{◌≡◌, ℕ, List, length, sum, take, drop, ◌++◌, ◌+◌, ◌-◌, sym, subst, ◌∙◌, ap, rules, ◌≤◌, arith, replicate}
use Rattle.kz_model.specs.Types.Share.{share}
use Rattle.kz_plan.specs.Sharing.{IsDivision}
use Rattle.kz_plan.proofs.Shares.{share-division}
use Rattle.kz_plan.proofs.SharesGrow.{sum-ones}
use Rattle.kz_plan.specs.ShareLaws.{HaveSignatures, AreWithin, AreFairest}
use Rattle.kz_plan.proofs.SharesExist.{shares_are_within, shares_are_fairest}
use Rattle.kz_plan.proofs.Written.{written}
use Rattle.kz_plan.proofs.division.share.Goals as goal

-- the parts that begin as ones and divide the budget are the shares
the_share : (counts start items new : List ℕ) (n budget : ℕ) → length counts ≤ budget → start ≡ replicate (length counts) 1 → start ≡ items → n ≡ length items → length new ≡ length start →
    IsDivision counts new (sum start + (budget - length counts)) → take n (new ++ drop (length new) items) ≡ share counts budget
the_share counts start items new n budget enough ones same long kept h =
    let total : sum start + (budget - length counts) ≡ budget = rw ones (omega (arith, sum-ones (length counts))) in
    let divided : IsDivision counts new budget = rw total at h in
    written n items new long (kept ∙ ap length same) ∙ sym (share-division counts new budget divided)

pub returns : goal.returns
returns c =
    let equal : take c.in_ok-parts.parts.len (c.give.new.parts ++ drop (length c.give.new.parts) c.in_ok-parts.parts.items) ≡ share c.args.counts.now c.args.budget =
    the_share c.args.counts.now c.deref_mut.result.now c.in_ok-parts.parts.items c.give.new.parts c.in_ok-parts.parts.len c.args.budget c.if-budget-classes.false
    (c.deref_mut.ensures.value ∙ c.in_ok-parts.ensures.items_if_clones_equal (λ y e. e)) c.deref_mut.ensures.value (omega (arith, c.in_ok-parts.parts.ok.0)) c.give.auto.parts c.give.ensures in
    let some : HaveSignatures c.args.counts.now = λ k d inside. (c.requires.counted k d inside).0 in
    record {
      short = search rules;
      enough = search rules;
      division = equal;
      within = subst (λ (parts : List ℕ). AreWithin c.args.counts.now parts c.args.budget) (sym equal) (shares_are_within c.args.counts.now c.args.budget some c.if-budget-classes.false);
      fairest = subst (λ (parts : List ℕ). AreFairest c.args.counts.now parts c.args.budget) (sym equal) (shares_are_fairest c.args.counts.now c.args.budget);
    }
