use Rattle.std.proofs.Common.{◌≡◌, length, sym, subst, ap, arith, List}
use Rattle.kz_model.specs.declared.bundle.Bundle.{Bundle}
use Rattle.kz_model.specs.declared.record.Plan.{Plan}
use Rattle.kz_model.specs.declared.record.Visit.{Visit}
use Rattle.kz_locked.specs.Zone.{IsLockedZone}
use Rattle.kz_locked.proofs.MoreStays.{is_short}
use Rattle.kz_locked.proofs.zone.LockedZone.new.Goals as goal

pub invariant_of-result : goal.invariant_of-result
invariant_of-result c =
    let long : length c.visits-opened.result.now ≡ length c.args.book.visits = ap (λ (visits : List Visit). length visits) c.visits-opened.ensures.is in
    let kept : ∥ IsLockedZone c.of.result.value c.of-2.result.value c.args.book c.args.pages c.args.pass ∥₁ =
    subst (λ (b : Bundle). ∥ IsLockedZone b c.of-2.result.value c.args.book c.args.pages c.args.pass ∥₁) (sym c.of.ensures)
    (subst (λ (plan : Plan). ∥ IsLockedZone c.args.bundle.now plan c.args.book c.args.pages c.args.pass ∥₁) (sym c.of-2.ensures) c.requires) in
    record {
      kept = kept;
      since = omega (arith, long);
      short = is_short (length c.visits-opened.result.now) c.of.result.value c.of-2.result.value c.args.book c.args.pages c.args.pass kept;
    }
