use Rattle.std.proofs.Common.{◌<◌, ◌≤◌, length, refl, sym, subst, ap, arith}
use Rattle.kz_model.specs.declared.supply.Ask.TheVariants.{Back}
use Rattle.kz_model.specs.declared.supply.Answer.TheVariants.{Taken}
use Rattle.kz_model.specs.Run.Supply.{stock_after}
use Rattle.kz_supply.specs.Supply.{frames_out}
use Rattle.kz_supply.specs.Thin.{ThinSupply}
use Rattle.kz_supply.proofs.Logs.{kept_more}
use Rattle.kz_supply.proofs.thin.ThinSupply.back.Goals as goal

pub invariant_of-self : goal.invariant_of-self
invariant_of-self c =
    let before = c.self.inside.stock in
    let more = let P : ThinSupply → Type 0 = λ s. length s.counted.log < s.counted.room in subst P (sym c.self.view_is) c.requires.room in
    let out = let P : ThinSupply → Type 0 = λ s. length c.args.frames ≤ frames_out s.counted in subst P (sym c.self.view_is) c.requires.out in
    rw (c.back.ensures, c.push_reserved.ensures.items)
    (kept_more before.left _ _ _ _ (record { zone = c.args.zone; ask = Back c.len.result; answer = Taken }) _ c.self.invariant more (omega (arith, c.push_reserved.ensures.capacity)) refl (ap (λ n. stock_after before.left (Back n) Taken) (sym c.len.ensures.len)) (omega (arith, out, c.len.ensures.len)) (omega arith))

pub returns-clause-answers : goal.returns-clause-answers
returns-clause-answers c = (invariant_of-self c).answers
