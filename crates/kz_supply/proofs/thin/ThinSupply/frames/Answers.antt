use Rattle.std.proofs.Common.{◌<◌, length, sym, subst, ap, ◌∙◌, arith}
use Rattle.kz_model.specs.declared.supply.Answer.{Answer}
use Rattle.kz_model.specs.Run.Supply.{stock_after}
use Rattle.kz_model.specs.declared.supply.Ask.TheVariants.{Frames}
use Rattle.kz_supply.specs.Thin.{ThinSupply}
use Rattle.kz_supply.proofs.Logs.{kept_more}
use Rattle.kz_supply.proofs.thin.ThinSupply.frames.Goals as goal

pub invariant_of-self : goal.invariant_of-self
invariant_of-self c =
    let before = c.self.inside.stock in
    let more = let P : ThinSupply → Type 0 = λ s. length s.counted.log < s.counted.room in subst P (sym c.self.view_is) c.requires.room in
    rw (c.frames-given.ensures.left, c.push_reserved.ensures.items)
    (kept_more before.left _ _ _ _ (record { zone = c.args.zone; ask = Frames c.args.pages; answer = c.answer_to_frames-answer.result }) _ c.self.invariant more (omega (arith, c.push_reserved.ensures.capacity)) (c.answer_to_frames-answer.ensures ∙ c.frames-given.ensures.answer) (ap (λ (a : Answer). stock_after before.left (Frames c.args.pages) a) (sym c.answer_to_frames-answer.ensures)) (omega arith) c.requires.few)

pub returns-clause-answers : goal.returns-clause-answers
returns-clause-answers c = (invariant_of-self c).answers
