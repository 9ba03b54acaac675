use Rattle.std.proofs.Common.{◌<◌, length, sym, subst, ap, ◌∙◌, arith}
use Rattle.kz_model.specs.declared.supply.Answer.{Answer}
use Rattle.kz_model.specs.Run.Supply.{stock_after}
use Rattle.kz_model.specs.declared.supply.Ask.TheVariants.{Chunk}
use Rattle.kz_supply.specs.Thin.{ThinSupply}
use Rattle.kz_supply.proofs.Logs.{kept_more}
use Rattle.kz_supply.proofs.thin.ThinSupply.chunk.Goals as goal

pub invariant_of-self : goal.invariant_of-self
invariant_of-self c =
    let before = c.self.inside.stock in
    let more = let P : ThinSupply → Type 0 = λ s. length s.counted.log < s.counted.room in subst P (sym c.self.view_is) c.requires.room in
    rw (c.chunk-granted.ensures.left, c.push_reserved.ensures.items)
    (kept_more before.left _ _ _ _ (record { zone = c.args.zone; ask = Chunk c.args.submap c.args.pages; answer = c.answer_to_chunk-answer.result }) _ c.self.invariant more (omega (arith, c.push_reserved.ensures.capacity)) (c.answer_to_chunk-answer.ensures ∙ c.chunk-granted.ensures.answer) (ap (λ (a : Answer). stock_after before.left (Chunk c.args.submap c.args.pages) a) (sym c.answer_to_chunk-answer.ensures)) (omega arith) c.requires.few)

pub returns-clause-answers : goal.returns-clause-answers
returns-clause-answers c = (invariant_of-self c).answers
