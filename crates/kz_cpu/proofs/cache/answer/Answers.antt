use Rattle.std.proofs.Common.{◌≡◌, None, ap, sym, ◌∙◌, subst}
use Rattle.std.specs.Option.{option_map}
use Rattle.kz_model.specs.declared.step.Step.{Step}
use Rattle.kz_model.specs.Zone.Rules.{refused_here}
use Rattle.kz_zone.specs.Pair.{Pair}
use Rattle.kz_cpu.specs.OwnReply.{reply_meant}
use Rattle.kz_cpu.specs.Local.{Brings, IsAnswer, bound_by}
use Rattle.kz_cpu.proofs.OwnAnswers.{answer_served, serves_alloc, serves_free, if_meant, meant_is_some}
use Rattle.kz_cpu.proofs.cache.answer.Goals as goal

pub returns-in-Alloc-clause-answers : goal.returns-in-Alloc-clause-answers
returns-in-Alloc-clause-answers c = λ own b.
    let F : Step → Type 0 = λ step. refused_here c.args.params.now (bound_by c.args.binding.now) step ≡ None → Brings own step c.args.pair.now.blocks (bound_by c.args.binding.now) → IsAnswer c.args.params.now own step (option_map reply_meant c.allocate.result) c.allocate.new.pair.blocks (bound_by c.allocate.new.binding) in
    let e = c.allocate.ensures in
    subst F (sym c.in-Alloc.is) (λ here b. answer_served _ own _ _ _ _ _ _ here b (serves_alloc own _ _ _ _ _ (option_map reply_meant c.allocate.result) b (record {
      some = meant_is_some c.allocate.result ∙ e.some;
      reply = if_meant c.allocate.result _ _ (λ r same. ap reply_meant same) e.reply;
      rest = if_meant c.allocate.result _ _ (λ r same. ap (λ (p : Pair). p.blocks) same) e.stack;
      bound = if_meant c.allocate.result _ _ (λ r same. same) e.bound;
    }))) (sym c.refused.ensures ∙ ap (λ r. option_map reply_meant r) c.in_default.is) b

pub returns-in-Free-clause-answers : goal.returns-in-Free-clause-answers
returns-in-Free-clause-answers c = λ own b.
    let F : Step → Type 0 = λ step. refused_here c.args.params.now (bound_by c.args.binding.now) step ≡ None → Brings own step c.args.pair.now.blocks (bound_by c.args.binding.now) → IsAnswer c.args.params.now own step (option_map reply_meant c.free.result) c.free.new.pair.blocks (bound_by c.free.new.binding) in
    let e = c.free.ensures in
    subst F (sym c.in-Free.is) (λ here b. answer_served _ own _ _ _ _ _ _ here b (serves_free own _ _ _ _ _ _ _ (option_map reply_meant c.free.result) b (record {
      some = meant_is_some c.free.result ∙ e.some;
      reply = if_meant c.free.result _ _ (λ r same. ap reply_meant same) e.reply;
      more = if_meant c.free.result _ _ (λ r same. ap (λ (p : Pair). p.blocks) same) e.stack;
      binding = if_meant c.free.result _ _ (λ r same. same) e.bound;
    }))) (sym c.refused.ensures ∙ ap (λ r. option_map reply_meant r) c.in_default.is) b

pub returns-in-Free-clause-tagged : goal.returns-in-Free-clause-tagged
returns-in-Free-clause-tagged c = λ tagged. c.free.ensures.tagged c.args.zone tagged
