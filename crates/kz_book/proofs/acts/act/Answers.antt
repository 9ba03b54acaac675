use Rattle.std.proofs.Common.{refl, ap, subst, arith}
use Rattle.kz_model.specs.declared.step.Step.{Step}
use Rattle.kz_model.specs.declared.step.Reply.TheVariants as reply
use Rattle.kz_supply.proofs.Views.{used_with}
use Rattle.kz_zone.specs.Growth.{CanServe, chunks_of}
use Rattle.kz_zone.specs.Pair.{Pair}
use Rattle.kz_book.specs.Acts.{IsOrderly, scene}
use Rattle.kz_book.specs.Visits.{want_at, backs_at}
use Rattle.kz_book.proofs.Effects.{acts_at, acts_alone, does_free, does_give, does_take, does_read, does_write, does_flush}
use Rattle.kz_book.proofs.Orderly.{stack_away, read_block, write_block}
use Rattle.kz_book.proofs.Supplied.{acts_trim}
use Rattle.kz_book.proofs.acts.act.Goals as goal

pub free-requires-clause-away : goal.free-requires-clause-away
free-requires-clause-away g c = stack_away _ _ _ c.requires.at

pub flush-requires-clause-away : goal.flush-requires-clause-away
flush-requires-clause-away g c = stack_away _ _ _ c.requires.at

pub read-requires-clause-there : goal.read-requires-clause-there
read-requires-clause-there g c =
    let F : Step → Type 0 = λ step. IsOrderly (scene c.args.zone.now c.args.pair.now.blocks c.args.bound.now) c.args.cpu step in
    read_block _ _ _ _ _ (subst F c.in-Read.is c.requires.at)

pub write-requires-clause-there : goal.write-requires-clause-there
write-requires-clause-there g c =
    let F : Step → Type 0 = λ step. IsOrderly (scene c.args.zone.now c.args.pair.now.blocks c.args.bound.now) c.args.cpu step in
    write_block _ _ _ _ _ (subst F c.in-Write.is c.requires.at)

pub returns-in-Free-clause-acts : goal.returns-in-Free-clause-acts
returns-in-Free-clause-acts g c =
    let before = scene c.args.zone.now c.args.pair.now.blocks c.args.bound.now in
    let after = scene c.free.new.zone c.free.new.pair.blocks c.free.new.bound in
    acts_at before after c.args.cpu _ _ _ _ _ _ c.in-Free.is c.free.ensures.reply
    (acts_alone before after c.args.cpu _ reply.Done _ c.free.ensures.same.bases c.free.ensures.same.count (λ s own. does_free before after c.args.cpu _ _ c.args.pair.now.magazine s own c.requires.same_magazine (record {
      shows = c.free.ensures.shows;
      stack = ap (λ (p : Pair). p.blocks) c.free.ensures.stack;
      bound = c.free.ensures.bound;
    })))

pub returns-in-Give-clause-acts : goal.returns-in-Give-clause-acts
returns-in-Give-clause-acts g c =
    let before = scene c.args.zone.now c.args.pair.now.blocks c.args.bound.now in
    let after = scene c.give.new.zone c.args.pair.now.blocks c.give.new.bound in
    acts_at before after c.args.cpu _ _ _ _ _ _ c.in-Give.is c.give.ensures.reply
    (acts_alone before after c.args.cpu _ reply.Done _ c.give.ensures.same.bases c.give.ensures.same.count (λ s own. does_give before after c.args.cpu _ _ s own (record {
      shows = c.give.ensures.shows;
      stack = refl;
      bound = c.give.ensures.bound;
    })))

pub returns-in-Take-clause-acts : goal.returns-in-Take-clause-acts
returns-in-Take-clause-acts g c =
    let before = scene c.args.zone.now c.args.pair.now.blocks c.args.bound.now in
    let after = scene c.take.new.zone c.args.pair.now.blocks c.take.new.bound in
    acts_at before after c.args.cpu _ _ _ _ _ _ c.in-Take.is refl
    (acts_alone before after c.args.cpu _ _ _ c.take.ensures.same.bases c.take.ensures.same.count (λ s own. does_take before after c.args.cpu c.in-Take.name c.take.result s own (record {
      is_reply = c.take.ensures.reply;
      shows = c.take.ensures.shows;
      stack = refl;
      bound = c.take.ensures.bound;
      unchanged = λ none. let same = c.take.ensures.unchanged none in λ i. record { zone = same.0 i; stack = c.args.pair.now.blocks; bound = same.1 i };
    })))

pub returns-in-Read-clause-acts : goal.returns-in-Read-clause-acts
returns-in-Read-clause-acts g c =
    let before = scene c.args.zone.now c.args.pair.now.blocks c.args.bound.now in
    acts_at before before c.args.cpu _ _ _ _ _ _ c.in-Read.is refl
    (acts_alone before before c.args.cpu _ _ _ refl refl (λ s own. does_read before before c.args.cpu c.in-Read.name c.in-Read.off c.in-Read.len c.read.result s own (record { is_reply = c.read.ensures; same = refl })))

pub returns-in-Write-clause-acts : goal.returns-in-Write-clause-acts
returns-in-Write-clause-acts g c =
    let before = scene c.args.zone.now c.args.pair.now.blocks c.args.bound.now in
    let after = scene c.write.new.zone c.args.pair.now.blocks c.args.bound.now in
    acts_at before after c.args.cpu _ _ _ _ _ _ c.in-Write.is refl
    (acts_alone before after c.args.cpu _ _ _ c.write.ensures.same.bases c.write.ensures.same.count (λ s own. does_write before after c.args.cpu c.in-Write.name c.in-Write.off c.in-Write.bytes c.write.result s own (record {
      is_reply = c.write.ensures.reply;
      shows = c.write.ensures.shows;
      stack = refl;
      binding = refl;
      unchanged = λ unmapped. ap (λ z. scene z c.args.pair.now.blocks c.args.bound.now) (c.write.ensures.unchanged unmapped);
    })))

pub returns-in-Flush-clause-acts : goal.returns-in-Flush-clause-acts
returns-in-Flush-clause-acts g c =
    let before = scene c.args.zone.now c.args.pair.now.blocks c.args.bound.now in
    let after = scene c.flush.new.self c.flush.new.from.blocks c.args.bound.now in
    acts_at before after c.args.cpu _ _ _ _ _ _ c.in-Flush.is refl
    (acts_alone before after c.args.cpu _ reply.Done _ c.flush.ensures.same.bases c.flush.ensures.same.count (λ s own. does_flush before after c.args.cpu s own (record {
      shows = c.flush.ensures.shows;
      stack = ap (λ (p : Pair). p.blocks) c.flush.ensures.left;
      bound = refl;
    })))

pub returns-in-Trim-clause-acts : goal.returns-in-Trim-clause-acts
returns-in-Trim-clause-acts g c =
    let before = scene c.args.zone.now c.args.pair.now.blocks c.args.bound.now in
    let after = scene c.trim.new.self c.args.pair.now.blocks c.args.bound.now in
    acts_at before after c.args.cpu _ _ _ _ _ _ c.in-Trim.is refl
    (acts_trim before after c.args.cpu c.trim.result _ _ (record {
      count = c.trim.ensures.pages;
      shows = c.trim.ensures.shows;
      stack = refl;
      bound = refl;
      bases = c.trim.ensures.same.bases;
      used = used_with _ _ _ 0 0 _ _ c.trim.ensures.used (omega (arith, c.trim.ensures.same.count));
    }))

pub allocate-requires-clause-serves : goal.allocate-requires-clause-serves
allocate-requires-clause-serves g c =
    let z = c.args.zone.now in
    let F : Step → Type 0 = λ step. CanServe (g.P.Pages.seen c.args.pages.now) (chunks_of z) (want_at z c.args.pair.now.blocks step) (backs_at z step) in
    subst F c.in-Alloc.is c.requires.serves

pub allocate_zero-requires-clause-serves : goal.allocate_zero-requires-clause-serves
allocate_zero-requires-clause-serves g c =
    let z = c.args.zone.now in
    let F : Step → Type 0 = λ step. CanServe (g.P.Pages.seen c.args.pages.now) (chunks_of z) (want_at z c.args.pair.now.blocks step) (backs_at z step) in
    subst F c.in-AllocZero.is c.requires.serves

pub trim-requires-clause-serves : goal.trim-requires-clause-serves
trim-requires-clause-serves g c =
    let z = c.args.zone.now in
    let F : Step → Type 0 = λ step. CanServe (g.P.Pages.seen c.args.pages.now) (chunks_of z) (want_at z c.args.pair.now.blocks step) (backs_at z step) in
    subst F c.in-Trim.is c.requires.serves
