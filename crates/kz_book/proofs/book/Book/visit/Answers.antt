use Rattle.std.proofs.Common.{◌≡◌, ◌+◌, ◌<◌, length, refl, sym, subst, arith}
use Rattle.kz_model.specs.declared.record.Visit.{Visit}
use Rattle.kz_model.specs.Zone.State.{cpu_part}
use Rattle.kz_zone.specs.Growth.{CanServe, chunks_of}
use Rattle.kz_book.specs.Book.{Book, History, KeepsHistory, HasRoom, HasSameRoom, params_of}
use Rattle.kz_book.specs.Visits.{IsAtVisit, CanTakeStep, HasUsed, Extends, bound_there, visit_of, want_at, backs_at}
use Rattle.kz_book.proofs.Counts.{room_for_visit, within_push}
use Rattle.kz_book.proofs.Histories.{orderly, extends}
use Rattle.kz_book.proofs.book.Book.visit.Goals as goal

pub act-reply-requires-clause-at : goal.act-reply-requires-clause-at
act-reply-requires-clause-at g c =
    let old : Book = record { room = c.self.inside.room; zone = c.self.inside.zone; visits = c.self.inside.visits.items } in
    let F : Book → Type 0 = λ b. (j : History) × KeepsHistory b j × IsAtVisit (params_of b) (cpu_part j.made.end c.args.cpu) c.args.recent.now c.args.pair.now.blocks c.args.bound.now c.args.step.now in
    let G : Book → Type 0 = λ b. c.args.cpu < (params_of b).cpus in
    let at = subst F (sym c.self.view_is) c.requires.at in
    orderly old at.0 c.args.cpu c.args.recent.now c.args.pair.now.blocks c.args.bound.now c.args.step.now c.self.invariant.fit.params (subst G (sym c.self.view_is) c.requires.cpu) at.1 at.2

pub push_reserved-requires : goal.push_reserved-requires
push_reserved-requires g c =
    let F : Book → Type 0 = λ b. HasRoom b c.args.cpu (length c.args.recent.now + 1) in
    let G : Book → Type 0 = λ b. c.args.cpu < (params_of b).cpus in
    let v : Visit = visit_of c.args.round c.args.cpu c.args.recent.now in
    omega (arith, room_for_visit c.self.inside.room c.self.inside.visits.items _ v c.self.invariant (subst G (sym c.self.view_is) c.requires.cpu) (omega arith) (subst F (sym c.self.view_is) c.requires.room), c.self.inside.visits.ok)

pub invariant_of-self : goal.invariant_of-self
invariant_of-self g c =
    let F : Book → Type 0 = λ b. HasRoom b c.args.cpu (length c.args.recent.now + 1) in
    let G : Book → Type 0 = λ b. c.args.cpu < (params_of b).cpus in
    let v : Visit = visit_of c.args.round c.args.cpu c.args.recent.now in
    rw (c.push_reserved.ensures.items, c.len.ensures) (within_push c.self.inside.room c.self.inside.visits.items _ _ v c.self.invariant (omega (arith, c.push_reserved.ensures.capacity)) (subst G (sym c.self.view_is) c.requires.cpu) (omega arith) (subst F (sym c.self.view_is) c.requires.room))

pub returns-clause-keeps : goal.returns-clause-keeps
returns-clause-keeps g c =
    let old : Book = record { room = c.self.inside.room; zone = c.self.inside.zone; visits = c.self.inside.visits.items } in
    let new : Book = record { room = c.self.inside.room; zone = c.act-reply.new.zone; visits = c.push_reserved.new.self.items } in
    let a = c.act-reply.ensures.acts in
    let fit = c.self.invariant.fit.params in
    let G : Book → Type 0 = λ b. c.args.cpu < (params_of b).cpus in
    let lt = subst G (sym c.self.view_is) c.requires.cpu in
    let F : Book → Type 0 = λ b.
    HasUsed b.zone c.act-reply.new.zone (g.P.Pages.seen c.args.pages.now) (g.P.Pages.seen c.act-reply.new.pages) a.exchanges
    × ((j : History) → KeepsHistory b j → IsAtVisit (params_of b) (cpu_part j.made.end c.args.cpu) c.args.recent.now c.args.pair.now.blocks c.args.bound.now c.args.step.now →
    (after : History) × KeepsHistory new after × Extends (params_of b) c.args.cpu j after c.args.recent.now c.args.step.now c.act-reply.result a.exchanges
    × (c.act-reply.new.pair.blocks ≡ (cpu_part after.made.end c.args.cpu).stack) × (c.act-reply.new.bound ≡ bound_there (cpu_part after.made.end c.args.cpu) c.args.step.now)) in
    let all : F old = (a.used, λ j k at. extends old new j c.args.cpu c.args.recent.now c.args.pair.now.blocks c.act-reply.new.pair.blocks c.args.bound.now c.act-reply.new.bound c.args.step.now c.act-reply.result _ _ a refl c.act-reply.ensures.same.params fit.shape.some_count fit.some_magazine lt k at) in
    let now = subst F c.self.view_is all in
    (a.exchanges, now.0, now.1)

pub act-reply-requires-clause-step : goal.act-reply-requires-clause-step
act-reply-requires-clause-step g c = subst (λ (b : Book). CanTakeStep b.zone c.args.step.now) (sym c.self.view_is) c.requires.step

pub act-reply-requires-clause-serves : goal.act-reply-requires-clause-serves
act-reply-requires-clause-serves g c =
    subst (λ (b : Book). CanServe (g.P.Pages.seen c.args.pages.now) (chunks_of b.zone) (want_at b.zone c.args.pair.now.blocks c.args.step.now) (backs_at b.zone c.args.step.now)) (sym c.self.view_is) c.requires.serves

pub returns-clause-same : goal.returns-clause-same
returns-clause-same g c =
    let new : Book = record { room = c.self.inside.room; zone = c.act-reply.new.zone; visits = c.push_reserved.new.self.items } in
    let same = c.act-reply.ensures.same in
    subst (λ (b : Book). HasSameRoom b new) c.self.view_is (record { room = refl; most_chunks = same.most_chunks; most_gifts = same.most_gifts })
