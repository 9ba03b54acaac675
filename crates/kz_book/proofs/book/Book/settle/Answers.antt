use Rattle.std.proofs.Common.{◌<◌, length, refl, sym, subst, arith}
use Rattle.kz_model.specs.declared.record.Visit.{Visit}
use Rattle.kz_model.specs.Zone.Late.{NeedNone}
use Rattle.kz_model.specs.Zone.State.{cpu_part}
use Rattle.kz_book.specs.Book.{Book, History, KeepsHistory, HasRoom, params_of}
use Rattle.kz_book.specs.Visits.{Settles, settled_of}
use Rattle.kz_book.proofs.Counts.{room_for_visit, within_push}
use Rattle.kz_book.proofs.Histories.{settles}
use Rattle.kz_book.proofs.book.Book.settle.Goals as goal

pub push_reserved-requires : goal.push_reserved-requires
push_reserved-requires c =
    let F : Book → Type 0 = λ b. HasRoom b c.args.cpu (length c.args.recent.now) in
    let G : Book → Type 0 = λ b. c.args.cpu < (params_of b).cpus in
    let v : Visit = settled_of c.args.round c.args.cpu c.args.recent.now in
    omega (arith, room_for_visit c.self.inside.room c.self.inside.visits.items _ v c.self.invariant (subst G (sym c.self.view_is) c.requires.cpu) (omega arith) (subst F (sym c.self.view_is) c.requires.room), c.self.inside.visits.ok)

pub invariant_of-self : goal.invariant_of-self
invariant_of-self c =
    let F : Book → Type 0 = λ b. HasRoom b c.args.cpu (length c.args.recent.now) in
    let G : Book → Type 0 = λ b. c.args.cpu < (params_of b).cpus in
    let v : Visit = settled_of c.args.round c.args.cpu c.args.recent.now in
    rw (c.push_reserved.ensures.items, c.len.ensures) (within_push c.self.inside.room c.self.inside.visits.items _ _ v c.self.invariant (omega (arith, c.push_reserved.ensures.capacity)) (subst G (sym c.self.view_is) c.requires.cpu) (omega arith) (subst F (sym c.self.view_is) c.requires.room))

pub returns-clause-keeps : goal.returns-clause-keeps
returns-clause-keeps c =
    let old : Book = record { room = c.self.inside.room; zone = c.self.inside.zone; visits = c.self.inside.visits.items } in
    let new : Book = record { room = c.self.inside.room; zone = c.self.inside.zone; visits = c.push_reserved.new.self.items } in
    let fit = c.self.invariant.fit.params in
    let G : Book → Type 0 = λ b. c.args.cpu < (params_of b).cpus in
    let lt = subst G (sym c.self.view_is) c.requires.cpu in
    let F : Book → Type 0 = λ b. (j : History) → KeepsHistory b j → NeedNone (params_of b) (cpu_part j.made.end c.args.cpu) c.args.recent.now → (after : History) × KeepsHistory new after × Settles (params_of b) c.args.cpu j after c.args.recent.now in
    let all : F old = λ j k none. settles old new j c.args.cpu c.args.recent.now refl refl fit.shape.some_count fit.some_magazine lt k none in
    subst F c.self.view_is all
