use Rattle.std.proofs.Common.{◌≤◌, List, length, sum, sym, subst}
use Rattle.kz_model.specs.declared.record.Visit.{Visit}
use Rattle.kz_book.specs.Book.{Book}
use Rattle.kz_book.proofs.Counts.{few_within}
use Rattle.kz_book.proofs.book.Book.into_visits.Goals as goal

pub returns-clause-few : goal.returns-clause-few
returns-clause-few c =
    let few = few_within c.self.inside.room c.self.inside.visits.items c.self.invariant.within in
    subst (λ (book : Book). length c.from_vec.result ≤ sum book.room.steps) c.self.view_is (subst (λ (visits : List Visit). length visits ≤ sum c.self.inside.room.steps) (sym c.from_vec.ensures) few)
