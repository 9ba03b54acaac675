use Rattle.std.proofs.Common.{◌≡◌, sym, subst}
use Rattle.kz_model.specs.declared.record.Room.{Room}
use Rattle.kz_book.proofs.Histories.{opens, opened_zone}
use Rattle.kz_book.proofs.book.Book.new.Goals as goal

pub returns-clause-keeps : goal.returns-clause-keeps
returns-clause-keeps c =
    let F : Room → Type 0 = λ room. c.in_ok-new.field-0 ≡ opened_zone room in
    opens (record { room = c.in_ok-copy_of.field-0; zone = c.in_ok-new.field-0; visits = c.in_ok-with_capacity.field-0.items }) (subst F (sym c.in_ok-copy_of.ensures) c.in_ok-new.ensures)
