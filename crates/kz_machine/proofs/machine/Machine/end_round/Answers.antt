use Rattle.std.proofs.Common.{◌≡◌, length, List, ap, sym, subst, arith}
use Rattle.std.specs.Vec.{vec_len}
use Rattle.std.proofs.lemmas.List.{with_items_is}
use Rattle.kz_book.specs.Book.{Book}
use Rattle.kz_cpu.specs.Cpu.{Cpu}
use Rattle.kz_machine.specs.declared.machine.Machine.TheView.{view}
use Rattle.kz_machine.specs.Settling.{AreSettled}
use Rattle.kz_machine.proofs.Inside.{inside_at}
use Rattle.kz_machine.proofs.RoundEnds.{none_settled, round_keeps, rounds_few}
use Rattle.kz_machine.proofs.machine.Machine.end_round.Goals as goal

pub overflow_add-self : goal.overflow_add-self
overflow_add-self c =
    let i = c.self.inside in
    let h = c.requires in
    let here = inside_at i _ h.0 h.1 h.2 c.self.view_is h.3 in
    omega (arith, rounds_few (view i) h.0 h.1 h.2 here h.4)

pub returns : goal.returns
returns c b plan s at end =
    let i = c.self.inside in
    let m = view i in
    let here = inside_at i _ b plan s c.self.view_is at in
    let cpus = c.deref_mut.ensures.value in
    let books = c.deref_mut-2.ensures.value in
    let first = subst (λ (l : List Cpu). AreSettled b plan s 0 l c.deref_mut-2.result.now) (sym cpus) (subst (λ (l : List Book). AreSettled b plan s 0 m.cpus l) (sym books) (none_settled m b plan s here)) in
    let settled = c.settle.ensures b plan s (sym here.round) end.sound first in
    let cpus_long : length c.settle.new.cpus ≡ vec_len i.cpus = omega (arith, settled.cpus_long, here.cpus_long, i.cpus.ok.0) in
    let books_long : length c.settle.new.books ≡ vec_len i.books = omega (arith, settled.books_long, here.books_long, i.books.ok.0) in
    rw (with_items_is i.cpus c.settle.new.cpus cpus_long, with_items_is i.books c.settle.new.books books_long)
    (round_keeps m b plan s here end c.settle.new.cpus c.settle.new.books (length c.deref_mut-2.result.now) (ap (λ (l : List Book). length l) books) settled)
