use Rattle.std.proofs.Common.{rules, ap, sym, ◌∙◌, ◌≡◌, [], ◌∷◌, ◌++◌, length, arith, Some}
use Rattle.std.proofs.lemmas.List.Elements.{All-head, All-tail}
use Rattle.std.proofs.lemmas.List.Sorted.{All-permutation}
use mathlib.Core.Option.{some-injective}
use Rattle.kz_turn.specs.Passes.{sitting_of, pass_of, ended_pass}
use Rattle.kz_turn.proofs.Steps.{joins}
use Rattle.kz_turn.proofs.Views.{sits_is, idle_is}
use Rattle.kz_turn.proofs.Passes.{all_but_last}
use Rattle.kz_turn.proofs.Closes.{accounted_first, accounted_more, joining, closed, came_out}
use Rattle.kz_turn.proofs.turn.Turn.close.Goals as goal

pub loop-pass-init : goal.loop-pass-init
loop-pass-init g c =
    let seat = c.zeroth.inside.seat in let a = sitting_of seat.me.0 c.zeroth.inside.live in let z = c.args.self.table.shared.table_id in
    let left = c.take_zeroth-zeroth.new.passes.items in let moved = c.take_zeroth-zeroth.ensures.others in
    let named = All-permutation (λ p. p.name ≡ z) c.args.passes.items (c.take_zeroth-zeroth.result ∷ left) moved c.requires.turn in
    let name : seat.table_id ≡ z = ap (λ p. p.name) c.zeroth.view_is ∙ All-head (λ p. p.name ≡ z) c.take_zeroth-zeroth.result left named in
    record {
      a = a;
      name = name;
      me = λ i. (sits_is seat.me.0 c.zeroth.inside.live i, c.zeroth.invariant.0 i);
      idle = idle_is a.stage c.zeroth.invariant.1;
      number = ap (λ p. p.number) c.zeroth.view_is ∙ c.take_zeroth-zeroth.ensures.zeroth;
      named = All-tail (λ p. p.name ≡ z) c.take_zeroth-zeroth.result left named;
      accounted = accounted_first c.args.passes.items left z a c.take_zeroth-zeroth.result moved (sym c.zeroth.view_is ∙ ap (λ y. pass_of y a) name);
    }

pub join_seat-requires : goal.join_seat-requires
join_seat-requires g c = let seat = c.pass.inside.seat in let b = sitting_of seat.me.0 c.pass.inside.live in let inv = c.loop-pass.invariant in
    let ends = all_but_last (λ p. p.name ≡ c.args.self.table.shared.table_id) c.loop-pass.passes.items c.pop.new.self.items c.in-Some.pass c.in-Some.ensures.items inv.named in (
      inv.name,
      ap (λ p. p.name) c.pass.view_is ∙ ends.0,
      c.pass.invariant.0,
      search rules,
      joins _ _ _ _ _ _ _ _ inv.a b (ap (λ m. m.0) inv.me) (sits_is seat.me.0 c.pass.inside.live) inv.number inv.idle (idle_is b.stage c.pass.invariant.1),
    )

pub loop-pass-preserved : goal.loop-pass-preserved
loop-pass-preserved g c = let seat = c.pass.inside.seat in let b = sitting_of seat.me.0 c.pass.inside.live in let inv = c.loop-pass.invariant in
    let z = c.args.self.table.shared.table_id in
    let ends = all_but_last (λ p. p.name ≡ z) c.loop-pass.passes.items c.pop.new.self.items c.in-Some.pass c.in-Some.ensures.items inv.named in record {
      a = record inv.a { ended = inv.a.ended ++ ended_pass c.in-Some.pass ∷ [] };
      name = c.join_seat.ensures.0 ∙ inv.name;
      me = joining c.loop-pass.first.me c.join_seat.new.seat.me seat.me.0 inv.a b seat.table_id c.in-Some.pass inv.me (sits_is seat.me.0 c.pass.inside.live) c.join_seat.ensures.2 c.pass.view_is;
      idle = inv.idle;
      number = inv.number;
      named = ends.1;
      accounted = accounted_more c.args.passes.items c.loop-pass.passes.items c.pop.new.self.items z inv.a c.in-Some.pass c.in-Some.ensures.items inv.accounted;
    }

pub unreachable-requires : goal.unreachable-requires
unreachable-requires g c = let inv = c.loop-pass.invariant in
    let none : length c.loop-pass.passes.items ≡ 0 = let left = c.in_default.ensures.cases.0 in omega (arith, c.loop-pass.passes.ok) in
    let it = closed _ _ _ _ _ c.loop-pass.first.me inv.a _ c.args.passes.items c.loop-pass.passes.items _ _ inv.me c.close_with-closed.ensures.values.2 inv.idle inv.number none inv.accounted c.requires.seats in
    c.in_default-slot.not-Some it.0 (some-injective c.take-slot.result (Some it.0) (sym c.take-slot.ensures.value ∙ it.1))

pub returns-clause-base : goal.returns-clause-base
returns-clause-base g c = let inv = c.loop-pass.invariant in
    let none : length c.loop-pass.passes.items ≡ 0 = let left = c.in_default.ensures.cases.0 in omega (arith, c.loop-pass.passes.ok) in
    let it = closed _ _ _ _ _ c.loop-pass.first.me inv.a _ c.args.passes.items c.loop-pass.passes.items _ _ inv.me c.close_with-closed.ensures.values.2 inv.idle inv.number none inv.accounted c.requires.seats in
    (came_out g.T.Kept.base g.T.Kept.journal c.args.passes.items _ c.take-slot.result it.0 c.in-Some-slot.value it.1 c.take-slot.ensures.value c.in-Some-slot.is it.2).base_is

pub returns-clause-own : goal.returns-clause-own
returns-clause-own g c = let inv = c.loop-pass.invariant in
    let none : length c.loop-pass.passes.items ≡ 0 = let left = c.in_default.ensures.cases.0 in omega (arith, c.loop-pass.passes.ok) in
    let it = closed _ _ _ _ _ c.loop-pass.first.me inv.a _ c.args.passes.items c.loop-pass.passes.items _ _ inv.me c.close_with-closed.ensures.values.2 inv.idle inv.number none inv.accounted c.requires.seats in
    (came_out g.T.Kept.base g.T.Kept.journal c.args.passes.items _ c.take-slot.result it.0 c.in-Some-slot.value it.1 c.take-slot.ensures.value c.in-Some-slot.is it.2).own

pub returns-clause-numbers : goal.returns-clause-numbers
returns-clause-numbers g c = let inv = c.loop-pass.invariant in
    let none : length c.loop-pass.passes.items ≡ 0 = let left = c.in_default.ensures.cases.0 in omega (arith, c.loop-pass.passes.ok) in
    let it = closed _ _ _ _ _ c.loop-pass.first.me inv.a _ c.args.passes.items c.loop-pass.passes.items _ _ inv.me c.close_with-closed.ensures.values.2 inv.idle inv.number none inv.accounted c.requires.seats in
    (came_out g.T.Kept.base g.T.Kept.journal c.args.passes.items _ c.take-slot.result it.0 c.in-Some-slot.value it.1 c.take-slot.ensures.value c.in-Some-slot.is it.2).numbers
