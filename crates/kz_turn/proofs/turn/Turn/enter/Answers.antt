use Rattle.std.proofs.Common.{rules, ◌≡◌, sym, ap, ◌∙◌, Some, None}
use Rattle.kz_turn.specs.Passes.{sitting_of, is_serving}
use Rattle.kz_turn.proofs.Steps.{draws, looks}
use Rattle.kz_turn.proofs.Views.{sits_is, idle_is, sitting_at, live_at, same_value}
use Rattle.kz_turn.proofs.Stays.{waiting, in_hand, found, in_other_order, entered, missed, held_is, base_is, own_is}
use Rattle.kz_turn.proofs.turn.Turn.enter.Goals as goal

pub fetch_add-ticket-requires : goal.fetch_add-ticket-requires
fetch_add-ticket-requires g c = let seat = c.pass.inside.seat in let a = sitting_of seat.me.0 c.pass.inside.live in (
  search rules,
  search rules,
  draws _ _ _ _ _ _ _ a (sits_is seat.me.0 c.pass.inside.live) (idle_is a.stage c.pass.invariant.1),
)

pub load-requires : goal.load-requires
load-requires g c = let seat = c.pass.inside.seat in
    let now = waiting seat.me c.fetch_add-ticket.new.seat.me c.loop.seat.me c.pass.inside.live c.fetch_add-ticket.result c.pass.invariant.0 c.fetch_add-ticket.ensures.2 c.loop.invariant.me in (
      search rules,
      search rules,
      looks _ _ _ _ _ _ _ (sitting_of seat.me.0 c.pass.inside.live) c.fetch_add-ticket.result (ap (λ m. m.0) now),
    )

pub exchange-requires : goal.exchange-requires
exchange-requires g c =
    let it = entered g.T.Kept.base g.T.Kept.journal c.pass.inside.seat.me c.fetch_add-ticket.new.seat.me c.loop.seat.me c.load.new.seat.me c.pass.inside.live c.fetch_add-ticket.result c.load.result
    c.pass.invariant.0 c.fetch_add-ticket.ensures.2 c.loop.invariant.me c.load.ensures.2 c.if-load-ticket.true in
    (search rules, (Some it.value, in_hand c.load.new.seat.me _ (Some it.value) it.now))

pub unreachable-requires : goal.unreachable-requires
unreachable-requires g c =
    let it = entered g.T.Kept.base g.T.Kept.journal c.pass.inside.seat.me c.fetch_add-ticket.new.seat.me c.loop.seat.me c.load.new.seat.me c.pass.inside.live c.fetch_add-ticket.result c.load.result
    c.pass.invariant.0 c.fetch_add-ticket.ensures.2 c.loop.invariant.me c.load.ensures.2 c.if-load-ticket.true in
    c.in_default.not-Some it.value (found c.load.new.seat.me _ (Some it.value) c.exchange.result it.now c.exchange.ensures.2)

pub invariant_of-result : goal.invariant_of-result
invariant_of-result g c =
    let it = entered g.T.Kept.base g.T.Kept.journal c.pass.inside.seat.me c.fetch_add-ticket.new.seat.me c.loop.seat.me c.load.new.seat.me c.pass.inside.live c.fetch_add-ticket.result c.load.result
    c.pass.invariant.0 c.fetch_add-ticket.ensures.2 c.loop.invariant.me c.load.ensures.2 c.if-load-ticket.true in
    let out = in_other_order c.load.new.seat.me c.exchange.new.seat.me _ (Some it.value) None it.now c.exchange.ensures.3 in
    (live_at c.exchange.new.seat.me.0 _ (ap (λ m. m.0) out), tt)

pub invariant_of-result-then-load-ticket : goal.invariant_of-result-then-load-ticket
invariant_of-result-then-load-ticket g c =
    let it = entered g.T.Kept.base g.T.Kept.journal c.pass.inside.seat.me c.fetch_add-ticket.new.seat.me c.loop.seat.me c.load.new.seat.me c.pass.inside.live c.fetch_add-ticket.result c.load.result
    c.pass.invariant.0 c.fetch_add-ticket.ensures.2 c.loop.invariant.me c.load.ensures.2 c.if-load-ticket.true in
    let out = in_other_order c.load.new.seat.me c.exchange.new.seat.me _ (Some it.value) None it.now c.exchange.ensures.3 in
    let sat = sitting_at c.exchange.new.seat.me.0 _ _ (ap (λ m. m.0) out) in
    (ap (λ m. m.1) out, ap (λ b. is_serving b.stage) sat, ap (λ b. b.number) sat ∙ c.pass.invariant.2)

pub returns-then-load-ticket-clause-held : goal.returns-then-load-ticket-clause-held
returns-then-load-ticket-clause-held g c =
    let it = entered g.T.Kept.base g.T.Kept.journal c.pass.inside.seat.me c.fetch_add-ticket.new.seat.me c.loop.seat.me c.load.new.seat.me c.pass.inside.live c.fetch_add-ticket.result c.load.result
    c.pass.invariant.0 c.fetch_add-ticket.ensures.2 c.loop.invariant.me c.load.ensures.2 c.if-load-ticket.true in
    let out = in_other_order c.load.new.seat.me c.exchange.new.seat.me _ (Some it.value) None it.now c.exchange.ensures.3 in
    let value_is = same_value c.in-Some-exchange.value it.value (sym c.in-Some-exchange.is ∙ found c.load.new.seat.me _ (Some it.value) c.exchange.result it.now c.exchange.ensures.2) in
    let name : c.exchange.new.seat.table_id ≡ c.pass.inside.seat.table_id = c.exchange.ensures.0 ∙ (c.load.ensures.0 ∙ (c.loop.invariant.table ∙ c.fetch_add-ticket.ensures.0)) in
    held_is g.T.Kept.base g.T.Kept.journal c.pass.inside.seat.table_id (sitting_of c.pass.inside.seat.me.0 c.pass.inside.live) c.args.pass it.value c.in-Some-exchange.value c.pass.view_is value_is
    c.exchange.new.seat.table_id _ c.fetch_add-ticket.result name (sitting_at c.exchange.new.seat.me.0 _ _ (ap (λ m. m.0) out))

pub returns-then-load-ticket-clause-base : goal.returns-then-load-ticket-clause-base
returns-then-load-ticket-clause-base g c =
    let it = entered g.T.Kept.base g.T.Kept.journal c.pass.inside.seat.me c.fetch_add-ticket.new.seat.me c.loop.seat.me c.load.new.seat.me c.pass.inside.live c.fetch_add-ticket.result c.load.result
    c.pass.invariant.0 c.fetch_add-ticket.ensures.2 c.loop.invariant.me c.load.ensures.2 c.if-load-ticket.true in
    let value_is = same_value c.in-Some-exchange.value it.value (sym c.in-Some-exchange.is ∙ found c.load.new.seat.me _ (Some it.value) c.exchange.result it.now c.exchange.ensures.2) in
    base_is g.T.Kept.base g.T.Kept.journal c.pass.inside.seat.table_id (sitting_of c.pass.inside.seat.me.0 c.pass.inside.live) c.args.pass it.value c.in-Some-exchange.value c.pass.view_is value_is it.base_is

pub returns-then-load-ticket-clause-own : goal.returns-then-load-ticket-clause-own
returns-then-load-ticket-clause-own g c =
    let it = entered g.T.Kept.base g.T.Kept.journal c.pass.inside.seat.me c.fetch_add-ticket.new.seat.me c.loop.seat.me c.load.new.seat.me c.pass.inside.live c.fetch_add-ticket.result c.load.result
    c.pass.invariant.0 c.fetch_add-ticket.ensures.2 c.loop.invariant.me c.load.ensures.2 c.if-load-ticket.true in
    let value_is = same_value c.in-Some-exchange.value it.value (sym c.in-Some-exchange.is ∙ found c.load.new.seat.me _ (Some it.value) c.exchange.result it.now c.exchange.ensures.2) in
    own_is g.T.Kept.base g.T.Kept.journal c.pass.inside.seat.table_id (sitting_of c.pass.inside.seat.me.0 c.pass.inside.live) c.args.pass it.value c.in-Some-exchange.value c.pass.view_is value_is it.own

pub loop-preserved : goal.loop-preserved
loop-preserved g c = record {
  table = c.load.ensures.0 ∙ c.loop.invariant.table;
  me = missed g.T.Kept.base g.T.Kept.journal c.pass.inside.seat.me c.fetch_add-ticket.new.seat.me c.loop.seat.me c.load.new.seat.me c.pass.inside.live c.fetch_add-ticket.result c.load.result
      c.pass.invariant.0 c.fetch_add-ticket.ensures.2 c.loop.invariant.me c.load.ensures.2 c.if-load-ticket.false;
}
