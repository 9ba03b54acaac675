use Rattle.std.proofs.Common.{rules, [], ◌∷◌, ◌++◌, sym, ap, ◌∙◌}
use Rattle.kz_turn.specs.Views.{noted_in}
use Rattle.kz_turn.specs.Passes.{sitting_of, is_idle}
use Rattle.kz_turn.proofs.Steps.{raises, ticket_at}
use Rattle.kz_turn.proofs.Views.{serving_is, sitting_at, live_at}
use Rattle.kz_turn.proofs.Stays.{filled, adds_to, left}
use Rattle.kz_turn.proofs.turn.Turn.leave.Goals as goal

pub fetch_add-requires : goal.fetch_add-requires
fetch_add-requires g c = let seat = c.held.inside.seat in let a = sitting_of seat.me.0 c.held.inside.live in (
  search rules,
  search rules,
  raises _ _ _ _ g.T.Kept.short _ _ _ a c.args.value c.requires.entry.0 (ticket_at a.stage) (noted_in a.stage)
      (filled seat.me c.exchange-nothing.new.seat.me c.held.inside.live c.args.value c.held.invariant.0 c.exchange-nothing.ensures.3)
      (serving_is a.stage c.held.invariant.1) (c.requires.base ∙ sym (ap (λ h. h.base) c.held.view_is))
      (adds_to g.T.Kept.journal seat.table_id a c.args.held c.args.value c.requires.entry.0 c.held.view_is c.requires.entry.1),
)

pub invariant_of-result : goal.invariant_of-result
invariant_of-result g c = let seat = c.held.inside.seat in
    let done = left g.T.Kept.base g.T.Kept.journal seat.me c.exchange-nothing.new.seat.me c.fetch_add.new.seat.me c.held.inside.live seat.table_id c.args.held c.args.value c.requires.entry.0
    c.held.view_is c.held.invariant.0 c.exchange-nothing.ensures.3 c.fetch_add.ensures.2 c.requires.base c.requires.entry.1 in
    (live_at c.fetch_add.new.seat.me.0 _ (ap (λ m. m.0) done), tt)

pub invariant_of-result-2 : goal.invariant_of-result-2
invariant_of-result-2 g c = let seat = c.held.inside.seat in
    let done = left g.T.Kept.base g.T.Kept.journal seat.me c.exchange-nothing.new.seat.me c.fetch_add.new.seat.me c.held.inside.live seat.table_id c.args.held c.args.value c.requires.entry.0
    c.held.view_is c.held.invariant.0 c.exchange-nothing.ensures.3 c.fetch_add.ensures.2 c.requires.base c.requires.entry.1 in
    let sat = sitting_at c.fetch_add.new.seat.me.0 _ _ (ap (λ m. m.0) done) in
    (ap (λ m. m.1) done, ap (λ b. is_idle b.stage) sat, ap (λ b. b.number) sat ∙ c.held.invariant.2)

pub returns-clause-seat : goal.returns-clause-seat
returns-clause-seat g c = let seat = c.held.inside.seat in
    let done = left g.T.Kept.base g.T.Kept.journal seat.me c.exchange-nothing.new.seat.me c.fetch_add.new.seat.me c.held.inside.live seat.table_id c.args.held c.args.value c.requires.entry.0
    c.held.view_is c.held.invariant.0 c.exchange-nothing.ensures.3 c.fetch_add.ensures.2 c.requires.base c.requires.entry.1 in
    let sat = sitting_at c.fetch_add.new.seat.me.0 _ _ (ap (λ m. m.0) done) in record {
      name = c.fetch_add.ensures.0 ∙ (c.exchange-nothing.ensures.0 ∙ ap (λ h. h.name) c.held.view_is);
      number = ap (λ b. b.number) sat ∙ ap (λ h. h.number) c.held.view_is;
      base = ap (λ b. b.base) sat ∙ ap (λ h. h.base) c.held.view_is;
    }

pub returns-clause-own : goal.returns-clause-own
returns-clause-own g c = λ e adds. let seat = c.held.inside.seat in
    let done = left g.T.Kept.base g.T.Kept.journal seat.me c.exchange-nothing.new.seat.me c.fetch_add.new.seat.me c.held.inside.live seat.table_id c.args.held c.args.value e
    c.held.view_is c.held.invariant.0 c.exchange-nothing.ensures.3 c.fetch_add.ensures.2 c.requires.base adds in
    ap (λ b. b.own) (sitting_at c.fetch_add.new.seat.me.0 _ _ (ap (λ m. m.0) done)) ∙ ap (λ h. h.own ++ e ∷ []) c.held.view_is
