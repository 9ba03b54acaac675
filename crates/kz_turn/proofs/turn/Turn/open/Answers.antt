use Rattle.std.proofs.Common.{rules, refl, ap, sym, ◌∙◌, ◌≡◌, ◌+◌, ◌<◌, ℕ, [], length, arith, subst}
use Rattle.kz_turn.specs.Views.{new_sitting, split_left, split_right}
use Rattle.kz_turn.specs.Passes.{new_pass}
use Rattle.kz_turn.proofs.Steps.{opens, splits}
use Rattle.kz_turn.proofs.Passes.{next_pass, all_passes}
use Rattle.kz_turn.proofs.turn.Turn.open.Goals as goal

pub new-requires : goal.new-requires
new-requires g c = opens _ _ _ _ c.args.value _ (search rules) (ap g.T.Kept.base (sym c.of.ensures)) c.requires.empty c.requires.seats (search rules)

pub split_seat-seat-requires : goal.split_seat-seat-requires
split_seat-seat-requires g c = let key = ap (λ k. k.seats) c.in-Ok.ensures.ok.5 in let more = c.loop-number-test.true in (
  c.loop-number.invariant.name,
  search rules,
  splits _ _ _ _ _ _ _ (ap (λ m. m.0) c.loop-number.invariant.first) refl refl (subst (λ (n : ℕ). c.loop-number.number < n) (sym key) more),
)

pub new-pass-requires : goal.new-pass-requires
new-pass-requires g c = (new_sitting c.loop-number.number (g.T.Kept.base c.args.value), c.split_seat-seat.ensures.4 ∙ ap (λ m. (split_right m.0, [])) c.loop-number.invariant.first, refl, refl)

pub loop-number-preserved : goal.loop-number-preserved
loop-number-preserved g c =
    let more = next_pass _ _ _ c.in-Ok.table.shared.table_id c.loop-number.number (g.T.Kept.base c.args.value) c.in_ok-push-2.ensures.items
    (c.new-pass.ensures (new_sitting c.loop-number.number (g.T.Kept.base c.args.value)) (c.split_seat-seat.ensures.4 ∙ ap (λ m. (split_right m.0, [])) c.loop-number.invariant.first)
    ∙ ap (λ z. new_pass z c.loop-number.number (g.T.Kept.base c.args.value)) (c.split_seat-seat.ensures.3 ∙ c.loop-number.invariant.name))
    c.loop-number.invariant.count c.loop-number.invariant.passes in
    record {
      name = c.split_seat-seat.ensures.0 ∙ c.loop-number.invariant.name;
      first = c.split_seat-seat.ensures.2 ∙ ap (λ m. (split_left m.0, m.1)) c.loop-number.invariant.first;
      count = more.0;
      passes = more.1;
    }

pub returns-clause-passes : goal.returns-clause-passes
returns-clause-passes g c =
    let count = c.loop-number.invariant.count in
    let end = c.loop-number.auto.number-end in let stop = c.loop-number-test.false in let some = c.requires.seats in
    let all : length c.loop-number.passes.items + 1 ≡ c.args.seats = omega arith in
    all_passes c.loop-number.passes.items _ c.new-zeroth.result c.in-Ok.table.shared.table_id c.args.seats (g.T.Kept.base c.args.value) c.in_ok-insert.ensures.items
    (c.new-zeroth.ensures _ c.loop-number.invariant.first ∙ ap (λ z. new_pass z 0 (g.T.Kept.base c.args.value)) c.loop-number.invariant.name)
    all c.loop-number.invariant.passes
