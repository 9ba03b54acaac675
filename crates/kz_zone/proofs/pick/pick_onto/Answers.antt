use Rattle.std.proofs.Common.{◌+◌, ◌-◌, [], ◌∷◌, ap, sym, ◌∙◌, arith, length-append}
use Rattle.kz_zone.specs.Chunks.{Chunks}
use Rattle.kz_zone.specs.Picks.{Picked, picked}
use Rattle.kz_zone.proofs.Picking.{picked_step, picked_end, stack_step, stack_end}
use Rattle.kz_zone.proofs.pick.pick_onto.Goals as goal

pub loop-turn-preserved : goal.loop-turn-preserved
loop-turn-preserved c =
    let l = c.loop-turn in
    let h = l.invariant in
    let next = c.pick_one.new.chunks in
    let rest = picked next.params.count (c.args.picks - (l._turn + 1)) next.chunks c.pick_one.new.words in
    let step = picked_step (c.args.picks - l._turn) (c.args.picks - (l._turn + 1)) l.chunks next l.words c.pick_one.new.words c.in-Some.block (omega arith) c.in-Some.ensures.block c.in-Some.ensures.chunks c.in-Some.ensures.words in
    record {
      blocks = stack_step l.into c.add.new.self c.in-Some.block rest _ c.add.ensures step ∙ h.blocks;
      room = rw c.add.ensures (omega (arith, length-append l.into.blocks (c.in-Some.block ∷ []), h.room));
      chunks = ap (λ (c : Chunks). record c { chunks = rest.chunks }) c.in-Some.ensures.chunks ∙ ap (λ (p : Picked). record l.chunks { chunks = p.chunks }) (sym step) ∙ h.chunks;
      words = ap (λ (p : Picked). p.words) (sym step) ∙ h.words;
    }

pub returns-in-None-clause-blocks : goal.returns-in-None-clause-blocks
returns-in-None-clause-blocks c =
    let l = c.loop-turn in
    let end = picked_end (c.args.picks - l._turn) l.chunks l.words c.in-None.ensures.block in
    stack_end l.into (picked l.chunks.params.count (c.args.picks - l._turn) l.chunks.chunks l.words) (ap (λ (p : Picked). p.blocks) end) ∙ l.invariant.blocks

pub returns-in-None-clause-words : goal.returns-in-None-clause-words
returns-in-None-clause-words c =
    let l = c.loop-turn in
    let end = picked_end (c.args.picks - l._turn) l.chunks l.words c.in-None.ensures.block in
    c.in-None.ensures.none.1 ∙ ap (λ (p : Picked). p.words) (sym end) ∙ l.invariant.words
