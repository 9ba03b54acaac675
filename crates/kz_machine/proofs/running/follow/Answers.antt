use Rattle.std.proofs.Common.{◌+◌, ◌∷◌, drop}
use Rattle.kz_model.specs.declared.bundle.OrderLine.TheVariants.{Cpu, Round}
use Rattle.kz_laws.specs.Play.{play_after_lines}
use Rattle.kz_machine.proofs.Played.{next_left, may_end, round_done}
use Rattle.kz_machine.proofs.running.follow.Goals as goal
use Rattle.kz_machine.proofs.running.follow.Goals.{in-Cpu, in-Round}

pub play-requires : goal.play-requires
play-requires c =
    let i = c.loop-line.line-index in
    (drop (i + 1) c.args.lines.now, next_left c.args.bundle.now c.args.plan.now c.loop-line.machine c.args.lines.now i (Cpu c.in-Cpu.cpu) c.loop-line-test.true c.in-Cpu.is c.loop-line.invariant)

pub end_round-requires : goal.end_round-requires
end_round-requires c =
    let b = c.args.bundle.now in
    let plan = c.args.plan.now in
    let i = c.loop-line.line-index in
    let left = next_left b plan c.loop-line.machine c.args.lines.now i Round c.loop-line-test.true c.in-Round.is c.loop-line.invariant in
    (b, plan, play_after_lines b plan left.lines, left.at, may_end b plan c.loop-line.machine (Round ∷ drop (i + 1) c.args.lines.now) left)

pub loop-line-preserved : goal.loop-line-preserved
loop-line-preserved c =
    let b = c.args.bundle.now in
    let plan = c.args.plan.now in
    let m = c.loop-line.machine in
    let lines = c.args.lines.now in
    let i = c.loop-line.line-index in
    let rest = drop (i + 1) lines in
    elim c.match-line.branch [
      | in-Cpu w ↦
          let done = w.play.ensures rest (next_left b plan m lines i (Cpu w.in-Cpu.cpu) c.loop-line-test.true w.in-Cpu.is c.loop-line.invariant) in
          rw w.machine-is done
      | in-Round w ↦
          let left = next_left b plan m lines i Round c.loop-line-test.true w.in-Round.is c.loop-line.invariant in
          let done = round_done b plan m w.end_round.new.self rest left (w.end_round.ensures b plan (play_after_lines b plan left.lines) left.at (may_end b plan m (Round ∷ rest) left)) in
          rw w.machine-is done
    ]
