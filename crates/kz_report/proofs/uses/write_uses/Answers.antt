use Rattle.std.proofs.Common.{List, ℕ, ◌++◌, ap, ◌∙◌, codes, length, arith}
use Rattle.kz_model.specs.Run.Recorded.{cpu_answered}
use Rattle.kz_model.specs.Text.Report.{use_line, all_answered_lines}
use Rattle.kz_model.proofs.TraceRounds.{short_traces}
use Rattle.kz_bundle.proofs.Zoned.{planned_is_valid}
use Rattle.kz_report.proofs.PlanText.{more_of_range}
use Rattle.kz_report.proofs.Reportable.{has_section}
use Rattle.kz_report.proofs.Tally.{use_is, uses_long}
use Rattle.kz_report.proofs.uses.write_uses.Goals as goal

pub uses_of-requires-clause-traces : goal.uses_of-requires-clause-traces
uses_of-requires-clause-traces c = (planned_is_valid c.requires.planned).traces

pub uses_of-requires-clause-cpus : goal.uses_of-requires-clause-cpus
uses_of-requires-clause-cpus c = (planned_is_valid c.requires.planned).few_cpus

pub uses_of-requires-clause-few : goal.uses_of-requires-clause-few
uses_of-requires-clause-few c = short_traces c.args.bundle.now (planned_is_valid c.requires.planned)

pub index-requires : goal.index-requires
index-requires c = omega (arith, c.loop-of-test.true, c.len-of-end.ensures, c.in_ok-uses.uses.ok.0, uses_long c.args.bundle.now c.args.made.now.replies c.args.bundle.now.cpus (length c.args.bundle.now.types) c.in_ok-uses.uses.items c.in_ok-uses.ensures)

pub loop-of-preserved : goal.loop-of-preserved
loop-of-preserved c =
    let b = c.args.bundle.now in
    let plan = c.args.plan.now in
    let made = c.args.made.now in
    let line = use_is b plan made.replies (cpu_answered b plan made.visits made.supply) b.cpus (length b.types) c.loop-of.of c.name.result.now c.in_ok-uses.uses.items c.index.result.now
    (omega (arith, c.loop-of-test.true, c.len-of-end.ensures)) c.in_ok-uses.ensures c.index.ensures c.name.ensures (λ cpu lt. (has_section b plan made cpu c.requires lt).answered) in
    more_of_range (use_line b (all_answered_lines b plan made.visits made.supply)) c.loop-of.of (c.args.out.now.items) (c.loop-of.out.items) (c.write_use.new.out.items) c.loop-of.invariant
    (c.in_ok-write_use.ensures ∙ ap (λ (line : List ℕ). c.loop-of.out.items ++ (line ++ codes "\n")) line)
