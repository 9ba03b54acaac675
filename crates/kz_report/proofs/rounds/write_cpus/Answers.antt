use Rattle.std.proofs.Common.{◌≡◌, ◌++◌, ℕ, List, length, [], ap, codes, decimal, sym, arith, append_assoc, ◌∙◌}
use Rattle.kz_model.specs.declared.bundle.TraceStep.{TraceStep}
use Rattle.kz_model.specs.declared.step.Reply.{Reply}
use Rattle.kz_model.specs.Text.Report.{cpu_lines}
use Rattle.kz_report.proofs.BasePages.{are_bases}
use Rattle.kz_report.proofs.Lookups.{item_is}
use Rattle.kz_report.proofs.PlanText.{more_lines}
use Rattle.kz_report.proofs.Reportable.{has_section, section_written}
use Rattle.kz_bundle.proofs.Zoned.{planned_is_valid}
use Rattle.kz_report.proofs.rounds.write_cpus.Goals as goal

pub bounds-as_slice-cpu : goal.bounds-as_slice-cpu
bounds-as_slice-cpu c =
    let traces = (planned_is_valid c.requires.record.planned).traces in
    omega (arith, traces, c.loop-cpu-test.true, ap length c.as_slice.ensures)

pub write_rounds-requires-clause-replies : goal.write_rounds-requires-clause-replies
write_rounds-requires-clause-replies c =
    let cpu = c.loop-cpu.cpu in
    let b = c.args.given.now.bundle.now in
    let made = c.args.made.now in
    let h = c.requires.record in
    let trace = item_is b.traces c.as_slice.result.now cpu c.index-as_slice-cpu.result [] (omega (arith, (planned_is_valid h.planned).traces, c.loop-cpu-test.true)) c.as_slice.ensures c.index-as_slice-cpu.is in
    let replies = item_is made.replies c.as_slice-in-loop-cpu.result.now cpu c.index-as_slice-cpu-in-loop-cpu.result [] (omega (arith, h.answered.cpus, c.loop-cpu-test.true)) c.as_slice-in-loop-cpu.ensures c.index-as_slice-cpu-in-loop-cpu.is in
    ap (λ (rs : List Reply). length rs) replies ∙ (has_section b c.args.given.now.plan.now made cpu h c.loop-cpu-test.true).long ∙ sym (ap (λ (lines : List TraceStep). length lines) trace)

pub loop-cpu-preserved : goal.loop-cpu-preserved
loop-cpu-preserved c =
    let cpu = c.loop-cpu.cpu in
    let b = c.args.given.now.bundle.now in
    let plan = c.args.given.now.plan.now in
    let made = c.args.made.now in
    let h = c.requires.record in
    let trace = item_is b.traces c.as_slice.result.now cpu c.index-as_slice-cpu.result [] (omega (arith, (planned_is_valid h.planned).traces, c.loop-cpu-test.true)) c.as_slice.ensures c.index-as_slice-cpu.is in
    let replies = item_is made.replies c.as_slice-in-loop-cpu.result.now cpu c.index-as_slice-cpu-in-loop-cpu.result [] (omega (arith, h.answered.cpus, c.loop-cpu-test.true)) c.as_slice-in-loop-cpu.ensures c.index-as_slice-cpu-in-loop-cpu.is in
    more_lines (cpu_lines b plan made.visits made.supply) cpu (c.args.out.now.items) (c.loop-cpu.out.items) (c.write_rounds.new.out.items) c.loop-cpu.invariant
    (section_written b plan made c.args.given.now.pages.now cpu c.index-as_slice-cpu.result c.index-as_slice-cpu-in-loop-cpu.result (c.loop-cpu.out.items) (c.extend_from_slice.new.self.items) (c.write_rounds.new.out.items) h c.loop-cpu-test.true
    (are_bases (length plan.zones) made.supply c.args.given.now.pages.now c.requires.pages h.run.of_zones) trace replies
    (begun cpu c.from.result c.loop-cpu.out.items c.push_number.new.out.items c.extend_from_slice.new.self.items c.from.ensures c.in_ok-push_number.ensures c.in_ok-extend_from_slice.ensures.items) c.in_ok-write_rounds.ensures)
  where
    begun : (cpu n : ℕ) (s t u : List ℕ) → n ≡ cpu → t ≡ s ++ (codes "cpu " ++ decimal n) → u ≡ t ++ codes "\n" → u ≡ s ++ (codes "cpu " ++ (decimal cpu ++ codes "\n"))
    begun cpu n s t u is number end =
        end ∙ ap (λ t. t ++ codes "\n") (number ∙ ap (λ n. s ++ (codes "cpu " ++ decimal n)) is) ∙ append_assoc s (codes "cpu " ++ decimal cpu) (codes "\n")
