use Rattle.std.proofs.Common.{ℕ, ◌+◌, ◌≤◌, List, Option, None, Some, MatchOption, slice_index, arith}
use Rattle.kz_plan.specs.Sharing.{IsNextClass, AreFull}
use Rattle.kz_plan.proofs.SharesGrow.{full_more, next_first, next_full, next_kept, next_greater}
use Rattle.kz_plan.proofs.division.next_class.Goals as goal
use Rattle.kz_plan.proofs.division.next_class.Goals.{then-parts-class+in-Some+then-ahead, then-parts-class+in-Some+else-ahead, then-parts-class+in-None, else-parts-class}

-- a class that wants no zone changes nothing
skipped : (counts parts : List ℕ) (n : ℕ) (next : Option ℕ) → MatchOption next (AreFull counts parts n) (λ i. IsNextClass counts parts n i) → slice_index counts n ≤ slice_index parts n →
    MatchOption next (AreFull counts parts (n + 1)) (λ i. IsNextClass counts parts (n + 1) i)
skipped counts parts n None full here = full_more counts parts n full here
skipped counts parts n (Some i) h here = next_full counts parts n i h here

pub loop-class-preserved : goal.loop-class-preserved
loop-class-preserved c =
    elim c.if-parts-class.branch [
      | then-parts-class+in-Some+then-ahead w ↦
          rw w.next-is (next_greater c.args.counts.now c.args.parts.now c.loop-class.class w.in-Some.before c.requires.in_order (omega arith) (rw w.in-Some.is at c.loop-class.invariant) w.if-parts-class.true w.if-ahead.true)
      | then-parts-class+in-Some+else-ahead w ↦
          rw w.next-is (next_kept c.args.counts.now c.args.parts.now c.loop-class.class w.in-Some.before (rw w.in-Some.is at c.loop-class.invariant) w.if-ahead.false)
      | then-parts-class+in-None w ↦
          rw w.next-is (next_first c.args.counts.now c.args.parts.now c.loop-class.class (rw w.in-None.is at c.loop-class.invariant) w.if-parts-class.true)
      | else-parts-class w ↦
          rw w.next-is (skipped c.args.counts.now c.args.parts.now c.loop-class.class c.loop-class.next c.loop-class.invariant w.if-parts-class.false)
    ]
