use Rattle.std.proofs.Common.{◌≡◌}
use Rattle.kz_bundle.specs.Bodies.{words_in}
use Rattle.kz_bundle.specs.Outlines.{no_outline}
use Rattle.kz_bundle.specs.Walks.{mark_after, size_left}
use Rattle.kz_bundle.proofs.form.check.mark_of.Given as goal

-- what is left, after what was taken, has the mark of the whole
abbrev pub invariant-loop-mark : goal.invariant-loop-mark
invariant-loop-mark l = mark_after l.walk.outline (words_in l.walk.left) ≡ mark_after no_outline (words_in l.fn.words)

abbrev pub decreases-loop-mark : goal.decreases-loop-mark
decreases-loop-mark l = size_left l.walk
