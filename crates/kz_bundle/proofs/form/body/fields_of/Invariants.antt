use Rattle.std.proofs.Common.{◌≡◌}
use Rattle.kz_bundle.specs.Bodies.{words_in}
use Rattle.kz_bundle.specs.Outlines.{no_outline}
use Rattle.kz_bundle.specs.Walks.{no_fields, fields_after, size_left}
use Rattle.kz_bundle.proofs.form.body.fields_of.Given as goal

-- what is left, after what was taken, has the fields of the whole
abbrev pub invariant-loop-event : goal.invariant-loop-event
invariant-loop-event l = fields_after l.walk.outline l.fields (words_in l.walk.left) ≡ fields_after no_outline no_fields (words_in l.fn.words)

abbrev pub decreases-loop-event : goal.decreases-loop-event
decreases-loop-event l = size_left l.walk
