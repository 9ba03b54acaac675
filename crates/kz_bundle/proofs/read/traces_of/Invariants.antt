use Rattle.std.proofs.Common.{◌≡◌, ◌++◌, map}
use Rattle.kz_model.specs.Store.Traces.{renumbered_step}
use Rattle.kz_bundle.proofs.read.traces_of.Given as goal

abbrev pub invariant-loop-section : goal.invariant-loop-section
invariant-loop-section l = (l.traces.items ≡ map (λ part. map (renumbered_step l.names l.types) part.steps) l.yielded) × (l.yielded ++ l.section-iterator.rest.items ≡ l.fn.sections.items)
