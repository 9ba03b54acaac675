use Rattle.std.proofs.Common.{◌≡◌, ◌++◌, map, take, drop}
use Rattle.kz_model.specs.Store.Traces.{renumbered_kept}
use Rattle.kz_model.proofs.store.short.renumber_all.Given as goal

-- the steps before are renumbered, the others as they were
abbrev pub invariant-loop-at : goal.invariant-loop-at
invariant-loop-at l = l.steps.items ≡ map (renumbered_kept l.names l.types) (take l.at l.fn.steps.items) ++ drop l.at l.fn.steps.items
