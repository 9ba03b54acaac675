use Rattle.std.proofs.Common.{◌≡◌, ℕ, ◌++◌}
use Rattle.kz_model.specs.Types.Plan.{groups_of}
use Rattle.kz_model.specs.Zone.Words.{words_after}
use Rattle.kz_plan.proofs.Groups.{groups_left}
use Rattle.kz_plan.proofs.dealing.groups.Given as goal

-- after some words of stream 0, the groups so far and those that are left are all
abbrev pub invariant-loop-class : goal.invariant-loop-class
invariant-loop-class l =
    (drawn : ℕ) × (l.words ≡ words_after l.fn.seed 0 drawn) × (l.groups.items ++ groups_left l.layouts l.fn.seed drawn l.class ≡ groups_of l.layouts l.fn.seed)
