use Rattle.std.proofs.Common.{◌≡◌, ◌+◌, ◌++◌, length}
use Rattle.kz_locked.specs.Readying.{MayGiveBackAll, backs_of}
use Rattle.kz_locked.specs.Supply.{own_log, own_share}
use Rattle.kz_locked.proofs.readying.hand_back.Given as goal

-- what still waits, and what was handed to the supply, are what waited at first
abbrev pub invariant-loop-frames : goal.invariant-loop-frames
invariant-loop-frames g l = record {
  name : l.pass.name ≡ l.fn.pass.name;
  number : l.pass.number ≡ l.fn.pass.number;
  base : l.pass.base ≡ l.fn.pass.base;
  rest : l.pages ≡ record l.fn.pages { handed = l.pages.handed; waiting = l.pages.waiting };
  handed : l.pages.handed + length l.pages.waiting ≡ l.fn.pages.handed + length l.fn.pages.waiting;
  own : l.pass.own ++ backs_of l.params.zone l.params.pages (length l.pages.waiting) ≡ l.fn.pass.own ++ backs_of l.params.zone l.params.pages (length l.fn.pages.waiting);
  may : MayGiveBackAll (own_share l.pass) (own_log l.pass) l.params.pages (length l.pages.waiting);
}

abbrev pub decreases-loop-frames : goal.decreases-loop-frames
decreases-loop-frames g l = length l.pages.waiting
