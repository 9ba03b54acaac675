use Rattle.std.proofs.Common.{◌≡◌, replicate}
use Rattle.kz_report.specs.Uses.{no_uses}
use Rattle.kz_report.proofs.uses.no_uses.Given as goal

-- the types so far have zeros
abbrev pub invariant-loop : goal.invariant-loop
invariant-loop l = l.uses.items ≡ replicate l.counter no_uses
