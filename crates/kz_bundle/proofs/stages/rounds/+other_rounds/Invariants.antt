use Rattle.std.proofs.Common.{length}
use Rattle.kz_bundle.proofs.stages.rounds.+other_rounds.Given as goal

abbrev pub decreases-other_rounds : goal.decreases-other_rounds
decreases-other_rounds l = length l.sections.now
