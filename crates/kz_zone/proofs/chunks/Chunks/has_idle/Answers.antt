use Rattle.std.proofs.Common.{◌∙◌}
use Rattle.kz_zone.proofs.chunks.Chunks.has_idle.Goals as goal

pub returns-clause-idle : goal.returns-clause-idle
returns-clause-idle c = c.is_some.ensures ∙ c.to_pick.ensures.some
