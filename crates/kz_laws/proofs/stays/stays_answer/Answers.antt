use Rattle.kz_laws.proofs.StayAnswers.{stays_answered}
use Rattle.kz_laws.proofs.stays.stays_answer.Goals as goal

pub returns : goal.returns
returns c = stays_answered
