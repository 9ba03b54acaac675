use Rattle.kz_laws.proofs.OwnTexts.{read_names_are_apart}
use Rattle.kz_laws.proofs.SameTexts.{same_texts_are_alike}
use Rattle.kz_laws.proofs.TwoWorlds.{agreeing_runs_are_alike, granted_runs_agree}
use Rattle.kz_laws.proofs.laws.runs_that_agree_are_alike.Goals as goal

pub returns-clause-alike : goal.returns-clause-alike
returns-clause-alike c = agreeing_runs_are_alike

pub returns-clause-granted : goal.returns-clause-granted
returns-clause-granted c = granted_runs_agree

pub returns-clause-texts : goal.returns-clause-texts
returns-clause-texts c = same_texts_are_alike

pub returns-clause-own_texts : goal.returns-clause-own_texts
returns-clause-own_texts c = read_names_are_apart
