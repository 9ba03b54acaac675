use Rattle.kz_laws.proofs.Renamed.{alone-renamed}
use Rattle.kz_laws.proofs.Agreeing.{alone-own, alike_where_agreed}
use Rattle.kz_laws.proofs.Granted.{agreed_where_granted}
use Rattle.kz_laws.proofs.laws.agreement_decides.Goals as goal

pub returns-clause-names : goal.returns-clause-names
returns-clause-names c = alone-renamed

pub returns-clause-own : goal.returns-clause-own
returns-clause-own c = alone-own

pub returns-clause-alike : goal.returns-clause-alike
returns-clause-alike c = alike_where_agreed

pub returns-clause-granted : goal.returns-clause-granted
returns-clause-granted c = agreed_where_granted
