use Rattle.kz_plan.proofs.SharesExist.{shares_are_within, shares_spend, shares_are_fairest, one_for_each, one_more_for_next, rest_is_unused}
use Rattle.kz_plan.proofs.laws.shares_are_fair.Goals as goal

pub returns-clause-within : goal.returns-clause-within
returns-clause-within c = shares_are_within

pub returns-clause-spent : goal.returns-clause-spent
returns-clause-spent c = shares_spend

pub returns-clause-fairest : goal.returns-clause-fairest
returns-clause-fairest c = shares_are_fairest

pub returns-clause-begins : goal.returns-clause-begins
returns-clause-begins c = one_for_each

pub returns-clause-grows : goal.returns-clause-grows
returns-clause-grows c = one_more_for_next

pub returns-clause-ends : goal.returns-clause-ends
returns-clause-ends c = rest_is_unused
