use Rattle.kz_plan.proofs.TypeLaws.{equal_signatures_share, data_of_one_class_shares, sharers_have_one_class, sharers_are_of_one_kind}
use Rattle.kz_plan.proofs.laws.like_types_share_a_zone.Goals as goal

pub returns : goal.returns
returns c = record {
  signatures = equal_signatures_share;
  data_only = data_of_one_class_shares;
  classes = sharers_have_one_class;
  kinds = sharers_are_of_one_kind;
}
