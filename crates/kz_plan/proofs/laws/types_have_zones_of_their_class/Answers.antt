use Rattle.kz_plan.proofs.TypeLaws.{classes_are_least, elements_hold_types, zone-of-type}
use Rattle.kz_plan.proofs.laws.types_have_zones_of_their_class.Goals as goal

pub returns : goal.returns
returns c = record {
  class = λ b plan of is planned inside. (zone-of-type b plan of is planned inside).shape;
  least = classes_are_least;
  holds = elements_hold_types;
  kind = λ b plan of is planned inside. (zone-of-type b plan of is planned inside).bucket;
  submap = λ b plan of is planned inside. (zone-of-type b plan of is planned inside).submap;
}
