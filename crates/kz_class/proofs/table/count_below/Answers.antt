use Rattle.std.proofs.Common.{nat_lt, rules}
use Rattle.std.proofs.lemmas.List.Sorted.{IsPartitionPoint-from_clause}
use Rattle.kz_class.proofs.Points.{IsPoint, divided, point_of_facts}
use Rattle.kz_class.proofs.table.count_below.Goals as goal

pub returns-clause-point : goal.returns-clause-point
returns-clause-point c =
    let point : IsPoint c.args.sizes.now c.args.size c.partition_point.result =
    IsPartitionPoint-from_clause (λ element. nat_lt element c.args.size) _ _ c.partition_point.ensures.partitioned (divided _ c.args.size c.requires) (λ a r q k. search rules) in
    point_of_facts _ _ _ point
