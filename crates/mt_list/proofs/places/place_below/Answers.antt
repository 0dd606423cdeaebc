use Rattle.mt_list.proofs.Prelude.{rules, nat_lt, sym, IsPartitionedBy-ltb, IsPartitionPoint-from_clause}
use Rattle.mt_list.proofs.RisingRanges.{lasts_rise, partition_point_is}
use Rattle.mt_list.proofs.places.place_below.Goals as goal

pub returns : goal.returns
returns c =
    let m = c.args.ranges.now in
    sym (partition_point_is (λ r. nat_lt r.last c.args.first) m c.partition_point.result c.partition_point.ensures.bound
    (IsPartitionPoint-from_clause (λ r. nat_lt r.last c.args.first) m c.partition_point.result c.partition_point.ensures.partitioned
    (IsPartitionedBy-ltb (λ r. r.last) m c.args.first (lasts_rise m 0 c.requires)) (λ x b k. search rules)))
