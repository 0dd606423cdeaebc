use Rattle.mt_list.proofs.Prelude.{rules, nat_le, sym, IsPartitionedBy-leb, IsPartitionPoint-from_clause}
use Rattle.mt_list.proofs.RisingRanges.{firsts_rise, partition_point_is}
use Rattle.mt_list.proofs.places.place_above.Goals as goal

pub returns : goal.returns
returns c =
    let m = c.args.ranges.now in
    sym (partition_point_is (λ r. nat_le r.first c.args.last) m c.partition_point.result c.partition_point.ensures.bound
    (IsPartitionPoint-from_clause (λ r. nat_le r.first c.args.last) m c.partition_point.result c.partition_point.ensures.partitioned
    (IsPartitionedBy-leb (λ r. r.first) m c.args.last (firsts_rise m 0 c.requires)) (λ x b k. search rules)))
