use Rattle.mt_leaf.proofs.Prelude.{rules, nat_le, sym, IsPartitionedBy-leb, IsPartitionPoint-from_clause}
use Rattle.mt_leaf.proofs.Slots.{lasts_rise, partition_point_is}
use Rattle.mt_leaf.proofs.places.slot_above.Goals as goal

pub returns-clause-slot : goal.returns-clause-slot
returns-clause-slot c =
    let items = c.args.items.now in sym (partition_point_is (λ x. nat_le x.last c.args.index) items c.partition_point.result c.partition_point.ensures.bound (IsPartitionPoint-from_clause (λ x. nat_le x.last c.args.index) items c.partition_point.result c.partition_point.ensures.partitioned
    (IsPartitionedBy-leb (λ x. x.last) items c.args.index (lasts_rise items 0 c.requires)) (λ x b k. search rules)))
