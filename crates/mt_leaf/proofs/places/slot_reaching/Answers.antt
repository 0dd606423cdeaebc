use Rattle.mt_leaf.proofs.Prelude.{rules, nat_lt, sym, IsPartitionedBy-ltb, IsPartitionPoint-from_clause}
use Rattle.mt_leaf.proofs.Slots.{lasts_rise, partition_point_is}
use Rattle.mt_leaf.proofs.places.slot_reaching.Goals as goal

pub returns-clause-slot : goal.returns-clause-slot
returns-clause-slot c =
    let items = c.args.items.now in sym (partition_point_is (λ x. nat_lt x.last c.args.index) items c.partition_point.result c.partition_point.ensures.bound (IsPartitionPoint-from_clause (λ x. nat_lt x.last c.args.index) items c.partition_point.result c.partition_point.ensures.partitioned
    (IsPartitionedBy-ltb (λ x. x.last) items c.args.index (lasts_rise items 0 c.requires)) (λ x b k. search rules)))
