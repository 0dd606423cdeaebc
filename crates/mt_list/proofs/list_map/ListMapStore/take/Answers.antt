use Rattle.mt_list.proofs.MapsKept.{erased_is_map}
use Rattle.mt_list.proofs.list_map.ListMapStore.take.Goals as goal

pub invariant_of-self : goal.invariant_of-self
invariant_of-self c = erased_is_map _ _ _ _ _ c.self.invariant c.erase.ensures.some c.erase.ensures.none
