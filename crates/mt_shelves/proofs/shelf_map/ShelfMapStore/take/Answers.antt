use Rattle.mt_shelves.proofs.ShelvesKept.{erased_in}
use Rattle.mt_shelves.proofs.shelf_map.ShelfMapStore.take.Goals as goal

pub invariant_of-self : goal.invariant_of-self
invariant_of-self c = erased_in c.self.inside.kind c.self.inside.most c.self.inside.shelves.items c.erase.new.shelves.items c.args.index c.erase.result c.self.invariant c.erase.ensures.some c.erase.ensures.none c.erase.ensures.filled
