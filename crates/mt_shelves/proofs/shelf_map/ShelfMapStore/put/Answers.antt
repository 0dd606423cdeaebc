use Rattle.mt_shelves.proofs.Prelude.{◌≤◌, ap, subst, sym, arith, Kind, greatest_of, Contents}
use Rattle.mt_shelves.proofs.ShelvesKept.{put_in}
use Rattle.mt_shelves.proofs.shelf_map.ShelfMapStore.put.Goals as goal

pub invariant_of-self-2 : goal.invariant_of-self-2
invariant_of-self-2 c =
    put_in c.self.inside.kind c.self.inside.most c.self.inside.shelves.items c.store.new.shelves.items c.args.first c.args.last c.args.entry c.requires.order
    (subst (λ (kind : Kind). c.args.last ≤ greatest_of kind) (ap (λ (m : Contents). m.kind) (sym c.self.view_is)) c.requires.within) (omega (arith, c.if-self-ge-MOST.false)) c.self.invariant c.in_ok-store.ensures.ok c.store.ensures.filled
