use Rattle.mt_list.proofs.Prelude.{◌≤◌, ap, subst, sym, Kind, greatest_of, Contents}
use Rattle.mt_list.proofs.MapsKept.{put_is_map}
use Rattle.mt_list.proofs.list_map.ListMapStore.put.Goals as goal

pub invariant_of-self-2 : goal.invariant_of-self-2
invariant_of-self-2 c =
    let within = subst (λ (kind : Kind). c.args.last ≤ greatest_of kind) (ap (λ (m : Contents). m.kind) (sym c.self.view_is)) c.requires.within in
    put_is_map _ _ _ c.args.first c.args.last c.args.entry c.requires.order within c.self.invariant c.in_ok-store.ensures.ok
