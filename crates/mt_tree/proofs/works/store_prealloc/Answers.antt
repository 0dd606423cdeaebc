use Rattle.mt_tree.proofs.Prelude.{sym, subst, StorePre, HasRoom, Book, map_by, Rooted}
use Rattle.mt_tree.proofs.AtWork.{one_more_fits, tree_is}
use Rattle.mt_tree.proofs.Calling.{by_acts, is_stored, named_by_acts, seen_then, tree_back, wrote}
use Rattle.mt_tree.proofs.works.store_prealloc.Goals as goal

pub store_prealloc-reply-requires-clause-ready : goal.store_prealloc-reply-requires-clause-ready
store_prealloc-reply-requires-clause-ready g c =
    subst (λ (x : Rooted × Book). HasRoom x.0 x.1) (λ k. (sym (tree_is _ _ _ _ _ c.begin-engine.ensures.work) k, sym c.begin-engine.ensures.work.book k)) c.requires.ready

pub end-requires-clause-few : goal.end-requires-clause-few
end-requires-clause-few g c =
    one_more_fits _ _ _ _ _ c.begin-engine.ensures.work c.store_prealloc-reply.new.self (StorePre c.args.first c.args.last c.args.entry) c.store_prealloc-reply.result c.store_prealloc-reply.ensures.stored.ended.record_told c.requires.room

pub returns-clause-seen : goal.returns-clause-seen
returns-clause-seen g c =
    seen_then _ _ _ _ _ _ _ _ c.begin-engine.ensures.work c.end.ensures.back (StorePre c.args.first c.args.last c.args.entry) c.store_prealloc-reply.result c.store_prealloc-reply.ensures.stored.ended

pub returns-clause-wrote : goal.returns-clause-wrote
returns-clause-wrote g c =
    let stored = c.store_prealloc-reply.ensures.stored in
    let call = StorePre c.args.first c.args.last c.args.entry in
    wrote _ _ _ _ _ _ _ _ c.begin-engine.ensures.work c.end.ensures.back call c.store_prealloc-reply.result stored.ended
    (by_acts _ _ _ _ _ _ _ _ c.begin-engine.ensures.work c.end.ensures.back call c.store_prealloc-reply.result stored.ended stored.acts)

pub returns-clause-named : goal.returns-clause-named
returns-clause-named g c =
    let stored = c.store_prealloc-reply.ensures.stored in
    named_by_acts _ _ _ _ _ _ _ _ c.begin-engine.ensures.work c.end.ensures.back (StorePre c.args.first c.args.last c.args.entry) c.store_prealloc-reply.result stored.ended stored.acts

pub returns-clause-stored : goal.returns-clause-stored
returns-clause-stored g c =
    let e = c.begin-engine.result in
    is_stored e.kind (map_by e.sheet.tree) (map_by c.store_prealloc-reply.new.self.sheet.tree) c.args.first c.args.last c.args.entry c.store_prealloc-reply.result c.store_prealloc-reply.ensures.stored.acts

pub returns-clause-kept : goal.returns-clause-kept
returns-clause-kept g c =
    λ is. tree_back _ _ _ _ _ _ _ _ c.begin-engine.ensures.work c.end.ensures.back (c.store_prealloc-reply.ensures.stored.kept is)

pub returns-clause-unscanned : goal.returns-clause-unscanned
returns-clause-unscanned g c = c.end.ensures.back.unscanned c.store_prealloc-reply.ensures.stored.scans
