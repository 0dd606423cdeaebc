use Rattle.mt_tree.proofs.Prelude.{rules, sym, subst, Behind, IsReady}
use Rattle.mt_tree.proofs.behind.WriterState.store_prealloc.Goals as goal
use Rattle.mt_tree.proofs.behind.WriterState.store_prealloc.Goals.{in-Long, in-Short}

pub store_prealloc-reply-requires-clause-ready : goal.store_prealloc-reply-requires-clause-ready
store_prealloc-reply-requires-clause-ready c = subst (λ (b : Behind). IsReady b.parts) (sym c.self.view_is) c.requires.ready

pub store_prealloc-reply-requires-in-Short-clause-ready : goal.store_prealloc-reply-requires-in-Short-clause-ready
store_prealloc-reply-requires-in-Short-clause-ready c = subst (λ (b : Behind). IsReady b.parts) (sym c.self.view_is) c.requires.ready

pub returns-clause-done : goal.returns-clause-done
returns-clause-done c = elim c.match-width.branch [
  | in-Long w ↦ rw (w.reply-is, w.pass-is) (search rules)
  | in-Short w ↦ rw (w.reply-is, w.pass-is) (search rules)
]

pub returns-clause-stored : goal.returns-clause-stored
returns-clause-stored c = elim c.match-width.branch [
  | in-Long w ↦ rw w.reply-is (search rules)
  | in-Short w ↦ rw w.reply-is (search rules)
]
