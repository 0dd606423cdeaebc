use Rattle.mt_tree.proofs.Prelude.{sym, ap, subst, Alloc, IsNextCall, pass_in, Tree, allocation_of}
use Rattle.mt_tree.proofs.Allocations.{is_called}
use Rattle.mt_tree.proofs.allocs.LockedTakenWriterStateAllocs.alloc_one.Goals as goal

pub returns-in-Ok-clause-called : goal.returns-in-Ok-clause-called
returns-in-Ok-clause-called c =
    let t = c.args.self.now.tree.now in
    let p = pass_in c.args.self.now.pass.now in
    let q = pass_in c.act.new.self.pass.now in
    let done = c.in-Ok.done in
    let after = c.in-Ok.ensures in
    subst (λ (x : Tree). IsNextCall (allocation_of t p) (Alloc 1 c.args.min c.args.max c.args.entry) done.reply (allocation_of x q)) (sym (ap (λ r. r.now) after.tree))
    (is_called t p q c.args.min c.args.max c.args.entry done.call done.reply after.done.0 after.number after.done.1 after.callers after.named)
