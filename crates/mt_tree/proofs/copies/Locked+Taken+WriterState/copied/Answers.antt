use Rattle.mt_tree.proofs.Prelude.{ap, Book, map_seen, pass_in}
use Rattle.mt_tree.proofs.Forms.{ready_for}
use Rattle.mt_tree.proofs.copies.Locked+Taken+WriterState.copied.Goals as goal

pub open_copy-requires-clause-ready : goal.open_copy-requires-clause-ready
open_copy-requires-clause-ready c =
    (map_seen c.args.self.now.tree.now (pass_in c.args.self.now.pass.now), ready_for _ _ _ _ _ _ _ _ c.requires.kind (ap (λ (b : Book). b.rows) c.in-Ok.ensures.book) c.copy-live.ensures.copy)
