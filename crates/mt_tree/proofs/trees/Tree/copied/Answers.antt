use Rattle.mt_tree.proofs.Prelude.{ap, Book, pass_in, map_seen}
use Rattle.mt_tree.proofs.Forms.{ready_for}
use Rattle.mt_tree.proofs.trees.Tree.copied.Goals as goal

pub open_copy-requires-clause-ready : goal.open_copy-requires-clause-ready
open_copy-requires-clause-ready g c =
    (map_seen c.args.self.now (pass_in c.copy_rows-live.new.pass), ready_for _ _ _ _ _ _ _ _ c.requires.kind (ap (λ (b : Book). b.rows) c.in-Ok.ensures.book) c.copy_rows-live.ensures.copy)

pub returns-clause-new : goal.returns-clause-new
returns-clause-new g c =
    c.open_copy.ensures.new (map_seen c.args.self.now (pass_in c.copy_rows-live.new.pass)) (ready_for _ _ _ _ _ _ _ _ c.requires.kind (ap (λ (b : Book). b.rows) c.in-Ok.ensures.book) c.copy_rows-live.ensures.copy)
