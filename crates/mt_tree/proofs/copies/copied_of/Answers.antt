use Rattle.mt_tree.proofs.Prelude.{ℕ, sym, ap, ◌∙◌, subst, Form, Book, sheet_in, map_by, Sheet, live_rows, IsLiveCounted}
use Rattle.mt_tree.proofs.Forms.{copy_ready}
use Rattle.mt_tree.proofs.copies.copied_of.Goals as goal

pub copy_out-requires-clause-live : goal.copy_out-requires-clause-live
copy_out-requires-clause-live c = ap (λ (f : Form). f.rows) c.form_of-live.ensures.form ∙ ap (λ (s : Sheet). live_rows s.tree) (sym c.form_of-live.ensures.rest)

pub open_copy-requires-clause-ready : goal.open_copy-requires-clause-ready
open_copy-requires-clause-ready c =
    (map_by (sheet_in c.args.rows.now).tree, copy_ready c.args.shape.kind (sheet_in c.args.rows.now).tree _ _ _ _ _ _ (ap (λ (s : Sheet). s.tree) c.form_of-live.ensures.rest) (ap (λ (b : Book). b.rows) c.in-Ok.ensures.book) c.requires.lawful c.copy_out.ensures.copy)

pub returns-clause-new : goal.returns-clause-new
returns-clause-new c =
    c.open_copy.ensures.new (map_by (sheet_in c.args.rows.now).tree)
    (copy_ready c.args.shape.kind (sheet_in c.args.rows.now).tree _ _ _ _ _ _ (ap (λ (s : Sheet). s.tree) c.form_of-live.ensures.rest) (ap (λ (b : Book). b.rows) c.in-Ok.ensures.book) c.requires.lawful c.copy_out.ensures.copy)

pub returns-clause-counted : goal.returns-clause-counted
returns-clause-counted c =
    subst (λ (n : ℕ). IsLiveCounted n c.args.shape.rows c.open_copy.result) (ap (λ (f : Form). f.rows) c.form_of-live.ensures.form) c.open_copy.ensures.counted
