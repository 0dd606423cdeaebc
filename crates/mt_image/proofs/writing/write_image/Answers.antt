use Rattle.mt_image.proofs.Prelude.{length, ap, ◌∙◌, sym, Form, Sheet, reached_in}
use Rattle.mt_image.proofs.writing.write_image.Goals as goal

pub copy_in_order-requires-clause-live : goal.copy_in_order-requires-clause-live
copy_in_order-requires-clause-live g c =
    ap (λ (f : Form). f.rows) c.form_of-live.ensures.form ∙ ap (λ (s : Sheet). length (reached_in s.tree.table s.tree.root)) (sym c.form_of-live.ensures.rest)
