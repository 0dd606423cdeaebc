use Rattle.mt_rows.proofs.Prelude.{ap, ◌∙◌, Listed, opened_with, table_of}
use Rattle.mt_rows.proofs.fates.Fates.open.Goals as goal

pub returns : goal.returns
returns c = c.note.ensures ∙ ap (λ (w : Listed). opened_with (table_of c.args.width w) c.args.root c.args.self.now) c.of.ensures
