use Rattle.mt_rows.proofs.Prelude.{ap, ◌∙◌, Listed, table_of, with_reached}
use Rattle.mt_rows.proofs.fates.Fates.enliven.Goals as goal

pub returns : goal.returns
returns c = c.note.ensures ∙ ap (λ (w : Listed). with_reached (table_of c.args.width w) c.args.root c.args.self.now) c.of.ensures
