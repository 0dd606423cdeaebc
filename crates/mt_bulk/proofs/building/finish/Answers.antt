use Rattle.mt_bulk.proofs.Prelude.{◌∙◌, sheet_in}
use Rattle.mt_bulk.proofs.Finished.{built_in, table_for}
use Rattle.mt_bulk.proofs.building.finish.Goals as goal

pub put_words-requires-clause-whole : goal.put_words-requires-clause-whole
put_words-requires-clause-whole c = (table_for c.args.leaves.now c.width_of.result c.deref.result.now (sheet_in c.args.upper.table) c.requires.leaves c.width_of.ensures (c.deref.ensures.value ∙ c.raise_all-root.ensures.words) c.requires.upper.table).0

pub put_words-requires-clause-new : goal.put_words-requires-clause-new
put_words-requires-clause-new c = (table_for c.args.leaves.now c.width_of.result c.deref.result.now (sheet_in c.args.upper.table) c.requires.leaves c.width_of.ensures (c.deref.ensures.value ∙ c.raise_all-root.ensures.words) c.requires.upper.table).1

pub returns : goal.returns
returns c = built_in c.args.leaves.now c.width_of.result c.raise_all-root.result c.deref.result.now (sheet_in c.put_words.new.self) c.requires.leaves c.width_of.ensures c.raise_all-root.ensures.root (c.deref.ensures.value ∙ c.raise_all-root.ensures.words) c.put_words.ensures
