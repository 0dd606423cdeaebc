use Rattle.mt_path.proofs.Prelude.{ℕ, rules}
use Rattle.mt_path.proofs.SideBySide.{names_begin}
use Rattle.mt_path.proofs.batches.words_at.Goals as goal

pub words_by-requires-clause-names : goal.words_by-requires-clause-names
words_by-requires-clause-names g c = names_begin (g.R.Rows.sheet c.args.rows.now) (g.R.Rows.sheet c.root.new.self) c.args.indexes.now c.args.words.now c.fill.new.self c.root.result c.requires.places c.root.ensures.word c.root.ensures.rest (c.fill.ensures.after (λ (y : ℕ). λ is. search rules))

pub words_by-requires-in-Short-clause-names : goal.words_by-requires-in-Short-clause-names
words_by-requires-in-Short-clause-names g c = names_begin (g.R.Rows.sheet c.args.rows.now) (g.R.Rows.sheet c.root.new.self) c.args.indexes.now c.args.words.now c.fill.new.self c.root.result c.requires.places c.root.ensures.word c.root.ensures.rest (c.fill.ensures.after (λ (y : ℕ). λ is. search rules))
