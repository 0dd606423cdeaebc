use Rattle.mt_splice.proofs.Prelude.{sym, ◌∙◌, ap, refl, Before}
use Rattle.mt_splice.proofs.Openings.{answer_is, climb_begins, some_path}
use Rattle.mt_splice.proofs.SpliceBegins.{first_may_begin}
use Rattle.mt_splice.proofs.splices.splice_as.Goals as goal

pub begin_tree-requires-clause-first : goal.begin_tree-requires-clause-first
begin_tree-requires-clause-first g c = first_may_begin c.requires.begun c.requires.may (sym c.is_empty.ensures ∙ c.if-is_empty.true) c.as_slice-items.ensures.value

pub replace-requires-clause-level : goal.replace-requires-clause-level
replace-requires-clause-level g c =
    climb_begins c.requires.begun c.requires.may (g.met.R.Rows.whole c.args.rows.now) (some_path c.args.climb.now.ways.left.items (sym c.is_empty.ensures ∙ c.if-is_empty.false)) refl refl refl c.requires.windows c.requires.made c.requires.inner

pub replace-requires-clause-number : goal.replace-requires-clause-number
replace-requires-clause-number g c = sym (ap (λ (b : Before). b.number) c.requires.begun.before)

pub replace-requires-clause-answer : goal.replace-requires-clause-answer
replace-requires-clause-answer g c = answer_is c.requires.begun c.requires.may (g.met.R.Rows.whole c.args.rows.now)
