use Rattle.mt_told.proofs.Prelude.{sym, ◌∙◌}
use Rattle.mt_told.proofs.Answered.{entry_found}
use Rattle.mt_told.proofs.answers.found_in_front.Goals as goal

pub returns-then-tells_entry-clause-some : goal.returns-then-tells_entry-clause-some
returns-then-tells_entry-clause-some c = entry_found c.args.query.now c.args.text.now c.in_ok-entry.rest.now c.in_ok-entry.entry (sym c.tells_entry.ensures ∙ c.if-tells_entry.true) c.in_ok-entry.ensures.some
