use Rattle.mt_c.proofs.Prelude.{ap, Book, Sheet}
use Rattle.mt_c.proofs.Copying.{opened_with}
use Rattle.mt_c.proofs.copies.engine_with.Goals as goal

pub new-requires-3 : goal.new-requires-3
new-requires-3 c = (c.copy_into.ensures.copy c.args.wanted.now.kind c.requires.lawful).idle

pub returns-clause-engine : goal.returns-clause-engine
returns-clause-engine c = opened_with _ _ _ _ _ _ _ (ap (λ (b : Book). b.rows) c.in_ok-book.ensures) (c.copy_into.ensures.copy c.args.wanted.now.kind c.requires.lawful) c.new-3.ensures.sheet.rest c.new-3.ensures.kind

pub returns-clause-alone : goal.returns-clause-alone
returns-clause-alone c = ap (λ (s : Sheet). s.shared) c.new-3.ensures.sheet.rest
