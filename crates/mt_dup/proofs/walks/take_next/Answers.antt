use Rattle.mt_dup.proofs.Filling.{taken_row, taken_one}
use Rattle.mt_dup.proofs.walks.take_next.Goals as goal

pub returns-clause-row : goal.returns-clause-row
returns-clause-row c = taken_row c.args.book.now c.take.new.self c.take.result c.requires.filling c.take.ensures.taken

pub returns-clause-taken : goal.returns-clause-taken
returns-clause-taken c = taken_one c.args.book.now c.take.new.self c.take.result c.requires.filling c.take.ensures.taken
