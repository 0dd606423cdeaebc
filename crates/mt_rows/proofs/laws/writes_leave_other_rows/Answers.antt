use Rattle.mt_rows.proofs.OneWord.{other_row_stays, parent_stays}
use Rattle.mt_rows.proofs.laws.writes_leave_other_rows.Goals as goal

pub returns-clause-draft : goal.returns-clause-draft
returns-clause-draft c = λ s row col word x at other. other_row_stays s.tree row col word x other at.column

pub returns-clause-bury : goal.returns-clause-bury
returns-clause-bury c = λ s row x at. parent_stays s.tree row _ x

pub returns-clause-tend : goal.returns-clause-tend
returns-clause-tend c = λ s row word x at. parent_stays s.tree row word x
