use Rattle.mt_splice.proofs.LedgerNow.{beside_by, now_by}
use Rattle.mt_splice.proofs.plans.the_old_rows_stand_beside.Goals as goal

pub returns : goal.returns
returns c = record { beside = λ b start s book taken gone before ledger stands. beside_by before ledger stands; items = λ b start s book taken gone before ledger stands. (now_by before ledger stands).items }
