use Rattle.mt_verify.proofs.ToldAlike.{told_alike_by_one}
use Rattle.mt_verify.proofs.laws.runs_told_by_one_list_are_told_alike.Goals as goal

pub returns : goal.returns
returns c = told_alike_by_one
