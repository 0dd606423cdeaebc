use Rattle.mt_verify.proofs.Answered.{legal_is_answered, heard_maps}
use Rattle.mt_verify.proofs.laws.a_legal_history_is_answered_calls.Goals as goal

pub returns-clause-answered : goal.returns-clause-answered
returns-clause-answered c = legal_is_answered

pub returns-clause-maps : goal.returns-clause-maps
returns-clause-maps c = heard_maps
