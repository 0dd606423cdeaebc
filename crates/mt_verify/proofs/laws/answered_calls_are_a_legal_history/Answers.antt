use Rattle.mt_verify.proofs.Answered.{answered_is_legal, answered_are_records, maps_are}
use Rattle.mt_verify.proofs.laws.answered_calls_are_a_legal_history.Goals as goal

pub returns-clause-legal : goal.returns-clause-legal
returns-clause-legal c = answered_is_legal

pub returns-clause-records : goal.returns-clause-records
returns-clause-records c = answered_are_records

pub returns-clause-maps : goal.returns-clause-maps
returns-clause-maps c = maps_are
