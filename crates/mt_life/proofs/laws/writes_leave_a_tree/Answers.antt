use Rattle.mt_life.proofs.Standing.{draft_stands, bury_stands, tend_stands}
use Rattle.mt_life.proofs.laws.writes_leave_a_tree.Goals as goal

pub returns : goal.returns
returns c = record {
  draft = λ kind s row col word e m known at free. draft_stands kind s e m known row col word at free;
  bury = λ kind s row e m known may. bury_stands kind s e m known row may;
  tend = λ kind s row col word e m known full may. tend_stands kind s e m known row col word full may;
}
