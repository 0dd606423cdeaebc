use Rattle.mt_read.proofs.Prelude.{◌+◌, ◌≤◌, identity_of, part_of, IsCounted, Stepped, IsOnRow, SeesMore}
use Rattle.mt_read.proofs.Finding.{PassedBy}
use Rattle.mt_read.proofs.descent.find_along.Given as goal

abbrev pub invariant-loop-slot : goal.invariant-loop-slot
invariant-loop-slot g l = record {
  stepped : Stepped (identity_of l.table) l.fn.pass l.pass;
  sees : SeesMore (part_of l.fn.pass) (part_of l.pass);
  on : IsOnRow (part_of l.pass) l.row;
  passed : PassedBy (part_of l.fn.pass) l.index l.slot l.first;
  from : l.first ≤ l.index;
  counted : IsCounted l.fn.pass l.pass l.fn.steps l.steps;
  steps : l.steps ≤ l.fn.steps + l.slot;
}
