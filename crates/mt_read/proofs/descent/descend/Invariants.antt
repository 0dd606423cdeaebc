use Rattle.mt_read.proofs.Prelude.{◌≡◌, ◌+◌, ◌≤◌, here, identity_of, part_of, IsCounted, Stepped, IsOnRow, GoesOn, steps_down}
use Rattle.mt_read.proofs.descent.descend.Given as goal

abbrev pub invariant-loop-pass : goal.invariant-loop-pass
invariant-loop-pass g l = record {
  stepped : Stepped (identity_of l.table) l.fn.pass l.pass;
  goes : GoesOn (part_of l.fn.pass) (part_of l.pass);
  on : IsOnRow (part_of l.pass) l.row;
  since : (here (part_of l.pass)).since ≡ (here (part_of l.fn.pass)).since;
  from : l.row.min ≤ l.index;
  to : l.index ≤ l.row.max;
  counted : IsCounted l.fn.pass l.pass l.fn.steps l.steps;
  steps : l.steps + steps_down (part_of l.pass) ≤ l.fn.steps + steps_down (part_of l.fn.pass);
}

abbrev pub decreases-loop-pass : goal.decreases-loop-pass
decreases-loop-pass g l = (here (part_of l.pass)).extent.level
