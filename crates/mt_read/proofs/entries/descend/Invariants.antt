use Rattle.mt_read.proofs.Prelude.{◌≡◌, ◌+◌, ◌≤◌, here, identity_of, part_of, IsCounted, Stepped, CoversHere, IsAtSpot, steps_below, GoesOn}
use Rattle.mt_read.proofs.entries.descend.Given as goal

abbrev pub invariant-loop-pass : goal.invariant-loop-pass
invariant-loop-pass g l = record {
  stepped : Stepped (identity_of l.table) l.fn.pass l.pass;
  covers : CoversHere (part_of l.pass) l.index;
  goes : GoesOn (part_of l.fn.pass) (part_of l.pass);
  on : IsAtSpot (part_of l.pass) l.spot;
  since : (here (part_of l.pass)).since ≡ (here (part_of l.fn.pass)).since;
  counted : IsCounted l.fn.pass l.pass l.fn.steps l.steps;
  steps : l.steps + steps_below (part_of l.pass) ≤ l.fn.steps + steps_below (part_of l.fn.pass);
}

abbrev pub decreases-loop-pass : goal.decreases-loop-pass
decreases-loop-pass g l = (here (part_of l.pass)).extent.level
