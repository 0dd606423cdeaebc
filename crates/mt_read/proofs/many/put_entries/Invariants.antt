use Rattle.mt_read.proofs.Prelude.{◌≡◌, ◌+◌, ◌*◌, ◌≤◌, length, identity_of, part_of, IsCounted, Stepped, GoesOn, EntriesPut, SeenAt}
use Rattle.mt_read.proofs.many.put_entries.Given as goal

abbrev pub invariant-loop-i : goal.invariant-loop-i
invariant-loop-i g l = record {
  stepped : Stepped (identity_of l.table) l.fn.pass l.pass;
  goes : GoesOn (part_of l.fn.pass) (part_of l.pass);
  put : EntriesPut (SeenAt (part_of l.pass)) (length (part_of l.fn.pass).seen) (length (part_of l.pass).seen) l.i l.indexes l.fn.entries l.entries;
  long : length l.entries ≡ length l.fn.entries;
  counted : IsCounted l.fn.pass l.pass l.fn.steps l.steps;
  steps : l.steps ≤ l.fn.steps + 91 * l.i;
}
