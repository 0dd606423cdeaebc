use Rattle.mt_read.proofs.Prelude.{◌≡◌, ◌⊎◌, ℕ, ◌+◌, ◌*◌, ◌≤◌, IfSome, length, take, identity_of, part_of, IsCounted, Stepped, GoesOnTo, IsOnKeptLeaf, SeenAt, GoesByLeaves, stand}
use Rattle.mt_read.proofs.Batching.{HasPut}
use Rattle.mt_read.proofs.cursor.Cursor.fill.Given as goal

abbrev pub invariant-loop-i : goal.invariant-loop-i
invariant-loop-i g l = record {
  stepped : Stepped (identity_of l.table) l.fn.pass l.pass;
  goes : GoesOnTo (part_of l.fn.pass) (part_of l.pass) (part_of l.pass).marks;
  kept : IfSome l.self.leaf (IsOnKeptLeaf (part_of l.pass));
  same : l.self ≡ record l.fn.self { at = l.self.at; leaf = l.self.leaf };
  since : (l.self.leaf ≡ l.fn.self.leaf) ⊎ IfSome l.self.leaf (λ kept. kept.lo ≡ l.lo);
  put : HasPut (SeenAt (part_of l.pass)) l.fn.self.max (length (part_of l.fn.pass).seen) (length (part_of l.pass).seen) l.fn.self.at l.fn.ranges l.ranges l.i l.self.at;
  long : length l.ranges ≡ length l.fn.ranges;
  looked : (few : ℕ) × GoesByLeaves (part_of l.pass) l.lo (part_of l.pass).risen l.fn.self.max (stand l.fn.self.leaf l.fn.self.at (part_of l.fn.pass).marks) (take l.i l.ranges) few (stand l.self.leaf l.self.at (part_of l.pass).marks) × (l.steps ≤ l.fn.steps + few);
  counted : IsCounted l.fn.pass l.pass l.fn.steps l.steps;
  steps : l.steps ≤ l.fn.steps + 198 * l.i;
}
