use Rattle.mt_tree.proofs.Prelude.{◌≡◌, ◌+◌, length, pass_in, IsPassOf, Rests, place_of}
use Rattle.mt_tree.proofs.Batching.{Making}
use Rattle.mt_tree.proofs.behind.WriterState.act_each.Given as goal

abbrev pub invariant-loop-i : goal.invariant-loop-i
invariant-loop-i g l = record {
  table : l.self.table ≡ place_of l.fn.tree;
  all : l.i-end ≡ length l.asked;
  ended : length l.self.pen.history ≡ length l.fn.self.pen.history + l.i;
  of : IsPassOf l.fn.tree l.pass;
  rests : Rests l.fn.pass l.pass;
  making : Making g.A.Request.asks g.A.Request.told l.fn.tree (length l.fn.self.pen.history + 1) l.i (pass_in l.fn.pass) (pass_in l.pass) l.fn.asked l.asked;
}
