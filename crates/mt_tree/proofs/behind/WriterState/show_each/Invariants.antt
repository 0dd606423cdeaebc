use Rattle.mt_tree.proofs.Prelude.{◌≡◌, length, map, turn_seat, after_show}
use Rattle.mt_tree.proofs.Settling.{Seeing}
use Rattle.mt_tree.proofs.behind.WriterState.show_each.Given as goal

abbrev pub invariant-loop-i : goal.invariant-loop-i
invariant-loop-i l = (after_show l.self ≡ after_show l.fn.self) × (l.i-end ≡ length l.passes) × Seeing l.fn.tree l.fn.self.pen l.i l.fn.passes l.passes × (map turn_seat l.passes ≡ map turn_seat l.fn.passes)
