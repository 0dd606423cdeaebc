use Rattle.mt_draw.proofs.Prelude.{◌≡◌, ◌≤◌, longest_slot, table_of}
use Rattle.mt_draw.proofs.texts.longest_at.Given as goal

abbrev pub invariant-loop-slot : goal.invariant-loop-slot
invariant-loop-slot l = (l.best ≡ longest_slot (table_of l.tree) l.node l.slot) × (l.best ≤ l.used)
