use Rattle.mt_rule.proofs.Prelude.{◌≡◌, length, map, vec_capacity, All, range_with_len, new_pass, sheet_in, new_pen, identity_of, IsPassOf, pass_in, pen_in, IsPenOf, IsAlone}
use Rattle.mt_rule.proofs.table.MtTable.make_over.Given as goal

abbrev pub invariant-loop-number : goal.invariant-loop-number
invariant-loop-number l =
    (l.table ≡ l.initial.table) × IsPenOf (identity_of l.table) l.pen × IsAlone l.pen
    × (pen_in l.pen ≡ record (new_pen (identity_of l.table).shape (sheet_in l.fn.opening.value).tree) { dealt = l.number })
    × (length l.dealt.items ≡ l.number) × (vec_capacity l.dealt ≡ vec_capacity l.initial.dealt)
    × All (IsPassOf (identity_of l.table)) l.dealt.items × (map pass_in l.dealt.items ≡ map new_pass (range_with_len 0 l.number))
