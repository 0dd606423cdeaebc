-- What a row tells, read off its children one after another.
use Rattle.mt_gap.proofs.Prelude.{◌≡◌, ℕ, ◌^◌, ◌<◌, ◌≤◌, List, Option, sym, ap, ◌∙◌, subst, AllByRecursion, RowKind, Leaf, Gapped, Span, gap_column, slots_of, longest_in, PathStep, Sheet, MayTend, ReadsUpTo, tended, Table, row_spans, Child, row_children, told_by, MayTell, MayMend, IsMended}
use Rattle.mt_gap.proofs.ChildLists.{spans, spans_are}

-- ---- a leaf

pub row_spans_are : (t : Table) (kind : RowKind) (s : PathStep) → spans (row_children t s.row kind s.min s.max) ≡ row_spans t s.row kind s.min s.max
row_spans_are t kind s = spans_are s.min _

pub leaf_fits : (t : Table) (s : PathStep) (xs : List Child) → xs ≡ row_children t s.row Leaf s.min s.max → MayTell Leaf t s → longest_in (spans xs) < 2 ^ 64
leaf_fits t s xs is may = subst (λ (l : List Span). longest_in l < 2 ^ 64) (sym (ap spans is ∙ row_spans_are t Leaf s)) may.0

pub leaf_rises : (t : Table) (s : PathStep) (xs : List Child) → xs ≡ row_children t s.row Leaf s.min s.max → MayTell Leaf t s → AllByRecursion (λ (x : Span). x.first ≤ x.last) (spans xs)
leaf_rises t s xs is may = subst (AllByRecursion (λ (x : Span). x.first ≤ x.last)) (sym (ap spans is ∙ row_spans_are t Leaf s)) may.1

pub leaf_tells : (t : Table) (s : PathStep) (xs : List Child) → xs ≡ row_children t s.row Leaf s.min s.max → longest_in (spans xs) ≡ told_by Leaf t s
leaf_tells t s xs is = ap longest_in (ap spans is ∙ row_spans_are t Leaf s)

-- ---- one slot

pub may_tend : (s s' : Sheet) (kind : RowKind) (above below : PathStep) (n gap col : ℕ) → MayMend s kind above below → ReadsUpTo n s s' → col ≡ gap_column (slots_of s.tree.table.width Gapped) above.slot → MayTend s' above.row col gap
may_tend s s' kind above below n gap col may reads is =
    subst (λ (c : ℕ). MayTend s' above.row c gap) (sym is)
    (subst (λ (r : Sheet). MayTend r above.row (gap_column (slots_of s.tree.table.width Gapped) above.slot) gap) (sym reads.rest) (again (may.tend gap)))
  where
    again : MayTend s above.row (gap_column (slots_of s.tree.table.width Gapped) above.slot) gap → MayTend (record s { reads = s'.reads }) above.row (gap_column (slots_of s.tree.table.width Gapped) above.slot) gap
    again m = record { at = m.at; live = m.live; kept = m.kept; column = m.column; alive = m.alive }

pub is_mended : (s s' s'' : Sheet) (kind : RowKind) (above below : PathStep) (n gap col : ℕ) → ReadsUpTo n s s' → gap ≡ told_by kind s.tree.table below → col ≡ gap_column (slots_of s.tree.table.width Gapped) above.slot → s'' ≡ tended s' above.row col gap
    → IsMended s s'' kind above below
is_mended s s' s'' kind above below n gap col reads told is done =
    let whole : s'' ≡ tended (record s { reads = s'.reads }) above.row (gap_column (slots_of s.tree.table.width Gapped) above.slot) (told_by kind s.tree.table below) = done ∙ (λ i. tended (reads.rest i) above.row (is i) (told i)) in
    whole ∙ ap (λ (r : Option ℕ). record (tended s above.row (gap_column (slots_of s.tree.table.width Gapped) above.slot) (told_by kind s.tree.table below)) { reads = r }) (sym (ap (λ (r : Sheet). r.reads) whole))
