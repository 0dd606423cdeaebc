-- The root of two levels or more has two items at the least.
use Rattle.mt_splice.proofs.Prelude.{ℕ, suc, ◌≤◌, inl, inr, arith, cases_Bool, Span, sizes, Tree, kind_on, covers_all, least_of}

pub two_least : (t : Tree) (h : ℕ) (x : Span) → 2 ≤ least_of t (suc h) x
two_least t h x = elim (cases_Bool (covers_all t x)) [
  | inl all ↦ rw all (omega arith)
  | inr part ↦ let some = (sizes t.table.width (kind_on t.gapped (suc h))).some in rw part some
]
