-- The inner rows that were taken, in the list of those whose children are to be tended.
use Rattle.mt_splice.proofs.Prelude.{◌≡◌, ℕ, zero, suc, ◌≤◌, ◌==◌, List, [], ◌∷◌, Some, Bool, length, refl, sym, subst, inl, inr, arith, eq-eqb, slice_get, Table, spans_in, tally, is_row_of, tally-append, IsOneOf, one_of_left, one_of_right, one_of_either, NewRow, Seen, passing, row_seen, new_row_by, new_rows_of}
use Rattle.mt_splice.proofs.EndLevels.{get_once}

abbrev pub new_row : Table → Seen → NewRow
new_row t s = record { row = row_seen s; count = length (spans_in t s.at) }

by_height : (h : ℕ) (t : Table) (s : Seen) (n : NewRow) → IsOneOf n (new_row_by h t s) → (k : ℕ) × (h ≡ suc k) × (n ≡ new_row t s)
by_height zero t s n one = absurd one
by_height (suc k) t s n (inl same) = (k, refl, same)
by_height (suc k) t s n (inr none) = absurd none

pub made_seen : (t : Table) (seen : List Seen) (n : NewRow) → IsOneOf n (new_rows_of t seen) → (s : Seen) × IsOneOf s seen × ((k : ℕ) × (s.height ≡ suc k) × (n ≡ new_row t s))
made_seen t [] n one = absurd one
made_seen t (s ∷ seen) n one = elim (one_of_either (new_rows_of t seen) (new_row_by s.height t s) n one) [
  | inl behind ↦ let at = made_seen t seen n behind in (at.0, inr at.1, at.2)
  | inr here ↦ (s, inl refl, by_height s.height t s n here)
]

pub seen_made : (t : Table) (seen : List Seen) (s : Seen) (k : ℕ) → s.height ≡ suc k → IsOneOf s seen → IsOneOf (new_row t s) (new_rows_of t seen)
seen_made t [] s k high one = absurd one
seen_made t (r ∷ seen) s k high (inl same) =
    one_of_right (new_rows_of t seen) (new_row_by r.height t r) (new_row t s)
    (subst (λ (v : Seen). IsOneOf (new_row t s) (new_row_by v.height t v)) same (subst (λ (n : ℕ). IsOneOf (new_row t s) (new_row_by n t s)) (sym high) (inl refl)))
seen_made t (r ∷ seen) s k high (inr behind) = one_of_left (new_rows_of t seen) (new_row_by r.height t r) (new_row t s) (seen_made t seen s k high behind)

abbrev has_number : ℕ → NewRow → Bool
has_number row n = n.row == row

by_height_le : (h : ℕ) (t : Table) (s : Seen) (row : ℕ) → tally (has_number row) (new_row_by h t s) ≤ passing (is_row_of row) (s ∷ [])
by_height_le zero t s row = omega arith
by_height_le (suc k) t s row = omega arith

made_le : (t : Table) (seen : List Seen) (row : ℕ) → tally (has_number row) (new_rows_of t seen) ≤ passing (is_row_of row) seen
made_le t [] row = omega arith
made_le t (s ∷ seen) row =
    let all = tally-append (has_number row) (new_rows_of t seen) (new_row_by s.height t s) in
    let behind = made_le t seen row in
    let here = by_height_le s.height t s row in
    omega arith

-- a row that was taken once stands in the list once
pub made_once : (t : Table) (seen : List Seen) (i j : ℕ) (n m : NewRow) → passing (is_row_of m.row) seen ≤ 1 → slice_get (new_rows_of t seen) i ≡ Some n → slice_get (new_rows_of t seen) j ≡ Some m → n.row ≡ m.row → i ≡ j
made_once t seen i j n m most at_n at_m same =
    let le = made_le t seen m.row in
    get_once (has_number m.row) (new_rows_of t seen) i j n m (omega arith) at_n at_m (eq-eqb n.row m.row same) (eq-eqb m.row m.row refl)
