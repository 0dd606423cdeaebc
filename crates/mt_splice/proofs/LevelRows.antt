-- A row that was written keeps the laws of rows, and holds its items.
use Rattle.mt_splice.proofs.Prelude.{[], ◌≡◌, ◌≢◌, ℕ, zero, suc, ◌+◌, ◌==◌, List, ◌∷◌, ◌++◌, true, inl, inr, length, refl, ap, arith, Any, cases_Bool, eqb-false, flat_map, columns, Item, Span, spans_from, leaf_range, Table, SameColumns, SameSpans, same_spans, Seen, row_seen, new_row_by, new_rows_of, was_seen}
use Rattle.mt_splice.proofs.StepSeen.{seen_here, seen_more}

-- ---- inner rows that were written before

pub new_rows_stay : (t t' : Table) (seen : List Seen) → t'.width ≡ t.width → ((row : ℕ) → was_seen seen row ≡ true → SameColumns t t' (columns t.width) row) → new_rows_of t' seen ≡ new_rows_of t seen
new_rows_stay t t' [] width same = refl
new_rows_stay t t' (s ∷ seen) width same =
    λ i. new_rows_stay t t' seen width (λ row some. same row (seen_more s seen row some)) i ++ one s.height (same_spans t t' s.at width (same (row_seen s) (seen_here s seen (row_seen s) refl))) i
  where
    one : (h : ℕ) → SameSpans t t' s.at → new_row_by h t' s ≡ new_row_by h t s
    one zero same = refl
    one (suc h) same = ap (λ (xs : List Span). record { row = row_seen s; count = length xs } ∷ []) same

-- ---- one row is written

pub some_entry : (lo : ℕ) (items : List Item) → flat_map leaf_range (spans_from lo items) ≢ [] → Any (λ (x : Item). x.word ≢ 0) items
some_entry lo [] some = absurd (some refl)
some_entry lo (x ∷ items) some = elim (cases_Bool (x.word == 0)) [
  | inl hole ↦ let behind = some_entry (x.last + 1) items (λ none. some (rw hole none)) in (suc behind.0, behind.1, (let within = behind.2 in omega arith), behind.3, behind.4)
  | inr entry ↦ (0, x, omega arith, refl, eqb-false x.word 0 entry)
]
