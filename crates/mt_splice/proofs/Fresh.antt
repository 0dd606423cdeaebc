-- Rows and a book of which nothing was used yet stand for the empty map, and are ready for a call.
use Rattle.mt_splice.proofs.Prelude.{◌≡◌, ℕ, zero, suc, ◌+◌, ◌-◌, ◌<◌, ◌≤◌, false, refl, sym, subst, inl, ⊎_elim, arith, replicate, Contains, slice_index_or, cases_lt, All-nil, Kind, kind_width, first_row, StampedRow, rows_down, IsBook, new_book, new_sheet, IsUnheld}
use Rattle.mt_rows.specs.declared.rows.Life.TheVariants as lives
use Rattle.mt_splice.proofs.BetweenCalls.{IsBetweenCalls}

same_anywhere : {X : Type 0} (n i : ℕ) (x : X) → slice_index_or (replicate n x) i x ≡ x
same_anywhere zero i x = refl
same_anywhere (suc n) zero x = refl
same_anywhere (suc n) (suc i) x = same_anywhere n i x

-- each row of a new book is free
in_down : (n m : ℕ) → m < n → Contains (rows_down n) (first_row + m)
in_down zero m low = absurd (omega arith)
in_down (suc n) m low =
    ⊎_elim (λ (less : m < n). let here = in_down n m less in (suc here.0, let below = here.1 in omega arith, here.2))
    (λ (last : n ≤ m). (0, omega arith, let same : n ≡ m = omega arith in subst (λ (k : ℕ). first_row + n ≡ first_row + k) same refl)) (cases_lt m n)

pub fresh_is_ready : (kind : Kind) (n : ℕ) → IsBook (new_book n) → IsBetweenCalls kind (new_sheet (kind_width kind) n) (new_book n)
fresh_is_ready kind n sound = record {
  idle = refl;
  told = tt;
  kept = record {
    lawful = record { width = refl; words = inl refl };
    live = λ row low high. ((λ is. let none = same_anywhere (first_row + n) row lives.New in absurd (cc)), (λ is. absurd (cc)));
    none_buried = λ row low high. same_anywhere (first_row + n) row false;
    booked = record {
      sound = sound;
      rows = refl;
      out = λ row low high is. absurd (is.not_free (let m : row ≡ first_row + (row - first_row) = omega arith in subst (Contains (rows_down n)) (sym m) (in_down n (row - first_row) (omega arith))));
      reached = λ row is. absurd (cc);
      spare = λ k d within. subst (IsUnheld 0) (sym (same_anywhere (first_row + n) (slice_index_or (rows_down n) k d) lives.New)) tt;
      stamps = All-nil (λ (h : StampedRow). h.stamp < 1);
    };
  };
}
