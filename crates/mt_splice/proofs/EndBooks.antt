-- A book stays one while rows are taken from the end of its free rows, and others are retired.
use Rattle.mt_splice.proofs.Prelude.{◌≡◌, ℕ, ◌≤◌, List, [], ◌∷◌, ◌++◌, map, refl, sym, ap, subst, inl, inr, arith, eq-eqb, append_assoc, append-nil, ◌==◌, All, All-push, Book, StampedRow, IsBook, IsOut, after_retire, book, take_leaves_book, retire_leaves_book, out_after_retire, one_if, is_row_of, IsOneOf, Seen, passing, row_seen, stamped}
use Rattle.mt_splice.proofs.EndLists.{seen_some}

pub taken_leave_book : (rows : ℕ) (free taken : List ℕ) (held : List StampedRow) → IsBook (book rows (free ++ taken) held) → IsBook (book rows free held)
taken_leave_book rows free [] held is = subst (λ (l : List ℕ). IsBook (book rows l held)) (append-nil free) is
taken_leave_book rows free (row ∷ taken) held is =
    take_leaves_book rows free row held
    (taken_leave_book rows (free ++ row ∷ []) taken held (subst (λ (l : List ℕ). IsBook (book rows l held)) (sym (append_assoc free (row ∷ []) taken)) is))

pub retired_leave_book : (b : Book) (number : ℕ) (gone : List Seen) → IsBook b → All (λ (h : StampedRow). h.stamp ≤ number) b.held → ((row : ℕ) → passing (is_row_of row) gone ≤ 1)
    → ((s : Seen) → IsOneOf s gone → IsOut b (row_seen s)) → IsBook (book b.rows b.free (b.held ++ map (stamped number) gone))
retired_leave_book b number [] is order once out = subst (λ (l : List StampedRow). IsBook (book b.rows b.free l)) (sym (append-nil b.held)) is
retired_leave_book b number (s ∷ gone) is order once out =
    subst (λ (l : List StampedRow). IsBook (book b.rows b.free l)) (append_assoc b.held (stamped number s ∷ []) (map (stamped number) gone))
    (retired_leave_book (after_retire b (row_seen s) number) number gone (retire_leaves_book b (row_seen s) number is (out s (inl refl)) order)
    (All-push (λ (h : StampedRow). h.stamp ≤ number) b.held (stamped number s) order (omega arith))
    (λ row. (let most = once row in omega arith))
    (λ v one. out_after_retire b (row_seen s) number (row_seen v) (other v one) (out v (inr one))))
  where
    other : (v : Seen) → IsOneOf v gone → row_seen v ≡ row_seen s → ⊥
    other v one same =
        let most = once (row_seen v) in
        let here : one_if (row_seen s == row_seen v) ≡ 1 = ap one_if (eq-eqb (row_seen s) (row_seen v) (sym same)) in
        let behind = seen_some gone v one in
        absurd (omega arith)
