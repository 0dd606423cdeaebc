-- Each change of a book leaves a book.
use Rattle.mt_free.proofs.Prelude.{◌≡◌, ◌≢◌, ℕ, ◌+◌, ◌<◌, ◌≤◌, suc, zero, List, [], ◌∷◌, ◌++◌, length, map, get_or, arith, refl, ap, append_assoc, append-nil, add-one, length-append, All, AllPairs, slice_get, IfSome, le-leb, lt-leb, le-ltb, lt-ltb, get_or_append_left, length-map, map_push, All-nil, All-cons, All-head, All-tail, All-weaker, All-append, All-push, All-map, All-contains, Contains-push, AllPairs-cons, all_pairs_push, all_pairs_remove, StampedRow, Book, rows_down, IsRowOf, held_rows, IsOut, IsBook, new_book, after_retire, reclaimable, still_held, after_reclaim}
use Rattle.mt_free.proofs.Rows.{AreApart, not_before, not_behind, apart_without, apart_with, apart_are_few}
use Rattle.mt_base.specs.Width.{most_rows}

abbrev pub book : ℕ → List ℕ → List StampedRow → Book
book rows free held = record { rows = rows; free = free; held = held }

abbrev IsRowBelow : ℕ → ℕ → Type 0
IsRowBelow rows row = (16 ≤ row) × (row < 16 + rows)

length-rows_down : (n : ℕ) → length (rows_down n) ≡ n
length-rows_down zero = refl
length-rows_down (suc n) = ap suc (length-rows_down n)

-- the next row is put on the rows above it
pub rows_down_more : (free : List ℕ) (n m : ℕ) → n ≡ m + 1 → (free ++ (16 + m) ∷ []) ++ rows_down m ≡ free ++ rows_down n
rows_down_more free n m next = rw (next, add-one, append_assoc) refl

all_rows_below : (n : ℕ) → All (IsRowBelow n) (rows_down n)
all_rows_below zero = All-nil (IsRowBelow zero)
all_rows_below (suc n) =
    All-cons (IsRowBelow (suc n)) (16 + n) (rows_down n) (omega arith, omega arith) (All-weaker (IsRowBelow n) (IsRowBelow (suc n)) (λ r below. (below.0, omega (arith, below.1))) (rows_down n) (all_rows_below n))

all_rows_apart : (n : ℕ) → AreApart (rows_down n)
all_rows_apart zero = λ i j d lt within. absurd (omega arith)
all_rows_apart (suc n) =
    AllPairs-cons (λ r s. r ≢ s) (16 + n) (rows_down n) (All-weaker (IsRowBelow n) (λ r. 16 + n ≢ r) (λ r below is. omega (arith, below.1, is)) (rows_down n) (all_rows_below n)) (all_rows_apart n)

pub new_is_book : (rows : ℕ) → rows ≤ most_rows → IsBook (new_book rows)
new_is_book rows few = record {
  few = few;
  counted = omega (arith, length-rows_down rows);
  free_rows = all_rows_below rows;
  waiting_rows = λ k d within. absurd (omega arith);
  once = rw append-nil (all_rows_apart rows);
  in_order = λ i j d lt within. absurd (omega arith);
}

-- the book without its last free row, which then is out
pub take_leaves_book : (rows : ℕ) (free : List ℕ) (row : ℕ) (held : List StampedRow) → IsBook (book rows (free ++ row ∷ []) held) → IsBook (book rows free held)
take_leaves_book rows free row held b = record {
  few = b.few;
  counted = omega (arith, b.counted, length-append free (row ∷ []));
  free_rows = λ k d within. rw get_or_append_left at (b.free_rows k d (omega (arith, length-append free (row ∷ []))));
  waiting_rows = b.waiting_rows;
  once = apart_without free row (map (λ h. h.row) held) (rw append_assoc at b.once);
  in_order = b.in_order;
}

pub taken_is_out : (rows : ℕ) (free : List ℕ) (row : ℕ) (held : List StampedRow) → IsBook (book rows (free ++ row ∷ []) held) → IsOut (book rows free held) row
taken_is_out rows free row held b =
    let apart : AreApart (free ++ row ∷ map (λ h. h.row) held) = rw append_assoc at b.once in
    record {
      here = All-contains (IsRowBelow rows) (free ++ row ∷ []) row b.free_rows (Contains-push free row);
      not_free = not_before free row (map (λ h. h.row) held) apart;
      not_held = not_behind free row (map (λ h. h.row) held) apart;
    }

-- a row that is out stands beside those that are free or held
out_is_beside : (b : Book) (row stamp : ℕ) → IsBook b → IsOut b row → AreApart (b.free ++ held_rows (after_retire b row stamp))
out_is_beside b row stamp is out =
    rw (map_push (λ (h : StampedRow). h.row) b.held (record { row = row; stamp = stamp })) (apart_with b.free (held_rows b) row is.once out.not_free out.not_held)

retired_are_rows : (b : Book) (row stamp : ℕ) → IsBook b → IsOut b row → All (λ h. IsRowOf b h.row) (after_retire b row stamp).held
retired_are_rows b row stamp is out = All-push (λ h. IsRowOf b h.row) b.held (record { row = row; stamp = stamp }) is.waiting_rows out.here

pub out_has_room : (b : Book) (row : ℕ) → IsBook b → IsOut b row → length b.free + length b.held < b.rows
out_has_room b row is out =
    let held : List StampedRow = (after_retire b row 0).held in
    let rows : List ℕ = map (λ h. h.row) held in
    let few : length (b.free ++ rows) ≤ b.rows = apart_are_few 16 b.rows (b.free ++ rows) (All-append (IsRowOf b) b.free rows is.free_rows (All-map (IsRowOf b) (λ h. h.row) held (retired_are_rows b row 0 is out))) (out_is_beside b row 0 is out) in
    omega (arith, few, length-append b.free rows, length-map held (λ h. h.row), length-append b.held (record { row = row; stamp = 0 } ∷ []))

pub retire_leaves_book : (b : Book) (row stamp : ℕ) → IsBook b → IsOut b row → All (λ h. h.stamp ≤ stamp) b.held → IsBook (after_retire b row stamp)
retire_leaves_book b row stamp is out order = record {
  few = is.few;
  counted = omega (arith, out_has_room b row is out, length-append b.held (record { row = row; stamp = stamp } ∷ []));
  free_rows = is.free_rows;
  waiting_rows = retired_are_rows b row stamp is out;
  once = out_is_beside b row stamp is out;
  in_order = all_pairs_push (λ g h. g.stamp ≤ h.stamp) b.held (record { row = row; stamp = stamp }) is.in_order (λ k d within. order k d within);
}

-- the book whose first held row is free again
pub reclaim_leaves_book : (rows : ℕ) (free : List ℕ) (h : StampedRow) (held : List StampedRow) → IsBook (book rows free (h ∷ held)) → IsBook (book rows (free ++ h.row ∷ []) held)
reclaim_leaves_book rows free h held b = record {
  few = b.few;
  counted = omega (arith, b.counted, length-append free (h.row ∷ []));
  free_rows = All-push (IsRowBelow rows) free h.row b.free_rows (All-head (λ g. IsRowBelow rows g.row) h held b.waiting_rows);
  waiting_rows = All-tail (λ g. IsRowBelow rows g.row) h held b.waiting_rows;
  once = rw append_assoc b.once;
  in_order = all_pairs_remove (λ g k. g.stamp ≤ k.stamp) (h ∷ held) 0 (omega arith) b.in_order;
}

-- a row that is due may be freed first
pub first_due : (rows : ℕ) (free : List ℕ) (h : StampedRow) (held : List StampedRow) (least : ℕ) → h.stamp ≤ least → after_reclaim (book rows (free ++ h.row ∷ []) held) least ≡ after_reclaim (book rows free (h ∷ held)) least
first_due rows free h held least le = rw (le-leb h.stamp least le, le-ltb least h.stamp le, append_assoc) refl

pub count_first_due : (h : StampedRow) (held : List StampedRow) (least : ℕ) → h.stamp ≤ least → length (reclaimable least (h ∷ held)) ≡ suc (length (reclaimable least held))
count_first_due h held least le = rw (le-leb h.stamp least le) refl

all_later : (held : List StampedRow) (least : ℕ) → AllPairs (λ g h. g.stamp ≤ h.stamp) held → IfSome (slice_get held 0) (λ h. least < h.stamp) → All (λ h. least < h.stamp) held
all_later [] least order first = All-nil (λ h. least < h.stamp)
all_later (h ∷ held) least order first =
    All-cons (λ g. least < g.stamp) h held first (λ k d within. (let le : h.stamp ≤ (get_or held k d).stamp = order 0 (suc k) d (omega arith) (omega arith) in omega (arith, le, first)))

later_stay : (held : List StampedRow) (least : ℕ) → All (λ h. least < h.stamp) held → (reclaimable least held ≡ []) × (still_held least held ≡ held)
later_stay [] least later = (refl, refl)
later_stay (h ∷ held) least later =
    let lt : least < h.stamp = All-head (λ g. least < g.stamp) h held later in
    let rest : (reclaimable least held ≡ []) × (still_held least held ≡ held) = later_stay held least (All-tail (λ g. least < g.stamp) h held later) in
    (rw (lt-leb h.stamp least lt) rest.0, rw (lt-ltb least h.stamp lt) (ap (λ hs. h ∷ hs) rest.1))

-- where the first held row is not due, none is
pub none_due : (b : Book) (least : ℕ) → IsBook b → IfSome (slice_get b.held 0) (λ h. least < h.stamp) → (reclaimable least b.held ≡ []) × (after_reclaim b least ≡ b)
none_due b least is first =
    let stay : (reclaimable least b.held ≡ []) × (still_held least b.held ≡ b.held) = later_stay b.held least (all_later b.held least is.in_order first) in
    (stay.0, rw (stay.0, stay.1, append-nil) refl)
