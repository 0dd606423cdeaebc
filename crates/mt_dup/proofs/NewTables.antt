-- New rows and a new book, before a copy and behind it.
use Rattle.mt_dup.proofs.Prelude.{◌≡◌, ℕ, zero, suc, ◌+◌, ◌-◌, ◌*◌, ◌<◌, ◌≤◌, List, [], ◌∷◌, false, Option, length, map, get_or, refl, sym, ap, ◌∙◌, subst, inl, inr, arith, replicate, slice_index, range_with_len, Contains, cases_lt, length-range_with_len, Kind, Width, columns, first_row, most_rows, deepest, Book, rows_down, new_book, held_rows, StampedRow, IsOut, New, column, new_sheet, Sheet, life_of, IsWhole, OnlyReads, loaded, is_reached, IsReached, IsToldKind, MayPlant, IsLawfulOf, map_by, reached_in, AreInOrder, IsNewBut, IsBookOfCopy, IsCopy, rows_above, next_row, IsFilling, HasTaken, IsOpenCopy, IsOutside, IsWritten, LeavesCopy, names_from, one_read}
use Rattle.mt_dup.proofs.Filling.{length-rows_above, filling_is_book}
use Rattle.mt_dup.proofs.Going.{next_after}
use Rattle.mt_dup.proofs.WholeCopies.{copied_to, Facts, all_names, facts_of, names_many, names_same}
use Rattle.mt_dup.proofs.WrittenRows.{written_rows, written_width}

-- ---- new

down_above : (n : ℕ) → rows_down n ≡ rows_above first_row n
down_above zero = refl
down_above (suc n) = ap (λ (l : List ℕ). (first_row + n) ∷ l) (down_above n)

pub new_long : (n : ℕ) → length (new_book n).free ≡ n
new_long n = ap length (down_above n) ∙ length-rows_above first_row n

pub new_next : (n : ℕ) → next_row (new_book n) ≡ first_row
new_next n = omega (arith, new_long n)

zero_in : (n i : ℕ) → slice_index (replicate n 0) i ≡ 0
zero_in zero i = refl
zero_in (suc n) zero = refl
zero_in (suc n) (suc i) = zero_in n i

new_in : (n i : ℕ) → life_of (replicate n New) i ≡ New
new_in zero i = refl
new_in (suc n) zero = refl
new_in (suc n) (suc i) = new_in n i

pub new_open : (width : Width) (n : ℕ) → IsOpenCopy (new_book n) (new_sheet width n)
new_open width n = record {
  filling = record {
    fit = omega (arith, new_long n);
    free = down_above n ∙ (λ i. rows_above (sym (new_next n) i) (sym (new_long n) i));
    held = refl;
  };
  rows = refl;
  new = λ row low high. new_in (first_row + n) row;
}

-- ---- behind a copy

above_at : (low n k d : ℕ) → k < n → get_or (rows_above low n) k d ≡ low + (n - 1 - k)
above_at low zero k d within = absurd (omega arith)
above_at low (suc n) zero d within = omega arith
above_at low (suc n) (suc k) d within = above_at low n k d (omega arith) ∙ omega arith

above_has : (low n row : ℕ) → low ≤ row → row < low + n → Contains (rows_above low n) row
above_has low n row from to =
    (n - 1 - (row - low), omega (arith, length-rows_above low n), above_at low n (n - 1 - (row - low)) row (omega arith) ∙ omega arith)

above_low : (low n row : ℕ) → Contains (rows_above low n) row → low ≤ row
above_low low n row (k, within, is) = omega (arith, is, above_at low n k row (omega (arith, within, length-rows_above low n)))

module _ (kind : Kind) (width : Width) (s d₀ d : Sheet) (b₀ b : Book) (n root count : ℕ) (new : d₀ ≡ new_sheet width n) (new_is : b₀ ≡ new_book n) (facts : Facts kind s d root count) (taken : HasTaken count b₀ b)
    (written : IsWritten (next_row b₀) (next_row b) d₀ d) where
  from : next_row b₀ ≡ first_row
  from = ap next_row new_is ∙ new_next n

  filling : IsFilling b₀
  filling = subst IsFilling (sym new_is) (new_open width n).filling

  to : next_row b ≡ first_row + count
  to = next_after count b₀ b filling taken ∙ ap (λ (r : ℕ). r + count) from

  rows_are : b.rows ≡ n
  rows_are = taken.rows ∙ ap (λ (x : Book). x.rows) new_is

  many : d.tree.rows ≡ n
  many = written_rows (next_row b₀) (next_row b) d₀ d written ∙ ap (λ (x : Sheet). x.tree.rows) new

  -- a row is reached just where it was taken
  is_outside : (row : ℕ) → is_reached (copied_to d root) row ≡ false → IsOutside (next_row b₀) (next_row b) row
  is_outside row not = elim (cases_lt row first_row) [
    | inl low ↦ inl (omega (arith, from))
    | inr high ↦ elim (cases_lt row (first_row + count)) [
      | inl within ↦ let is = facts.inside row high within in absurd (let clash = sym is ∙ not in cc)
      | inr above ↦ inr (omega (arith, to))
    ]
  ]

  is_inside : (row : ℕ) → IsReached (copied_to d root) row → (first_row ≤ row) × (row < first_row + count)
  is_inside row is = elim (cases_lt row first_row) [
    | inl low ↦ let not = facts.outside row (inl low) in absurd (let clash = sym is ∙ not in cc)
    | inr high ↦ elim (cases_lt row (first_row + count)) [
      | inl within ↦ (high, within)
      | inr above ↦ let not = facts.outside row (inr above) in absurd (let clash = sym is ∙ not in cc)
    ]
  ]

  abbrev NewOf : Width → Type 0
  NewOf v = let of_width = new_sheet v n in d ≡ record of_width { tree = record of_width.tree { table = record of_width.tree.table { words = d.tree.table.words } }; lives = d.lives }

  rest : NewOf width
  rest = written.rest ∙ ap (λ (x : Sheet). record x { tree = record x.tree { table = record x.tree.table { words = d.tree.table.words } }; lives = d.lives }) new

  pub may_plant : MayPlant kind d root
  may_plant = record {
    idle = ap (λ (x : Sheet). x.in_flight) rest;
    first = ap (λ (x : Sheet). x.ended) rest;
    empty = ap (λ (x : Sheet). x.tree.root) rest;
    told = subst (λ (k : Option Kind). IsToldKind k kind) (sym (ap (λ (x : Sheet). x.kind) rest)) tt;
    lawful = facts.lawful;
  }

  pub is_new_but : IsNewBut (copied_to d root) n d
  is_new_but = record {
    rest = subst NewOf (sym (ap (λ (x : Sheet). x.tree.table.width) rest)) rest;
    zeros = λ row c not within.
        written.words row c (is_outside row not) (subst (λ (v : Width). c < columns v) (written_width (next_row b₀) (next_row b) d₀ d written) within)
        ∙ (ap (λ (x : Sheet). column x.tree.table row c) new ∙ zero_in (columns width * (first_row + n)) (columns width * row + c));
    new = λ row not. written.lives row (is_outside row not) ∙ (ap (λ (x : Sheet). life_of x.lives row) new ∙ new_in (first_row + n) row);
    drafts = λ row is. let inside = is_inside row is in written.drafts row (omega (arith, from, inside.0)) (omega (arith, to, inside.1));
  }

  free_is : b.free ≡ rows_above (first_row + count) (length b.free)
  free_is = taken.filling.free ∙ ap (λ (r : ℕ). rows_above r (length b.free)) to

  fits : count + length b.free ≡ n
  fits = let less = taken.taken in let long = ap (λ (x : Book). length x.free) new_is in omega (arith, new_long n)

  none_held : held_rows b ≡ []
  none_held = ap (λ (l : List StampedRow). map (λ (h : StampedRow). h.row) l) taken.filling.held

  out_reached : (row : ℕ) → IsOut b row → IsReached (copied_to d root) row
  out_reached row out = facts.inside row out.here.0 (elim (cases_lt row (first_row + count)) [
    | inl within ↦ within
    | inr above ↦ absurd (out.not_free (subst (λ (l : List ℕ). Contains l row) (sym free_is) (above_has (first_row + count) (length b.free) row above (let below = out.here.1 in omega (arith, fits, rows_are)))))
  ])

  reached_out : (row : ℕ) → IsReached (copied_to d root) row → IsOut b row
  reached_out row is =
      let inside = is_inside row is in
      record {
        here = (inside.0, omega (arith, inside.1, fits, rows_are));
        not_free = λ has. let low = above_low (first_row + count) (length b.free) row (subst (λ (l : List ℕ). Contains l row) free_is has) in omega (arith, inside.1);
        not_held = λ has. none_there row (subst (λ (l : List ℕ). Contains l row) none_held has);
      }
    where
      none_there : (row : ℕ) → Contains {X = ℕ} [] row → ⊥
      none_there row (k, within, is) = omega arith

  pub book_of_copy : n ≤ most_rows → IsBookOfCopy (copied_to d root) b
  book_of_copy few = record { whole = filling_is_book b (omega (arith, rows_are)) taken.filling; rows = rows_are ∙ sym many; live = λ row. (out_reached row, reached_out row); held = taken.filling.held }

-- ---- what a copy of a whole tree leaves

-- a tree is lawful, and rows and a book that are new have room for it
pub record MayCopyWhole (s d₀ : Sheet) (b₀ : Book) : Type 0 where
  pub new_rows : d₀ ≡ new_sheet s.tree.table.width b₀.rows
  pub new_free : b₀ ≡ new_book b₀.rows
  pub some : (kind : Kind) × IsLawfulOf s.tree kind
  pub asked : length (reached_in s.tree.table s.tree.root) ≤ length b₀.free

-- and what the copy of its root leaves
pub record WholeCopy (s s₁ d₀ d : Sheet) (b₀ b : Book) (word root : ℕ) : Type 0 where
  pub whole : IsWhole s
  pub new_whole : IsWhole d
  pub loads : s₁ ≡ loaded s
  pub word_is : word ≡ s.tree.root
  pub may : MayCopyWhole s d₀ b₀
  pub copy : LeavesCopy s₁.tree.table d.tree.table (next_row b₀) (record { depth = deepest; word = word; parent = 1 }) root
  pub took : HasTaken (length (names_from s₁.tree.table deepest word)) b₀ b
  pub wrote : IsWritten (next_row b₀) (next_row b) d₀ d

module _ {s s₁ d₀ d : Sheet} {b₀ b : Book} {word root : ℕ} (w : WholeCopy s s₁ d₀ d b₀ b word root) where
  reads : OnlyReads s s₁
  reads = one_read s s₁ w.loads

  took_all : HasTaken (length (all_names s)) b₀ b
  took_all = subst (λ (l : List ℕ). HasTaken (length l) b₀ b) (names_same s s₁ word reads w.word_is) w.took

  room : length (all_names s) ≤ d.tree.rows
  room =
      let rows : d.tree.rows ≡ b₀.rows = written_rows (next_row b₀) (next_row b) d₀ d w.wrote ∙ ap (λ (x : Sheet). x.tree.rows) w.may.new_rows in
      let many = names_many w.may.some.0 s w.whole w.may.some.1 in
      let free = ap (λ (x : Book). length x.free) w.may.new_free in
      omega (arith, w.may.asked, rows, many, free, new_long b₀.rows)

  facts : (kind : Kind) → IsLawfulOf s.tree kind → Facts kind s d root (length (all_names s))
  facts kind lawful = facts_of s s₁ word reads w.word_is kind d (next_row b₀) root w.whole w.new_whole lawful (written_width (next_row b₀) (next_row b) d₀ d w.wrote ∙ ap (λ (x : Sheet). x.tree.table.width) w.may.new_rows) room (ap next_row w.may.new_free ∙ new_next b₀.rows) w.copy

  pub is_copy : IsCopy s.tree (copied_to d root)
  is_copy = (facts w.may.some.0 w.may.some.1).copy

  pub in_order : AreInOrder (copied_to d root)
  in_order = by_count (facts w.may.some.0 w.may.some.1).order
    where
      by_count : reached_in d.tree.table root ≡ range_with_len first_row (length (all_names s)) → AreInOrder (copied_to d root)
      by_count rows = rows ∙ ap (range_with_len first_row) (sym (ap length rows ∙ length-range_with_len first_row (length (all_names s))))

  pub same_map : map_by (copied_to d root) ≡ map_by s.tree
  same_map = (facts w.may.some.0 w.may.some.1).same_map

  pub may_be_planted : (kind : Kind) → IsLawfulOf s.tree kind → MayPlant kind d root
  may_be_planted kind lawful = may_plant kind s.tree.table.width s d₀ d b₀ b b₀.rows root (length (all_names s)) w.may.new_rows w.may.new_free (facts kind lawful) took_all w.wrote

  pub others_new : IsNewBut (copied_to d root) b₀.rows d
  others_new = is_new_but w.may.some.0 s.tree.table.width s d₀ d b₀ b b₀.rows root (length (all_names s)) w.may.new_rows w.may.new_free (facts w.may.some.0 w.may.some.1) took_all w.wrote

  pub has_book : b₀.rows ≤ most_rows → IsBookOfCopy (copied_to d root) b
  has_book few = book_of_copy w.may.some.0 s.tree.table.width s d₀ d b₀ b b₀.rows root (length (all_names s)) w.may.new_rows w.may.new_free (facts w.may.some.0 w.may.some.1) took_all w.wrote few
