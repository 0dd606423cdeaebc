-- Room for what a climb does: rows in the book, and places for its notes and its windows.
use Rattle.mt_splice.proofs.Prelude.{◌≡◌, ℕ, zero, suc, ◌+◌, ◌*◌, ◌<◌, ◌≤◌, List, [], ◌∷◌, length, map, refl, sym, ap, ◌∙◌, arith, length-append, All, length-map, deepest, most_taken, Book, Item, RowKind, Span, length-spans_from, levels, kind_on, Sheet, IsFree, life_of, Table, inner_of, Climb, Next, IsClimbing, IsNothingLeft, IsLevelDrafted, heads, IsLedger, Layer, depth_at, begin_at, new_at, IsPlanned, newest_first, taken_by, window_at, windows_by, Before, IsStartOf, row_seen, new_row_by, new_rows_of, Seen, Start}
use Rattle.mt_splice.proofs.Besides.{begin_within}
use Rattle.mt_splice.proofs.Heads.{length-heads}
use Rattle.mt_splice.proofs.Steps.{all_free, rows_now}

-- ---- how many rows were taken, and windows noted

length-newest : (h : ℕ) (xs : List Span) → length (newest_first h xs) ≡ length xs
length-newest h [] = refl
length-newest h (x ∷ xs) = omega (arith, length-newest h xs, length-append (newest_first h xs) (record { height = h; at = x } ∷ []))

pub few_taken : (start : Start) (layers : List Layer) → IsPlanned start layers → length (taken_by start layers) ≤ 3 * length layers
few_taken start [] planned = omega arith
few_taken start (l ∷ lower) planned =
    let h = length lower in
    let rest = few_taken start lower planned.1 in let few = planned.0.few in
    let spans = length-spans_from (begin_at start h l) (heads (inner_of start.tree.gapped) (kind_on start.tree.gapped h) (begin_at start h l) l.items 0 l.ends l.rows) in
    let many = length-heads (inner_of start.tree.gapped) (kind_on start.tree.gapped h) (begin_at start h l) l.items 0 l.ends l.rows planned.0.many in
    omega (arith, length-append (newest_first h (new_at start h l)) (taken_by start lower), length-newest h (new_at start h l), spans, many)

pub length-windows_by : (start : Start) (layers : List Layer) → length (windows_by start layers) ≡ length layers
length-windows_by start [] = refl
length-windows_by start (l ∷ lower) = omega (arith, length-windows_by start lower, length-append (windows_by start lower) (window_at start (depth_at start (length lower)) l.from l.to ∷ []))

noted_by : (h : ℕ) (t : Table) (s : Seen) → length (new_row_by h t s) ≤ 1
noted_by zero t s = omega arith
noted_by (suc h) t s = omega arith

-- of each row that was taken one is noted at the most
pub few_noted : (t : Table) (seen : List Seen) → length (new_rows_of t seen) ≤ length seen
few_noted t [] = omega arith
few_noted t (s ∷ seen) =
    let behind = few_noted t seen in let here = noted_by s.height t s in let both = length-append (new_rows_of t seen) (new_row_by s.height t s) in
    omega arith

module _ {b : Before} {start : Start} {s : Sheet} {book : Book} {taken gone : List Seen} (before : IsStartOf b start) (ledger : IsLedger b s book taken gone) where
  pub rows_left : length b.book.free ≡ length book.free + length taken
  rows_left = omega (arith, ap length ledger.free, length-append book.free (map row_seen taken), length-map taken row_seen)

  pub rows_same : book.rows ≡ s.tree.rows
  rows_same = ledger.rows ∙ (before.kept.booked.rows ∙ sym (rows_now before ledger))

  pub still_free : All (λ row. IsFree s.cleared (life_of s.lives row)) book.free
  still_free = all_free before ledger

-- ---- for one level more

module _ {b : Before} {start : Start} {s : Sheet} {book : Book} {kind : RowKind} {depth : ℕ} {c : Climb} (k : IsClimbing b start s book kind depth c) where
  pub free_room : 3 ≤ length book.free
  free_room =
      let left = rows_left k.case.was k.ledger in let few = few_taken start k.layers k.planned in let levels = k.gathered.window.gathered.levels in let room = k.room in
      omega arith

  pub note_room : length c.made.items + 3 ≤ most_taken
  note_room =
      let made = ap length k.made in let noted = few_noted s.tree.table (taken_by start k.layers) in
      let few = few_taken start k.layers k.planned in let levels = k.gathered.window.gathered.levels in let low = k.gathered.window.gathered.stands.low in
      omega arith

  pub window_room : length c.windows.items < deepest
  window_room =
      let windows = ap length k.windows in let many = length-windows_by start k.layers in let levels = k.gathered.window.gathered.levels in let low = k.gathered.window.gathered.stands.low in
      omega arith

-- ---- for a root, and for the windows above

module _ {b : Before} {start : Start} {s : Sheet} {book : Book} {depth : ℕ} {c : Climb} {rows : List ℕ} {new : List Item} {next : Next} (d : IsLevelDrafted b start s book depth c rows new next) where
  pub root_free : 0 < length book.free
  root_free =
      let left = rows_left d.case.was d.ledger in let few = few_taken start (d.l ∷ d.lower) d.planned in let at = d.at in let room = d.room in
      omega arith

  pub root_note : length c.made.items < most_taken
  root_note =
      let made = ap length d.made in let noted = few_noted s.tree.table (taken_by start (d.l ∷ d.lower)) in
      let few = few_taken start (d.l ∷ d.lower) d.planned in let at = d.at in let low = d.planned.0.gathered.stands.low in
      omega arith

  pub windows_room : length c.windows.items + depth ≤ deepest
  windows_room =
      let windows = ap length d.windows in let many = length-windows_by start (d.l ∷ d.lower) in let at = d.at in let low = d.planned.0.gathered.stands.low in
      omega arith

  pub left_long : depth < length c.ways.left.items
  left_long = let at = d.at in let long = ap length d.left in let all = levels start.tree start.height d.planned.0.gathered.stands d.l.from (begin_within d.planned.0.gathered) in omega arith

  pub right_long : depth < length c.ways.right.items
  right_long = let at = d.at in let long = ap length d.right in let all = levels start.tree start.height d.planned.0.gathered.stands d.l.to d.planned.0.gathered.within in omega arith

module _ {b : Before} {start : Start} {s : Sheet} {book : Book} {depth : ℕ} {c : Climb} (d : IsNothingLeft b start s book depth c) where
  pub none_room : length c.windows.items + depth ≤ deepest
  none_room = let windows = ap length d.windows in let leaves = d.leaves in let low = d.stands.low in omega arith

  pub none_left_long : depth < length c.ways.left.items
  none_left_long =
      let order = d.order in let within = d.within in let leaves = d.leaves in
      let long = ap length d.left in let all = levels start.tree start.height d.stands d.from (omega arith) in omega arith

  pub none_right_long : depth < length c.ways.right.items
  none_right_long = let leaves = d.leaves in let long = ap length d.right in let all = levels start.tree start.height d.stands d.to d.within in omega arith
