-- The rows of windows buried and retired, by the ledger.
use Rattle.mt_splice.proofs.Prelude.{◌≡◌, ℕ, zero, suc, ◌+◌, ◌-◌, ◌<◌, ◌≤◌, List, ◌∷◌, ◌++◌, true, length, map, nat_lt, refl, sym, ap, ◌∙◌, subst, arith, append_assoc, append-nil, length-append, eq-eqb, AllByRecursion, map-append, Width, columns, greatest, all_front, all_back, Book, after_retire, Span, row_in, dead_mark, fills_le, path_in, levels, place, Tree, Stands, top_of, is_row_of, one_if, is_reached, root_of, Sheet, after_bury, Table, column, level_rows, tally-append, on_level_reached, times_reached, Window, IsUnpublished, after_burials, after_retirals, EachInTurn, rows_on, numbers_in, numbers_in_all, IsWindowOn, AreWindowsOn, was_seen, IsLedger, IsNowOf, Layer, depth_at, old_at, IsPlanned, AreAllHeld, seen_at, gone_by, window_at, windows_by, Before, IsStartOf, row_seen, Seen, passing, before, behind, between, row_at, Start, rows_at, tree_with, []}
use Rattle.mt_splice.proofs.DraftedLedger.{all_held_stay}
use Rattle.mt_splice.proofs.EndLevels.{levels_each}
use Rattle.mt_splice.proofs.KeptTrees.{mark_keeps}
use Rattle.mt_splice.proofs.Steps.{may_bury, is_out, in_order, progress_gone}
use Rattle.mt_splice.proofs.Widened.{step_is}
use Rattle.mt_splice.proofs.WindowRows.{sides_same, same_between, window_parts}
use Rattle.mt_splice.proofs.StoredWords.{words_of}

-- ---- rows that are buried one by one

abbrev pub WereReached : Before → List Seen → Type 0
WereReached b gone = AllByRecursion (λ (s : Seen). is_reached b.sheet.tree (row_seen s) ≡ true) gone

-- those that were reached may be, each once; and then the ledger names them
pub buried_by : {b : Before} {start : Start} {taken : List Seen} (was : IsStartOf b start) → IsUnpublished b.sheet.in_flight b.sheet.published b.sheet.ended b.number → (gone more : List Seen) {s : Sheet} {book : Book} → IsLedger b s book taken gone
    → ((row : ℕ) → passing (is_row_of row) (gone ++ more) ≤ 1) → WereReached b more
    → EachInTurn s book (map row_seen more) b.number × IsLedger b (after_burials s (map row_seen more)) (after_retirals book (map row_seen more) b.number) taken (gone ++ more)
buried_by {b} {start} {taken} was unpublished gone [] {s} {book} ledger few reached = (tt, subst (IsLedger b s book taken) (sym (append-nil gone)) ledger)
buried_by {b} {start} {taken} was unpublished gone (x ∷ more) {s} {book} ledger few reached =
    let row = row_seen x in
    let all = tally-append (λ (s : Seen). is_row_of row s.height s.at) gone (x ∷ more) in let one = ap one_if (eq-eqb row row refl) in let most = few row in
    let never : passing (is_row_of row) gone ≡ 0 = omega arith in
    let none = ap (nat_lt 0) never in
    let regroup : (gone ++ x ∷ []) ++ more ≡ gone ++ (x ∷ more) = append_assoc gone (x ∷ []) more in
    let rest = buried_by was unpublished (gone ++ x ∷ []) more (progress_gone x was ledger reached.0 none) (λ row. subst (λ (l : List Seen). passing (is_row_of row) l ≤ 1) (sym regroup) (few row)) reached.1 in (
      (record { live = may_bury x was ledger reached.0 none unpublished; out = is_out x was ledger reached.0 none; in_order = in_order was ledger }, rest.0),
      subst (IsLedger b (after_burials (after_bury s row) (map row_seen more)) (after_retirals (after_retire book row b.number) (map row_seen more) b.number) taken) regroup rest.1,
    )

-- a burial writes parent words alone
pub burials_keep : (s : Sheet) (rows : List ℕ) (r c : ℕ) → 0 < c → c < columns s.tree.table.width → column (after_burials s rows).tree.table r c ≡ column s.tree.table r c
burials_keep s [] r c above within = refl
burials_keep s (row ∷ rows) r c above within = burials_keep (after_bury s row) rows r c above within ∙ mark_keeps s.tree row (dead_mark row) r c above within

-- the drafts stay as they are
module _ {b : Before} (start : Start) {s s' : Sheet} {book book' : Book} {taken gone gone' : List Seen} (ledger : IsLedger b s book taken gone) (ledger' : IsLedger b s' book' taken gone') (wide : s.tree.table.width ≡ start.tree.table.width)
    (wide' : s'.tree.table.width ≡ start.tree.table.width) (same : (r c : ℕ) → 0 < c → c < columns s.tree.table.width → column s'.tree.table r c ≡ column s.tree.table r c) where
  table_of : (x : Sheet) → x.tree.table.width ≡ start.tree.table.width → (tree_with start.tree x.tree.table.words).table ≡ x.tree.table
  table_of x wide = λ i. record { width = sym wide i; words = x.tree.table.words }

  pub columns_later : (row c : ℕ) → was_seen taken row ≡ true → c < columns start.tree.table.width → column (tree_with start.tree s'.tree.table.words).table row c ≡ column (tree_with start.tree s.tree.table.words).table row c
  columns_later row zero some within = ap (λ (t : Table). column t row 0) (table_of s' wide') ∙ (ledger'.new_parents row some ∙ sym (ap (λ (t : Table). column t row 0) (table_of s wide) ∙ ledger.new_parents row some))
  columns_later row (suc c) some within =
      ap (λ (t : Table). column t row (suc c)) (table_of s' wide')
      ∙ (same row (suc c) (omega arith) (subst (λ (v : Width). suc c < columns v) (sym wide) within) ∙ sym (ap (λ (t : Table). column t row (suc c)) (table_of s wide)))

  pub held_later : (layers : List Layer) → AreAllHeld start s.tree.table.words (was_seen taken) layers → AreAllHeld start s'.tree.table.words (was_seen taken) layers
  held_later layers held = all_held_stay start s.tree.table.words s'.tree.table.words (was_seen taken) (was_seen taken) (λ row some. some) columns_later layers held

-- ---- the windows of layers

pub less_none : (n : ℕ) → n ≡ n - 0
less_none n = omega arith

module _ {b : Before} {start : Start} (s : Sheet) (was : IsStartOf b start) (now : IsNowOf start s.tree) (stands : Stands start.tree start.height) (levels_now : (d k : ℕ) → start.height ≡ d + k → rows_on s.tree d ≡ rows_at start.tree d) where
  was_reached : (row : ℕ) → is_reached (words_of start.tree) row ≡ true → is_reached b.sheet.tree row ≡ true
  was_reached row reached = sym (ap (λ (t : Tree). is_reached (words_of t) row) was.tree) ∙ reached

  pub level_reached : (d k : ℕ) → start.height ≡ d + k → AllByRecursion (λ (x : Span). is_reached b.sheet.tree (row_in x.word) ≡ true) (rows_at start.tree d)
  level_reached d k high =
      level_rows (λ (_ : ℕ) (x : Span). is_reached b.sheet.tree (row_in x.word) ≡ true) start.tree.table d k start.height (root_of start.tree) high
      (levels_each (λ (_ : ℕ) (x : Span). is_reached b.sheet.tree (row_in x.word) ≡ true) start.tree.table start.height (root_of start.tree)
      (λ m x on. was_reached (row_in x.word) (times_reached start.tree start.height stands (row_in x.word) (on_level_reached start.tree start.height stands m x on))))

  pub seen_reached : (h : ℕ) (xs : List Span) → AllByRecursion (λ (x : Span). is_reached b.sheet.tree (row_in x.word) ≡ true) xs → WereReached b (seen_at h xs)
  seen_reached h [] all = tt
  seen_reached h (x ∷ xs) all = (all.0, seen_reached h xs all.1)

  pub both_reached : (xs ys : List Seen) → WereReached b xs → WereReached b ys → WereReached b (xs ++ ys)
  both_reached [] ys front back = back
  both_reached (x ∷ xs) ys front back = (front.0, both_reached xs ys front.1 back)

  pub gone_reached : (layers : List Layer) → IsPlanned start layers → WereReached b (gone_by start layers)
  gone_reached [] planned = tt
  gone_reached (l ∷ lower) planned =
      let g = planned.0.gathered in let low = planned.0.low in
      let d = depth_at start (length lower) in
      let rows = rows_at start.tree d in
      let all = level_reached d (length lower) (omega arith) in
      let parts = window_parts start.tree start.height stands l.from l.to d g.order g.within (omega arith) in
      let back = all_back (λ (x : Span). is_reached b.sheet.tree (row_in x.word) ≡ true) (before l.from rows) (between l.from l.to rows ++ behind l.to rows) (subst (AllByRecursion (λ (x : Span). is_reached b.sheet.tree (row_in x.word) ≡ true)) parts all) in
      both_reached (gone_by start lower) (seen_at (length lower) (old_at start (length lower) l)) (gone_reached lower planned.1)
      (seen_reached (length lower) (old_at start (length lower) l) (all_front (λ (x : Span). is_reached b.sheet.tree (row_in x.word) ≡ true) (between l.from l.to rows) (behind l.to rows) back))

  -- their numbers
  pub numbers_seen : (h : ℕ) (xs : List Span) → map row_seen (seen_at h xs) ≡ map (λ (x : Span). row_in x.word) xs
  numbers_seen h [] = refl
  numbers_seen h (x ∷ xs) = ap (λ (l : List ℕ). row_in x.word ∷ l) (numbers_seen h xs)

  pub window_numbers : (from to d : ℕ) → from ≤ to → to ≤ top_of start.tree → d ≤ start.height → numbers_in s.tree d (window_at start d from to) ≡ map (λ (x : Span). row_in x.word) (between from to (rows_at start.tree d))
  window_numbers from to d order within low =
      let one = place start.tree start.height stands from d (omega arith) low in let other = place start.tree start.height stands to d within low in
      let x = row_at start.tree d from in let y = row_at start.tree d to in
      let a = one.from in let b = one.to in let c = other.from in let e = other.to in
      let end = fills_le (y.last + 1) (top_of start.tree + 1) other.back other.after in
      let left = sides_same start.tree start.height stands from x.first d (omega arith) low (omega arith) (omega arith) in
      let right = sides_same start.tree start.height stands to y.last d within low (omega arith) (omega arith) in
      ap (λ (l : List Span). map (λ (z : Span). row_in z.word) (between x.first y.last l)) (levels_now d (start.height - d) (omega arith))
      ∙ ap (map (λ (z : Span). row_in z.word)) (same_between start.tree start.height stands from to x.first y.last d order within low (omega arith) (omega arith) left.1 right.2)

  numbers_behind : (depth : ℕ) (ws : List Window) (w : Window) → numbers_in_all s.tree depth (ws ++ w ∷ []) ≡ numbers_in_all s.tree depth ws ++ numbers_in s.tree (depth - length ws) w
  numbers_behind depth [] w = append-nil (numbers_in s.tree depth w) ∙ ap (λ (d : ℕ). numbers_in s.tree d w) (less_none depth)
  numbers_behind depth (v ∷ ws) w =
      let less : depth - 1 - length ws ≡ depth - length (v ∷ ws) = omega arith in
      ap (λ (l : List ℕ). numbers_in s.tree depth v ++ l) (numbers_behind (depth - 1) ws w)
      ∙ (sym (append_assoc (numbers_in s.tree depth v) (numbers_in_all s.tree (depth - 1) ws) (numbers_in s.tree (depth - 1 - length ws) w))
      ∙ ap (λ (d : ℕ). (numbers_in s.tree depth v ++ numbers_in_all s.tree (depth - 1) ws) ++ numbers_in s.tree d w) less)

  pub length-windows : (layers : List Layer) → length (windows_by start layers) ≡ length layers
  length-windows [] = refl
  length-windows (l ∷ lower) = omega (arith, length-windows lower, length-append (windows_by start lower) (window_at start (depth_at start (length lower)) l.from l.to ∷ []))

  pub numbers_are : (layers : List Layer) → IsPlanned start layers → numbers_in_all s.tree start.height (windows_by start layers) ≡ map row_seen (gone_by start layers)
  numbers_are [] planned = refl
  numbers_are (l ∷ lower) planned =
      let h = length lower in let d = depth_at start h in
      let g = planned.0.gathered in let low = planned.0.low in
      let there : start.height - length (windows_by start lower) ≡ d = ap (λ (n : ℕ). start.height - n) (length-windows lower) in
      numbers_behind start.height (windows_by start lower) (window_at start d l.from l.to)
      ∙ ((λ i. numbers_are lower planned.1 i ++ (ap (λ (e : ℕ). numbers_in s.tree e (window_at start d l.from l.to)) there ∙ (window_numbers l.from l.to d g.order g.within (omega arith) ∙ sym (numbers_seen h (old_at start h l)))) i)
      ∙ sym (map-append row_seen (gone_by start lower) (seen_at h (old_at start h l))))

  -- and the steps are theirs
  pub window_is : (from to d : ℕ) → from ≤ to → to ≤ top_of start.tree → d ≤ start.height → IsWindowOn s.tree d (window_at start d from to)
  window_is from to d order within low =
      let left = now.paths from (omega arith) in let right = now.paths to within in
      record {
        from = from;
        to = to;
        order = order;
        within = subst (λ (v : Width). to ≤ greatest v) (sym now.width) within;
        deep = let long = ap length right ∙ levels start.tree start.height stands to within in omega arith;
        first = sym (step_is start.tree start.height stands (path_in s.tree.table s.tree.root from) from d (omega arith) low left);
        last = sym (step_is start.tree start.height stands (path_in s.tree.table s.tree.root to) to d within low right);
      }

  windows_behind : (depth : ℕ) (ws : List Window) (w : Window) → length ws ≤ depth → AreWindowsOn s.tree depth ws → IsWindowOn s.tree (depth - length ws) w → AreWindowsOn s.tree depth (ws ++ w ∷ [])
  windows_behind depth [] w many on one = (subst (λ (d : ℕ). IsWindowOn s.tree d w) (sym (less_none depth)) one, omega arith, tt)
  windows_behind depth (v ∷ ws) w many on one =
      let less : depth - length (v ∷ ws) ≡ depth - 1 - length ws = omega arith in (
        on.0,
        omega (arith, length-append ws (w ∷ [])),
        windows_behind (depth - 1) ws w (omega arith) on.2 (subst (λ (d : ℕ). IsWindowOn s.tree d w) less one),
      )

  pub windows_are : (layers : List Layer) → IsPlanned start layers → AreWindowsOn s.tree start.height (windows_by start layers)
  windows_are [] planned = tt
  windows_are (l ∷ lower) planned =
      let h = length lower in let d = depth_at start h in
      let g = planned.0.gathered in let low = planned.0.low in let many = length-windows lower in
      windows_behind start.height (windows_by start lower) (window_at start d l.from l.to) (omega arith) (windows_are lower planned.1)
      (subst (λ (e : ℕ). IsWindowOn s.tree e (window_at start d l.from l.to)) (sym (ap (λ (n : ℕ). start.height - n) many)) (window_is l.from l.to d g.order g.within (omega arith)))
