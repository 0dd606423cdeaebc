-- The rows of windows buried along one walk each.
use Rattle.mt_splice.proofs.Prelude.{[], ◌≡◌, ℕ, ◌+◌, ◌-◌, ◌<◌, ◌≤◌, List, ◌∷◌, ◌++◌, length, map, refl, sym, ap, ◌∙◌, subst, ⊎_elim, arith, inl, inr, is_some, Some, cases_lt, map-append, Kind, Width, greatest, Book, after_retire, RowKind, Span, row_in, named_kind, fills_le, PathStep, path_in, step_at, step_in, levels, step, place, Tree, Stands, top_of, top_row, IsTreeOf, tree_as, Rooted, Sheet, OnlyReads, same_tree, reads_on, after_bury, Window, MayBeBuried, MayBeBuriedInTurn, numbers_between, numbers_in, numbers_in_all, Child, IsWindowOn, IsSlotOfChild, IsChildOn, IsStretchOn, LeadsTo, AreWindowsOn, span_on, between, row_at, low_of, high_of, rows_at, root_named, row_on_top, IsSome}
use Rattle.mt_splice.proofs.Burials.{AreBuried, may_front, may_then, may_later, reads_buried, one_buried, more_buried}
use Rattle.mt_splice.proofs.Children.{standing_at, may_load_child, number_of_child, end_of_child}
use Rattle.mt_splice.proofs.KeptTrees.{SameTree, buried_tree, same_kind}
use Rattle.mt_splice.proofs.Windows.{begins_behind, ends_ahead}
use Rattle.mt_splice.proofs.WindowRows.{sides_same, same_between, one_between, first_between, last_between, split_between, head_between, ends_by, next_between}

abbrev number_of : Span → ℕ
number_of x = row_in x.word

-- the row of a step, and where it begins and ends
step_ends : (t : Rooted) (p : PathStep) (x : Span) (index : ℕ) → p ≡ step_in t.table x index → (p.row ≡ number_of x) × (p.min ≡ x.first) × (p.max ≡ x.last)
step_ends t p x index is = (ap (λ (z : PathStep). z.row) is, ap (λ (z : PathStep). z.min) is, ap (λ (z : PathStep). z.max) is)

-- ---- a window by its steps

module _ {t : Rooted} (kind : Kind) (h : ℕ) (stands : Stands (tree_as kind t) h) (depth : ℕ) (low : depth ≤ h) {w : Window} (on : IsWindowOn t depth w) where
  abbrev T : Tree
  T = tree_as kind t

  abbrev i : ℕ
  i = on.from

  abbrev j : ℕ
  j = on.to

  abbrev x : Span
  x = row_at T depth i

  abbrev y : Span
  y = row_at T depth j

  abbrev rows : List Span
  rows = rows_at T depth

  i_within : i ≤ top_of T
  i_within = let order = on.order in let within = on.within in omega arith

  first_is : w.first ≡ step_in t.table x i
  first_is = on.first ∙ step T h stands i depth i_within low

  last_is : w.last ≡ step_in t.table y j
  last_is = on.last ∙ step T h stands j depth on.within low

  first_ends : (w.first.row ≡ number_of x) × (w.first.min ≡ x.first) × (w.first.max ≡ x.last)
  first_ends = step_ends t w.first x i first_is

  last_ends : (w.last.row ≡ number_of y) × (w.last.min ≡ y.first) × (w.last.max ≡ y.last)
  last_ends = step_ends t w.last y j last_is

  x_holds : (x.first ≤ i) × (i ≤ x.last)
  x_holds = let at = place T h stands i depth i_within low in (at.from, at.to)

  y_holds : (y.first ≤ j) × (j ≤ y.last)
  y_holds = let at = place T h stands j depth on.within low in (at.from, at.to)

  y_ends : y.last ≤ top_of T
  y_ends = let at = place T h stands j depth on.within low in let end = fills_le (y.last + 1) (top_of T + 1) at.back at.after in omega arith

  -- the window that the steps name
  numbers_are : numbers_in t depth w ≡ map number_of (between i j rows)
  numbers_are =
      let order = on.order in let one = x_holds in let other = y_holds in let end = y_ends in
      let left = sides_same T h stands i x.first depth i_within low (omega arith) (omega arith) in
      let right = sides_same T h stands j y.last depth on.within low (omega arith) (omega arith) in
      (λ m. map number_of (between (first_ends.1 m) (last_ends.2 m) rows)) ∙ ap (map number_of) (same_between T h stands i j x.first y.last depth on.order on.within low (omega arith) y_ends left.1 right.2)

  -- one row
  pub one_in : w.last.max ≤ w.first.max → numbers_in t depth w ≡ w.first.row ∷ []
  one_in few =
      let order = on.order in let one = x_holds in let other = y_holds in let first = first_ends.2 in let last = last_ends.2 in
      let sides = sides_same T h stands i j depth i_within low (omega arith) (omega arith) in
      numbers_are ∙ (ap (map number_of) (same_between T h stands i i i j depth (omega arith) i_within low on.order on.within refl sides.2 ∙ one_between T h stands i depth i_within low) ∙ ap (λ (n : ℕ). n ∷ []) (sym first_ends.0))

  -- the row of the last index is another
  later : w.first.max < w.last.max → high_of T depth i ≤ j
  later more =
      ⊎_elim (λ (apart : x.last < j). omega arith)
      (λ (inside : j ≤ x.last).
      let order = on.order in let one = x_holds in let first = first_ends.2 in let last = last_ends.2 in
      let same = ap (λ (z : Span). z.last) (sides_same T h stands i j depth i_within low (omega arith) (omega arith)).0 in absurd (omega arith))
      (cases_lt x.last j)

  -- two rows side by side
  pub two_in : w.first.max < w.last.max → w.last.min ≤ w.first.max + 1 → numbers_in t depth w ≡ w.first.row ∷ w.last.row ∷ []
  two_in more few =
      let order = later more in let other = y_holds in let first = first_ends.2 in let last = last_ends.1 in
      let sides = sides_same T h stands j (high_of T depth i) depth on.within low (omega arith) (omega arith) in
      numbers_are
      ∙ (ap (map number_of)
      (first_between T h stands i j depth i_within on.within low order
      ∙ ap (λ (l : List Span). x ∷ l) (same_between T h stands j j (high_of T depth i) j depth (omega arith) on.within low order on.within sides.1 refl ∙ one_between T h stands j depth on.within low))
      ∙ (λ m. sym first_ends.0 m ∷ sym last_ends.0 m ∷ []))

  -- more
  pub more_in : w.first.max + 1 < w.last.min → numbers_in t depth w ≡ w.first.row ∷ (numbers_between t depth (w.first.max + 1) (w.last.min - 1) ++ (w.last.row ∷ []))
  more_in many =
      let first = first_ends.2 in let last = last_ends.1 in let max = last_ends.2 in let other = y_holds in
      let order = later (omega arith) in
      numbers_are
      ∙ (ap (map number_of)
      (first_between T h stands i j depth i_within on.within low order ∙ ap (λ (l : List Span). x ∷ l) (last_between T h stands (high_of T depth i) j depth on.within low (omega arith) (omega arith)))
      ∙ (ap (λ (l : List ℕ). number_of x ∷ l) (map-append number_of (between (high_of T depth i) (low_of T depth j - 1) rows) (y ∷ []))
      ∙ (λ m. sym first_ends.0 m ∷ (map number_of (between (sym first_ends.2 m + 1) (sym last_ends.1 m - 1) rows) ++ (sym last_ends.0 m ∷ [])))))

  -- so the level is not the root's
  pub below_root : w.first.max + 1 < w.last.min → 0 < depth
  below_root many = elim (cases_lt 0 depth) [
    | inl below ↦ below
    | inr none ↦
        let root : depth ≡ 0 = omega (arith, none) in
        let first = first_ends.2 in
        let ends : x.last ≡ top_of T = ap (λ (d : ℕ). (row_at T d i).last) root ∙ ap (λ (z : Span). z.last) (row_on_top t.table (top_row T) i) in
        let last = last_ends.1 in let held = y_holds in let within = on.within in
        absurd (omega (arith, many, first, ends, last, held.0, within))
  ]

  pub between_is_stretch : w.first.max + 1 < w.last.min → IsStretchOn t depth (w.first.max + 1) (w.last.min - 1)
  between_is_stretch many =
      let first = first_ends.2 in let last = last_ends.1 in let other = y_holds in let end = y_ends in
      let begins = begins_behind T h stands i depth i_within low (omega arith) in
      let ends = ends_ahead T h stands j depth on.within low (omega arith) in
      record {
        order = omega arith;
        within = omega arith;
        deep = let long = levels T h stands (w.first.max + 1) (omega arith) in omega arith;
        begins = ap (λ (n : ℕ). (step_at (path_in t.table t.root (n + 1)) depth).min) first
            ∙ (ap (λ (z : PathStep). z.min) (step T h stands (high_of T depth i) depth (omega arith) low) ∙ (begins ∙ sym (ap (λ (n : ℕ). n + 1) first)));
        ends = (let there = ap (λ (n : ℕ). (step_at (path_in t.table t.root (n - 1)) depth).max) last in let is = ap (λ (z : PathStep). z.max) (step T h stands (low_of T depth j - 1) depth (omega arith) low) in omega arith);
      }

  -- it has a first row
  pub head_in : (rest : List ℕ) × (numbers_in t depth w ≡ w.first.row ∷ rest)
  head_in =
      ⊎_elim (λ (more : w.first.max < w.last.max). (map number_of (between (high_of T depth i) j rows), numbers_are ∙ (ap (map number_of) (first_between T h stands i j depth i_within on.within low (later more)) ∙ ap (λ (n : ℕ). n ∷ map number_of (between (high_of T depth i) j rows)) (sym first_ends.0))))
      (λ (few : w.last.max ≤ w.first.max). ([], one_in few)) (cases_lt w.first.max w.last.max)

-- ---- while others are buried

module _ {kind : Kind} {h : ℕ} {t t' : Rooted} (same : SameTree kind h t t') where
  numbers_stay : (depth a b : ℕ) → depth ≤ h → numbers_between t' depth a b ≡ numbers_between t depth a b
  numbers_stay depth a b low = ap (λ (l : List Span). map number_of (between a b l)) (same.levels depth (h - depth) (omega arith))

  all_numbers_stay : (depth : ℕ) (windows : List Window) → depth ≤ h → numbers_in_all t' depth windows ≡ numbers_in_all t depth windows
  all_numbers_stay depth [] low = refl
  all_numbers_stay depth (w ∷ windows) low = λ m. numbers_stay depth w.first.min w.last.max low m ++ all_numbers_stay (depth - 1) windows (omega arith) m

  path_same : (i : ℕ) → i ≤ greatest t.table.width → path_in t'.table t'.root i ≡ path_in t.table t.root i
  path_same i within = same.paths i within

  window_stays : {depth : ℕ} {w : Window} → IsWindowOn t depth w → IsWindowOn t' depth w
  window_stays {depth} on = record {
    from = on.from;
    to = on.to;
    order = on.order;
    within = subst (λ (v : Width). on.to ≤ greatest v) (sym same.width) on.within;
    deep = subst (λ (l : List PathStep). depth < length l) (sym (path_same on.to on.within)) on.deep;
    first = on.first ∙ ap (λ (l : List PathStep). step_at l depth) (sym (path_same on.from (let order = on.order in let within = on.within in omega arith)));
    last = on.last ∙ ap (λ (l : List PathStep). step_at l depth) (sym (path_same on.to on.within));
  }

  windows_stay : (depth : ℕ) (windows : List Window) → AreWindowsOn t depth windows → AreWindowsOn t' depth windows
  windows_stay depth [] on = tt
  windows_stay depth (w ∷ windows) on = (window_stays on.0, on.1, windows_stay (depth - 1) windows on.2)

  stretch_stays : {depth a b : ℕ} → IsStretchOn t depth a b → IsStretchOn t' depth a b
  stretch_stays {depth} {a} {b} on =
      let first = path_same a (let order = on.order in let within = on.within in omega arith) in let last = path_same b on.within in
      record {
        order = on.order;
        within = subst (λ (v : Width). b ≤ greatest v) (sym same.width) on.within;
        deep = subst (λ (l : List PathStep). depth < length l) (sym first) on.deep;
        begins = ap (λ (l : List PathStep). (step_at l depth).min) first ∙ on.begins;
        ends = ap (λ (l : List PathStep). (step_at l depth).max) last ∙ on.ends;
      }

-- rows that were buried, and words that were loaded, leave the tree
tree_then : {kind : Kind} {h : ℕ} {s s' : Sheet} {book book' : Book} {rows : List ℕ} {number : ℕ} → Stands (tree_as kind s.tree) h → AreBuried s s' book book' rows number → SameTree kind h s.tree s'.tree
tree_then {kind} {h} {s} {s'} {rows = rows} stands done = subst (λ (x : Sheet). SameTree kind h s.tree x.tree) (sym done.rows_are) (buried_tree kind h s rows stands)

-- ---- a window

module _ {s : Sheet} {book : Book} {depth number : ℕ} {w : Window} {kind : Kind} (tree : IsTreeOf s.tree kind) (on : IsWindowOn s.tree depth w) (may : MayBeBuriedInTurn s book (numbers_in s.tree depth w) number) where
  abbrev stand : (h : ℕ) × Stands (tree_as kind s.tree) h × (depth ≤ h)
  stand = standing_at tree on.to depth on.within on.deep

  may_as : (are : List ℕ) → numbers_in s.tree depth w ≡ are → MayBeBuriedInTurn s book are number
  may_as are is = subst (λ (l : List ℕ). MayBeBuriedInTurn s book l number) is may

  pub window_first_may : MayBeBuried s book w.first.row number
  window_first_may = let head = head_in kind stand.0 stand.1 depth stand.2 on in (may_as (w.first.row ∷ head.0) head.1).each.0

  module _ {s₁ : Sheet} {book₁ : Book} (sheet_is : s₁ ≡ after_bury s w.first.row) (book_is : book₁ ≡ after_retire book w.first.row number) where
    one : AreBuried s s₁ book book₁ (w.first.row ∷ []) number
    one = one_buried sheet_is book_is

    pub window_one : w.last.max ≤ w.first.max → AreBuried s s₁ book book₁ (numbers_in s.tree depth w) number
    window_one few = subst (λ (l : List ℕ). AreBuried s s₁ book book₁ l number) (sym (one_in kind stand.0 stand.1 depth stand.2 on few)) one

    pub window_two_may : w.first.max < w.last.max → w.last.min ≤ w.first.max + 1 → MayBeBuried s₁ book₁ w.last.row number
    window_two_may more few = (may_later (w.first.row ∷ []) (w.last.row ∷ []) (may_as (w.first.row ∷ w.last.row ∷ []) (two_in kind stand.0 stand.1 depth stand.2 on more few)) one).each.0

    pub window_two : {s₂ : Sheet} {book₂ : Book} → w.first.max < w.last.max → w.last.min ≤ w.first.max + 1 → s₂ ≡ after_bury s₁ w.last.row → book₂ ≡ after_retire book₁ w.last.row number → AreBuried s s₂ book book₂ (numbers_in s.tree depth w) number
    window_two {s₂} {book₂} more few then_is then_book = subst (λ (l : List ℕ). AreBuried s s₂ book book₂ l number) (sym (two_in kind stand.0 stand.1 depth stand.2 on more few)) (more_buried (w.first.row ∷ []) (w.last.row ∷ []) one (one_buried then_is then_book))

    same_then : SameTree kind stand.0 s.tree s₁.tree
    same_then = tree_then stand.1 one

    pub window_tree : IsTreeOf s₁.tree kind
    window_tree = same_kind same_then tree

    module _ (many : w.first.max + 1 < w.last.min) where
      abbrev mid : List ℕ
      mid = numbers_between s.tree depth (w.first.max + 1) (w.last.min - 1)

      all : MayBeBuriedInTurn s book (w.first.row ∷ (mid ++ (w.last.row ∷ []))) number
      all = may_as (w.first.row ∷ (mid ++ (w.last.row ∷ []))) (more_in kind stand.0 stand.1 depth stand.2 on many)

      -- on the root's level there is one row
      pub window_below : 0 < depth
      window_below = below_root kind stand.0 stand.1 depth stand.2 on many

      pub window_stretch : IsStretchOn s₁.tree depth (w.first.max + 1) (w.last.min - 1)
      window_stretch = stretch_stays same_then (between_is_stretch kind stand.0 stand.1 depth stand.2 on many)

      mid_then : numbers_between s₁.tree depth (w.first.max + 1) (w.last.min - 1) ≡ mid
      mid_then = numbers_stay same_then depth (w.first.max + 1) (w.last.min - 1) stand.2

      pub window_mid_may : MayBeBuriedInTurn s₁ book₁ (numbers_between s₁.tree depth (w.first.max + 1) (w.last.min - 1)) number
      window_mid_may = subst (λ (l : List ℕ). MayBeBuriedInTurn s₁ book₁ l number) (sym mid_then) (may_front mid (w.last.row ∷ []) (may_later (w.first.row ∷ []) (mid ++ (w.last.row ∷ [])) all one))

      module _ {s₂ : Sheet} {book₂ : Book} (done : AreBuried s₁ s₂ book₁ book₂ (numbers_between s₁.tree depth (w.first.max + 1) (w.last.min - 1)) number) where
        two : AreBuried s s₂ book book₂ (w.first.row ∷ mid) number
        two = more_buried (w.first.row ∷ []) mid one (subst (λ (l : List ℕ). AreBuried s₁ s₂ book₁ book₂ l number) mid_then done)

        pub window_last_may : MayBeBuried s₂ book₂ w.last.row number
        window_last_may = (may_later (w.first.row ∷ mid) (w.last.row ∷ []) all two).each.0

        pub window_all : {s₃ : Sheet} {book₃ : Book} → s₃ ≡ after_bury s₂ w.last.row → book₃ ≡ after_retire book₂ w.last.row number → AreBuried s s₃ book book₃ (numbers_in s.tree depth w) number
        window_all {s₃} {book₃} then_is then_book =
            subst (λ (l : List ℕ). AreBuried s s₃ book book₃ l number) (sym (more_in kind stand.0 stand.1 depth stand.2 on many)) (more_buried (w.first.row ∷ mid) (w.last.row ∷ []) two (one_buried then_is then_book))

-- ---- all windows

module _ {s : Sheet} {book : Book} {depth number : ℕ} {w : Window} (above : List Window) {kind : Kind} (tree : IsTreeOf s.tree kind) (on : AreWindowsOn s.tree depth (w ∷ above))
    (may : MayBeBuriedInTurn s book (numbers_in_all s.tree depth (w ∷ above)) number) where
  abbrev up : (h : ℕ) × Stands (tree_as kind s.tree) h × (depth ≤ h)
  up = standing_at tree on.0.to depth on.0.within on.0.deep

  pub this_may : MayBeBuriedInTurn s book (numbers_in s.tree depth w) number
  this_may = may_front (numbers_in s.tree depth w) (numbers_in_all s.tree (depth - 1) above) may

  module _ {s₁ : Sheet} {book₁ : Book} (done : AreBuried s s₁ book book₁ (numbers_in s.tree depth w) number) where
    same_up : SameTree kind up.0 s.tree s₁.tree
    same_up = tree_then up.1 done

    pub above_tree : IsTreeOf s₁.tree kind
    above_tree = same_kind same_up tree

    pub above_on : AreWindowsOn s₁.tree (depth - 1) above
    above_on = windows_stay same_up (depth - 1) above on.2

    numbers_above : numbers_in_all s₁.tree (depth - 1) above ≡ numbers_in_all s.tree (depth - 1) above
    numbers_above = all_numbers_stay same_up (depth - 1) above (let low = up.2 in omega arith)

    pub above_may : MayBeBuriedInTurn s₁ book₁ (numbers_in_all s₁.tree (depth - 1) above) number
    above_may = subst (λ (l : List ℕ). MayBeBuriedInTurn s₁ book₁ l number) (sym numbers_above) (may_later (numbers_in s.tree depth w) (numbers_in_all s.tree (depth - 1) above) may done)

    pub all_windows : {s₂ : Sheet} {book₂ : Book} → AreBuried s₁ s₂ book₁ book₂ (numbers_in_all s₁.tree (depth - 1) above) number → AreBuried s s₂ book book₂ (numbers_in_all s.tree depth (w ∷ above)) number
    all_windows {s₂} {book₂} rest = more_buried (numbers_in s.tree depth w) (numbers_in_all s.tree (depth - 1) above) done (subst (λ (l : List ℕ). AreBuried s₁ s₂ book₁ book₂ l number) numbers_above rest)

-- ---- a stretch

-- the rows from the one that begins at `a` up to this one are buried, and the way leads to the row above it
pub record IsStretchSoFar (s s' : Sheet) (book book' : Book) (depth a b number : ℕ) (way : List PathStep) (child : Child) : Type 0 where
  pub index : ℕ
  pub first : a ≤ index
  pub within : index ≤ greatest s.tree.table.width
  pub leads : LeadsTo s.tree (depth - 1) way child.above
  pub above : child.above ≡ step_at (path_in s.tree.table s.tree.root index) (depth - 1)
  pub last : child.last ≡ (step_at (path_in s.tree.table s.tree.root index) depth).max
  pub order : child.last ≤ b
  pub buried : AreBuried s s' book book' (numbers_between s.tree depth a child.last) number

module _ {s : Sheet} {book : Book} {depth a b number : ℕ} {kind : Kind} (tree : IsTreeOf s.tree kind) (below : 0 < depth) (on : IsStretchOn s.tree depth a b) (may : MayBeBuriedInTurn s book (numbers_between s.tree depth a b) number) where
  a_within : a ≤ greatest s.tree.table.width
  a_within = let order = on.order in let within = on.within in omega arith

  abbrev deep : (h : ℕ) × Stands (tree_as kind s.tree) h × (depth ≤ h)
  deep = standing_at tree a depth a_within on.deep

  abbrev t : Tree
  t = tree_as kind s.tree

  at_step : (i : ℕ) → i ≤ greatest s.tree.table.width → step_at (path_in s.tree.table s.tree.root i) depth ≡ step_in s.tree.table (row_at t depth i) i
  at_step i within = step t deep.0 deep.1 i depth within deep.2

  path_deep : (i : ℕ) → i ≤ greatest s.tree.table.width → depth < length (path_in s.tree.table s.tree.root i)
  path_deep i within = let long = levels t deep.0 deep.1 i within in let low = deep.2 in omega (arith, long, low)

  pub first_deep : {way : List PathStep} → way ≡ path_in s.tree.table s.tree.root a → depth - 1 < length way
  first_deep is = let long = ap length is in let low = path_deep a a_within in omega (arith, long, low)

  -- the root is a row
  pub root_is_row : {s₁ : Sheet} → OnlyReads s s₁ → IsSome (named_kind s₁.tree.root)
  root_is_row {s₁} reads = ap (λ (r : Rooted). is_some (named_kind r.root)) (same_tree s s₁ reads) ∙ ap is_some (root_named t deep.0 deep.1)

  pub root_kind : {s₁ : Sheet} {r : RowKind} → OnlyReads s s₁ → Some r ≡ named_kind s₁.tree.root → Some r ≡ named_kind s.tree.root
  root_kind {s₁} reads root = root ∙ ap (λ (x : Rooted). named_kind x.root) (same_tree s s₁ reads)

  b_ends : (row_at t depth b).last ≡ b
  b_ends = sym (ap (λ (z : PathStep). z.max) (at_step b on.within)) ∙ on.ends

  -- the rows from an index on begin with its row
  rows_head : (i : ℕ) → i ≤ b → (rest : List ℕ) × (numbers_between s.tree depth i b ≡ number_of (row_at t depth i) ∷ rest)
  rows_head i low = let head = head_between t deep.0 deep.1 i b depth low on.within deep.2 in (map number_of head.0, ap (map number_of) head.1)

  module _ {s₁ s₂ : Sheet} {way : List PathStep} {above : PathStep} {r : RowKind} (walked : OnlyReads s s₁) (way_is : way ≡ path_in s.tree.table s.tree.root a) (asked : OnlyReads s₁ s₂) (root : Some r ≡ named_kind s₁.tree.root)
      (is : above ≡ step_at way (depth - 1)) where
    above_is : above ≡ step_at (path_in s.tree.table s.tree.root a) (depth - 1)
    above_is = is ∙ ap (λ (l : List PathStep). step_at l (depth - 1)) way_is

    root_here : Some r ≡ named_kind s.tree.root
    root_here = root_kind walked root

    reads_so_far : OnlyReads s s₂
    reads_so_far = reads_on s s₁ s₂ walked asked

    pub first_may_load : IsSlotOfChild s₂.tree r above
    first_may_load = may_load_child s tree a_within on.deep below r root_here above above_is reads_so_far

    module _ {s₃ : Sheet} {child : Child} (loaded : OnlyReads s₂ s₃) (step_is : child.above ≡ above) (row_is : child.row ≡ row_in (span_on s₂.tree.table r above).word) (last_is : child.last ≡ (span_on s₂.tree.table r above).last) where
      there : step_at (path_in s.tree.table s.tree.root a) depth ≡ step_in s.tree.table (row_at t depth a) a
      there = at_step a a_within

      row : child.row ≡ number_of (row_at t depth a)
      row = row_is ∙ (number_of_child s tree a_within on.deep below r root_here above above_is reads_so_far ∙ ap (λ (z : PathStep). z.row) there)

      last_at : child.last ≡ (step_at (path_in s.tree.table s.tree.root a) depth).max
      last_at = last_is ∙ end_of_child s tree a_within on.deep below r root_here above above_is reads_so_far

      pub first_may : MayBeBuried s₃ book child.row number
      first_may =
          let head = rows_head a on.order in
          subst (λ (n : ℕ). MayBeBuried s₃ book n number) (sym row) (may_then (reads_on s s₂ s₃ reads_so_far loaded) (subst (λ (l : List ℕ). MayBeBuriedInTurn s book l number) head.1 may)).each.0

      pub first_so_far : {s₄ : Sheet} {book₄ : Book} → s₄ ≡ after_bury s₃ child.row → book₄ ≡ after_retire book child.row number → IsStretchSoFar s s₄ book book₄ depth a b number way child
      first_so_far {s₄} {book₄} sheet_is book_is =
          let max = last_at ∙ ap (λ (z : PathStep). z.max) there in
          let at = place t deep.0 deep.1 a depth a_within deep.2 in let from = at.from in let to = at.to in
          let end = fills_le (high_of t depth a) (top_of t + 1) at.back at.after in
          let sides = sides_same t deep.0 deep.1 a (row_at t depth a).last depth a_within deep.2 (omega arith) (omega arith) in
          let rows : numbers_between s.tree depth a child.last ≡ child.row ∷ [] =
          ap (numbers_between s.tree depth a) max
          ∙ (ap (map number_of) (same_between t deep.0 deep.1 a a a (row_at t depth a).last depth (omega arith) a_within deep.2 (omega arith) (omega arith) refl sides.2 ∙ one_between t deep.0 deep.1 a depth a_within deep.2)
          ∙ ap (λ (n : ℕ). n ∷ []) (sym row)) in
          record {
            index = a;
            first = omega arith;
            within = a_within;
            leads = record { index = a; within = a_within; way_is = way_is; ends = sym (ap (λ (z : PathStep). z.max) (step_is ∙ is)) };
            above = step_is ∙ above_is;
            last = last_at;
            order = (let ends = ends_by t deep.0 deep.1 a b depth on.order on.within deep.2 b_ends in omega (arith, ends, max));
            buried = subst (λ (l : List ℕ). AreBuried s s₄ book book₄ l number) (sym rows) (more_buried [] (child.row ∷ []) (reads_buried (reads_on s s₂ s₃ reads_so_far loaded)) (one_buried sheet_is book_is));
          }

  module _ {s₁ : Sheet} {book₁ : Book} {way : List PathStep} {c : Child} (far : IsStretchSoFar s s₁ book book₁ depth a b number way c) where
    same_far : SameTree kind deep.0 s.tree s₁.tree
    same_far = tree_then deep.1 far.buried

    pub far_tree : IsTreeOf s₁.tree kind
    far_tree = same_kind same_far tree

    path_far : (i : ℕ) → i ≤ greatest s.tree.table.width → path_in s.tree.table s.tree.root i ≡ path_in s₁.tree.table s₁.tree.root i
    path_far i within = sym (path_same same_far i within)

    within_far : (i : ℕ) → i ≤ greatest s.tree.table.width → i ≤ greatest s₁.tree.table.width
    within_far i within = subst (λ (v : Width). i ≤ greatest v) (sym same_far.width) within

    pub far_leads : LeadsTo s₁.tree (depth - 1) way c.above
    far_leads = record {
      index = far.leads.index;
      within = within_far far.leads.index far.leads.within;
      way_is = far.leads.way_is ∙ path_far far.leads.index far.leads.within;
      ends = far.leads.ends;
    }

    deep_as : depth - 1 + 1 ≡ depth
    deep_as = omega (arith, below)

    pub far_child : IsChildOn s₁.tree (depth - 1) c
    far_child = record {
      index = far.index;
      within = within_far far.index far.within;
      deep = (let low = path_deep far.index far.within in let long = ap length (path_far far.index far.within) in omega (arith, below, low, long));
      above = far.above ∙ ap (λ (l : List PathStep). step_at l (depth - 1)) (path_far far.index far.within);
      last = far.last ∙ (λ m. (step_at (path_far far.index far.within m) (sym deep_as m)).max);
    }

    pub far_less : c.last < b → c.last < greatest s₁.tree.table.width
    far_less more = subst (λ (v : Width). c.last < greatest v) (sym same_far.width) (let within = on.within in omega arith)

    abbrev z : Span
    z = row_at t depth far.index

    last_there : c.last ≡ z.last
    last_there = far.last ∙ ap (λ (p : PathStep). p.max) (at_step far.index far.within)

    -- the next row
    module _ (more : c.last < b) {s₂ : Sheet} {way' : List PathStep} {above : PathStep} {r : RowKind} (root : Some r ≡ named_kind s.tree.root) (reads : OnlyReads s₁ s₂)
        (is : above ≡ step_at (path_in s₁.tree.table s₁.tree.root (c.last + 1)) (depth - 1)) (leads : LeadsTo s₁.tree (depth - 1) way' above) where
      abbrev n : ℕ
      n = high_of t depth far.index

      n_is : c.last + 1 ≡ n
      n_is = ap (λ (m : ℕ). m + 1) last_there

      n_low : n ≤ b
      n_low = let max = last_there in omega arith

      n_within : n ≤ greatest s.tree.table.width
      n_within = let low = n_low in let within = on.within in omega arith

      path_next : path_in s₁.tree.table s₁.tree.root (c.last + 1) ≡ path_in s.tree.table s.tree.root n
      path_next = ap (path_in s₁.tree.table s₁.tree.root) n_is ∙ sym (path_far n n_within)

      inside : c.last + 1 ≤ greatest s₁.tree.table.width
      inside = within_far (c.last + 1) (let within = on.within in omega arith)

      deep_next : depth < length (path_in s₁.tree.table s₁.tree.root (c.last + 1))
      deep_next = let long = ap length path_next in let low = path_deep n n_within in omega (arith, long, low)

      root_far : Some r ≡ named_kind s₁.tree.root
      root_far = root ∙ (root_named t deep.0 deep.1 ∙ sym (root_named (tree_as kind s₁.tree) deep.0 same_far.stands))

      pub next_may_load : IsSlotOfChild s₂.tree r above
      next_may_load = may_load_child s₁ far_tree inside deep_next below r root_far above is reads

      module _ {s₃ : Sheet} {c' : Child} (loaded : OnlyReads s₂ s₃) (step_is : c'.above ≡ above) (row_is : c'.row ≡ row_in (span_on s₂.tree.table r above).word) (last_is : c'.last ≡ (span_on s₂.tree.table r above).last) where
        next_there : step_at (path_in s₁.tree.table s₁.tree.root (c.last + 1)) depth ≡ step_in s.tree.table (row_at t depth n) n
        next_there = ap (λ (l : List PathStep). step_at l depth) path_next ∙ at_step n n_within

        next_row : c'.row ≡ number_of (row_at t depth n)
        next_row = row_is ∙ (number_of_child s₁ far_tree inside deep_next below r root_far above is reads ∙ ap (λ (p : PathStep). p.row) next_there)

        next_last : c'.last ≡ (row_at t depth n).last
        next_last = last_is ∙ (end_of_child s₁ far_tree inside deep_next below r root_far above is reads ∙ ap (λ (p : PathStep). p.max) next_there)

        reads_then : OnlyReads s₁ s₃
        reads_then = reads_on s₁ s₂ s₃ reads loaded

        z_holds : far.index ≤ z.last
        z_holds = (place t deep.0 deep.1 far.index depth far.within deep.2).to

        -- the rows up to the last, the next one, and the rest
        rows_split : (rest : List ℕ) × (numbers_between s.tree depth a b ≡ numbers_between s.tree depth a c.last ++ (c'.row ∷ rest))
        rows_split =
            let head = rows_head n n_low in
            let at = place t deep.0 deep.1 far.index depth far.within deep.2 in let from = at.from in let to = at.to in
            let end = fills_le n (top_of t + 1) at.back at.after in let first = far.first in
            let sides = sides_same t deep.0 deep.1 far.index z.last depth far.within deep.2 (omega arith) (omega arith) in
            let up_to : between a far.index (rows_at t depth) ≡ between a c.last (rows_at t depth) =
            sym (ap (λ (m : ℕ). between a m (rows_at t depth)) last_there ∙ same_between t deep.0 deep.1 a far.index a z.last depth far.first far.within deep.2 (omega arith) (omega arith) refl sides.2) in (
              head.0,
              ap (map number_of) (split_between t deep.0 deep.1 far.index b depth far.within on.within deep.2 n_low a far.first)
                  ∙ (map-append number_of (between a far.index (rows_at t depth)) (between n b (rows_at t depth))
                  ∙ (λ m. map number_of (up_to m) ++ (head.1 ∙ ap (λ (k : ℕ). k ∷ head.0) (sym next_row)) m)),
            )

        pub next_may : MayBeBuried s₃ book₁ c'.row number
        next_may = (may_then reads_then (may_later (numbers_between s.tree depth a c.last) (c'.row ∷ rows_split.0) (subst (λ (l : List ℕ). MayBeBuriedInTurn s book l number) rows_split.1 may) far.buried)).each.0

        pub next_later : c.last < c'.last
        next_later = let max = last_there in let max' = next_last in let to = (place t deep.0 deep.1 n depth n_within deep.2).to in omega arith

        pub next_so_far : {s₄ : Sheet} {book₄ : Book} → s₄ ≡ after_bury s₃ c'.row → book₄ ≡ after_retire book₁ c'.row number → IsStretchSoFar s s₄ book book₄ depth a b number way' c'
        next_so_far {s₄} {book₄} sheet_is book_is =
            let max' = next_last in let first = far.first in let holds = z_holds in
            let rows : numbers_between s.tree depth a c'.last ≡ numbers_between s.tree depth a c.last ++ (c'.row ∷ []) =
            ap (numbers_between s.tree depth a) max'
            ∙ (ap (map number_of) (next_between t deep.0 deep.1 a far.index depth far.first far.within deep.2 n_within)
            ∙ (map-append number_of (between a z.last (rows_at t depth)) (row_at t depth n ∷ [])
            ∙ (λ m. map number_of (between a (sym last_there m) (rows_at t depth)) ++ (sym next_row m ∷ [])))) in
            record {
              index = n;
              first = omega arith;
              within = n_within;
              leads = record {
                index = leads.index;
                within = subst (λ (v : Width). leads.index ≤ greatest v) same_far.width leads.within;
                way_is = leads.way_is ∙ path_same same_far leads.index (subst (λ (v : Width). leads.index ≤ greatest v) same_far.width leads.within);
                ends = leads.ends ∙ sym (ap (λ (p : PathStep). p.max) step_is);
              };
              above = step_is ∙ (is ∙ ap (λ (l : List PathStep). step_at l (depth - 1)) path_next);
              last = next_last ∙ sym (ap (λ (p : PathStep). p.max) (at_step n n_within));
              order = (let ends = ends_by t deep.0 deep.1 n b depth n_low on.within deep.2 b_ends in omega (arith, ends, max'));
              buried = subst (λ (l : List ℕ). AreBuried s s₄ book book₄ l number) (sym rows)
                  (more_buried (numbers_between s.tree depth a c.last) (c'.row ∷ []) far.buried (more_buried [] (c'.row ∷ []) (reads_buried reads_then) (one_buried sheet_is book_is)));
            }
