-- One row is copied, and what stands below it.
use Rattle.mt_dup.proofs.Prelude.{◌≡◌, ◌≢◌, ℕ, zero, suc, ◌+◌, ◌-◌, ◌<◌, ◌≤◌, ◌∷◌, Option, Some, None, length, refl, sym, ap, ◌∙◌, subst, inl, inr, arith, AllByRecursion, flat_map, Width, columns, first_row, Book, RowKind, Leaf, Inner, Gapped, slot_column, row_in, named_kind, name_at, IsRowNumber, slots_of, Names-named_kind, some_columns, some_slots_of, slots_of-columns, slot_within, Draft, Table, column, names_of, Rooted, Sheet, OnlyReads, IsWhole, IsPlace, life_of, Pair, Way, with_new_row, slot_renamed, IsRowCopy, next_row, HasTaken, IsOpenCopy, IsWritten, HasOwn, names_by, names_from, names_below, ParentsAre, MayCopy, MayCopyBy, MayCopyBelow, AreNumbered, AreCopied, LeavesCopy, LeavesChildren, HasNames, IsNoName, KeepsOwn, same_tree, name_some}
use Rattle.mt_dup.proofs.WrittenRows.{written_width}
use Rattle.mt_dup.proofs.Names.{names_deeper, names_none, renamed_name}
use Rattle.mt_dup.proofs.Going.{next_after, open_after}

-- ---- a word that is no name

pub no_name_is_zero : (t : Rooted) (depth word : ℕ) → named_kind word ≡ None → MayCopy t depth word → word ≡ 0
unfolding MayCopy
no_name_is_zero t zero word none may = may
no_name_is_zero t (suc depth) word none may = subst (MayCopyBy (MayCopy t depth) t word) none may

pub none_copied : (t t' : Table) (from : ℕ) (way : Way) (rooted : Rooted) → named_kind way.word ≡ None → MayCopy rooted way.depth way.word → LeavesCopy t t' from way 0
none_copied t t' from way rooted none may number zero_is numbered parent =
    let word_zero = no_name_is_zero rooted way.depth way.word none may in
    let renamed_zero : with_new_row number 0 ≡ 0 = omega (arith, zero_is) in
    (sym (ap (with_new_row number) word_zero ∙ renamed_zero), subst (AreCopied number t t') (sym (names_none t way.depth way.word none)) tt)

-- ---- a word that names a row

named_some : (t : Rooted) (depth word : ℕ) (kind : RowKind) → named_kind word ≡ Some kind → MayCopy t depth word
    → (0 < depth) × ((row_in word < first_row + t.rows) × (ParentsAre t.table (row_in word) 0 (names_of t.table (row_in word) kind) × AllByRecursion (MayCopy t (depth - 1)) (names_of t.table (row_in word) kind)))
unfolding MayCopy
named_some t zero word kind named may = let none : named_kind word ≡ None = ap named_kind may in absurd (let clash = sym named ∙ none in cc)
named_some t (suc depth) word kind named may =
    let all = subst (MayCopyBy (MayCopy t depth) t word) named may in
    let same : depth ≡ suc depth - 1 = omega arith in
    (omega arith, (all.0, (all.1.0, subst (λ (n : ℕ). AllByRecursion (MayCopy t n) (names_of t.table (row_in word) kind)) same all.1.1)))

module _ (s : Sheet) (b : Book) (way : Way) (pair : Pair) (whole : IsWhole s) (named : named_kind way.word ≡ Some pair.kind) (row : pair.row ≡ row_in way.word) (to : pair.to ≡ next_row b)
    (may : MayCopy s.tree way.depth way.word) where
  abbrev t : Table
  t = s.tree.table

  facts : (0 < way.depth) × ((pair.row < first_row + s.tree.rows) × (ParentsAre t pair.row 0 (names_of t pair.row pair.kind) × AllByRecursion (MayCopy s.tree (way.depth - 1)) (names_of t pair.row pair.kind)))
  facts = subst (λ (r : ℕ). (0 < way.depth) × ((r < first_row + s.tree.rows) × (ParentsAre t r 0 (names_of t r pair.kind) × AllByRecursion (MayCopy s.tree (way.depth - 1)) (names_of t r pair.kind)))) (sym row)
      (named_some s.tree way.depth way.word pair.kind named may)

  numbered_row : IsRowNumber pair.row
  numbered_row = subst IsRowNumber (sym row) (Names-named_kind way.word pair.kind named).0

  pub names_are : names_from t way.depth way.word ≡ way.word ∷ names_below t way.depth pair
  names_are =
      names_deeper t way.depth way.word facts.0
      ∙ (ap (λ (k : Option RowKind). names_by (names_from t (way.depth - 1)) t way.word k) named
      ∙ ap (λ (r : ℕ). way.word ∷ flat_map (names_from t (way.depth - 1)) (names_of t r pair.kind)) (sym row))

  pub length_is : length (names_from t way.depth way.word) ≡ 1 + length (names_below t way.depth pair)
  length_is = omega (arith, ap length names_are)

  pub may_below : MayCopyBelow s.tree way.depth pair
  may_below = record { deep = facts.0; first = numbered_row.0; inside = facts.1.0; parents = facts.1.1.0; below = facts.1.1.1 }

  pub row_place : IsPlace s.tree pair.row 0
  row_place = record { first = numbered_row.0; last = facts.1.0; column = some_columns t.width }

  -- ---- the row and what stands below it

  module _ (d d₁ d₂ : Sheet) (b₁ b₂ : Book) (unused : IsOpenCopy b d) (one : HasTaken 1 b b₁) (own : HasOwn way.parent pair t d₁.tree.table)
      (children : LeavesChildren t d₂.tree.table (next_row b₁) way.depth pair) (kept : KeepsOwn d₁.tree.table d₂.tree.table pair)
      (wide₁ : d₁.tree.table.width ≡ t.width) (wide₂ : d₂.tree.table.width ≡ t.width) where
    next_is : next_row b₁ ≡ next_row b + 1
    next_is = next_after 1 b b₁ unused.filling one

    keeps : (c : ℕ) → c < columns t.width → IsNoName pair.kind (slots_of t.width pair.kind) c → column d₂.tree.table pair.to c ≡ column d₁.tree.table pair.to c
    keeps c within no_name = kept c (subst (λ (v : Width). c < columns v) (sym wide₁) within) (subst (λ (v : Width). IsNoName pair.kind (slots_of v pair.kind) c) (sym wide₁) no_name)

    module _ (number : ℕ → ℕ) (to_is : number pair.row ≡ pair.to) (parent : way.parent ≡ with_new_row number (column t pair.row 0)) (names : pair.kind ≢ Leaf → HasNames number t d₂.tree.table pair) where
      slots_are : (kind : RowKind) → pair.kind ≡ kind → (i : ℕ) → i < slots_of t.width pair.kind
          → column d₂.tree.table pair.to (slot_column (slots_of t.width pair.kind) i) ≡ slot_renamed number kind (column t pair.row (slot_column (slots_of t.width pair.kind) i))
      slots_are Leaf is i within = keeps (slot_column (slots_of t.width pair.kind) i) (slot_within t.width pair.kind i within) (inl is) ∙ own.others (slot_column (slots_of t.width pair.kind) i) (omega (arith, some_slots_of t.width pair.kind)) (slot_within t.width pair.kind i within)
      slots_are Inner is i within = names (λ leaf. let clash = sym is ∙ leaf in cc) i within
      slots_are Gapped is i within = names (λ leaf. let clash = sym is ∙ leaf in cc) i within

      here_copied : IsRowCopy number t d₂.tree.table pair.kind pair.row
      here_copied =
          let fits = slots_of-columns t.width pair.kind in
          let moved : (c : ℕ) → column d₂.tree.table (number pair.row) c ≡ column d₂.tree.table pair.to c = λ c. ap (λ (n : ℕ). column d₂.tree.table n c) to_is in
          record {
            width = wide₂;
            parent = moved 0 ∙ (keeps 0 (some_columns t.width) (inr (inl (some_slots_of t.width pair.kind))) ∙ (own.first ∙ parent));
            pivots = λ c some within. moved c ∙ (keeps c (omega (arith, fits)) (inr (inl within)) ∙ own.others c some (omega (arith, fits)));
            slots = λ i within. moved (slot_column (slots_of t.width pair.kind) i) ∙ slots_are pair.kind refl i within;
            behind = λ c from within. moved c ∙ (keeps c within (inr (inr from)) ∙ own.others c (omega (arith, some_slots_of t.width pair.kind)) within);
          }

    name_is : (number : ℕ → ℕ) → number pair.row ≡ pair.to → name_at pair.to pair.kind ≡ with_new_row number way.word
    name_is number to_is = ap (λ (n : ℕ). name_at n pair.kind) (sym to_is ∙ ap number row) ∙ sym (renamed_name number way.word pair.kind named)

    pub row_copied : LeavesCopy t d₂.tree.table (next_row b) way (name_at pair.to pair.kind)
    row_copied number zero_is numbered parent =
        let all : AreNumbered number (next_row b) (way.word ∷ names_below t way.depth pair) = subst (AreNumbered number (next_row b)) names_are numbered in
        let to_is : number pair.row ≡ pair.to = ap number row ∙ (all.0 ∙ sym to) in
        let parent_is : way.parent ≡ with_new_row number (column t pair.row 0) = parent (name_some way.word pair.kind named) ∙ ap (λ (r : ℕ). with_new_row number (column t r 0)) (sym row) in
        let below = children number zero_is to_is (subst (λ (n : ℕ). AreNumbered number n (names_below t way.depth pair)) (sym next_is) all.1) in
        let here = here_copied number to_is parent_is below.0 in (
          name_is number to_is,
          subst (AreCopied number t d₂.tree.table) (sym names_are) (
            (λ kind is. let same : pair.kind ≡ kind = (let both = sym named ∙ is in cc) in subst (λ (k : RowKind). IsRowCopy number t d₂.tree.table k (row_in way.word)) same (subst (IsRowCopy number t d₂.tree.table pair.kind) row here)),
            below.1,
          ),
        )

  -- what stands below is asked for as it is at the call
  module _ (s₁ d d₁ : Sheet) (b₁ : Book) (reads : OnlyReads s s₁) (unused : IsOpenCopy b d) (one : HasTaken 1 b b₁) (written : IsWritten pair.to (pair.to + 1) d d₁)
      (room : length (names_from t way.depth way.word) ≤ length b.free) (width : d.tree.table.width ≡ t.width) where
    after : next_row b₁ ≡ next_row b + 1
    after = next_after 1 b b₁ unused.filling one

    pub children_asked : MayCopyBelow s₁.tree way.depth pair
        × (IsOpenCopy b₁ d₁ × ((length (names_below s₁.tree.table way.depth pair) ≤ length b₁.free) × ((next_row b₁ ≡ pair.to + 1) × ((first_row ≤ pair.to) × ((life_of d₁.lives pair.to ≡ Draft) × (d₁.tree.table.width ≡ s₁.tree.table.width))))))
    children_asked =
        let less = one.taken in (
          subst (λ (r : Rooted). MayCopyBelow r way.depth pair) (sym (same_tree s s₁ reads)) may_below,
          (
            open_after 1 pair.to (pair.to + 1) b b₁ d d₁ unused one (omega (arith, after, to)) written,
            (
              subst (λ (r : Rooted). length (names_below r.table way.depth pair) ≤ length b₁.free) (sym (same_tree s s₁ reads)) (omega (arith, length_is)),
              (omega (arith, after, to), (omega (arith, to), (written.drafts pair.to (omega arith) (omega arith), written_width pair.to (pair.to + 1) d d₁ written ∙ (width ∙ ap (λ (r : Rooted). r.table.width) (sym (same_tree s s₁ reads)))))),
            ),
          ),
        )
