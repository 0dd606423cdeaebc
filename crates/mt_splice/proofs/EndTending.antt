-- The children of inner rows are tended, row by row.
use Rattle.mt_splice.proofs.Prelude.{◌≡◌, ◌≢◌, ℕ, zero, suc, ◌+◌, ◌-◌, ◌*◌, ◌<◌, ◌≤◌, List, [], ◌∷◌, Some, Bool, length, refl, sym, ap, ◌∙◌, subst, ⊎_elim, inl, arith, length-set, false, slice_index_or, slice_set, slice_get, slice_get_within, cases_eq, Width, columns, first_row, RowKind, row_in, named_row, parent_at, slot_column, Life, New, Place, Root, Slot, slots_of, some_columns, slot_above, slot_within, column, Rooted, Sheet, IsWhole, IsPlace, MayTend, life_of, is_buried, tended, NewRow, with_words, child_word, child_row, IsChild, AreChildren, AreTended, OnlyParents, AreTendedTo, MayTendTop, with_top}
use Rattle.mt_splice.proofs.Drafts.{other_row, other_column, same_column}

pub only_rows : (s s' : Sheet) → OnlyParents s s' → s'.tree.rows ≡ s.tree.rows
only_rows s s' only = ap (λ (v : Rooted). v.rows) only.tree

pub only_width : (s s' : Sheet) → OnlyParents s s' → s'.tree.table.width ≡ s.tree.table.width
only_width s s' only = ap (λ (v : Rooted). v.table.width) only.tree

only_none : (s : Sheet) → OnlyParents s s
only_none s = record { rest = refl; tree = refl; size = refl; kept = λ r c above within. refl }

pub only_more : (s s' s″ : Sheet) → OnlyParents s s' → OnlyParents s' s″ → OnlyParents s s″
only_more s s' s″ first more = record {
  rest = ap (λ (x : Sheet). record x { tree = s.tree; reads = s.reads }) more.rest ∙ first.rest;
  tree = more.tree ∙ ap (λ (v : Rooted). with_words v s″.tree.table.words) first.tree;
  size = more.size ∙ first.size;
  kept = λ r c above within. more.kept r c above (subst (λ (w : Width). c < columns w) (sym (only_width s s' first)) within) ∙ first.kept r c above within;
}

only_tended : (s s' : Sheet) (kind : RowKind) (row count : ℕ) → AreTended s s' kind row count → OnlyParents s s'
only_tended s s' kind row count done = record {
  rest = done.rest;
  tree = done.tree;
  size = done.size;
  kept = λ r c above within. done.others r c within (λ none. absurd (omega arith));
}

-- rows whose children may be tended, of which none is yet
pub none_tended_yet : {s : Sheet} {kind : RowKind} {new_inner_rows : List NewRow} → ((i : ℕ) (n : NewRow) → slice_get new_inner_rows i ≡ Some n → AreChildren s kind n.row n.count)
    → ((i j : ℕ) (n m : NewRow) (slot slot' : ℕ) → i < j → slice_get new_inner_rows i ≡ Some n → slice_get new_inner_rows j ≡ Some m → slot < n.count → slot' < m.count → child_row s.tree.table kind n.row slot ≢ child_row s.tree.table kind m.row slot')
    → AreTendedTo s s kind new_inner_rows 0
none_tended_yet {s} each apart = record { each = each; apart = apart; only = only_none s; children = λ i n slot low at below. absurd (omega arith); others = λ r none. refl }

-- words in slots stay while only parent words are written
word_stays : (s t : Sheet) (kind : RowKind) (row slot : ℕ) → OnlyParents s t → slot < slots_of s.tree.table.width kind → child_word t.tree.table kind row slot ≡ child_word s.tree.table kind row slot
word_stays s t kind row slot only within =
    ap (λ (w : Width). column t.tree.table row (slot_column (slots_of w kind) slot)) (only_width s t only)
    ∙ only.kept row (slot_column (slots_of s.tree.table.width kind) slot) (slot_above s.tree.table.width kind slot) (slot_within s.tree.table.width kind slot within)

children_stay : (s t : Sheet) (kind : RowKind) (row count : ℕ) → OnlyParents s t → AreChildren s kind row count → AreChildren t kind row count
children_stay s t kind row count only are =
    let rows : s.tree.rows ≡ t.tree.rows = sym (only_rows s t only) in
    record {
      first = are.first;
      last = subst (λ (n : ℕ). row < first_row + n) rows are.last;
      slots = subst (λ (w : Width). count ≤ slots_of w kind) (sym (only_width s t only)) are.slots;
      each = λ slot below. child slot below;
      apart = λ i j low_i low_j same. are.apart i j low_i low_j (sym (row_stays i low_i) ∙ (same ∙ row_stays j low_j));
    }
  where
    row_stays : (slot : ℕ) → slot < count → child_row t.tree.table kind row slot ≡ child_row s.tree.table kind row slot
    row_stays slot below = let slots = are.slots in ap row_in (word_stays s t kind row slot only (omega arith))

    child : (slot : ℕ) → slot < count → IsChild t kind row slot
    child slot below =
        let slots = are.slots in
        let each = are.each slot below in
        let same = row_stays slot below in
        let rows : s.tree.rows ≡ t.tree.rows = sym (only_rows s t only) in
        let lives : s.lives ≡ t.lives = sym (ap (λ (x : Sheet). x.lives) only.rest) in
        let buried : s.buried ≡ t.buried = sym (ap (λ (x : Sheet). x.buried) only.rest) in
        record {
          named = ap named_row (word_stays s t kind row slot only (omega arith)) ∙ (each.named ∙ ap (λ (r : ℕ). Some r) (sym same));
          at = subst (λ (r : ℕ). IsPlace t.tree r 0) (sym same) (record {
            first = each.at.first;
            last = subst (λ (n : ℕ). child_row s.tree.table kind row slot < first_row + n) rows each.at.last;
            column = some_columns t.tree.table.width;
          });
          live = ap (life_of t.lives) same ∙ (ap (λ (l : List Life). slice_index_or l (child_row s.tree.table kind row slot) New) (sym lives) ∙ each.live);
          kept = ap (is_buried t.buried) same ∙ (ap (λ (l : List Bool). slice_index_or l (child_row s.tree.table kind row slot) false) (sym buried) ∙ each.kept);
          other = λ is. each.other (sym same ∙ is);
        }

get_at : {A : Type 0} (xs : List A) (i : ℕ) (d : A) → i < length xs → slice_get xs i ≡ Some (slice_index_or xs i d)
get_at [] i d within = absurd (omega arith)
get_at (x ∷ xs) zero d within = refl
get_at (x ∷ xs) (suc i) d within = get_at xs i d (omega arith)

pub children_still : (s t : Sheet) (kind : RowKind) (new_inner_rows : List NewRow) (i : ℕ) (d : NewRow) → AreTendedTo s t kind new_inner_rows i → i < length new_inner_rows
    → AreChildren t kind (slice_index_or new_inner_rows i d).row (slice_index_or new_inner_rows i d).count
children_still s t kind new_inner_rows i d done within =
    let n = slice_index_or new_inner_rows i d in
    children_stay s t kind n.row n.count done.only (done.each i n (get_at new_inner_rows i d within))

module _ (s t t' : Sheet) (kind : RowKind) (new_inner_rows : List NewRow) (i : ℕ) (n : NewRow) (done : AreTendedTo s t kind new_inner_rows i) (at : slice_get new_inner_rows i ≡ Some n)
    (tended : AreTended t t' kind n.row n.count) where
  row_now : (slot : ℕ) → slot < n.count → child_row t.tree.table kind n.row slot ≡ child_row s.tree.table kind n.row slot
  row_now slot below = let slots = (done.each i n at).slots in ap row_in (word_stays s t kind n.row slot done.only (omega arith))

  kept_now : (r : ℕ) → ((slot : ℕ) → slot < n.count → child_row s.tree.table kind n.row slot ≢ r) → column t'.tree.table r 0 ≡ column t.tree.table r 0
  kept_now r other = tended.others r 0 (some_columns t.tree.table.width) (λ _ slot below same. other slot below (sym (row_now slot below) ∙ same))

  children_now : (j : ℕ) (m : NewRow) (slot : ℕ) → j < i + 1 → slice_get new_inner_rows j ≡ Some m → slot < m.count → column t'.tree.table (child_row s.tree.table kind m.row slot) 0 ≡ parent_at m.row slot
  children_now j m slot low at_m below = ⊎_elim
      (λ (here : j ≡ i). let same : n ≡ m = one_item (sym at ∙ (ap (slice_get new_inner_rows) (sym here) ∙ at_m)) in
      subst (λ (k : NewRow). (slot : ℕ) → slot < k.count → column t'.tree.table (child_row s.tree.table kind k.row slot) 0 ≡ parent_at k.row slot) same
      (λ slot below. ap (λ (r : ℕ). column t'.tree.table r 0) (sym (row_now slot below)) ∙ tended.children slot below) slot below)
      (λ (off : j ≢ i). let before : j < i = omega (arith, off) in
      kept_now (child_row s.tree.table kind m.row slot) (λ other low_other same. done.apart j i m n slot other before at_m at below low_other (sym same))
      ∙ done.children j m slot before at_m below) (cases_eq j i)
    where
      one_item : {a c : NewRow} → Some a ≡ Some c → a ≡ c
      one_item same = cc

  one_more_row : AreTendedTo s t' kind new_inner_rows (i + 1)
  one_more_row = record {
    each = done.each;
    apart = done.apart;
    only = only_more s t t' done.only (only_tended t t' kind n.row n.count tended);
    children = children_now;
    others = λ r other. kept_now r (λ slot below. other i n slot (omega arith) at below) ∙ done.others r (λ j m slot low at_m below. other j m slot (omega arith) at_m below);
  }

pub next_row_tended : (s t t' : Sheet) (kind : RowKind) (new_inner_rows : List NewRow) (i : ℕ) (d : NewRow) → AreTendedTo s t kind new_inner_rows i → i < length new_inner_rows
    → AreTended t t' kind (slice_index_or new_inner_rows i d).row (slice_index_or new_inner_rows i d).count → AreTendedTo s t' kind new_inner_rows (i + 1)
next_row_tended s t t' kind new_inner_rows i d done within tended = one_more_row s t t' kind new_inner_rows i (slice_index_or new_inner_rows i d) done (get_at new_inner_rows i d within) tended

pub all_rows_tended : (s s' : Sheet) (kind : RowKind) (new_inner_rows : List NewRow) (done : ℕ) → length new_inner_rows ≤ done → AreTendedTo s s' kind new_inner_rows done → AreTendedTo s s' kind new_inner_rows (length new_inner_rows)
all_rows_tended s s' kind new_inner_rows done all tended = record {
  each = tended.each;
  apart = tended.apart;
  only = tended.only;
  children = λ i n slot low at below. tended.children i n slot (omega arith) at below;
  others = λ r other. tended.others r (λ i n slot low at below. other i n slot (slice_get_within new_inner_rows i n at) at below);
}

-- ---- one word is stored, in a column that is not the parent word's

pub kept_column : (w : Width) (words : List ℕ) (row col word r c : ℕ) → c < columns w → col < columns w → c ≢ col
    → column (record { width = w; words = slice_set words (columns w * row + col) word }) r c ≡ column (record { width = w; words = words }) r c
kept_column w words row col word r c within inside other =
    ⊎_elim (λ (same : r ≡ row). subst (λ (n : ℕ). column (record { width = w; words = slice_set words (columns w * row + col) word }) n c ≡ column (record { width = w; words = words }) n c) (sym same)
    (other_column w words row col word c other))
    (λ (off : r ≢ row). other_row w words row col word r c off inside within) (cases_eq r row)

-- ---- the row that was published in a slot

-- its parent word names the row and the slot, and nothing else has changed
pub record IsTopTended (s s' : Sheet) (kind : RowKind) (row col top : ℕ) : Type 0 where
  pub only : OnlyParents s s'
  pub here : column s'.tree.table top 0 ≡ parent_at row (col - slots_of s.tree.table.width kind)
  pub others : (r : ℕ) → r ≢ top → column s'.tree.table r 0 ≡ column s.tree.table r 0

abbrev pub IsTopTendedAt : Sheet → Sheet → RowKind → Place → ℕ → Type 0
IsTopTendedAt s s' kind Root top = s' ≡ s
IsTopTendedAt s s' kind (Slot row col) top = IsTopTended s s' kind row col top

pub top_only : (s s' : Sheet) (kind : RowKind) (place : Place) (top : ℕ) → IsTopTendedAt s s' kind place top → OnlyParents s s'
top_only s s' kind Root top is = subst (OnlyParents s) (sym is) (only_none s)
top_only s s' kind (Slot row col) top done = done.only

pub top_kept : (s s' : Sheet) (kind : RowKind) (place : Place) (top r : ℕ) → IsTopTendedAt s s' kind place top → ((row col : ℕ) → place ≡ Slot row col → r ≢ top) → column s'.tree.table r 0 ≡ column s.tree.table r 0
top_kept s s' kind Root top r is other = ap (λ (x : Sheet). column x.tree.table r 0) is
top_kept s s' kind (Slot row col) top r done other = done.others r (other row col refl)

pub top_tended : (s s' : Sheet) (kind : RowKind) (place : Place) (top : ℕ) → IsWhole s → MayTendTop s kind place top → s' ≡ with_top s kind place top → IsTopTendedAt s s' kind place top
top_tended s s' kind Root top whole may is = is
top_tended s s' kind (Slot row col) top whole may is =
    let word = parent_at row (col - slots_of s.tree.table.width kind) in
    subst (λ (x : Sheet). IsTopTended s x kind row col top) (sym is) (record {
      only = record {
        rest = refl;
        tree = refl;
        size = length-set s.tree.table.words (columns s.tree.table.width * top + 0) word;
        kept = λ r c above within. kept_column s.tree.table.width s.tree.table.words top 0 word r c within (some_columns s.tree.table.width) (λ none. absurd (omega arith));
      };
      here = same_column s.tree.table.width s.tree.table.words top (first_row + s.tree.rows) 0 word (some_columns s.tree.table.width) may.1.at.last whole.words;
      others = λ r other. other_row s.tree.table.width s.tree.table.words top 0 word r 0 other (some_columns s.tree.table.width) (some_columns s.tree.table.width);
    })

-- a row that may be tended still may when other parent words were written
pub top_still : (s t : Sheet) (kind : RowKind) (place : Place) (top : ℕ) → OnlyParents s t → MayTendTop s kind place top → MayTendTop t kind place top
top_still s t kind Root top only may = tt
top_still s t kind (Slot row col) top only may =
    let rows : s.tree.rows ≡ t.tree.rows = sym (only_rows s t only) in
    let lives : s.lives ≡ t.lives = sym (ap (λ (x : Sheet). x.lives) only.rest) in
    let buried : s.buried ≡ t.buried = sym (ap (λ (x : Sheet). x.buried) only.rest) in
    let wide : s.tree.table.width ≡ t.tree.table.width = sym (only_width s t only) in (
      subst (λ (w : Width). slots_of w kind ≤ col) wide may.0,
      subst (λ (w : Width). MayTend t top 0 (parent_at row (col - slots_of w kind))) wide (record {
        at = record { first = may.1.at.first; last = subst (λ (n : ℕ). top < first_row + n) rows may.1.at.last; column = some_columns t.tree.table.width };
        live = ap (λ (l : List Life). slice_index_or l top New) (sym lives) ∙ may.1.live;
        kept = ap (λ (l : List Bool). slice_index_or l top false) (sym buried) ∙ may.1.kept;
        column = inl refl;
        alive = may.1.alive;
      }),
    )
