-- The parent words of a row's children written one by one.
use Rattle.mt_splice.proofs.Prelude.{◌≡◌, ◌≢◌, ℕ, ◌+◌, ◌*◌, ◌<◌, List, length, refl, sym, ap, ◌∙◌, subst, inl, ⊎_elim, arith, length-set, Some, Bool, false, slice_index_or, slice_set, cases_eq, Life, New, Width, columns, first_row, few_columns, RowKind, named_row, parent_at, dead_mark, slot_column, slots_of, some_columns, slot_above, slot_within, Table, base_of, column, Rooted, Sheet, IsWhole, MayTend, loaded, tended, with_words, child_word, child_row, AreChildren, AreTended}
use Rattle.mt_splice.proofs.Drafts.{wrote, plain, other_row, other_column, same_column}

-- of the children the first ones are tended
pub record AreTendedUpTo (s s' : Sheet) (kind : RowKind) (row count slot : ℕ) : Type 0 where
  pub tended : AreTended s s' kind row slot
  pub word : (i : ℕ) → i < count → child_word s'.tree.table kind row i ≡ child_word s.tree.table kind row i

pub none_tended : (s : Sheet) (kind : RowKind) (row count : ℕ) → AreTendedUpTo s s kind row count 0
none_tended s kind row count = record {
  tended = record {
    rest = refl;
    tree = refl;
    size = refl;
    children = λ slot below. absurd (omega arith);
    others = λ r c within none. refl;
  };
  word = λ i below. refl;
}

-- a parent word that is a dead mark is that of the row itself
pub own_parent : (w : Width) (child row slot : ℕ) → slot < columns w → parent_at row slot ≡ dead_mark child → child ≡ row
own_parent w child row slot within dead = let few = few_columns w in omega arith

-- the parent word of a row is written: every other word is as before
parent_wrote : (w : Width) (words : List ℕ) (child word r c : ℕ) → c < columns w → (c ≡ 0 → child ≢ r) → column (wrote w words child 0 word) r c ≡ column (plain w words) r c
parent_wrote w words child word r c within other =
    ⊎_elim (λ (at : r ≡ child). subst (λ (k : ℕ). column (wrote w words child 0 word) k c ≡ column (plain w words) k c) (sym at) (other_column w words child 0 word c (λ zero. other zero (sym at))))
    (λ (off : r ≢ child). other_row w words child 0 word r c off (some_columns w) within) (cases_eq r child)

module _ (s t : Sheet) (kind : RowKind) (row count slot : ℕ) (whole : IsWhole s) (are : AreChildren s kind row count) (below : slot < count) (done : AreTendedUpTo s t kind row count slot) where
  abbrev child : ℕ
  child = child_row s.tree.table kind row slot

  abbrev written : Table
  written = wrote t.tree.table.width t.tree.table.words child 0 (parent_at row slot)

  width_now : t.tree.table.width ≡ s.tree.table.width
  width_now = ap (λ (v : Rooted). v.table.width) done.tended.tree

  size_now : length t.tree.table.words ≡ columns t.tree.table.width * (first_row + s.tree.rows)
  size_now = rw (done.tended.size, width_now) whole.words

  kept_now : (r c : ℕ) → c < columns s.tree.table.width → (c ≡ 0 → child ≢ r) → column written r c ≡ column t.tree.table r c
  kept_now r c within other = parent_wrote t.tree.table.width t.tree.table.words child (parent_at row slot) r c (rw width_now within) other

  children_now : (i : ℕ) → i < slot + 1 → column written (child_row s.tree.table kind row i) 0 ≡ parent_at row i
  children_now i low = ⊎_elim (λ (at : i ≡ slot). subst (λ (k : ℕ). column written (child_row s.tree.table kind row k) 0 ≡ parent_at row k) (sym at)
      (same_column t.tree.table.width t.tree.table.words child (first_row + s.tree.rows) 0 (parent_at row slot) (some_columns t.tree.table.width) (are.each slot below).at.last size_now))
      (λ (off : i ≢ slot). kept_now (child_row s.tree.table kind row i) 0 (some_columns s.tree.table.width) (λ _ same. off (sym (are.apart slot i below (omega arith) same)))
      ∙ done.tended.children i (omega (arith, off))) (cases_eq i slot)

  others_now : (r c : ℕ) → c < columns s.tree.table.width → (c ≡ 0 → (i : ℕ) → i < slot + 1 → child_row s.tree.table kind row i ≢ r) → column written r c ≡ column s.tree.table r c
  others_now r c within other = kept_now r c within (λ zero. other zero slot (omega arith)) ∙ done.tended.others r c within (λ zero i low. other zero i (omega arith))

  word_now : (i : ℕ) → i < count → column written row (slot_column (slots_of t.tree.table.width kind) i) ≡ child_word s.tree.table kind row i
  word_now i low =
      let slots = are.slots in
      let within : slot_column (slots_of s.tree.table.width kind) i < columns s.tree.table.width = slot_within s.tree.table.width kind i (omega arith) in
      let same : slot_column (slots_of t.tree.table.width kind) i ≡ slot_column (slots_of s.tree.table.width kind) i = ap (λ (w : Width). slot_column (slots_of w kind) i) width_now in
      let here : column written row (slot_column (slots_of t.tree.table.width kind) i) ≡ column t.tree.table row (slot_column (slots_of t.tree.table.width kind) i) =
      kept_now row (slot_column (slots_of t.tree.table.width kind) i) (rw same within) (λ zero. (let above = slot_above t.tree.table.width kind i in absurd (omega arith))) in
      here ∙ done.word i low

  same_child : (found : ℕ) → Some found ≡ named_row (child_word t.tree.table kind row slot) → found ≡ child
  same_child found named =
      let here : Some found ≡ Some child = named ∙ ap named_row (done.word slot below) ∙ (are.each slot below).named in cc

  pub is_named : named_row (child_word t.tree.table kind row slot) ≡ Some child
  is_named = ap named_row (done.word slot below) ∙ (are.each slot below).named

  abbrev IsTendable : ℕ → Type 0
  IsTendable k = MayTend (loaded t) k 0 (parent_at row slot)

  at_tendable : IsTendable child
  at_tendable =
      let lives : t.lives ≡ s.lives = ap (λ (x : Sheet). x.lives) done.tended.rest in
      let buried : t.buried ≡ s.buried = ap (λ (x : Sheet). x.buried) done.tended.rest in
      let rows : t.tree.rows ≡ s.tree.rows = ap (λ (v : Rooted). v.rows) done.tended.tree in
      let each = are.each slot below in
      record {
        at = record { first = each.at.first; last = rw rows each.at.last; column = rw width_now each.at.column };
        live = ap (λ (l : List Life). slice_index_or l child New) lives ∙ each.live;
        kept = ap (λ (l : List Bool). slice_index_or l child false) buried ∙ each.kept;
        column = inl refl;
        alive = λ _ dead. each.other (own_parent s.tree.table.width child row slot (let slots = are.slots in let within = slot_within s.tree.table.width kind slot (omega arith) in omega arith) dead);
      }

  pub may_tend : (read : Sheet) → read ≡ loaded t → (found : ℕ) → Some found ≡ named_row (child_word t.tree.table kind row slot) → MayTend read found 0 (parent_at row slot)
  may_tend read is found named =
      subst (λ (r : Sheet). MayTend r found 0 (parent_at row slot)) (sym is) (subst IsTendable (sym (same_child found named)) at_tendable)

  at_child : AreTendedUpTo s (tended (loaded t) child 0 (parent_at row slot)) kind row count (slot + 1)
  at_child = record {
    tended = record {
      rest = done.tended.rest;
      tree = ap (λ (v : Rooted). with_words v (slice_set t.tree.table.words (base_of t.tree.table child + 0) (parent_at row slot))) done.tended.tree;
      size = length-set t.tree.table.words (columns t.tree.table.width * child + 0) (parent_at row slot) ∙ done.tended.size;
      children = children_now;
      others = others_now;
    };
    word = word_now;
  }

  pub one_more_tended : (read : Sheet) → read ≡ loaded t → (found : ℕ) → Some found ≡ named_row (child_word t.tree.table kind row slot)
      → AreTendedUpTo s (tended read found 0 (parent_at row slot)) kind row count (slot + 1)
  one_more_tended read is found named =
      subst (λ (r : Sheet). AreTendedUpTo s (tended r found 0 (parent_at row slot)) kind row count (slot + 1)) (sym is)
      (subst (λ (k : ℕ). AreTendedUpTo s (tended (loaded t) k 0 (parent_at row slot)) kind row count (slot + 1)) (sym (same_child found named)) at_child)

-- what the loop over the children cites
pub ruleset tends = (none_tended, is_named, may_tend, one_more_tended)
