-- The row in whose slot a word is published stays where it is; the words of other rows stay.
use Rattle.mt_life.proofs.Prelude.{◌≡◌, ◌≢◌, ◌⊎◌, ℕ, zero, suc, ◌+◌, ◌-◌, ◌<◌, List, Some, Bool, true, false, refl, sym, ◌∙◌, subst, inl, inr, ⊎_elim, arith, get_or-set_other, slice_get, cases_eq, Kind, columns, row_in, Span, other_place, other_column, some_columns, slot_above, Place, Root, Slot, Table, base_of, column, root_span, IsBelow, SameSpans, Tree, IsTree, Stands, Rooted, Sheet, tree_as, is_reached, IsReached, IsPlaceToPublish, LiveAreReached, with_published, root_of, same_spans, OnLevel, below_on_level, below_low, one_place, on_level_reached, times_reached}

pub true_false : (b : Bool) → b ≡ true → b ≡ false → ⊥
true_false b t f = let e : true ≡ false = sym t ∙ f in cc

-- the place is in this row
abbrev pub IsAt : Place → ℕ → Type 0
IsAt Root row = ⊥
IsAt (Slot r col) row = row ≡ r

pub at_or_not : (place : Place) (row : ℕ) → IsAt place row ⊎ (IsAt place row → ⊥)
at_or_not Root row = inr (λ no. no)
at_or_not (Slot r col) row = cases_eq row r

-- words of other rows stay
pub others_stay : (s : Sheet) (place : Place) (word row c : ℕ) → IsPlaceToPublish s place → (IsAt place row → ⊥) → c < columns s.tree.table.width → column (with_published s.tree place word).table row c ≡ column s.tree.table row c
others_stay s Root word row c at off inside = refl
others_stay s (Slot r col) word row c at off inside =
    get_or-set_other s.tree.table.words (base_of s.tree.table r + col) (base_of s.tree.table row + c) word 0 (other_place s.tree.table.width r row c col off inside at.0.column)

-- parent words stay
pub parents_stay : (s : Sheet) (place : Place) (word row : ℕ) → IsPlaceToPublish s place → column (with_published s.tree place word).table row 0 ≡ column s.tree.table row 0
parents_stay s Root word row at = refl
parents_stay s (Slot r col) word row at =
    let above : 0 < col = let is = at.2.column in let some = slot_above s.tree.table.width at.2.kind at.2.slot in omega arith in
    get_or-set_other s.tree.table.words (base_of s.tree.table r + col) (base_of s.tree.table row + 0) word 0
    (other_column s.tree.table.width r row 0 col (λ e. omega arith) (some_columns s.tree.table.width) at.0.column)

-- what is reached through rows whose spans stay is still reached
below_shared : (t t' : Table) (d : ℕ) (top x : Span) → ((e : ℕ) (y : Span) → e < d → IsBelow t e top y → SameSpans t t' y) → IsBelow t d top x → IsBelow t' d top x
below_shared t t' zero top x same below = below
below_shared t t' (suc d) top x same below =
    let rest = below.1 in (
      below.0,
      (
        rest.0,
        rest.1,
        subst (λ (xs : List Span). slice_get xs rest.0 ≡ Some rest.1) (sym (same 0 top (omega arith) refl)) rest.2,
        below_shared t t' d rest.1 x (λ e y less b. same (suc e) y (omega arith) (below.0, (rest.0, rest.1, rest.2, b))) rest.3,
      ),
    )

-- what stands below the root is on a level
pub on : (t : Tree) (h : ℕ) → Stands t h → (d : ℕ) (x : Span) → IsBelow t.table d (root_span t.table t.root) x → OnLevel t.table h (root_of t) (h - d) x
on t h stands d x below = record {
  depth = d;
  height = let low = below_low t d h (root_of t) (root_span t.table t.root) x stands.rows (inl refl) below in omega arith;
  one = below_on_level t.table d (root_of t) (root_span t.table t.root) x (inl refl) below;
}

module _ (kind : Kind) (s : Sheet) (r col word h h' : ℕ) (at : IsPlaceToPublish s (Slot r col)) (stands : Stands (tree_as kind s.tree) h)
    (stands' : Stands (tree_as kind (with_published s.tree (Slot r col) word)) h') where
  abbrev T : Tree
  T = tree_as kind s.tree

  abbrev T' : Tree
  T' = tree_as kind (with_published s.tree (Slot r col) word)

  abbrev root : Span
  root = root_span T.table T.root

  above_other : (e : ℕ) (y : Span) → e < at.2.depth → IsBelow T.table e root y → row_in y.word ≢ r
  above_other e y less below = λ same.
      let on_y = on T h stands e y below in
      let on_at = on T h stands at.2.depth at.2.at at.2.reached in
      let place = one_place T h stands (h - e) (h - at.2.depth) y at.2.at on_y on_at (same ∙ sym at.2.number) in
      let one = place.0 in let height = on_at.height in let height_y = on_y.height in
      let low = below_low T at.2.depth h (root_of T) root at.2.at stands.rows (inl refl) at.2.reached in
      absurd (omega arith)

  still_below : IsBelow T'.table at.2.depth root at.2.at
  still_below = below_shared T.table T'.table at.2.depth root at.2.at
      (λ e y less below. same_spans T.table T'.table y refl (λ c above inside. others_stay s (Slot r col) word (row_in y.word) c at (above_other e y less below) inside))
      at.2.reached

  pub row_stays : IsReached (with_published s.tree (Slot r col) word) r
  row_stays =
      let on' = on T' h' stands' at.2.depth at.2.at still_below in
      subst (IsReached (with_published s.tree (Slot r col) word)) at.2.number (times_reached T' h' stands' (row_in at.2.at.word) (on_level_reached T' h' stands' (h' - at.2.depth) at.2.at on'))

-- an empty tree reaches no row
pub none_reached : (t : Rooted) (row : ℕ) → t.root ≡ 0 → is_reached t row ≡ false
none_reached t row empty = subst (λ (root : ℕ). is_reached (record { rows = t.rows; table = t.table; root = root }) row ≡ false) (sym empty) refl

-- the row of the place is reached after the store
pub place_stays : (kind : Kind) (s : Sheet) (place : Place) (word row : ℕ) → IsPlaceToPublish s place → LiveAreReached s.tree s.lives → IsTree (tree_as kind s.tree) → IsTree (tree_as kind (with_published s.tree place word)) → IsAt place row
    → IsReached (with_published s.tree place word) row
place_stays kind s Root word row at live before after is = absurd is
place_stays kind s (Slot r col) word row at live before after is =
    let reached = (live r at.0.first at.0.last).0 at.1 in
    let t' = with_published s.tree (Slot r col) word in
    ⊎_elim
    (λ (empty : s.tree.root ≡ 0). absurd (true_false (is_reached s.tree r) reached (none_reached s.tree r empty)))
    (λ (tree : (h : ℕ) × Stands (tree_as kind s.tree) h).
    ⊎_elim
    (λ (empty : s.tree.root ≡ 0). absurd (true_false (is_reached s.tree r) reached (none_reached s.tree r empty)))
    (λ (tree' : (h : ℕ) × Stands (tree_as kind t') h). subst (IsReached t') (sym is) (row_stays kind s r col word tree.0 tree'.0 at tree.1 tree'.1))
    after)
    before
