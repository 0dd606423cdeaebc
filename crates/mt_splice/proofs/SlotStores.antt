-- One store in the slot above the top layer: by the words then, the rows below it are as they were, and those above hold the new row.
use Rattle.mt_splice.proofs.Prelude.{◌≡◌, ◌≢◌, ℕ, suc, ◌+◌, ◌<◌, ◌≤◌, List, [], ◌∷◌, ◌++◌, Bool, refl, sym, ap, ◌∙◌, subst, arith, ne_eqb, slice_set, AllByRecursion, slice_get, all_map, Span, slot_column, row_in, slots_of, base_of, spans_in, expand, Levels, SameSpans, Tree, HasWords, IsRow, Stands, top_of, kind_on, root_of, IsSlotAt, with_child, same_spans, level_next, level_rows, all_both, expand_shared, one_of_parts, one_place, others_keep, row_put, slot_for, at_get, At, place, child, Start, tree_with, rows_at, IsOld, Beside, Stand, row_at, in_place}
use Rattle.mt_rows.proofs.SlotStore as store
use Rattle.mt_splice.proofs.EndLevels.{levels_each}
use Rattle.mt_splice.proofs.Endings.{stand_same, stand_to_root, IsAbove}
use Rattle.mt_splice.proofs.Windows.{once}

module _ {start : Start} {words : List ℕ} {is_new : ℕ → Bool} (b : Beside start words is_new 0) (stands_now : Stands (tree_with start.tree words) start.height) (has : HasWords (tree_with start.tree words))
    (levels_now : (d k : ℕ) → start.height ≡ d + k → rows_at (tree_with start.tree words) d ≡ rows_at start.tree d) (i depth h : ℕ) (within : i ≤ top_of start.tree) (high : start.height ≡ depth + suc h) (word : ℕ) where
  abbrev t : Tree
  t = start.tree

  abbrev T : Tree
  T = tree_with t words

  abbrev parent : Span
  parent = row_at t depth i

  abbrev replaced : Span
  replaced = row_at t (suc depth) i

  abbrev slot : ℕ
  slot = slot_for (spans_in t.table parent) i

  abbrev here : At 0 (top_of t + 1) (rows_at t depth) i parent
  here = place t start.height b.stands i depth within (omega arith)

  abbrev next : At parent.first (parent.last + 1) (spans_in t.table parent) i replaced
  next = child t start.height b.stands i depth within (omega arith)

  parent_old : IsOld start words is_new (suc h) parent
  parent_old = (all_back' (rows_at t depth) here.front (parent ∷ here.back) here.parts (b.rows depth (suc h) high (omega arith))).0
    where
      all_back' : (xs front back : List Span) → xs ≡ front ++ back → AllByRecursion (IsOld start words is_new (suc h)) xs → AllByRecursion (IsOld start words is_new (suc h)) back
      all_back' xs front back parts all = from front (subst (AllByRecursion (IsOld start words is_new (suc h))) parts all)
        where
          from : (front : List Span) → AllByRecursion (IsOld start words is_new (suc h)) (front ++ back) → AllByRecursion (IsOld start words is_new (suc h)) back
          from [] all = all
          from (x ∷ front) all = from front all.1

  pub is_slot : IsSlotAt T depth parent slot replaced
  is_slot = record {
    front = here.front;
    back = here.back;
    stands = levels_now depth (suc h) high ∙ here.parts;
    holds = ap (λ (l : List Span). slice_get l slot) (same_spans t.table T.table parent refl parent_old.keeps) ∙ at_get parent.first (parent.last + 1) (spans_in t.table parent) i replaced next;
  }

  abbrev its_store : store.Store
  its_store = record { tree = T; height = start.height; low = suc h; depth = depth; slot = slot; word = word; row = parent; child = replaced; has = has; stands = stands_now; levels = high; at = is_slot }

  abbrev pub words_then : List ℕ
  words_then = slice_set words (base_of T.table (row_in parent.word) + slot_column (slots_of T.table.width (kind_on T.gapped (suc h))) slot) word

  abbrev T' : Tree
  T' = tree_with t words_then

  -- ---- the row that is written stands once

  others : Levels (λ (k : ℕ) (y : Span). (k ≡ suc h → ⊥) → row_in y.word ≢ row_in parent.word) t.table start.height (root_of t)
  others = levels_each (λ (k : ℕ) (y : Span). (k ≡ suc h → ⊥) → row_in y.word ≢ row_in parent.word) t.table start.height (root_of t)
      (λ k y on elsewhere same. elsewhere (one_place t start.height b.stands k (suc h) y parent on (record { depth = depth; height = high; one = one_of_parts (rows_at t depth) here.front here.back parent here.parts }) same).0)

  other_at : (d k : ℕ) → start.height ≡ d + k → (k ≡ suc h → ⊥) → AllByRecursion (λ (y : Span). row_in y.word ≢ row_in parent.word) (rows_at t d)
  other_at d k levels elsewhere = all_map (λ (y : Span). (k ≡ suc h → ⊥) → row_in y.word ≢ row_in parent.word) (λ (y : Span). row_in y.word ≢ row_in parent.word) (λ y o. o elsewhere) (rows_at t d)
      (level_rows (λ (k : ℕ) (y : Span). (k ≡ suc h → ⊥) → row_in y.word ≢ row_in parent.word) t.table d k start.height (root_of t) levels others)

  -- ---- below

  pub beside_then : Beside start words_then is_new (suc depth)
  beside_then = record {
    stands = b.stands;
    rows = λ d k levels low.
        all_both (IsOld start words is_new k) (λ (y : Span). row_in y.word ≢ row_in parent.word) (IsOld start words_then is_new k)
        (λ y o other. record {
          row = o.row;
          keeps = λ c above in_row. others_keep T (suc h) slot word parent has (store.row_law its_store) (store.used its_store) y other c above in_row ∙ o.keeps c above in_row;
          old = o.old;
        })
        (rows_at t d) (b.rows d k levels (omega arith)) (other_at d k levels (λ same. omega arith));
  }

  -- ---- above

  above_row : (k : ℕ) (y : Span) → IsOld start words is_new k y → IsRow T k y → row_in y.word ≢ row_in parent.word → IsAbove start words_then is_new k y
  above_row k y o law other = record { row = store.others_laws its_store k y (ne_eqb (row_in y.word) (row_in parent.word) other) law; old = o.old }

  rows_now : (d k : ℕ) → start.height ≡ d + k → AllByRecursion (IsRow T k) (rows_at t d)
  rows_now d k levels = subst (AllByRecursion (IsRow T k)) (levels_now d k levels) (level_rows (IsRow T) T.table d k start.height (root_of T) levels stands_now.rows)

  above_then : (e k : ℕ) → start.height ≡ e + suc k → e < depth → AllByRecursion (IsAbove start words_then is_new (suc k)) (rows_at t e) × (expand T'.table (rows_at t e) ≡ rows_at t (suc e))
  above_then e k levels low =
      let other = other_at e (suc k) levels (λ same. omega arith) in (
        all_both (λ (y : Span). IsOld start words is_new (suc k) y × IsRow T (suc k) y) (λ (y : Span). row_in y.word ≢ row_in parent.word) (IsAbove start words_then is_new (suc k)) (λ y both other. above_row (suc k) y both.0 both.1 other) (rows_at t e)
            (all_both (IsOld start words is_new (suc k)) (IsRow T (suc k)) (λ (y : Span). IsOld start words is_new (suc k) y × IsRow T (suc k) y) (λ y o law. (o, law)) (rows_at t e) (b.rows e (suc k) levels (omega arith)) (rows_now e (suc k) levels)) other,
        expand_shared T.table T'.table (rows_at t e) (all_map (λ (y : Span). row_in y.word ≢ row_in parent.word) (SameSpans T.table T'.table) (λ y other. store.others_same its_store (suc k) y (ne_eqb (row_in y.word) (row_in parent.word) other)) (rows_at t e) other)
            ∙ (ap (expand T.table) (sym (levels_now e (suc k) levels)) ∙ (sym (level_next T.table e (root_of T)) ∙ levels_now (suc e) k (omega arith))),
      )

  -- ---- the level of the row that is written

  level_then : rows_at T' depth ≡ rows_at t depth
  level_then = store.level_same its_store ∙ levels_now depth (suc h) high

  holds_new : expand T'.table (rows_at t depth) ≡ in_place t (suc depth) i i (with_child replaced word ∷ [])
  holds_new =
      let below = sym (levels_now (suc depth) h (omega arith)) ∙ (level_next T.table depth (root_of T) ∙ store.below_before its_store) in
      let from = next.from in let to = next.to in
      let same = once t start.height b.stands i (suc depth) (store.front_below its_store) replaced (store.back_below its_store) within (omega arith) below from to in
      ap (expand T'.table) (sym level_then) ∙ (store.below_after its_store ∙ (λ m. sym same.0 m ++ (with_child replaced word ∷ sym same.1 m)))

  pub level_new : rows_at T' (suc depth) ≡ in_place t (suc depth) i i (with_child replaced word ∷ [])
  level_new = level_next T'.table depth (root_of T') ∙ (ap (expand T'.table) level_then ∙ holds_new)

  above_here : AllByRecursion (IsAbove start words_then is_new (suc h)) (rows_at t depth)
  above_here =
      all_both (IsOld start words is_new (suc h)) (IsRow T' (suc h)) (IsAbove start words_then is_new (suc h)) (λ y o law. record { row = law; old = o.old }) (rows_at t depth) (b.rows depth (suc h) high (omega arith))
      (subst (AllByRecursion (IsRow T' (suc h))) level_then (store.level_laws_after its_store (row_put T (suc h) slot word parent has (store.row_law its_store) (store.used its_store) tt tt)))

  -- so the whole tree stands for the map
  pub stand_in_slot : {taken gone : (ℕ → Span → Bool) → ℕ} → Stand start words_then is_new taken gone (suc depth) h (in_place t (suc depth) i i (with_child replaced word ∷ [])) → Stand start words_then is_new taken gone 0 start.height (root_of t)
  stand_in_slot s = stand_to_root b.stands depth (suc h) high above_then (stand_same b.stands high above_here holds_new s)
