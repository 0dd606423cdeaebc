-- What stands below a slot is replaced by one store of the slot's word.
use Rattle.mt_rows.proofs.Prelude.{◌≡◌, ◌⊎◌, ⊎_elim, ℕ, zero, suc, ◌+◌, ◌≤◌, ◌<◌, List, [], ◌∷◌, ◌++◌, Bool, refl, sym, ap, ◌∙◌, subst, arith, Range, all_map, row_in, Span, fills_split, Table, level, map_of, Levels, tally, times, Tree, HasWords, IsRow, Stands, top_of, root_of, IsSlotAt, with_slot, with_child, IsNewBelow, ReplacesChild}
use Rattle.mt_rows.proofs.Lists.{levels_map}
use Rattle.mt_rows.proofs.Joins.{Shared, map_of-append, times-append, levels_join, levels_front, levels_back, map_of_shared, times_shared, levels_shared}
use Rattle.mt_rows.proofs.Once.{times_nowhere}
use Rattle.mt_rows.proofs.Between.{Between, map_between}
use Rattle.mt_rows.proofs.Heights.{times_upper, level_next, map_of_split, times_split, levels_lower, levels_both, levels_pair, upper_more, times_upper_more, times_upper_shared}
use Rattle.mt_rows.proofs.RowLaws.{row_put}
use Rattle.mt_rows.proofs.SlotStore as store

three_maps : (t : Table) (k : ℕ) (front back : List Span) (x : Span) → map_of t k (front ++ (x ∷ back)) ≡ map_of t k front ++ (map_of t k (x ∷ []) ++ map_of t k back)
three_maps t k front back x = map_of-append t k front (x ∷ back) ∙ ap (λ (m : List Range). map_of t k front ++ m) (map_of-append t k (x ∷ []) back)

pub three_times : (p : ℕ → Span → Bool) (t : Table) (k : ℕ) (front back : List Span) (x : Span) → times p t k (front ++ (x ∷ back)) ≡ times p t k front + (times p t k (x ∷ []) + times p t k back)
three_times p t k front back x = times-append p t k front (x ∷ back) ∙ ap (λ (n : ℕ). times p t k front + n) (times-append p t k (x ∷ []) back)

module _ (t : Tree) (h k depth slot word : ℕ) (row child : Span) (has : HasWords t) (stands : Stands t h) (height : h ≡ depth + suc k) (at : IsSlotAt t depth row slot child) where
  abbrev s : store.Store
  s = record { tree = t; height = h; low = suc k; depth = depth; slot = slot; word = word; row = row; child = child; has = has; stands = stands; levels = height; at = at }

  abbrev t' : Tree
  t' = with_slot t (suc k) row slot word

  abbrev child' : Span
  child' = with_child child word

  abbrev front : List Span
  front = store.front_below s

  abbrev back : List Span
  back = store.back_below s

  lower : h ≡ suc depth + k
  lower = omega arith

  before : level t.table (suc depth) (root_of t) ≡ front ++ (child ∷ back)
  before = level_next t.table depth (root_of t) ∙ store.below_before s

  after : level t'.table (suc depth) (root_of t') ≡ front ++ (child' ∷ back)
  after = level_next t'.table depth (root_of t') ∙ store.below_after s

  -- ---- beside the child no row was written

  none_below : times (store.is_written s) t.table k (level t.table (suc depth) (root_of t)) ≡ 0
  none_below =
      let counted = store.counted s in let mine = store.tally_here s in
      let next = ap (times (store.is_written s) t.table k) (level_next t.table depth (root_of t)) in
      omega arith

  below_other : Levels (store.IsOther s) t.table k (front ++ (child ∷ back))
  below_other = times_nowhere (store.is_written s) t.table k (front ++ (child ∷ back)) (ap (times (store.is_written s) t.table k) (sym before) ∙ none_below)

  front_other : Levels (store.IsOther s) t.table k front
  front_other = levels_front (store.IsOther s) t.table k front (child ∷ back) below_other

  back_other : Levels (store.IsOther s) t.table k back
  back_other = levels_back (store.IsOther s) t.table k (child ∷ []) back (levels_back (store.IsOther s) t.table k front (child ∷ back) below_other)

  same : (xs : List Span) → Levels (store.IsOther s) t.table k xs → Levels (Shared t.table t'.table) t.table k xs
  same xs other = levels_map (store.IsOther s) (Shared t.table t'.table) t.table (store.others_same s) k xs other

  keep : (xs : List Span) → Levels (store.IsOther s) t.table k xs → Levels (IsRow t) t.table k xs → Levels (IsRow t') t'.table k xs
  keep xs other rows = levels_shared (IsRow t') t.table t'.table k xs (same xs other) (levels_pair (store.IsOther s) (IsRow t) (IsRow t') t.table (store.others_laws s) k xs other rows)

  -- ---- the laws hold

  below_laws : Levels (IsRow t) t.table k (front ++ (child ∷ back))
  below_laws = subst (Levels (IsRow t) t.table k) before (levels_lower (IsRow t) t.table (suc depth) k h (root_of t) lower stands.rows)

  front_laws : Levels (IsRow t) t.table k front
  front_laws = levels_front (IsRow t) t.table k front (child ∷ back) below_laws

  back_laws : Levels (IsRow t) t.table k back
  back_laws = levels_back (IsRow t) t.table k (child ∷ []) back (levels_back (IsRow t) t.table k front (child ∷ back) below_laws)

  pub stands_after : Levels (IsRow t') t'.table k (child' ∷ []) → Stands t' h
  stands_after new = record {
    low = stands.low;
    rows =
        levels_both (IsRow t') t'.table (suc depth) k h (root_of t') lower
        (upper_more (IsRow t') t'.table depth k (root_of t') (store.upper_laws s) (store.level_laws_after s (row_put t (suc k) slot word row has (store.row_law s) (store.used s) tt tt)))
        (subst (Levels (IsRow t') t'.table k) (sym after)
        (levels_join (IsRow t') t'.table k front (child' ∷ back) (keep front front_other front_laws)
        (levels_join (IsRow t') t'.table k (child' ∷ []) back new (keep back back_other back_laws))));
  }

  -- ---- the map, and the rows that are reached

  upper_times : (p : ℕ → Span → Bool) → times_upper p t'.table (suc depth) k (root_of t') ≡ times_upper p t.table (suc depth) k (root_of t)
  upper_times p =
      let more = times_upper_more p t.table depth k (root_of t) in
      let more' = times_upper_more p t'.table depth k (root_of t') in
      let above = times_upper_shared p t.table t'.table depth (suc k) (root_of t) (store.upper_same s) in
      let here = ap (tally (p (suc k))) (store.level_same s) in
      omega arith

  rows : (p : ℕ → Span → Bool) → times p t.table h (root_of t) + times p t'.table k (child' ∷ []) ≡ times p t'.table h (root_of t') + times p t.table k (child ∷ [])
  rows p =
      let was = times_split p t.table (suc depth) k h (root_of t) lower in
      let is = times_split p t'.table (suc depth) k h (root_of t') lower in
      let was_below = ap (times p t.table k) before ∙ three_times p t.table k front back child in
      let is_below = ap (times p t'.table k) after ∙ three_times p t'.table k front back child' in
      let above = upper_times p in
      let left = times_shared p t.table t'.table k front (same front front_other) in
      let right = times_shared p t.table t'.table k back (same back back_other) in
      omega arith

  pub replaces_child : Levels (IsRow t') t'.table k (child' ∷ []) → ReplacesChild t t' h k (suc depth) child child'
  replaces_child new =
      let apart = fills_split 0 (top_of t + 1) front child back (store.below_fills s) in
      record {
        stands = stands_after new;
        front = front;
        back = back;
        before = before;
        after = after;
        old_map = map_of_split t.table (suc depth) k h (root_of t) lower ∙ (ap (map_of t.table k) before ∙ three_maps t.table k front back child);
        new_map =
            map_of_split t'.table (suc depth) k h (root_of t') lower ∙ (ap (map_of t'.table k) after ∙ (three_maps t'.table k front back child'
            ∙ (λ i. map_of_shared t.table t'.table k front (same front front_other) i ++ (map_of t'.table k (child' ∷ []) ++ map_of_shared t.table t'.table k back (same back back_other) i))));
        below = all_map (Between 0 child.first) (λ (r : Range). r.last < child.first) (λ r between. between.2) (map_of t.table k front) (map_between t k 0 child.first front front_laws apart.0);
        above = all_map (Between (child.last + 1) (top_of t + 1)) (λ (r : Range). child.last < r.first) (λ r between. let low = between.0 in omega arith) (map_of t.table k back)
            (map_between t k (child.last + 1) (top_of t + 1) back back_laws apart.2);
        rows = rows;
      }

  -- ---- a child that was written before the store

  -- the row that is written does not stand below the new child
  not_below : IsNewBelow t h k child child' → times (store.is_written s) t.table k (child' ∷ []) ≡ 0
  not_below apart = none (times (store.is_written s) t.table k (child' ∷ [])) (apart (row_in row.word))
    where
      none : (n : ℕ) → (1 ≤ n → (times (store.is_written s) t.table h (root_of t) ≡ 0) ⊎ (1 ≤ times (store.is_written s) t.table k (child ∷ []))) → n ≡ 0
      none zero either = refl
      none (suc n) either =
          let split = times_split (store.is_written s) t.table depth (suc k) h (root_of t) height in
          let mine = store.tally_here s in
          let old = ap (times (store.is_written s) t.table k) (sym before) ∙ none_below in
          let three = three_times (store.is_written s) t.table k front back child in
          ⊎_elim (λ (unreached : times (store.is_written s) t.table h (root_of t) ≡ 0). absurd (omega arith)) (λ (below : 1 ≤ times (store.is_written s) t.table k (child ∷ [])). absurd (omega arith)) (either (omega arith))

  -- So what stands below the new child before the store stands there after it, and the child is replaced.
  pub replaces_written_child : Levels (IsRow t) t.table k (child' ∷ []) → IsNewBelow t h k child child'
      → ReplacesChild t t' h k (suc depth) child child' × (map_of t'.table k (child' ∷ []) ≡ map_of t.table k (child' ∷ [])) × ((p : ℕ → Span → Bool) → times p t'.table k (child' ∷ []) ≡ times p t.table k (child' ∷ []))
  replaces_written_child laws apart =
      let other = times_nowhere (store.is_written s) t.table k (child' ∷ []) (not_below apart) in
      (replaces_child (keep (child' ∷ []) other laws), map_of_shared t.table t'.table k (child' ∷ []) (same (child' ∷ []) other), λ p. times_shared p t.table t'.table k (child' ∷ []) (same (child' ∷ []) other))
