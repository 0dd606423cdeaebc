-- A layer in the place of its window: the level with it stands for the map, where the level below with its layer does.
use Rattle.mt_splice.proofs.Prelude.{◌≡◌, ℕ, suc, ◌+◌, ◌≤◌, List, ◌++◌, Bool, false, refl, sym, ap, ◌∙◌, subst, arith, AllByRecursion, flat_map, all_map, all_front, all_back, all_join, Item, Span, row_in, leaf_range, spans_from, Fills, fills-append, expand, map_of, Levels, tally, times, SameSpans, Tree, IsRow, top_of, kind_on, root_of, same_spans, level_next, expand_shared, tally-append, expand-append, AreFewestOf, FewestBelow, Start, tree_with, rows_at, IsOld, Beside, Stand, before, behind, between, low_of, high_of, in_place, in_rows, Gathered}
use Rattle.mt_splice.proofs.KeptTrees.{row_stays}
use Rattle.mt_splice.proofs.WindowRows.{window_parts, before_fills, behind_fills}
use Rattle.mt_splice.proofs.Parts.{AreNew}

module _ {start : Start} {words : List ℕ} {is_new : ℕ → Bool} {top : ℕ} (b : Beside start words is_new top) {below : List Span} {i j d h : ℕ} {items : List Item} {new : List Span}
    (g : Gathered start below i j d h (spans_from (low_of start.tree d i) items)) (n : AreNew start words is_new (low_of start.tree d i) (high_of start.tree d j) h items new) (lower : top ≤ d) where
  abbrev t : Tree
  t = start.tree

  abbrev t' : Tree
  t' = tree_with t words

  abbrev front : List Span
  front = before i (rows_at t d)

  abbrev back : List Span
  back = behind j (rows_at t d)

  -- ---- the window's rows, and those beside it

  abbrev old : List Span
  old = between i j (rows_at t d)

  window : rows_at t d ≡ front ++ (old ++ back)
  window = window_parts t start.height b.stands i j d g.order g.within (let levels = g.levels in omega arith)

  front_fills : Fills 0 (low_of t d i) front
  front_fills = before_fills t start.height b.stands i j d g.order g.within (let levels = g.levels in omega arith)

  back_fills : Fills (high_of t d j) (top_of t + 1) back
  back_fills = behind_fills t start.height b.stands i j d g.order g.within (let levels = g.levels in omega arith)

  all_old : AllByRecursion (IsOld start words is_new h) (front ++ (old ++ back))
  all_old = subst (AllByRecursion (IsOld start words is_new h)) window (b.rows d h g.levels lower)

  front_old : AllByRecursion (IsOld start words is_new h) front
  front_old = all_front (IsOld start words is_new h) front (old ++ back) all_old

  back_old : AllByRecursion (IsOld start words is_new h) back
  back_old = all_back (IsOld start words is_new h) old back (all_back (IsOld start words is_new h) front (old ++ back) all_old)

  stay : (xs : List Span) → AllByRecursion (IsOld start words is_new h) xs → AllByRecursion (IsRow t' h) xs
  stay xs are = all_map (IsOld start words is_new h) (IsRow t' h) (λ x o. row_stays t t.table.words words h x o.keeps o.row) xs are

  same_expand : (xs : List Span) → AllByRecursion (IsOld start words is_new h) xs → expand t'.table xs ≡ expand t.table xs
  same_expand xs are = expand_shared t.table t'.table xs (all_map (IsOld start words is_new h) (SameSpans t.table t'.table) (λ x o. same_spans t.table t'.table x refl o.keeps) xs are)

  -- ---- the level with the new rows

  abbrev pub level : List Span
  level = in_place t d i j new

  pub level_holds : expand t'.table level ≡ in_rows t d i j (spans_from (low_of t d i) items)
  level_holds =
      expand-append t'.table front (new ++ back)
      ∙ (ap (λ (l : List Span). expand t'.table front ++ l) (expand-append t'.table new back) ∙ (λ m. same_expand front front_old m ++ (n.hold m ++ same_expand back back_old m)))

  level_fills : Fills 0 (top_of t + 1) level
  level_fills = fills-append 0 (low_of t d i) (top_of t + 1) front (new ++ back) front_fills (fills-append (low_of t d i) (high_of t d j) (top_of t + 1) new back n.fills back_fills)

  level_lawful : AllByRecursion (IsRow t' h) level
  level_lawful = all_join (IsRow t' h) front (new ++ back) (stay front front_old) (all_join (IsRow t' h) new back n.lawful (stay back back_old))

  level_fewest : AreFewestOf is_new t'.table (kind_on t.gapped h) level
  level_fewest = record {
    front = front;
    new = new;
    back = back;
    parts = refl;
    new_rows = n.new_rows;
    ahead = all_map (IsOld start words is_new h) (λ (x : Span). is_new (row_in x.word) ≡ false) (λ x o. o.old) front front_old;
    behind = all_map (IsOld start words is_new h) (λ (x : Span). is_new (row_in x.word) ≡ false) (λ x o. o.old) back back_old;
    first = low_of t d i;
    items = items;
    hold = n.hold;
    fewest = λ some. (n.ends, n.cut, n.many);
  }

  tallies : (p : Span → Bool) → (tally p (rows_at t d) + tally p new ≡ tally p level + tally p old) × (tally p old ≤ tally p (rows_at t d))
  tallies p =
      let all = ap (tally p) window in
      let one = tally-append p front (old ++ back) in let two = tally-append p old back in
      let three = tally-append p front (new ++ back) in let four = tally-append p new back in
      (omega arith, omega arith)

-- ---- from the leaves up

pub stand_leaves : {start : Start} {words : List ℕ} {is_new : ℕ → Bool} {top : ℕ} (b : Beside start words is_new top) {below : List Span} {i j d : ℕ} {items : List Item} {new : List Span} (g : Gathered start below i j d 0 (spans_from (low_of start.tree d i) items))
    (n : AreNew start words is_new (low_of start.tree d i) (high_of start.tree d j) 0 items new) (lower : top ≤ d) → Stand start words is_new (λ p. tally (p 0) new) (λ p. tally (p 0) (between i j (rows_at start.tree d))) d 0 (in_place start.tree d i j new)
stand_leaves b g n lower = record {
  fills = level_fills b g n lower;
  rows = level_lawful b g n lower;
  ranges = ap (flat_map leaf_range) (level_holds b g n lower) ∙ g.level;
  fewest = level_fewest b g n lower;
  count = λ p. (tallies b g n lower (p 0)).0;
  were = λ p. (tallies b g n lower (p 0)).1;
}

pub stand_up : {start : Start} {words : List ℕ} {is_new : ℕ → Bool} {top : ℕ} (b : Beside start words is_new top) {below : List Span} {i j d h : ℕ} {items : List Item} {new : List Span} {taken gone : (ℕ → Span → Bool) → ℕ}
    (g : Gathered start below i j d (suc h) (spans_from (low_of start.tree d i) items)) (n : AreNew start words is_new (low_of start.tree d i) (high_of start.tree d j) (suc h) items new) (lower : top ≤ d) → Stand start words is_new taken gone (suc d) h below
    → Stand start words is_new (λ p. tally (p (suc h)) new + taken p) (λ p. tally (p (suc h)) (between i j (rows_at start.tree d)) + gone p) d (suc h) (in_place start.tree d i j new)
stand_up {start} {words} {is_new} {top} b {below} {i} {j} {d} {h} {items} {new} {taken} {gone} g n lower s =
    let t' = tree_with start.tree words in
    let holds : expand t'.table (in_place start.tree d i j new) ≡ below = level_holds b g n lower ∙ g.level in
    let next = level_next start.tree.table d (root_of start.tree) in
    record {
      fills = level_fills b g n lower;
      rows = (level_lawful b g n lower, subst (Levels (IsRow t') t'.table h) (sym holds) s.rows);
      ranges = ap (map_of t'.table h) holds ∙ s.ranges;
      fewest = (level_fewest b g n lower, subst (FewestBelow is_new start.tree.gapped t'.table h) (sym holds) s.fewest);
      count = λ p.
          let here = (tallies b g n lower (p (suc h))).0 in let below_it = s.count p in
          let old_lower = ap (times p start.tree.table h) next in let new_lower = ap (times p t'.table h) holds in
          omega arith;
      were = λ p.
          let here = (tallies b g n lower (p (suc h))).1 in let below_it = s.were p in let old_lower = ap (times p start.tree.table h) next in
          omega arith;
    }
