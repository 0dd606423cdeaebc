-- The layers up to the root: in a slot the rows above stay, and one row that stands for every index is the root.
use Rattle.mt_splice.proofs.Prelude.{◌≡◌, ℕ, zero, suc, ◌+◌, ◌≤◌, ◌<◌, List, [], ◌∷◌, ◌++◌, Bool, true, false, Some, length, refl, sym, ap, ◌∙◌, subst, arith, append-nil, AllByRecursion, all_map, deepest, Item, Span, row_in, slots_of, spans_from, Fills, expand, map_of, Levels, one_if, times, IsRow, Stands, top_of, kind_on, root_of, level_next, levels_map, row_keeps, rows_fill, FewestBelow, IsReplaced, with_root, Seen, passing, Start, tree_with, rows_at, Stand, before, behind, low_of, high_of, in_place, was_seen}
use Rattle.mt_splice.proofs.FewestRows.{none_new, one_new}
use Rattle.mt_splice.proofs.RootEndings.{root_is}
use Rattle.mt_splice.proofs.Splits.{fills_none}

-- A row of a depth above is as it was, but that it may hold other children: it is lawful, and not new.
pub record IsAbove (start : Start) (words : List ℕ) (is_new : ℕ → Bool) (h : ℕ) (x : Span) : Type 0 where
  pub row : IsRow (tree_with start.tree words) h x
  pub old : is_new (row_in x.word) ≡ false

-- ---- rows above stay

-- a level of which no row is replaced, where what stands in its rows is the level below
pub stand_same : {start : Start} {words : List ℕ} {is_new : ℕ → Bool} {taken gone : (ℕ → Span → Bool) → ℕ} {d h : ℕ} {below : List Span} → Stands start.tree start.height → start.height ≡ d + suc h → AllByRecursion (IsAbove start words is_new (suc h)) (rows_at start.tree d)
    → expand (tree_with start.tree words).table (rows_at start.tree d) ≡ below → Stand start words is_new taken gone (suc d) h below → Stand start words is_new taken gone d (suc h) (rows_at start.tree d)
stand_same {start} {words} {is_new} {taken} {gone} {d} {h} {below} stands levels above holds s =
    let t' = tree_with start.tree words in
    let next = level_next start.tree.table d (root_of start.tree) in
    record {
      fills = rows_fill start.tree start.height stands d (omega arith);
      rows = (all_map (IsAbove start words is_new (suc h)) (IsRow t' (suc h)) (λ x a. a.row) (rows_at start.tree d) above, subst (Levels (IsRow t') t'.table h) (sym holds) s.rows);
      ranges = ap (map_of t'.table h) holds ∙ s.ranges;
      fewest = (
        none_new is_new t'.table (kind_on start.tree.gapped (suc h)) (rows_at start.tree d) (all_map (IsAbove start words is_new (suc h)) (λ (x : Span). is_new (row_in x.word) ≡ false) (λ x a. a.old) (rows_at start.tree d) above),
        subst (FewestBelow is_new start.tree.gapped t'.table h) (sym holds) s.fewest,
      );
      count = λ p. let here = s.count p in let old_lower = ap (times p start.tree.table h) next in let new_lower = ap (times p t'.table h) holds in omega arith;
      were = λ p. let here = s.were p in let old_lower = ap (times p start.tree.table h) next in omega arith;
    }

-- so do all up to the root, where each level above holds the next
pub stand_to_root : {start : Start} {words : List ℕ} {is_new : ℕ → Bool} {taken gone : (ℕ → Span → Bool) → ℕ} → Stands start.tree start.height → (d h : ℕ) → start.height ≡ d + h
    → ((e k : ℕ) → start.height ≡ e + suc k → e < d → AllByRecursion (IsAbove start words is_new (suc k)) (rows_at start.tree e) × (expand (tree_with start.tree words).table (rows_at start.tree e) ≡ rows_at start.tree (suc e)))
    → Stand start words is_new taken gone d h (rows_at start.tree d) → Stand start words is_new taken gone 0 start.height (root_of start.tree)
stand_to_root {start} {words} {is_new} {taken} {gone} stands zero h levels above s = let same : h ≡ start.height = omega arith in subst (λ (n : ℕ). Stand start words is_new taken gone 0 n (root_of start.tree)) same s
stand_to_root stands (suc d) h levels above s =
    let here = above d h (omega arith) (omega arith) in
    stand_to_root stands d (suc h) (omega arith) (λ e k high low. above e k high (omega arith)) (stand_same stands (omega arith) here.0 here.1 s)

-- ---- what stands in place of the tree

pub replaced_in_slot : {start : Start} {words : List ℕ} {taken gone : List Seen} → Stands start.tree start.height → Stand start words (was_seen taken) (λ p. passing p taken) (λ p. passing p gone) 0 start.height (root_of start.tree)
    → IsReplaced start.tree (tree_with start.tree words) start.map taken gone (Some start.height) (Some start.height)
replaced_in_slot stands s = record { stands = record { low = stands.low; rows = s.rows }; ranges = s.ranges; rows = s.count; were = s.were; fewest = s.fewest }

-- nothing stands beside what covers every index
pub alone : (start : Start) (d i j : ℕ) (new : List Span) → low_of start.tree d i ≡ 0 → high_of start.tree d j ≡ top_of start.tree + 1 → Fills 0 (low_of start.tree d i) (before i (rows_at start.tree d))
    → Fills (high_of start.tree d j) (top_of start.tree + 1) (behind j (rows_at start.tree d)) → in_place start.tree d i j new ≡ new
alone start d i j new first last front back =
    (λ m. fills_none 0 (before i (rows_at start.tree d)) (subst (λ (hi : ℕ). Fills 0 hi (before i (rows_at start.tree d))) first front) m
    ++ (new ++ fills_none (top_of start.tree + 1) (behind j (rows_at start.tree d)) (subst (λ (lo : ℕ). Fills lo (top_of start.tree + 1) (behind j (rows_at start.tree d))) last back) m))
    ∙ append-nil new

-- one row that stands for every index is the root: all rows of the levels above it are gone too
pub replaced_at_root : {start : Start} {words : List ℕ} {taken gone : List Seen} {low_gone : (ℕ → Span → Bool) → ℕ} {d h : ℕ} (x : Span) → Stands start.tree start.height → start.height ≡ d + h → x.first ≡ 0 → x.last ≡ top_of start.tree
    → Stand start words (was_seen taken) (λ p. passing p taken) low_gone d h (x ∷ [])
    → ((p : ℕ → Span → Bool) → passing p gone + times p start.tree.table h (rows_at start.tree d) ≡ low_gone p + times p start.tree.table start.height (root_of start.tree))
    → IsReplaced start.tree (with_root (tree_with start.tree words) x.word) start.map taken gone (Some start.height) (Some h)
replaced_at_root {start} {words} {taken} {gone} {low_gone} {d} {h} x stands levels first last s all_gone =
    let t' = tree_with start.tree words in
    let root : x ∷ [] ≡ root_of (with_root t' x.word) = ap (λ (y : Span). y ∷ []) (root_is start.tree x first last) in
    record {
      stands = record {
        low = (let low = stands.low in omega arith);
        rows = subst (Levels (IsRow (with_root t' x.word)) t'.table h) root (levels_map (IsRow t') (IsRow (with_root t' x.word)) t'.table (λ k y row. row_keeps t' t'.table.words x.word k y (λ c above within. refl) row) h (x ∷ []) s.rows);
      };
      ranges = ap (map_of t'.table h) (sym root) ∙ s.ranges;
      rows = λ p. let here = s.count p in let new = ap (times p t'.table h) root in let gone = all_gone p in omega arith;
      were = λ p. let here = s.were p in let gone = all_gone p in omega arith;
      fewest = subst (FewestBelow (was_seen taken) start.tree.gapped t'.table h) root s.fewest;
    }

-- several rows that stand for every index stand in a new root
pub replaced_above : {start : Start} {words : List ℕ} {taken gone : List Seen} {low_taken : (ℕ → Span → Bool) → ℕ} {new : List Span} (x : Span) (items : List Item) → x.first ≡ 0 → x.last ≡ top_of start.tree → suc start.height < deepest
    → Stand start words (was_seen taken) low_taken (λ p. passing p gone) 0 start.height new → IsRow (tree_with start.tree words) (suc start.height) x → expand (tree_with start.tree words).table (x ∷ []) ≡ new → new ≡ spans_from 0 items
    → length items ≤ slots_of start.tree.table.width (kind_on start.tree.gapped (suc start.height)) → was_seen taken (row_in x.word) ≡ true → ((p : ℕ → Span → Bool) → passing p taken ≡ one_if (p (suc start.height) x) + low_taken p)
    → IsReplaced start.tree (with_root (tree_with start.tree words) x.word) start.map taken gone (Some start.height) (Some (suc start.height))
replaced_above {start} {words} {taken} {gone} {low_taken} {new} x items first last low s row hold is_new few is_taken more =
    let t' = tree_with start.tree words in
    let h = suc start.height in
    let root : x ∷ [] ≡ root_of (with_root t' x.word) = ap (λ (y : Span). y ∷ []) (root_is start.tree x first last) in
    let rows : Levels (IsRow t') t'.table h (x ∷ []) = ((row, tt), subst (Levels (IsRow t') t'.table start.height) (sym hold) s.rows) in
    record {
      stands = record { low = low; rows = subst (Levels (IsRow (with_root t' x.word)) t'.table h) root (levels_map (IsRow t') (IsRow (with_root t' x.word)) t'.table (λ k y law. row_keeps t' t'.table.words x.word k y (λ c above within. refl) law) h (x ∷ []) rows) };
      ranges = ap (map_of t'.table h) (sym root) ∙ (ap (map_of t'.table start.height) hold ∙ s.ranges);
      rows = λ p. let here = s.count p in let up = ap (times p t'.table h) root in let below = ap (times p t'.table start.height) hold in let one = more p in omega arith;
      were = λ p. s.were p;
      fewest = subst (FewestBelow (was_seen taken) start.tree.gapped t'.table h) root
          (one_new (was_seen taken) t'.table (kind_on start.tree.gapped h) x 0 items is_taken (hold ∙ is_new) few, subst (FewestBelow (was_seen taken) start.tree.gapped t'.table start.height) (sym hold) s.fewest);
    }
