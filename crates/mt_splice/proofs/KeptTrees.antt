-- A tree whose rows keep their words but for parent words: it stands, and its levels, paths and maps are the same.
use Rattle.mt_splice.proofs.Prelude.{◌≡◌, ◌≢◌, ℕ, ◌+◌, ◌≤◌, List, ◌∷◌, Option, Some, None, refl, sym, ◌∙◌, subst, inr, ⊎_elim, arith, cases_eq, AllByRecursion, all_back, Kind, columns, deepest, greatest, Span, row_in, dead_mark, some_columns, path_in, place, top_row, root_leads, Tree, IsRow, Stands, top_of, Levels, SameColumns, IsTreeOf, tree_as, root_of, Rooted, Sheet, after_bury, with_word, column, level_shared, levels_upper, levels_pair, levels_shared, level_rows, map_of_shared, times_shared, same_spans, row_keeps, Shared, levels_map, StandsAs, count_in, map_as, after_burials, rows_on, row_at, KeepsRowWords, table_with, tree_with, rows_at, [], Bool}
use Rattle.mt_splice.proofs.Drafts.{other_row, other_column}
use Rattle.mt_splice.proofs.PathsNow.{path_shared}

-- ---- words that stay

abbrev pub RowsKeep : Tree → List ℕ → List ℕ → ℕ → Span → Type 0
RowsKeep t words words' h x = KeepsRowWords t words words' (row_in x.word)

pub rows_shared : (t : Tree) (words words' : List ℕ) (h : ℕ) (xs : List Span) → Levels (RowsKeep t words words') (table_with t.table words) h xs
    → Levels (Shared (table_with t.table words) (table_with t.table words')) (table_with t.table words) h xs
rows_shared t words words' h xs keep =
    levels_map (RowsKeep t words words') (Shared (table_with t.table words) (table_with t.table words')) (table_with t.table words)
    (λ _ x same. same_spans (table_with t.table words) (table_with t.table words') x refl same) h xs keep

pub row_stays : (t : Tree) (words words' : List ℕ) (h : ℕ) (x : Span) → KeepsRowWords t words words' (row_in x.word) → IsRow (tree_with t words) h x → IsRow (tree_with t words') h x
row_stays t words words' h x same row = row_keeps (tree_with t words) words' t.root h x same row

-- ---- a tree by other words

-- it stands, and by these words each of its rows has the words that it had
pub record Keeps (t : Tree) (h : ℕ) (words : List ℕ) : Type 0 where
  pub stands : Stands t h
  pub rows : Levels (RowsKeep t t.table.words words) t.table h (root_of t)

module _ {t : Tree} {h : ℕ} {words : List ℕ} (keeps : Keeps t h words) where
  pub kept_shared : Levels (Shared t.table (table_with t.table words)) t.table h (root_of t)
  kept_shared = rows_shared t t.table.words words h (root_of t) keeps.rows

  pub kept_stands : Stands (tree_with t words) h
  kept_stands = record {
    low = keeps.stands.low;
    rows = levels_shared (IsRow (tree_with t words)) t.table (table_with t.table words) h (root_of t) kept_shared
        (levels_pair (RowsKeep t t.table.words words) (IsRow t) (IsRow (tree_with t words)) t.table (row_stays t t.table.words words) h (root_of t) keeps.rows keeps.stands.rows);
  }

  pub kept_level : (d k : ℕ) → h ≡ d + k → rows_at (tree_with t words) d ≡ rows_at t d
  kept_level d k levels = level_shared t.table (table_with t.table words) d k (root_of t) (levels_upper (Shared t.table (table_with t.table words)) t.table d k h (root_of t) levels kept_shared)

  pub kept_path : (i : ℕ) → i ≤ top_of t → path_in (table_with t.table words) t.root i ≡ path_in t.table t.root i
  kept_path i within = path_shared t (table_with t.table words) deepest h (top_row t) i keeps.stands.low (root_leads t h keeps.stands i within) kept_shared

  -- the row of a level that holds an index
  pub kept_row : (i d k : ℕ) → i ≤ top_of t → h ≡ d + k → KeepsRowWords t t.table.words words (row_in (row_at t d i).word)
  kept_row i d k within levels =
      let at = place t h keeps.stands i d within (omega arith) in
      (all_back (RowsKeep t t.table.words words k) at.front (row_at t d i ∷ at.back)
      (subst (AllByRecursion (RowsKeep t t.table.words words k)) at.parts (level_rows (RowsKeep t t.table.words words) t.table d k h (root_of t) levels keeps.rows))).0

-- ---- a tree, or the empty one

abbrev pub KeepsAs : Tree → Option ℕ → List ℕ → Type 0
KeepsAs t None words = t.root ≡ 0
KeepsAs t (Some h) words = Keeps t h words

pub stands_then : (t : Tree) (o : Option ℕ) (words : List ℕ) → KeepsAs t o words → StandsAs (tree_with t words) o
stands_then t None words keeps = keeps
stands_then t (Some h) words keeps = kept_stands keeps

pub count_then : (t : Tree) (o : Option ℕ) (words : List ℕ) (p : ℕ → Span → Bool) → KeepsAs t o words → count_in p (tree_with t words) o ≡ count_in p t o
count_then t None words p keeps = refl
count_then t (Some h) words p keeps = times_shared p t.table (table_with t.table words) h (root_of t) (kept_shared keeps)

pub map_then : (t : Tree) (o : Option ℕ) (words : List ℕ) → KeepsAs t o words → map_as (tree_with t words) o ≡ map_as t o
map_then t None words keeps = refl
map_then t (Some h) words keeps = map_of_shared t.table (table_with t.table words) h (root_of t) (kept_shared keeps)

-- ---- dead marks

-- the words of a tree of a height are those of one that stands alike
pub record SameTree (kind : Kind) (h : ℕ) (t t' : Rooted) : Type 0 where
  pub width : t'.table.width ≡ t.table.width
  pub stands : Stands (tree_as kind t') h
  pub paths : (i : ℕ) → i ≤ greatest t.table.width → path_in t'.table t'.root i ≡ path_in t.table t.root i
  pub levels : (d k : ℕ) → h ≡ d + k → rows_on t' d ≡ rows_on t d

pub same_tree : (kind : Kind) (h : ℕ) (t : Rooted) → Stands (tree_as kind t) h → SameTree kind h t t
same_tree kind h t stands = record { width = refl; stands = stands; paths = λ i within. refl; levels = λ d k levels. refl }

pub same_more : {kind : Kind} {h : ℕ} {t t' t″ : Rooted} → SameTree kind h t t' → SameTree kind h t' t″ → SameTree kind h t t″
same_more {kind} {h} {t} {t'} {t″} one other = record {
  width = other.width ∙ one.width;
  stands = other.stands;
  paths = λ i within. other.paths i (subst (λ v. i ≤ greatest v) (sym one.width) within) ∙ one.paths i within;
  levels = λ d k levels. other.levels d k levels ∙ one.levels d k levels;
}

pub same_kind : {kind : Kind} {h : ℕ} {t t' : Rooted} → SameTree kind h t t' → IsTreeOf t kind → IsTreeOf t' kind
same_kind {kind} {h} {t} {t'} same tree = record { width = same.width ∙ tree.width; words = inr (h, same.stands) }

pub mark_keeps : (t : Rooted) (row word r : ℕ) → SameColumns t.table (with_word t row 0 word).table (columns t.table.width) r
mark_keeps t row word r c above within =
    ⊎_elim
    (λ (same : r ≡ row). subst (λ (k : ℕ). column (with_word t row 0 word).table k c ≡ column t.table k c) (sym same) (other_column t.table.width t.table.words row 0 word c (λ none. absurd (omega arith))))
    (λ (other : r ≢ row). other_row t.table.width t.table.words row 0 word r c other (some_columns t.table.width) within)
    (cases_eq r row)

marked_tree : (kind : Kind) (h : ℕ) (t : Rooted) (row word : ℕ) → Stands (tree_as kind t) h → SameTree kind h t (with_word t row 0 word)
marked_tree kind h t row word stands =
    let tree = tree_as kind t in
    let words = (with_word t row 0 word).table.words in
    let keeps : Keeps tree h words = record { stands = stands; rows = levels_map (IsRow tree) (RowsKeep tree tree.table.words words) tree.table (λ _ x law. mark_keeps t row word (row_in x.word)) h (root_of tree) stands.rows } in
    record {
      width = refl;
      stands = kept_stands keeps;
      paths = λ i within. kept_path keeps i within;
      levels = λ d k levels. kept_level keeps d k levels;
    }

-- rows that are buried leave the tree as it stands
pub buried_tree : (kind : Kind) (h : ℕ) (s : Sheet) (rows : List ℕ) → Stands (tree_as kind s.tree) h → SameTree kind h s.tree (after_burials s rows).tree
buried_tree kind h s [] stands = same_tree kind h s.tree stands
buried_tree kind h s (row ∷ rows) stands =
    let one = marked_tree kind h s.tree row (dead_mark row) stands in
    same_more one (buried_tree kind h (after_bury s row) rows one.stands)
