-- How far the rows of a path are dealt with: one row further up, and after one gap word more is stored.
use Rattle.mt_gap.proofs.Prelude.{◌≡◌, ℕ, zero, suc, ◌+◌, ◌<◌, ◌≤◌, List, [], ◌∷◌, Option, true, length, refl, sym, ap, ◌∙◌, subst, arith, append-nil, slice_set, AllByRecursion, Width, deepest, greatest, RowKind, Gapped, Span, gap_column, row_in, slots_of, PathStep, step_in, slot_for, span_at, path_in, path_of, below, Leads, path_of_leaf, path_of_inner, row_here, child_at, child_leads, top_row, root_leads, Tree, Stands, kind_on, top_of, expand, Levels, SameSpans, tree_on, root_of, Rooted, Sheet, IsWhole, with_word, Table, base_of, root_span, spans_in, all_spans_stay, still_stands, inner_no_leaf, Shared, expand_shared, levels_front, levels_back, OnLevel, OnlyWords, IsAtLevel}

-- ---- paths by two tables that share their spans

module _ (t t' : Tree) (index : ℕ) where
  below_shared : (x : Span) (k : ℕ) → Leads t (suc k) x index → Levels (Shared t.table t'.table) t.table k (spans_in t.table x) → Levels (Shared t.table t'.table) t.table k (below t.table x index ∷ [])
  below_shared x k leads rows =
      let at = child_at t (suc k) x index leads in
      levels_front (Shared t.table t'.table) t.table k (below t.table x index ∷ []) at.back
      (levels_back (Shared t.table t'.table) t.table k at.front (below t.table x index ∷ at.back) (subst (Levels (Shared t.table t'.table) t.table k) at.parts rows))

  pub paths_shared : (depth k : ℕ) (x : Span) → k < depth → Leads t k x index → Levels (Shared t.table t'.table) t.table k (x ∷ []) → path_of t'.table depth x index ≡ path_of t.table depth x index
  paths_shared zero k x deep leads rows = absurd (omega arith)
  paths_shared (suc depth) zero x deep leads rows =
      let named = (row_here t zero x index leads).name.named in
      path_of_leaf t'.table depth x index named
      ∙ (ap (λ (l : List Span). record { row = row_in x.word; slot = slot_for l index; min = x.first; max = x.last } ∷ []) rows.0 ∙ sym (path_of_leaf t.table depth x index named))
  paths_shared (suc depth) (suc k) x deep leads rows =
      let named = (row_here t (suc k) x index leads).name.named in
      let below_same : below t'.table x index ≡ below t.table x index = ap (λ (l : List Span). span_at l (slot_for l index)) rows.0.0 in
      path_of_inner t'.table depth x index (kind_on t.gapped (suc k)) named (inner_no_leaf t.gapped)
      ∙ ((λ i. record { row = row_in x.word; slot = slot_for (rows.0.0 i) index; min = x.first; max = x.last } ∷ path_of t'.table depth (below_same i) index)
      ∙ (ap (λ (l : List PathStep). step_in t.table x index ∷ l)
      (paths_shared depth k (below t.table x index) (omega arith) (child_leads t k x index leads) (below_shared x k leads (subst (Levels (Shared t.table t'.table) t.table k) (append-nil (spans_in t.table x)) rows.1)))
      ∙ sym (path_of_inner t.table depth x index (kind_on t.gapped (suc k)) named (inner_no_leaf t.gapped))))

-- ---- two stores one after the other

both_shared : (t t' t'' : Table) (xs : List Span) → AllByRecursion (SameSpans t t') xs → AllByRecursion (SameSpans t' t'') xs → AllByRecursion (SameSpans t t'') xs
both_shared t t' t'' [] first second = tt
both_shared t t' t'' (x ∷ xs) first second = (second.0 ∙ first.0, both_shared t t' t'' xs first.1 second.1)

pub shared_twice : (t t' t'' : Table) (h : ℕ) (xs : List Span) → Levels (Shared t t') t h xs → Levels (Shared t' t'') t' h xs → Levels (Shared t t'') t h xs
shared_twice t t' t'' zero xs first second = both_shared t t' t'' xs first second
shared_twice t t' t'' (suc h) xs first second = (both_shared t t' t'' xs first.0 second.0, shared_twice t t' t'' h (expand t xs) first.1 (subst (Levels (Shared t' t'') t' h) (expand_shared t t' xs first.0) second.1))

pub only_next : (s s' s'' : Sheet) (row col word : ℕ) → OnlyWords s s' → s'' ≡ record s' { tree = with_word s'.tree row col word; reads = s''.reads } → OnlyWords s s''
only_next s s' s'' row col word only stored =
    let words = slice_set s'.tree.table.words (base_of s'.tree.table row + col) word in
    stored
    ∙ ((λ i. record (only i) { tree = record { rows = (only i).tree.rows; table = record { width = (only i).tree.table.width; words = words }; root = (only i).tree.root }; reads = s''.reads })
    ∙ ap (λ (ws : List ℕ). record s { tree = record { rows = s.tree.rows; table = record { width = s.tree.table.width; words = ws }; root = s.tree.root }; reads = s''.reads }) (sym (ap (λ (r : Sheet). r.tree.table.words) stored)))

-- ---- from row to row

module _ {s s' : Sheet} {path : List PathStep} {kind : RowKind} {left index height done : ℕ} (at : IsAtLevel s s' path kind left index height done) where
  abbrev t : Tree
  t = tree_on true s'.tree

  pub width_same : s'.tree.table.width ≡ s.tree.table.width
  width_same = ap (λ (v : Sheet). v.tree.table.width) at.only

  pub within_then : index ≤ top_of t
  within_then = subst (λ (w : Width). index ≤ greatest w) (sym width_same) at.level.within

  root_then : root_of t ≡ root_of (tree_on true s.tree)
  root_then = λ i. root_span (at.only i).tree.table (at.only i).tree.root ∷ []

  pub one_up : (d : ℕ) → left ≡ d + 2 → IsAtLevel s s' path Gapped (d + 1) index height (suc done)
  one_up d is = record {
    level = record { within = at.level.within; low = omega arith; levels_are = (let levels = at.level.levels_are in omega (arith, levels, is)); kind_is = refl; stood = at.level.stood };
    stands = at.stands;
    steps = at.steps;
    only = at.only;
    spans = at.spans;
  }

  -- loads change nothing
  pub read_on : (n : Option ℕ) → IsAtLevel s (record s' { reads = n }) path kind left index height done
  read_on n = record {
    level = at.level;
    stands = at.stands;
    steps = at.steps;
    spans = at.spans;
    only = ap (λ (v : Sheet). record v { reads = n }) at.only;
  }

  -- where a gap word of the next row up is stored
  module _ (whole : IsWhole s') (x : Span) (on : OnLevel s'.tree.table height (root_of t) (suc done) x) (slot gap : ℕ) (used : slot < length (spans_in s'.tree.table x)) where
    abbrev r' : Rooted
    r' = with_word s'.tree (row_in x.word) (gap_column (slots_of s'.tree.table.width Gapped) slot) gap

    pub shared_then : Levels (Shared s'.tree.table r'.table) s'.tree.table height (root_of t)
    shared_then = all_spans_stay s'.tree height done slot gap x whole.words at.stands on used

    pub at_stored : (s'' : Sheet) → s'' ≡ record s' { tree = r'; reads = s''.reads } → IsAtLevel s s'' path kind left index height done
    at_stored s'' stored =
        let tree_now : s''.tree ≡ r' = ap (λ (v : Sheet). v.tree) stored in
        record {
          level = at.level;
          stands = subst (λ (v : Rooted). Stands (tree_on true v) height) (sym tree_now) (still_stands s'.tree height done slot gap x whole.words at.stands on used);
          steps = subst (λ (v : Rooted). path ≡ path_in v.table v.root index) (sym tree_now)
              (at.steps ∙ sym (paths_shared t (tree_on true r') index deepest height (top_row t) at.stands.low (root_leads t height at.stands index within_then) shared_then));
          only = only_next s s' s'' (row_in x.word) (gap_column (slots_of s'.tree.table.width Gapped) slot) gap at.only stored;
          spans = subst (λ (v : Rooted). Levels (Shared s.tree.table v.table) s.tree.table height (root_of (tree_on true s.tree))) (sym tree_now)
              (shared_twice s.tree.table s'.tree.table r'.table height (root_of (tree_on true s.tree)) at.spans (subst (Levels (Shared s'.tree.table r'.table) s'.tree.table height) root_then shared_then));
        }
