-- A tree whose gap words were mended: it is lawful, and has the same rows and the same map.
use Rattle.mt_engine.proofs.Prelude.{◌≡◌, ℕ, zero, suc, ◌+◌, ◌≤◌, ◌==◌, List, [], ◌∷◌, ◌++◌, Bool, false, nat_lt, length, refl, sym, ap, ◌∙◌, subst, inl, inr, arith, Kind, finds_room, deepest, Gapped, Span, row_in, some_columns, some_slots_of, PathStep, step_at, path_in, column, root_span, spans_in, Levels, expand, is_row_of, tally, Tree, IsRow, IsTended, IsLawful, Stands, ParentLaw, GapLaw, HasGaps, root_of, Rooted, Sheet, OnlyReads, tree_on, tree_as, IsLawfulOf, map_by, is_reached, map_in, reached_in, height_in, some_least, ranges_by_depth, levels_pair, inner_not_named, Shared, expand_shared, levels_shared, map_of_shared, times_shared, levels_map, HasParents, KeepsWordsBut, OnlyWords, IsAlong, IsWay, MayMendAt, IsMendedAt}
use Rattle.mt_rows.proofs.Reached as reached
use Rattle.mt_engine.proofs.OneWord.{parent_stays_in}

-- ---- a tree without gaps has no gap words

tended_by : (t : Tree) → t.gapped ≡ false → (h : ℕ) (x : Span) → ParentLaw t h x → IsTended t h x
tended_by t plain zero x parent = record { parent = parent; gaps = tt }
tended_by t plain (suc h) x parent = record { parent = parent; gaps = rw plain tt }

lawful_by : (t : Tree) → t.gapped ≡ false → HasParents t → IsLawful t
lawful_by t plain (inl empty) = inl empty
lawful_by t plain (inr (h, stands, parent, levels)) = inr (h, stands, parent, levels_map (ParentLaw t) (IsTended t) t.table (tended_by t plain) h (root_of t) levels)

pub none_to_mend : (kind : Kind) (s : Sheet) (index : ℕ) → finds_room kind ≡ false → MayMendAt kind s index → IsMendedAt kind s s
none_to_mend kind s index plain may = record {
  rest = refl;
  lawful = record { width = may.tree.width; words = lawful_by (tree_as kind s.tree) plain may.parents };
  map = refl;
  height = refl;
  reached = λ row. refl;
}

-- ---- the way

pub is_way : (kind : Kind) (s s₁ : Sheet) (index : ℕ) (path : List PathStep) (leaf : ℕ) → MayMendAt kind s index → OnlyReads s s₁ → IsAlong path leaf (path_in s.tree.table s.tree.root index) → IsWay (finds_room kind) s₁ path leaf
is_way kind s s₁ index path leaf may reads way =
    subst (λ (x : Sheet). IsWay (finds_room kind) x path leaf) (sym reads)
    (record { is_new = may.is_new; index = index; within = may.within; gaps = may.gaps; steps = way; live = may.live; none_buried = may.none_buried })

-- a way goes along itself, to its leaf
along_itself : (path : List PathStep) (leaf : ℕ) → ((level : ℕ) → level + 1 ≡ length path → (step_at path level).row ≡ leaf) → IsAlong path leaf path
along_itself path leaf is = record {
  many = refl;
  above = λ level low. refl;
  end = λ level last. (λ i. record (step_at path level) { row = sym (is level last) i; slot = 0 });
}

pub along_at : (path : List PathStep) (leaf : ℕ) → ((level : ℕ) → level + 1 ≡ length path → (step_at path level).row ≡ leaf) → {way : List PathStep} → path ≡ way → IsAlong path leaf way
along_at path leaf is same = subst (IsAlong path leaf) same (along_itself path leaf is)

-- ---- as many levels by both tables

some_first : (xs : List Span) → 1 ≤ length xs → (x : Span) × (ys : List Span) × (xs ≡ x ∷ ys)
some_first [] some = absurd (omega (arith, some))
some_first (x ∷ ys) some = (x, ys, refl)

module _ (t t' : Tree) where
  levels_same : (h h' : ℕ) (x : Span) (xs : List Span) → Levels (IsRow t) t.table h (x ∷ xs) → Levels (IsRow t') t'.table h' (x ∷ xs) → Levels (Shared t.table t'.table) t.table h (x ∷ xs) → h' ≡ h
  levels_same zero zero x xs rows rows' same = refl
  levels_same zero (suc h') x xs rows rows' same = absurd (inner_not_named t'.gapped (sym rows'.0.0.name.named ∙ rows.0.name.named))
  levels_same (suc h) zero x xs rows rows' same = absurd (inner_not_named t.gapped (sym rows.0.0.name.named ∙ rows'.0.name.named))
  levels_same (suc h) (suc h') x xs rows rows' same =
      let some : 1 ≤ length (spans_in t.table x) = (let least = some_least t (suc h) x in let count = rows.0.0.count.least in omega arith) in
      let first = some_first (spans_in t.table x) some in
      let here : expand t.table (x ∷ xs) ≡ first.0 ∷ (first.1 ++ expand t.table xs) = ap (λ (l : List Span). l ++ expand t.table xs) first.2 in
      let there : expand t'.table (x ∷ xs) ≡ first.0 ∷ (first.1 ++ expand t.table xs) = expand_shared t.table t'.table (x ∷ xs) same.0 ∙ here in
      ap suc (levels_same h h' first.0 (first.1 ++ expand t.table xs) (subst (Levels (IsRow t) t.table h) here rows.1) (subst (Levels (IsRow t') t'.table h') there rows'.1) (subst (Levels (Shared t.table t'.table) t.table h) here same.1))

-- ---- the words after

module _ (gapped : Bool) (r : Rooted) (words : List ℕ) where
  abbrev r' : Rooted
  r' = record { rows = r.rows; table = record { width = r.table.width; words = words }; root = r.root }

  abbrev t : Tree
  t = tree_on gapped r

  abbrev t' : Tree
  t' = tree_on gapped r'

  record Same : Type 0 where
    lawful : IsLawful t'
    map : map_by r' ≡ map_by r
    height : height_in r'.table r'.root ≡ height_in r.table r.root
    reach : (row : ℕ) → is_reached r' row ≡ is_reached r row

  -- no parent word is a gap word
  parents_kept : (path : List PathStep) → KeepsWordsBut r r' path → (row : ℕ) → column t'.table row 0 ≡ column t.table row 0
  parents_kept path keeps row = elim (keeps row 0 (some_columns r.table.width)) [
    | inl same ↦ same
    | inr gap ↦ absurd (let some = some_slots_of r.table.width Gapped in let is = gap.col_is in omega arith)
  ]

  of_none : r.root ≡ 0 → Same
  of_none empty = record {
    lawful = inl empty;
    map = ap (map_in r'.table) empty ∙ sym (ap (map_in r.table) empty);
    height = ap (height_in r'.table) empty ∙ sym (ap (height_in r.table) empty);
    reach = λ row. ap (λ (l : List ℕ). nat_lt 0 (tally (λ (q : ℕ). q == row) l)) (ap (reached_in r'.table) empty ∙ sym (ap (reached_in r.table) empty));
  }

  abbrev root : List Span
  root = root_of t

  of_levels : (h : ℕ) → Stands t h → Stands t' h → Levels (Shared t.table t'.table) t.table h root → ((row : ℕ) → column t'.table row 0 ≡ column t.table row 0) → column t.table (row_in r.root) 0 ≡ 1 → Levels (ParentLaw t) t.table h root → Levels (GapLaw t') t'.table h root → Same
  of_levels h stands stands' same kept one parents gaps =
      let parents_then = levels_pair (ParentLaw t) (Shared t.table t'.table) (ParentLaw t') t.table (λ n x parent shared. parent_stays_in t t' n x kept shared parent) h root parents same in
      record {
        lawful =
            inr (
              h,
              stands',
              kept (row_in r.root) ∙ one,
              levels_pair (ParentLaw t') (GapLaw t') (IsTended t') t'.table (λ n x parent gap. record { parent = parent; gaps = gap }) h root (levels_shared (ParentLaw t') t.table t'.table h root same parents_then) gaps,
            );
        map = ranges_by_depth t' deepest h (root_span r'.table r'.root) stands'.low stands'.rows ∙ (map_of_shared t.table t'.table h root same ∙ sym (ranges_by_depth t deepest h (root_span r.table r.root) stands.low stands.rows));
        height = reached.height_is t' h stands' ∙ sym (reached.height_is t h stands);
        reach = λ row. ap (nat_lt 0) (reached.tally_reached t' h stands' row ∙ (times_shared (is_row_of row) t.table t'.table h root same ∙ sym (reached.tally_reached t h stands row)));
      }

  same_by : (path : List PathStep) → HasParents t → HasGaps t' → KeepsWordsBut r r' path → ((h : ℕ) → Stands t h → Levels (Shared t.table t'.table) t.table h root) → Same
  same_by path (inl empty) gaps keeps spans = of_none empty
  same_by path (inr parents) (inl empty) keeps spans = of_none empty
  same_by path (inr (h, stands, one, parents)) (inr (h', stands', gaps)) keeps spans =
      let same = spans h stands in
      let is = levels_same t t' h h' (root_span r.table r.root) [] stands.rows stands'.rows same in
      of_levels h stands (subst (Stands t') is stands') same (parents_kept path keeps) one parents (subst (λ (n : ℕ). Levels (GapLaw t') t'.table n root) is gaps)

-- ---- of sheets

mended_in : (kind : Kind) (s s' : Sheet) (path : List PathStep) (index : ℕ) → MayMendAt kind s index → OnlyWords s s' → HasGaps (tree_as kind s'.tree) → KeepsWordsBut s.tree s'.tree path
    → ((h : ℕ) → Stands (tree_as kind s.tree) h → Levels (Shared s.tree.table s'.tree.table) s.tree.table h (root_of (tree_as kind s.tree))) → IsMendedAt kind s s'
mended_in kind s s' path index may rest gaps keeps spans =
    let is : s'.tree ≡ r' (finds_room kind) s.tree s'.tree.table.words = ap (λ (x : Sheet). x.tree) rest in
    let same =
    same_by (finds_room kind) s.tree s'.tree.table.words path may.parents (subst (λ (q : Rooted). HasGaps (tree_as kind q)) is gaps) (subst (λ (q : Rooted). KeepsWordsBut s.tree q path) is keeps)
    (λ h stands. subst (λ (q : Rooted). Levels (Shared s.tree.table q.table) s.tree.table h (root_of (tree_as kind s.tree))) is (spans h stands)) in
    record {
      rest = rest;
      lawful = subst (λ (q : Rooted). IsLawfulOf q kind) (sym is) (record { width = may.tree.width; words = same.lawful });
      map = ap (λ (q : Rooted). map_by q) is ∙ same.map;
      height = ap (λ (q : Rooted). height_in q.table q.root) is ∙ same.height;
      reached = λ row. ap (λ (q : Rooted). is_reached q row) is ∙ same.reach row;
    }

pub mended : (kind : Kind) (s s₁ s' : Sheet) (path : List PathStep) (index : ℕ) → MayMendAt kind s index → OnlyReads s s₁ → OnlyWords s₁ s' → HasGaps (tree_as kind s'.tree) → KeepsWordsBut s₁.tree s'.tree path
    → ((h : ℕ) → Stands (tree_as kind s₁.tree) h → Levels (Shared s₁.tree.table s'.tree.table) s₁.tree.table h (root_of (tree_as kind s₁.tree))) → IsMendedAt kind s s'
mended kind s s₁ s' path index may reads rest gaps keeps spans =
    let tree : s₁.tree ≡ s.tree = ap (λ (x : Sheet). x.tree) reads in
    mended_in kind s s' path index may
    (rest ∙ ap (λ (x : Sheet). record x { tree = record { rows = x.tree.rows; table = record { width = x.tree.table.width; words = s'.tree.table.words }; root = x.tree.root }; reads = s'.reads }) reads) gaps
    (subst (λ (q : Rooted). KeepsWordsBut q s'.tree path) tree keeps)
    (subst (λ (q : Rooted). (h : ℕ) → Stands (tree_as kind q) h → Levels (Shared q.table s'.tree.table) q.table h (root_of (tree_as kind q))) tree spans)

-- ---- after reads

pub may_after_reads : (kind : Kind) (s s₁ : Sheet) (index : ℕ) → MayMendAt kind s index → OnlyReads s s₁ → MayMendAt kind s₁ index
may_after_reads kind s s₁ index may reads =
    subst (λ (x : Sheet). MayMendAt kind x index) (sym reads)
    (record { within = may.within; tree = may.tree; parents = may.parents; is_new = may.is_new; gaps = may.gaps; live = may.live; none_buried = may.none_buried })

pub mended_after_reads : (kind : Kind) (s s₁ s' : Sheet) → OnlyReads s s₁ → IsMendedAt kind s₁ s' → IsMendedAt kind s s'
mended_after_reads kind s s₁ s' reads done =
    let tree : s₁.tree ≡ s.tree = ap (λ (x : Sheet). x.tree) reads in
    record {
      rest =
          done.rest
          ∙ ap (λ (x : Sheet). record x { tree = record { rows = x.tree.rows; table = record { width = x.tree.table.width; words = s'.tree.table.words }; root = x.tree.root }; reads = s'.reads }) reads;
      lawful = done.lawful;
      map = done.map ∙ ap (λ (q : Rooted). map_by q) tree;
      height = done.height ∙ ap (λ (q : Rooted). height_in q.table q.root) tree;
      reached = λ row. done.reached row ∙ ap (λ (q : Rooted). is_reached q row) tree;
    }
