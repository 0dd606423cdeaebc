-- What stands in the slot of an index is what the map has there.
use Rattle.mt_engine.proofs.Prelude.{◌≡◌, ◌≢◌, ℕ, ◌+◌, ◌-◌, ◌≤◌, List, [], ◌∷◌, ◌++◌, length, refl, sym, ap, ◌∙◌, subst, inl, inr, arith, append-nil, append_assoc, AllByRecursion, Kind, Range, Width, IsMap, greatest, deepest, all_map, Span, Fills, Apart, fills_le, apart-append, spans_in, expand, map_in, Tree, IsTree, IsRow, Stands, top_of, IsTreeOf, tree_as, map_by, Rooted, ranges_by_depth, level_rows, map_of_split, Filled, expand_fills, expand-append, PathStep, slot_for, span_at, step_in, below, path_in, step_at, last_step, leaf_spans, handle_in, at_parts, At, top_row, rows_at, row_of, levels, step, place, rows_fill, lawful, IsSpanAt}
use Rattle.mt_rows.proofs.Ranges as maps
use Rattle.mt_path.proofs.TreePaths.{holds}
use Rattle.mt_engine.proofs.SpanLists.{ranges, span_tells}

-- ---- what stands in the leaves

-- all of it, from the left
abbrev pub all_spans : Tree → ℕ → List Span
all_spans t h = expand t.table (rows_at t h)

-- no two holes follow each other, as a leaf ends with an entry where another is behind it
leaves_apart : (t : Tree) (lo hi : ℕ) (xs : List Span) → hi ≤ top_of t + 1 → Fills lo hi xs → AllByRecursion (IsRow t 0) xs → Apart (expand t.table xs)
leaves_apart t lo hi [] within fills rows = tt
leaves_apart t lo hi (x ∷ []) within fills rows = rw append-nil rows.0.holes.apart
leaves_apart t lo hi (x ∷ y ∷ xs) within fills rows =
    let begins = fills.2.0 in let order = fills.2.1 in
    let less = fills_le (y.last + 1) hi xs fills.2.2 in
    apart-append (spans_in t.table x) (expand t.table (y ∷ xs)) rows.0.holes.apart (rows.0.holes.ends (omega arith)) (leaves_apart t (x.last + 1) hi (y ∷ xs) within fills.2 rows.1)

module _ (t : Tree) (h : ℕ) (stands : Stands t h) where
  leaf_rows : AllByRecursion (IsRow t 0) (rows_at t h)
  leaf_rows = level_rows (IsRow t) t.table h 0 h (top_row t ∷ []) (omega arith) stands.rows

  all_fill : Fills 0 (top_of t + 1) (all_spans t h)
  all_fill = expand_fills t.table 0 (top_of t + 1) (rows_at t h) (all_map (IsRow t 0) (Filled t.table) (λ x row. row.pivots.fills) (rows_at t h) leaf_rows) (rows_fill t h stands h (omega arith))

  all_apart : Apart (all_spans t h)
  all_apart = leaves_apart t 0 (top_of t + 1) (rows_at t h) (omega arith) (rows_fill t h stands h (omega arith)) leaf_rows

  pub map_is_all : map_in t.table t.root ≡ ranges (all_spans t h)
  map_is_all = ranges_by_depth t deepest h (top_row t) stands.low stands.rows ∙ map_of_split t.table h 0 h (top_row t ∷ []) (omega arith)

  -- ---- at an index

  module _ (index : ℕ) (within : index ≤ top_of t) where
    abbrev pub leaf : Span
    leaf = row_of t h index

    -- what stands in the leaf's slot of the index
    abbrev pub held : Span
    held = below t.table leaf index

    pub end_is : last_step (path_in t.table t.root index) ≡ step_in t.table leaf index
    end_is =
        let many = levels t h stands index within in
        let last : length (path_in t.table t.root index) - 1 ≡ h = omega arith in
        ap (step_at (path_in t.table t.root index)) last ∙ step t h stands index h within (omega arith)

    leaf_spans_are : leaf_spans t.table (step_in t.table leaf index) ≡ spans_in t.table leaf
    leaf_spans_are = let named = (lawful t h stands index h 0 within (omega arith)).name.named in rw named refl

    pub slot_holds : span_at (leaf_spans t.table (last_step (path_in t.table t.root index))) (last_step (path_in t.table t.root index)).slot ≡ held
    slot_holds =
        ap (λ (s : PathStep). span_at (leaf_spans t.table s) s.slot) end_is
        ∙ ap (λ (l : List Span). span_at l (slot_for (spans_in t.table leaf) index)) leaf_spans_are

    pub stands_in_all : At 0 (top_of t + 1) (all_spans t h) index held
    stands_in_all =
        let one = place t h stands index h within (omega arith) in
        let own = holds t h stands index h within (omega arith) in
        at_parts 0 (top_of t + 1) (all_spans t h) index (expand t.table one.front ++ own.front) held (own.back ++ expand t.table one.back) all_fill
        (ap (expand t.table) one.parts
        ∙ (expand-append t.table one.front (leaf ∷ one.back)
        ∙ (ap (λ (l : List Span). expand t.table one.front ++ (l ++ expand t.table one.back)) own.parts
        ∙ regroup (expand t.table one.front) own.front held own.back (expand t.table one.back))))
        own.from own.to
      where
        regroup : (a b : List Span) (x : Span) (c e : List Span) → a ++ ((b ++ (x ∷ c)) ++ e) ≡ (a ++ b) ++ (x ∷ (c ++ e))
        regroup a b x c e = simp append_assoc

    tells : IsSpanAt (map_in t.table t.root) (top_of t) index (span_at (leaf_spans t.table (last_step (path_in t.table t.root index))) (last_step (path_in t.table t.root index)).slot)
    tells =
        subst (λ (x : Span). IsSpanAt (map_in t.table t.root) (top_of t) index x) (sym slot_holds)
        (subst (λ (m : List Range). IsSpanAt m (top_of t) index held) (sym map_is_all) (span_tells (top_of t) index (all_spans t h) held stands_in_all all_apart))

-- ---- of a tree

pub none_at_root : (t : Rooted) → t.root ≡ 0 → map_by t ≡ []
none_at_root t empty = ap (map_in t.table) empty

pub tree_map : (t : Rooted) (kind : Kind) → IsTreeOf t kind → IsMap kind (map_by t)
tree_map t kind tree = by tree.words
  where
    by : IsTree (tree_as kind t) → IsMap kind (map_by t)
    by (inl empty) = subst (IsMap kind) (sym (none_at_root t empty)) (record { rise = tt; within = tt })
    by (inr (h, stands)) = maps.tree_map (tree_as kind t) h stands kind tree.width

-- its ranges, by the width of the words
pub tree_within : (t : Rooted) (kind : Kind) → IsTreeOf t kind → AllByRecursion (λ (r : Range). r.last ≤ greatest t.table.width) (map_by t)
tree_within t kind tree = subst (λ (w : Width). AllByRecursion (λ (r : Range). r.last ≤ greatest w) (map_by t)) (sym tree.width) (tree_map t kind tree).within

pub slot_tells : (t : Rooted) (kind : Kind) (index : ℕ) → IsTreeOf t kind → t.root ≢ 0 → index ≤ greatest t.table.width → IsSpanAt (map_by t) (greatest t.table.width) index (handle_in t index).span
slot_tells t kind index tree some within = by tree.words
  where
    by : IsTree (tree_as kind t) → IsSpanAt (map_by t) (greatest t.table.width) index (handle_in t index).span
    by (inl empty) = absurd (some empty)
    by (inr (h, stands)) = tells (tree_as kind t) h stands index within
