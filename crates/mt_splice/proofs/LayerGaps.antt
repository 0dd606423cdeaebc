-- The law of gaps in a plan that is drafted: by the words then, all rows of the top layer's level, and all below, keep it.
use Rattle.mt_splice.proofs.Prelude.{[], ◌≡◌, ℕ, zero, suc, ◌+◌, ◌≤◌, List, ◌∷◌, ◌++◌, Bool, length, drop, refl, sym, ◌∙◌, subst, inl, arith, AllByRecursion, all_map, all_front, all_back, all_join, Item, RowKind, Leaf, Inner, Gapped, Span, end_of, name_at, spans_from, Fills, after, after_some, Tree, IsRow, GapLaw, kind_on, longest_below, expand, Levels, IsBelow, root_of, Table, inner_of, root_span, level_next, levels_lower, Shared, levels_join, below_on_level, AreHeld, Beside, IsOld, head, heads, part_of, Layer, AreAllHeld, IsLayer, IsPlanned, begin_at, depth_at, heads_at, level_of, new_at, old_at, AreOld, AreAmongOld, AreAllFromBelow, HadGaps, TellGaps, before, behind, in_place, Start, rows_at, tree_with, IsNewRow}
use Rattle.mt_splice.proofs.GapRows.{gap_laws_stay, row_keeps_gaps, tells_later}
use Rattle.mt_splice.proofs.Heads.{drop_part, heads_fill}
use Rattle.mt_splice.proofs.Layers.{level_holds}
use Rattle.mt_splice.proofs.LevelRuns.{AreParts, cut_makes_parts, length-part}
use Rattle.mt_splice.proofs.KeptTrees.{RowsKeep, rows_shared}
use Rattle.mt_splice.proofs.NewTold.{tells_held, tells_inner, tells_leaf}
use Rattle.mt_splice.proofs.Planned.{layer_new, run_now}
use Rattle.mt_splice.proofs.SlotGaps.{one_alone}
use Rattle.mt_splice.proofs.TakenIn.{spans_behind}
use Rattle.mt_splice.proofs.ToldRows.{tells_append}
use Rattle.mt_splice.proofs.WindowRows.{window_parts}
use Rattle.mt_splice.proofs.WrittenRows.{new_items, new_named, new_spans}

-- ---- items that tell their gaps

tells_none : (kind : RowKind) (t : Table) (h lo : ℕ) → TellGaps kind t h lo []
tells_none Leaf t h lo = tt
tells_none Inner t h lo = tt
tells_none Gapped t h lo = refl

tells_parts : (kind : RowKind) (t : Table) (h lo : ℕ) (xs ys : List Item) → TellGaps kind t h lo (xs ++ ys) → TellGaps kind t h lo xs × TellGaps kind t h (after lo xs) ys
tells_parts Leaf t h lo xs ys told = (tt, tt)
tells_parts Inner t h lo xs ys told = (tt, tt)
tells_parts Gapped t h lo [] ys told = (refl, told)
tells_parts Gapped t h lo (x ∷ xs) ys told =
    let here : x.gap ≡ longest_below t h (record { first = lo; last = x.last; word = x.word } ∷ []) = cc in
    let behind : TellGaps Gapped t h (x.last + 1) (xs ++ ys) = cc in
    let rest = tells_parts Gapped t h (x.last + 1) xs ys behind in
    (λ i. here i ∷ rest.0 i, rest.1)

-- those of leaves tell none
abbrev pub TellIn : Tree → ℕ → ℕ → List Item → Type 0
TellIn t zero lo items = Unit {0}
TellIn t (suc h) lo items = TellGaps (inner_of t.gapped) t.table h lo items

tell_parts : (t : Tree) (h lo : ℕ) (xs ys : List Item) → TellIn t h lo (xs ++ ys) → TellIn t h lo xs × TellIn t h (after lo xs) ys
tell_parts t zero lo xs ys told = (tt, tt)
tell_parts t (suc h) lo xs ys told = tells_parts (inner_of t.gapped) t.table h lo xs ys told

no_levels : (P : ℕ → Span → Type 0) (t : Table) (h : ℕ) → Levels P t h []
no_levels P t zero = tt
no_levels P t (suc h) = (tt, no_levels P t h)

-- ---- new rows

pub head_tells : (t : Tree) (lo row : ℕ) (items : List Item) (k : ℕ) → IsNewRow t.table (kind_on t.gapped k) row items → TellIn t k lo items
    → TellGaps (inner_of t.gapped) t.table k lo (head (inner_of t.gapped) (kind_on t.gapped k) lo items row ∷ []) × GapLaw t k (record { first = lo; last = end_of 0 items; word = name_at row (kind_on t.gapped k) })
head_tells t lo row items zero new told = (tells_leaf (inner_of t.gapped) t.table (record { first = lo; last = end_of 0 items; word = name_at row Leaf }) items (new_spans t.table Leaf row items new lo), tt)
head_tells t lo row items (suc k) new told =
    let K = inner_of t.gapped in
    let x : Span = record { first = lo; last = end_of 0 items; word = name_at row K } in (
      tells_inner K t.table k x items (new_spans t.table K row items new lo) told,
      row_keeps_gaps K t.table k x (new_named t.table K row items new) (subst (TellGaps K t.table k lo) (sym (new_items t.table K row items new lo)) (tells_held K t.table k lo items told)),
    )

module _ (t : Tree) (h : ℕ) where
  abbrev kind : RowKind
  kind = kind_on t.gapped h

  -- the rows of a layer keep the law, and tell their gaps one level up
  heads_tell : (is_new : ℕ → Bool) (items : List Item) (at from : ℕ) (ends rows : List ℕ) → AreParts t h at items from ends → length rows ≡ length ends → AreHeld t is_new kind items from ends rows → TellIn t h at (drop from items)
      → TellGaps (inner_of t.gapped) t.table h at (heads (inner_of t.gapped) kind at items from ends rows) × AllByRecursion (GapLaw t h) (spans_from at (heads (inner_of t.gapped) kind at items from ends rows))
  heads_tell is_new items at from [] rows parts many held told = (tells_none (inner_of t.gapped) t.table h at, tt)
  heads_tell is_new items at from (to ∷ ends) [] parts many held told = absurd (omega arith)
  heads_tell is_new items at from (to ∷ ends) (row ∷ rows) parts many held told =
      let K = inner_of t.gapped in
      let part = part_of items from to in
      let order = parts.0.some in let long = length-part items from to parts.0.within in
      let behind = after_some at 0 part (omega arith) in
      let split = tell_parts t h at part (drop to items) (subst (TellIn t h at) (drop_part items from to (omega arith)) told) in
      let here = head_tells t at row part h held.0 split.0 in
      let rest = heads_tell is_new items (end_of 0 part + 1) to ends rows (subst (λ (n : ℕ). AreParts t h n items to ends) behind parts.1) (omega arith) held.3 (subst (λ (n : ℕ). TellIn t h n (drop to items)) behind split.1) in
      let one : Item = head K kind at part row in
      (tells_append K t.table h at (end_of 0 part + 1) (one ∷ []) (heads K kind (end_of 0 part + 1) items to ends rows) refl here.0 rest.0, (here.1, rest.1))

-- ---- a plan

-- the rows of a layer tell their gaps one level up, and all rows of its level, and below, keep the law
pub record KeepGaps (start : Start) (t : Tree) (l : Layer) (lower : List Layer) : Type 0 where
  pub heads : TellGaps (inner_of t.gapped) t.table (length lower) (begin_at start (length lower) l) (heads_at start (length lower) l)
  pub laws : Levels (GapLaw t) t.table (length lower) (level_of start (l ∷ lower))

module _ {start : Start} {words : List ℕ} {is_new : ℕ → Bool} {top : ℕ} (b : Beside start words is_new top) (had : HadGaps start) where
  abbrev t : Tree
  t = start.tree

  abbrev t' : Tree
  t' = tree_with t words

  abbrev K : RowKind
  K = inner_of t.gapped

  abbrev Kept : ℕ → Span → Type 0
  Kept = RowsKeep t t.table.words words

  pub each_old : (P : ℕ → Span → Type 0) → ((h : ℕ) (x : Span) → IsOld start words is_new h x → P h x) → (h d : ℕ) → start.height ≡ d + h → top ≤ d → Levels P t.table h (rows_at t d)
  each_old P here zero d levels low = all_map (IsOld start words is_new zero) (P zero) (here zero) (rows_at t d) (b.rows d zero levels low)
  each_old P here (suc h) d levels low = (all_map (IsOld start words is_new (suc h)) (P (suc h)) (here (suc h)) (rows_at t d) (b.rows d (suc h) levels low), subst (Levels P t.table h) (level_next t.table d (root_of t)) (each_old P here h (suc d) (omega arith) (omega arith)))

  kept : (h d : ℕ) → start.height ≡ d + h → top ≤ d → Levels Kept t.table h (rows_at t d)
  kept h d levels low = each_old Kept (λ _ x o. o.keeps) h d levels low

  -- old rows, and all below them, keep the law
  pub old_laws : (h d : ℕ) → start.height ≡ d + h → top ≤ d → Levels (GapLaw t') t'.table h (rows_at t d)
  old_laws h d levels low = gap_laws_stay t words h (rows_at t d) (kept h d levels low) (levels_lower (IsRow t) t.table d h start.height (root_of t) levels b.stands.rows) (levels_lower (GapLaw t) t.table d h start.height (root_of t) levels had)

  old_shared : (h : ℕ) → h ≤ start.height → top ≤ depth_at start h → (xs : List Span) → AllByRecursion (IsBelow t.table (depth_at start h) (root_span t.table t.root)) xs → Levels (Shared t.table t'.table) t.table h xs
  old_shared h high low xs rows = rows_shared t t.table.words words h xs (each xs rows)
    where
      each : (ys : List Span) → AllByRecursion (IsBelow t.table (depth_at start h) (root_span t.table t.root)) ys → Levels Kept t.table h ys
      each [] rows = no_levels Kept t.table h
      each (y ∷ ys) rows =
          levels_join Kept t.table h (y ∷ []) ys
          (one_alone Kept t.table h (rows_at t (depth_at start h)) y (below_on_level t.table (depth_at start h) (root_of t) (root_span t.table t.root) y (inl refl) rows.0) (kept h (depth_at start h) (omega arith) low))
          (each ys rows.1)

  old_tell : (h lo : ℕ) (items : List Item) → h ≤ start.height → top ≤ depth_at start h → AreOld start h lo items → TellGaps K t'.table h lo items
  old_tell h lo items high low old = tells_later K t.table t'.table h lo items (old_shared h high low (spans_from lo items) old.rows) old.gaps

  -- and so do new ones among old ones
  among_tell : {h lo mid hi end : ℕ} {new items : List Item} → h ≤ start.height → top ≤ depth_at start h → AreAmongOld start h lo mid hi end new items → Fills mid hi (spans_from mid new) → TellGaps K t'.table h mid new → TellGaps K t'.table h lo items
  among_tell {h} {lo} {mid} {hi} {end} {new} {items} high low among fills told = subst (TellGaps K t'.table h lo) (sym among.are) (
      tells_append K t'.table h lo mid among.front (new ++ among.back) (spans_behind lo mid among.front (new ++ among.back) among.ahead) (old_tell h lo among.front high low among.old_front)
      (tells_append K t'.table h mid hi new among.back (spans_behind mid hi new among.back fills) told (old_tell h hi among.back high low among.old_back)))

  -- ---- one layer

  module _ {below : List Span} {h : ℕ} {l : Layer} (is : IsLayer start below h l) (held : AreHeld t' is_new (kind_on t.gapped h) l.items 0 l.ends l.rows) (low : top ≤ depth_at start h) (told : TellIn t' h (begin_at start h l) l.items) where
    abbrev d : ℕ
    d = depth_at start h

    abbrev front : List Span
    front = before l.from (rows_at t d)

    abbrev back : List Span
    back = behind l.to (rows_at t d)

    both : TellGaps K t'.table h (begin_at start h l) (heads_at start h l) × AllByRecursion (GapLaw t' h) (new_at start h l)
    both = heads_tell t' h is_new l.items (begin_at start h l) 0 l.ends l.rows (cut_makes_parts l.items (run_now words is.cut) is.fewest) is.many held told

    all_laws : AllByRecursion (GapLaw t' h) (front ++ (old_at start h l ++ back))
    all_laws = subst (AllByRecursion (GapLaw t' h)) (window_parts t start.height b.stands l.from l.to d is.gathered.order is.gathered.within (omega arith)) (here h (old_laws h d (let low = is.low in omega arith) low))
      where
        here : (k : ℕ) → Levels (GapLaw t') t'.table k (rows_at t d) → AllByRecursion (GapLaw t' k) (rows_at t d)
        here zero laws = laws
        here (suc k) laws = laws.0

    level_laws : AllByRecursion (GapLaw t' h) (in_place t d l.from l.to (new_at start h l))
    level_laws =
        all_join (GapLaw t' h) front (new_at start h l ++ back) (all_front (GapLaw t' h) front (old_at start h l ++ back) all_laws)
        (all_join (GapLaw t' h) (new_at start h l) back both.1 (all_back (GapLaw t' h) (old_at start h l) back (all_back (GapLaw t' h) front (old_at start h l ++ back) all_laws)))

  -- ---- all layers

  pub planned_tell : (l : Layer) (lower : List Layer) → IsPlanned start (l ∷ lower) → AreAllFromBelow start (l ∷ lower) → AreAllHeld start words is_new (l ∷ lower) → top ≤ depth_at start (length lower) → KeepGaps start t' l lower
  planned_tell l [] plan from held low = record { heads = (both plan.0 held.0 low tt).0; laws = level_laws plan.0 held.0 low tt }
  planned_tell l (m ∷ lower) plan from held low =
      let h = length lower in
      let high = plan.0.low in
      let below = planned_tell m lower plan.1 from.1 held.1 (omega arith) in
      let fills = heads_fill t h K (kind_on t.gapped h) m.items m.rows plan.1.0.cut plan.1.0.fewest plan.1.0.many in
      let told = among_tell (omega arith) (omega arith) from.0 fills below.heads in
      let holds : expand t'.table (level_of start (l ∷ m ∷ lower)) ≡ level_of start (m ∷ lower) = level_holds b plan.0.gathered (layer_new b (level_of start (m ∷ lower)) (suc h) l plan.0 held.0) low ∙ plan.0.gathered.level in
      record { heads = (both plan.0 held.0 low told).0; laws = (level_laws plan.0 held.0 low told, subst (Levels (GapLaw t') t'.table h) (sym holds) below.laws) }
