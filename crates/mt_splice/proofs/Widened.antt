-- A level's items, widened, may be cut into rows, or are one hole of every index.
use Rattle.mt_splice.proofs.Prelude.{◌≡◌, ◌≢◌, ◌⊎◌, ℕ, zero, suc, ◌+◌, ◌-◌, ◌<◌, ◌≤◌, ◌||◌, List, [], ◌∷◌, Bool, true, false, length, refl, sym, ap, ◌∙◌, subst, inl, inr, ⊎_elim, arith, ne_eqb, flat_map, ltb-true, ltb-false, Range, greatest, Item, RowKind, Leaf, Span, slots_of, least_items, leaf_range, spans_from, Fills, EndsFull, sizes, length-spans_from, two_hold_an_entry, ends_with_hole, full_unless_hole, no_hole_ends, spans_by, spans_in, Tree, IsRow, Stands, top_of, kind_on, least_of_root, PathStep, step_in, step_at, path_in, step, place, lawful, at_within, item_words, MayBeIn, most_in_three, MayBeCut, short_run, holed_run, Start, rows_at, items_of_row, row_at, low_of, high_of, Gathered, wants_row, IsAlone, IsWithBehind, IsWithBefore, IsWidened, MayWiden, IsWindow}
use Rattle.mt_splice.proofs.TakenIn.{ends_at_last, beside_spans, beside}
use Rattle.mt_splice.proofs.Windows.{ahead_within, begins_behind, ends_ahead}
use Rattle.mt_splice.proofs.Besides.{begin_within, low_enough, some_gathered, cut_of, least_enough, all_enough, leaf_entry, takes_behind, cut_behind, takes_before, cut_before, row_fit}
use Rattle.mt_splice.proofs.StoredWords.{words_of}

-- the items may be cut into rows, or are one hole of every index
pub record IsWide (start : Start) (below : List Span) (left right : List PathStep) (d h : ℕ) (items : List Item) : Type 0 where
  pub window : IsWindow start below left right d h items
  pub cut : MayBeCut start.tree h (low_of start.tree d window.from) (high_of start.tree d window.to) (spans_from (low_of start.tree d window.from) items)
      ⊎ ((h ≡ 0) × (low_of start.tree d window.from ≡ 0) × (high_of start.tree d window.to ≡ top_of start.tree + 1) × (item_words items ≡ 0 ∷ []))

-- ---- a path's row

pub step_is : (t : Tree) (height : ℕ) → Stands t height → (path : List PathStep) (i d : ℕ) → i ≤ top_of t → d ≤ height → path ≡ path_in t.table t.root i → step_at path d ≡ step_in t.table (row_at t d i) i
step_is t height stands path i d within low is = ap (λ (l : List PathStep). step_at l d) is ∙ step t height stands i d within low

-- what stands in it, by its items
pub spans_of : (t : Tree) (h i : ℕ) (x : Span) (s : PathStep) → IsRow t h x → s ≡ step_in t.table x i → spans_in t.table x ≡ spans_from x.first (items_of_row t.table (kind_on t.gapped h) s.row s.max)
spans_of t h i x s law is =
    ap (λ k. spans_by t.table k x) law.name.named
    ∙ ap (λ (z : PathStep). spans_from x.first (items_of_row t.table (kind_on t.gapped h) z.row z.max)) (sym is)

-- ---- few or holed

or_false : (a b : Bool) → (a || b) ≡ false → (a ≡ false) × (b ≡ false)
or_false true b is = absurd (cc)
or_false false b is = (refl, is)

or_true : (a b : Bool) → (a || b) ≡ true → (a ≡ true) ⊎ (b ≡ true)
or_true true b is = inl refl
or_true false b is = inr is

-- only a leaf is holed, and it ends with a hole
holed_leaf : (gapped : Bool) (h lo : ℕ) (items : List Item) → holed_run (kind_on gapped h) items ≡ true → (h ≡ 0) × (ends_with_hole (spans_from lo items) ≡ true)
holed_leaf gapped zero lo items holed = (refl, ends_at_last lo items ∙ holed)
holed_leaf false (suc h) lo items holed = absurd (cc)
holed_leaf true (suc h) lo items holed = absurd (cc)

not_holed : (gapped : Bool) (h lo : ℕ) (items : List Item) → h ≡ 0 → holed_run (kind_on gapped h) items ≡ false → EndsFull (spans_from lo items)
not_holed gapped zero lo items leaf not = full_unless_hole (spans_from lo items) (ends_at_last lo items ∙ not)
not_holed gapped (suc h) lo items leaf not = absurd (omega arith)

-- one hole, or some entry
hole_or_entry : (lo : ℕ) (items : List Item) → 1 ≤ length items → MayBeIn 0 (spans_from lo items) → (item_words items ≡ 0 ∷ []) ⊎ (flat_map leaf_range (spans_from lo items) ≢ [])
hole_or_entry lo [] some fit = absurd (omega arith)
hole_or_entry lo (x ∷ []) some fit = by x.word refl
  where
    by : (word : ℕ) → x.word ≡ word → (item_words (x ∷ []) ≡ 0 ∷ []) ⊎ (flat_map leaf_range (spans_from lo (x ∷ [])) ≢ [])
    by zero is = inl (ap (λ (n : ℕ). n ∷ []) is)
    by (suc word) is = inr (rw (ne_eqb x.word 0 (λ none. omega arith)) (λ none. filled (record { first = lo; last = x.last; entry = x.word }) none))
      where
        filled : (r : Range) → r ∷ [] ≡ [] → ⊥
        filled r none = cc
hole_or_entry lo (x ∷ y ∷ items) some fit = inr (two_hold_an_entry (spans_from lo (x ∷ y ∷ items)) fit.0 (omega arith))

module _ {start : Start} {below : List Span} {left right : List PathStep} {d h : ℕ} {items : List Item} (may : MayWiden start below left right d h items) where
  abbrev t : Tree
  t = start.tree

  abbrev from : ℕ
  from = may.window.from

  abbrev to : ℕ
  to = may.window.to

  abbrev g : Gathered start below from to d h (spans_from (low_of t d from) items)
  g = may.window.gathered

  abbrev kind : RowKind
  kind = kind_on t.gapped h

  abbrev run : List Span
  run = spans_from (low_of t d from) items

  pub first_step : (step_at left d).min ≡ low_of t d from
  first_step = ap (λ (z : PathStep). z.min) (step_is t start.height g.stands left from d (begin_within g) (low_enough g) may.window.is_left)

  pub last_step : (step_at right d).max + 1 ≡ high_of t d to
  last_step = ap (λ (z : PathStep). z.max + 1) (step_is t start.height g.stands right to d g.within (low_enough g) may.window.is_right)

  pub last_within : (step_at right d).max ≤ top_of t
  last_within = let high = (at_within 0 (top_of t + 1) (rows_at t d) to (row_at t d to) (place t start.height g.stands to d g.within (low_enough g))).1 in let last = last_step in omega arith

  many_of : short_run t.table.width kind items ≡ false → least_items t.table.width kind ≤ length run
  many_of not = let many = ltb-false (length items) (least_items t.table.width kind) not in let same = length-spans_from (low_of t d from) items in omega arith

  pub few_if_short : short_run t.table.width kind items ≡ true → length items ≤ slots_of t.table.width kind + 2
  few_if_short short = let few = ltb-true (length items) (least_items t.table.width kind) short in let enough = sizes t.table.width kind in omega arith

  pub few_if_wanted : wants_row t.table.width kind items ≡ true → high_of t d to ≤ top_of t → length items ≤ slots_of t.table.width kind + 2
  few_if_wanted wanting more =
      ⊎_elim few_if_short
      (λ (holed : holed_run kind items ≡ true).
      let leaf = holed_leaf t.gapped h (low_of t d from) items holed in
      ⊎_elim (λ (few : length items ≤ slots_of t.table.width Leaf + 2). subst (λ (k : ℕ). length items ≤ slots_of t.table.width (kind_on t.gapped k) + 2) (sym leaf.0) few)
      (λ (full : EndsFull run). let clash : true ≡ false = sym leaf.1 ∙ no_hole_ends run full in absurd (cc))
      (may.ends leaf.0 more)) (or_true (short_run t.table.width kind items) (holed_run kind items) wanting)

  fits : length items ≤ slots_of t.table.width kind + 2 → length run + slots_of t.table.width kind ≤ most_in_three t.table.width kind
  fits few = let same = length-spans_from (low_of t d from) items in let enough = sizes t.table.width kind in omega arith

  -- enough as they are
  alone : short_run t.table.width kind items ≡ false → (h ≡ 0 → high_of t d to ≤ top_of t → EndsFull run) → IsWide start below left right d h items
  alone not ends =
      let many = many_of not in let few = may.few in let same = length-spans_from (low_of t d from) items in let enough = sizes t.table.width kind in
      record {
        window = may.window;
        cut = inl (cut_of g (omega arith) (least_enough t h (low_of t d from) (high_of t d to) (length run) many) ends (λ leaf. leaf_entry h run leaf g.fit (omega arith)));
      }

  -- of every index
  whole : low_of t d from ≡ 0 → high_of t d to ≡ top_of t + 1 → IsWide start below left right d h items
  whole first last = record { window = may.window; cut = by h refl }
    where
      cut_whole : least_of_root h ≤ length items → (h ≡ 0 → flat_map leaf_range run ≢ []) → MayBeCut t h (low_of t d from) (high_of t d to) run
      cut_whole least some =
          let few = may.few in let same = length-spans_from (low_of t d from) items in let enough = sizes t.table.width kind in
          cut_of g (omega arith) (all_enough t h (low_of t d from) (high_of t d to) (length run) first last (omega arith)) (λ leaf more. absurd (omega arith)) some

      one : 1 ≤ length items
      one = let some = some_gathered g in let same = length-spans_from (low_of t d from) items in omega arith

      by : (n : ℕ) → h ≡ n → MayBeCut t h (low_of t d from) (high_of t d to) run ⊎ ((h ≡ 0) × (low_of t d from ≡ 0) × (high_of t d to ≡ top_of t + 1) × (item_words items ≡ 0 ∷ []))
      by zero leaf =
          ⊎_elim (λ (hole : item_words items ≡ 0 ∷ []). inr (leaf, first, last, hole))
          (λ (entry : flat_map leaf_range run ≢ []). inl (cut_whole (subst (λ (n : ℕ). least_of_root n ≤ length items) (sym leaf) one) (λ _. entry)))
          (hole_or_entry (low_of t d from) items one (subst (λ (n : ℕ). MayBeIn n run) leaf g.fit))
      by (suc k) inner = inl (cut_whole (subst (λ (n : ℕ). least_of_root n ≤ length items) (sym inner) (may.two k inner first last)) (λ leaf. absurd (omega arith)))

  -- ---- with those of the row beside

  module _ {left' right' : List PathStep} {items' : List Item} where
    with_alone : IsAlone (words_of t) kind d left right items left' right' items' → IsWide start below left' right' d h items'
    with_alone is =
        subst (λ (p : (List PathStep × List PathStep) × List Item). IsWide start below p.0.0 p.0.1 d h p.1) (λ m. ((sym is.same.0 m, sym is.same.1 m), sym is.same.2 m))
        (⊎_elim
        (λ (none : wants_row t.table.width kind items ≡ false). let both = or_false (short_run t.table.width kind items) (holed_run kind items) none in alone both.0 (λ leaf more. not_holed t.gapped h (low_of t d from) items leaf both.1))
        (λ (last : ((step_at right d).max ≡ greatest t.table.width) × ((short_run t.table.width kind items ≡ false) ⊎ ((step_at left d).min ≡ 0))).
        let end = last.0 in let behind = last_step in let first = first_step in
        ⊎_elim (λ (not : short_run t.table.width kind items ≡ false). alone not (λ leaf more. absurd (omega arith))) (λ (none : (step_at left d).min ≡ 0). whole (omega arith) (omega arith)) last.1) is.enough)

    with_behind : IsWithBehind (words_of t) kind d left right items left' right' items' → IsWide start below left' right' d h items'
    with_behind is =
        let behind = last_step in let some = is.some in
        let more : high_of t d to ≤ top_of t = omega arith in
        let j = high_of t d to in let x = row_at t d j in
        let path : right' ≡ path_in t.table t.root j = is.is_right ∙ ap (path_in t.table t.root) behind in
        let law = lawful t start.height g.stands j d h more g.levels in
        let row = items_of_row t.table kind (step_at right' d).row (step_at right' d).max in
        let spans : spans_in t.table x ≡ spans_from j row =
        spans_of t h j x (step_at right' d) law (step_is t start.height g.stands right' j d more (low_enough g) path)
        ∙ ap (λ (k : ℕ). spans_from k row) (begins_behind t start.height g.stands to d g.within (low_enough g) more) in
        let all : beside h run (spans_in t.table x) ≡ spans_from (low_of t d from) items' =
        ap (beside h run) spans ∙ (sym (beside_spans (low_of t d from) j items row g.fills t.gapped h g.fit) ∙ ap (spans_from (low_of t d from)) (sym is.all)) in
        record {
          window = record { from = from; to = j; is_left = is.is_left ∙ may.window.is_left; is_right = path; gathered = subst (Gathered start below from j d h) all (takes_behind g more) };
          cut = inl (subst (MayBeCut t h (low_of t d from) (high_of t d j)) all (cut_behind g more (fits (few_if_wanted is.wanted more))));
        }

    with_before : IsWithBefore (words_of t) kind d left right items left' right' items' → IsWide start below left' right' d h items'
    with_before is =
        let end = is.last in let behind = last_step in let first = first_step in let some = is.some in
        let more : 0 < low_of t d from = omega arith in
        let i = low_of t d from - 1 in let y = row_at t d i in
        let within = ahead_within t start.height g.stands from d (begin_within g) (low_enough g) more in
        let path : left' ≡ path_in t.table t.root i = is.is_left ∙ ap (λ (k : ℕ). path_in t.table t.root (k - 1)) first in
        let law = lawful t start.height g.stands i d h within g.levels in
        let row = items_of_row t.table kind (step_at left' d).row (step_at left' d).max in
        let spans : spans_in t.table y ≡ spans_from (low_of t d i) row = spans_of t h i y (step_at left' d) law (step_is t start.height g.stands left' i d within (low_enough g) path) in
        let ends = ends_ahead t start.height g.stands from d (begin_within g) (low_enough g) more in
        let all : beside h (spans_in t.table y) run ≡ spans_from (low_of t d i) items' =
        ap (λ (xs : List Span). beside h xs run) spans
        ∙ (sym (beside_spans (low_of t d i) (low_of t d from) row items (subst (λ (xs : List Span). Fills (low_of t d i) (low_of t d from) xs) spans (subst (λ (k : ℕ). Fills (low_of t d i) k (spans_in t.table y)) ends law.pivots.fills)) t.gapped h
        (subst (MayBeIn h) spans (row_fit t h y law))) ∙ ap (spans_from (low_of t d i)) (sym is.all)) in
        record {
          window = record { from = i; to = to; is_left = path; is_right = is.is_right ∙ may.window.is_right; gathered = subst (Gathered start below i to d h) all (takes_before g more) };
          cut = inl (subst (MayBeCut t h (low_of t d i) (high_of t d to)) all (cut_before g more (omega arith) (fits (few_if_short is.short))));
        }

    pub widened : IsWidened (words_of t) kind d left right items left' right' items' → IsWide start below left' right' d h items'
    widened (inl is) = with_alone is
    widened (inr (inl is)) = with_behind is
    widened (inr (inr is)) = with_before is
