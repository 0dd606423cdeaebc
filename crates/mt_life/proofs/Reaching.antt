-- What is known of the rows of a tree that are reached.
use Rattle.mt_life.proofs.Prelude.{◌≡◌, ◌≢◌, ℕ, zero, suc, ◌+◌, ◌-◌, ◌<◌, ◌≤◌, List, [], ◌∷◌, length, refl, sym, ap, ◌∙◌, subst, inl, ⊎_elim, arith, AllByRecursion, flat_map, Kind, IsMap, columns, deepest, kind_width, Item, pivot_column, items_at, slots_of, gaps_of, few_items, layout_of, slots_of-columns, item_or, get_or-padded, used, used-pivot, length-spans_from, kind_at, row_in, Span, leaf_range, Fills, Apart, EndsFull, Life, Live, spans_in, root_span, base_of, column, map_in, Tree, IsTree, Stands, IsRow, Rooted, life_of, tree_as, is_reached, IsReached, StandsAt, map_by, root_of, all_map, tree_map, OnLevel, stands_at, on_level_law, on_level_reached, reached_times, times_reached, reached_on_level, reached_number, Extent, Moment, moment_of, PartOf, extent_at, spans_at, IsLive, HasRow, HasPart, Child, Shape}
use Rattle.mt_life.proofs.Alike.{spans_named}
use Rattle.mt_life.proofs.Parts.{leaf_part, children_stand}
use Rattle.mt_life.proofs.Staying.{true_false, none_reached}

-- ---- of a tree alone

spans_here : (kind : Kind) (t : Rooted) (k : ℕ) (x : Span) → IsRow (tree_as kind t) k x → spans_at kind t.table (row_in x.word) (extent_at x k) ≡ spans_in t.table x
spans_here kind t k x row = spans_named kind t.table k x row.name.named

none_past : (items : List Item) (k : ℕ) → length items ≤ k → (item_or items k).last ≡ 0
none_past [] k high = refl
none_past (x ∷ items) zero high = absurd (omega arith)
none_past (x ∷ items) (suc k) high = none_past items k (omega arith)

-- a pivot behind what stands in it is 0
unused_here : (kind : Kind) (t : Rooted) (k : ℕ) (x : Span) → IsRow (tree_as kind t) k x → (i : ℕ) → i + 1 < slots_of t.table.width (kind_at kind k)
    → length (spans_at kind t.table (row_in x.word) (extent_at x k)) ≤ i → column t.table (row_in x.word) (pivot_column i) ≡ 0
unused_here kind t k x row i inner behind =
    let width = t.table.width in
    let form = kind_at kind k in
    let slots = slots_of width form in
    let gaps = gaps_of width form in
    let base = base_of t.table (row_in x.word) in
    let parent = column t.table (row_in x.word) 0 in
    let items : List Item = items_at slots gaps t.table.words base x.last in
    let fit = few_items slots gaps t.table.words base x.last slots 0 in
    let long = length-spans_from x.first items in
    let words = used (columns width) slots gaps parent items (layout_of width form) fit in
    row.pivots.unused (1 + i) (omega (arith, slots_of-columns width form))
    ∙ (get_or-padded words (columns width - length words) (1 + i) ∙ (used-pivot (columns width) slots gaps parent items (layout_of width form) fit i inner ∙ none_past items i (omega (arith, long, behind))))

-- a row that stands in a tree has the shape of its extent
pub shape_here : (kind : Kind) (t : Rooted) (k : ℕ) (x : Span) → IsRow (tree_as kind t) k x → Shape kind t.table (row_in x.word) (extent_at x k)
shape_here kind t zero x row = let same = sym (spans_here kind t zero x row) in record {
  fills = subst (Fills x.first (x.last + 1)) same row.pivots.fills;
  apart = λ _. subst Apart same row.holes.apart;
  ends = λ _ low. subst EndsFull same (row.holes.ends low);
  unused = unused_here kind t zero x row;
}
shape_here kind t (suc k) x row = let same = sym (spans_here kind t (suc k) x row) in record {
  fills = subst (Fills x.first (x.last + 1)) same row.pivots.fills;
  apart = λ none. absurd (omega arith);
  ends = λ none _. absurd (omega arith);
  unused = unused_here kind t (suc k) x row;
}

pub map_here : (kind : Kind) (t : Rooted) → t.table.width ≡ kind_width kind → IsTree (tree_as kind t) → IsMap kind (map_by t)
map_here kind t wide tree = ⊎_elim
    (λ (empty : t.root ≡ 0). subst (λ (r : ℕ). IsMap kind (map_in t.table r)) (sym empty) (record { rise = tt; within = tt }))
    (λ (at : (h : ℕ) × Stands (tree_as kind t) h). tree_map (tree_as kind t) at.0 at.1 kind wide)
    tree

-- ---- where the rows that are reached are live, and their extents their places

module _ (kind : Kind) (t : Rooted) (lives : List Life) (e : ℕ → Extent) (tree : IsTree (tree_as kind t)) (live : (row : ℕ) → HasRow t.rows row → IsReached t row → life_of lives row ≡ Live)
    (placed : (k : ℕ) (x : Span) → StandsAt t k x → e (row_in x.word) ≡ extent_at x k) where
  abbrev T : Tree
  T = tree_as kind t

  abbrev Fits : ℕ → Span → Type 0
  Fits level x = Child kind t.rows lives e IsLive level x

  pub record PlaceOf (row : ℕ) : Type 0 where
    pub height : ℕ
    pub stands : Stands T height
    pub level : ℕ
    pub span : Span
    pub on : OnLevel T.table height (root_of T) level span
    pub is : row_in span.word ≡ row

  pub place_of : (row : ℕ) → IsReached t row → PlaceOf row
  place_of row reached = ⊎_elim
      (λ (empty : t.root ≡ 0). absurd (true_false (is_reached t row) reached (none_reached t row empty)))
      (λ (tree : (h : ℕ) × Stands T h).
      let at = reached_on_level T tree.0 tree.1 row (reached_times T tree.0 tree.1 row reached) in
      record { height = tree.0; stands = tree.1; level = at.0; span = at.1; on = at.2; is = at.3 })
      tree

  pub extent_reached : (row : ℕ) (p : PlaceOf row) → e row ≡ extent_at p.span p.level
  extent_reached row p = subst (λ (r : ℕ). e r ≡ extent_at p.span p.level) p.is (placed p.level p.span (stands_at T p.height p.stands p.on.depth p.level p.span p.on.height p.on.one))

  child_of : (h : ℕ) (stands : Stands T h) (k : ℕ) (x : Span) → OnLevel T.table h (root_of T) k x → Fits k x
  child_of h stands k x on =
      let often = on_level_reached T h stands k x on in
      let has = reached_number T h stands (row_in x.word) often in
      record {
        has = has;
        life = live (row_in x.word) has (times_reached T h stands (row_in x.word) often);
        extent = placed k x (stands_at T h stands on.depth k x on.height on.one);
        named = (on_level_law T h stands k x on).name.named;
      }

  pub shape_reached : (row : ℕ) → PlaceOf row → Shape kind t.table row (e row)
  shape_reached row p =
      subst (Shape kind t.table row) (sym (extent_reached row p))
      (subst (λ (r : ℕ). Shape kind t.table r (extent_at p.span p.level)) p.is (shape_here kind t p.level p.span (on_level_law T p.height p.stands p.level p.span p.on)))

  spans_reached : (row : ℕ) (p : PlaceOf row) → spans_at kind t.table row (e row) ≡ spans_in t.table p.span
  spans_reached row p =
      ap (spans_at kind t.table row) (extent_reached row p)
      ∙ subst (λ (r : ℕ). spans_at kind t.table r (extent_at p.span p.level) ≡ spans_in t.table p.span) p.is (spans_here kind t p.level p.span (on_level_law T p.height p.stands p.level p.span p.on))

  pub leaf_reached : (row : ℕ) (now : Moment) → now ≡ moment_of t → PlaceOf row → (e row).level ≡ 0 → HasPart kind t.table row (e row) now
  leaf_reached row now is_now p leaf =
      let low : p.level ≡ 0 = sym (ap (λ (n : Extent). n.level) (extent_reached row p)) ∙ leaf in
      let on : OnLevel T.table p.height (root_of T) 0 p.span = subst (λ (k : ℕ). OnLevel T.table p.height (root_of T) k p.span) low p.on in
      let part = leaf_part T p.height p.stands p.span on in
      let ranges = ap (λ (xs : List Span). flat_map leaf_range xs) (spans_reached row p) in
      subst (λ (k : Moment). HasPart kind t.table row (e row) k) (sym is_now)
      (subst (PartOf (moment_of t) (e row).first (e row).last) (sym ranges)
      (subst (λ (n : Extent). PartOf (moment_of t) n.first n.last (flat_map leaf_range (spans_in t.table p.span))) (sym (extent_reached row p)) part))

  pub inner_reached : (row level : ℕ) → PlaceOf row → (e row).level ≡ suc level → AllByRecursion (Fits level) (spans_at kind t.table row (e row))
  inner_reached row level p inner =
      let high : p.level ≡ suc level = sym (ap (λ (n : Extent). n.level) (extent_reached row p)) ∙ inner in
      let on = subst (λ (k : ℕ). OnLevel T.table p.height (root_of T) k p.span) high p.on in
      subst (AllByRecursion (Fits level)) (sym (spans_reached row p))
      (all_map (OnLevel T.table p.height (root_of T) level) (Fits level) (child_of p.height p.stands level) (spans_in t.table p.span) (children_stand T p.height p.stands level p.span on))

  pub root_reached : t.root ≢ 0 → (level : ℕ) × (level < deepest) × Fits level (root_span t.table t.root)
  root_reached some = ⊎_elim
      (λ (empty : t.root ≡ 0). absurd (some empty))
      (λ (at : (h : ℕ) × Stands T h). (at.0, at.1.low, child_of at.0 at.1 at.0 (root_span t.table t.root) (record { depth = 0; height = omega arith; one = inl refl })))
      tree
