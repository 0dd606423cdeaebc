-- What a tree says of its leaves and of its inner rows.
use Rattle.mt_life.proofs.Prelude.{◌≡◌, ◌⊎◌, ℕ, suc, ◌+◌, ◌-◌, ◌<◌, ◌≤◌, List, [], ◌∷◌, ◌++◌, map, refl, sym, ap, ◌∙◌, subst, inl, inr, arith, AllByRecursion, flat_map, flat_map-append, Range, deepest, Span, leaf_range, Fills, spans_in, root_span, expand, level, map_of, map_in, height_in, Tree, IsRow, Stands, top_of, root_of, all_map, all_front, all_back, all_join, fills_le, expand-append, fills_split, Between, leaf_between, map_between, level_next, map_of_split, levels_upper, level_rows, level_fills, ranges_by_depth, IsOneOf, parts_of_one, one_of_expand, OnLevel, words, height_is, all_of_each, Cut, PartOf, moment_of, first_index}

all_mapped : {A B : Type 0} (P : B → Type 0) (f : A → B) (xs : List A) → AllByRecursion (λ (x : A). P (f x)) xs → AllByRecursion P (map f xs)
all_mapped P f [] each = tt
all_mapped P f (x ∷ xs) each = (each.0, all_mapped P f xs each.1)

firsts_parts : (front : List Span) (x : Span) (back : List Span) → map first_index (front ++ (x ∷ back)) ≡ map first_index front ++ (x.first ∷ map first_index back)
firsts_parts [] x back = refl
firsts_parts (y ∷ front) x back = ap (λ (l : List ℕ). y.first ∷ l) (firsts_parts front x back)

firsts_below : (lo hi top : ℕ) (xs : List Span) → hi ≤ top → Fills lo hi xs → AllByRecursion (λ (x : Span). x.first ≤ top) xs
firsts_below lo hi top [] le fills = tt
firsts_below lo hi top (x ∷ xs) le fills = (
  (let begins = fills.0 in let ends = fills.1 in let rest = fills_le (x.last + 1) hi xs fills.2 in omega arith),
  firsts_below (x.last + 1) hi top xs le fills.2,
)

firsts_above : (lo hi low : ℕ) (xs : List Span) → low ≤ lo → Fills lo hi xs → AllByRecursion (λ (x : Span). low ≤ x.first) xs
firsts_above lo hi low [] le fills = tt
firsts_above lo hi low (x ∷ xs) le fills = (
  (let begins = fills.0 in omega arith),
  (let ends = fills.1 in firsts_above (x.last + 1) hi low xs (omega arith) fills.2),
)

-- a span among spans end to end lies between two neighbouring cuts
cut_here : (lo hi : ℕ) (front : List Span) (x : Span) (back : List Span) → Fills lo hi (front ++ (x ∷ back)) → Cut (map first_index (front ++ (x ∷ back))) x.first x.last
cut_here lo hi front x back fills =
    let split = fills_split lo hi front x back fills in
    let at : ℕ → Type 0 = λ c. (c ≤ x.first) ⊎ (x.last < c) in
    record {
      before = map first_index front;
      after = map first_index back;
      begins = firsts_parts front x back;
      apart = all_mapped at first_index (front ++ (x ∷ back)) (all_join (λ (y : Span). at y.first) front (x ∷ back)
          (all_map (λ (y : Span). y.first ≤ x.first) (λ (y : Span). at y.first) (λ y low. inl low) front (firsts_below lo x.first x.first front (omega arith) split.0))
          (inl (omega arith), all_map (λ (y : Span). x.last + 1 ≤ y.first) (λ (y : Span). at y.first) (λ y high. inr (omega arith)) back (firsts_above (x.last + 1) hi (x.last + 1) back (omega arith) split.2)));
    }

module _ (t : Tree) (h : ℕ) (stands : Stands t h) where
  level_filled : (d k : ℕ) → h ≡ d + k → Fills 0 (top_of t + 1) (level t.table d (root_of t))
  level_filled d k height = level_fills t d k 0 (top_of t + 1) (root_of t) (levels_upper (IsRow t) t.table d k h (root_of t) height stands.rows) (refl, omega arith, refl)

  pub map_is : map_in t.table t.root ≡ map_of t.table h (root_of t)
  map_is = ranges_by_depth t deepest h (root_span t.table t.root) stands.low stands.rows

  leaf_parts : (x : Span) (front back : List Span) → level t.table h (root_of t) ≡ front ++ (x ∷ back) → PartOf (moment_of (words t h stands)) x.first x.last (flat_map leaf_range (spans_in t.table x))
  leaf_parts x front back parts =
      let fills = subst (Fills 0 (top_of t + 1)) parts (level_filled h 0 (omega arith)) in
      let split = fills_split 0 (top_of t + 1) front x back fills in
      let rows = subst (AllByRecursion (IsRow t 0)) parts (level_rows (IsRow t) t.table h 0 h (root_of t) (omega arith) stands.rows) in
      let below = map_between t 0 0 x.first front (all_front (IsRow t 0) front (x ∷ back) rows) split.0 in
      let above = map_between t 0 (x.last + 1) (top_of t + 1) back (all_back (IsRow t 0) front (x ∷ back) rows).1 split.2 in
      let ranges : List Span → List Range = λ xs. flat_map leaf_range xs in
      let joined : map_in t.table t.root ≡ ranges (expand t.table front) ++ (ranges (spans_in t.table x) ++ ranges (expand t.table back)) =
      map_is ∙ (map_of_split t.table h 0 h (root_of t) (omega arith)
      ∙ (ap (λ (xs : List Span). ranges (expand t.table xs)) parts
      ∙ (ap ranges (expand-append t.table front (x ∷ back))
      ∙ (flat_map-append leaf_range (expand t.table front) (expand t.table (x ∷ back))
      ∙ ap (λ (rs : List Range). ranges (expand t.table front) ++ rs) (flat_map-append leaf_range (spans_in t.table x) (expand t.table back)))))) in
      let tall : height_in t.table t.root - 1 ≡ h = let is = height_is t h stands in omega arith in
      record {
        ranges = record {
          front = ranges (expand t.table front);
          back = ranges (expand t.table back);
          joined = joined;
          within = all_map (Between x.first (x.last + 1)) (λ (r : Range). (x.first ≤ r.first) × (r.last ≤ x.last)) (λ r between. let ends = between.2 in (between.0, omega arith)) (ranges (spans_in t.table x))
              (leaf_between x.first (x.last + 1) (spans_in t.table x) (all_back (IsRow t 0) front (x ∷ back) rows).0.pivots.fills);
          below = all_map (Between 0 x.first) (λ (r : Range). r.last < x.first) (λ r between. between.2) (ranges (expand t.table front)) below;
          above = all_map (Between (x.last + 1) (top_of t + 1)) (λ (r : Range). x.last < r.first) (λ r between. let low = between.0 in omega arith) (ranges (expand t.table back)) above;
        };
        cuts = subst (λ (cuts : List ℕ). Cut cuts x.first x.last) (ap (map first_index) (sym parts) ∙ ap (λ (d : ℕ). map first_index (level t.table d (root_of t))) (sym tall)) (cut_here 0 (top_of t + 1) front x back fills);
      }

  -- a leaf lies between two cuts, and has what the map has there
  pub leaf_part : (x : Span) → OnLevel t.table h (root_of t) 0 x → PartOf (moment_of (words t h stands)) x.first x.last (flat_map leaf_range (spans_in t.table x))
  leaf_part x on =
      let deep : on.depth ≡ h = let height = on.height in omega arith in
      let parts = parts_of_one (level t.table h (root_of t)) x (subst (λ (d : ℕ). IsOneOf x (level t.table d (root_of t))) deep on.one) in
      leaf_parts x parts.0 parts.1 parts.2

  -- what stands in an inner row stands one level lower
  pub children_stand : (k : ℕ) (x : Span) → OnLevel t.table h (root_of t) (suc k) x → AllByRecursion (OnLevel t.table h (root_of t) k) (spans_in t.table x)
  children_stand k x on = all_of_each (OnLevel t.table h (root_of t) k) (spans_in t.table x) (λ y one. record {
    depth = suc on.depth;
    height = let height = on.height in omega arith;
    one = subst (IsOneOf y) (sym (level_next t.table on.depth (root_of t))) (one_of_expand t.table (level t.table on.depth (root_of t)) x y on.one one);
  })
