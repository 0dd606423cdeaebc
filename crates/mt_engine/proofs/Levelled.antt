-- How many levels, rows and ranges a lawful tree has.
use Rattle.mt_engine.proofs.Prelude.{◌≡◌, ℕ, zero, suc, ◌+◌, ◌-◌, ◌*◌, ◌^◌, ◌<◌, ◌≤◌, List, [], length, ap, subst, inl, inr, arith, ◌↔◌, pow-succ', Kind, Range, deepest, root_span, map_in, reached_in, height_in, IsTree, Rooted, tree_as, IsTreeOf, map_by, height_by_depth, few_rows, row_on_each_level, many_ranges}

pub record Levelled (height rows : ℕ) (m : List Range) : Type 0 where
  pub low : height ≤ deepest
  pub flat : (height ≡ 0) ↔ (m ≡ [])
  pub tall : 2 ≤ height → 3 * 4 ^ (height - 1) ≤ 2 * length m + 1
  pub each : height ≤ rows
  pub none : (rows ≡ 0) ↔ (m ≡ [])
  pub half : 2 * rows ≤ length m + 4

of_nothing : (height rows : ℕ) (m : List Range) → height ≡ 0 → rows ≡ 0 → m ≡ [] → Levelled height rows m
of_nothing height rows m flat none empty = record {
  low = omega (arith, flat);
  flat = (λ _. empty, λ _. flat);
  tall = λ two. absurd (omega (arith, flat, two));
  each = omega (arith, flat);
  none = (λ _. empty, λ _. none);
  half = omega (arith, none);
}

some_ranges : (m : List Range) → 1 ≤ length m → m ≡ [] → ⊥
some_ranges m some empty = (let none : length m ≡ 0 = ap (λ (l : List Range). length l) empty in omega (arith, some, none))

of_levels : (h height rows : ℕ) (m : List Range) → h < deepest → height ≡ h + 1 → h + 1 ≤ rows → 2 * rows ≤ length m + 4 → 3 * 4 ^ h ≤ 2 * length m + 1 → 1 ≤ length m → Levelled height rows m
of_levels h height rows m low is each half many some = record {
  low = omega (arith, low, is);
  flat = (λ flat. absurd (omega (arith, flat, is)), λ empty. absurd (some_ranges m some empty));
  tall = λ _. subst (λ (n : ℕ). 3 * 4 ^ n ≤ 2 * length m + 1) (let one : h ≡ height - 1 = omega (arith, is) in one) many;
  each = omega (arith, is, each);
  none = (λ none. absurd (omega (arith, none, each)), λ empty. absurd (some_ranges m some empty));
  half = half;
}

one_at_least : (h n : ℕ) → 3 * 4 ^ h ≤ 2 * n + 1 → 1 ≤ n
one_at_least h zero many = absurd (less (4 ^ h) (pow_pos h) many)
  where
    pow_pos : (h : ℕ) → 1 ≤ 4 ^ h
    pow_pos zero = omega arith
    pow_pos (suc h) = rw (pow-succ' 4 h) (let some = pow_pos h in omega (arith, some))

    less : (p : ℕ) → 1 ≤ p → 3 * p ≤ 1 → ⊥
    less p some many = omega (arith, some, many)
one_at_least h (suc n) many = omega arith

pub levelled : (t : Rooted) (kind : Kind) → IsTreeOf t kind → Levelled (height_in t.table t.root) (length (reached_in t.table t.root)) (map_by t)
levelled t kind tree = by tree.words
  where
    by : IsTree (tree_as kind t) → Levelled (height_in t.table t.root) (length (reached_in t.table t.root)) (map_by t)
    by (inl empty) =
        of_nothing (height_in t.table t.root) (length (reached_in t.table t.root)) (map_by t)
        (ap (λ (root : ℕ). height_in t.table root) empty) (ap (λ (root : ℕ). length (reached_in t.table root)) empty) (ap (λ (root : ℕ). map_in t.table root) empty)
    by (inr (h, at)) =
        let few = few_rows (tree_as kind t) h at in
        let many = many_ranges (tree_as kind t) h at in
        of_levels h (height_in t.table t.root) (length (reached_in t.table t.root)) (map_by t) at.low
        (height_by_depth (tree_as kind t) deepest h (root_span t.table t.root) at.low at.rows) (row_on_each_level (tree_as kind t) h at) (omega (arith, few)) many (one_at_least h (length (map_by t)) many)
