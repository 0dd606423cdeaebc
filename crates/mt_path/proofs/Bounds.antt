-- The rows on a path end at the greatest index or below. For the proofs of the crates above, too.
use Rattle.mt_path.proofs.Prelude.{◌≡◌, ◌≢◌, ℕ, ◌+◌, ◌-◌, ◌<◌, ◌≤◌, List, length, sym, ap, subst, last_step, inl, inr, arith, Kind, greatest, deepest, named_kind, root_span, Rooted, IsTreeOf, tree_as, PathStep, path_in, step_at}
use Rattle.mt_rows.specs.Laws as laws
use Rattle.mt_path.proofs.Places.{at_within}
use Rattle.mt_path.proofs.Steps.{path_of_none}
use Rattle.mt_path.proofs.TreePaths.{rows_at, row_of, step_of, levels, step, place}

-- the last index of a step and the first
pub record Inside (top : ℕ) (s : PathStep) : Type 0 where
  pub min : s.min ≤ top
  pub max : s.max ≤ top

inside_by : (t : laws.Tree) (index level : ℕ) → laws.IsTree t → index ≤ laws.top_of t → level < length (path_in t.table t.root index) → Inside (laws.top_of t) (step_of t level index)
inside_by t index level (inl empty) within low =
    let none = ap length (path_of_none t.table deepest (root_span t.table t.root) index (ap named_kind empty)) in
    absurd (omega (arith, none, low))
inside_by t index level (inr (h, stands)) within low =
    let long = levels t h stands index within in
    let below : level ≤ h = omega (arith, long, low) in
    let at = place t h stands index level within below in
    let from = at.from in
    let ends = at_within 0 (laws.top_of t + 1) (rows_at t level) index (row_of t level index) at in
    let end = ends.1 in
    subst (Inside (laws.top_of t)) (sym (step t h stands index level within below)) (record { min = omega arith; max = omega arith })

pub inside : (t : Rooted) (kind : Kind) (index level : ℕ) (steps : List PathStep) → IsTreeOf t kind → index ≤ greatest t.table.width → steps ≡ path_in t.table t.root index → level < length steps
    → Inside (greatest t.table.width) (step_at steps level)
inside t kind index level steps tree within is low =
    subst (λ (l : List PathStep). Inside (greatest t.table.width) (step_at l level)) (sym is)
    (inside_by (tree_as kind t) index level tree.words within (subst (λ (l : List PathStep). level < length l) is low))

-- the index behind the last leaf of a path is one of the tree, if the leaf does not end it
pub next_within : (t : Rooted) (kind : Kind) (index : ℕ) (steps : List PathStep) (leaf : PathStep) → IsTreeOf t kind → index ≤ greatest t.table.width → steps ≡ path_in t.table t.root index → 0 < length steps
    → leaf ≡ last_step steps → (last_step steps).max ≢ greatest t.table.width → leaf.max + 1 ≤ greatest t.table.width
next_within t kind index steps leaf tree within is some last more =
    let end = (inside t kind index (length steps - 1) steps tree within is (omega (arith, some))).max in
    let max = ap (λ (s : PathStep). s.max) last in
    omega (arith, end, max, more)
