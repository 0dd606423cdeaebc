use Rattle.mt_life.proofs.Prelude.{ℕ, suc, ◌+◌, AllByRecursion, Kind, Span, Fills, spans_in, NameLaw, Stands, tree_as, StandsAt, root_of, Rooted, all_map, OnLevel, on_level, on_level_law, stands_at}
use Rattle.mt_life.proofs.Reaching.{shape_here}
use Rattle.mt_life.proofs.Parts.{leaf_part, children_stand}
use Rattle.mt_life.proofs.laws.a_tree_is_in_parts.Goals as goal

inner_parts : (kind : Kind) (h k : ℕ) (t : Rooted) (x : Span) → Stands (tree_as kind t) h → StandsAt t (suc k) x
    → Fills x.first (x.last + 1) (spans_in t.table x) × AllByRecursion (λ (y : Span). StandsAt t k y × NameLaw (tree_as kind t) k y) (spans_in t.table x)
inner_parts kind h k t x stands at =
    let on = on_level (tree_as kind t) h stands (suc k) x at in (
      (on_level_law (tree_as kind t) h stands (suc k) x on).pivots.fills,
      all_map (OnLevel t.table h (root_of (tree_as kind t)) k) (λ (y : Span). StandsAt t k y × NameLaw (tree_as kind t) k y)
          (λ y on. (stands_at (tree_as kind t) h stands on.depth k y on.height on.one, (on_level_law (tree_as kind t) h stands k y on).name)) (spans_in t.table x)
          (children_stand (tree_as kind t) h stands k x on),
    )

pub returns : goal.returns
returns c = record {
  low = λ kind h t stands. stands.low;
  leaf = λ kind h t x stands at. leaf_part (tree_as kind t) h stands x (on_level (tree_as kind t) h stands 0 x at);
  inner = inner_parts;
  shape = λ kind h k t x stands at. shape_here kind t k x (on_level_law (tree_as kind t) h stands k x (on_level (tree_as kind t) h stands k x at));
}
