-- A walk over the ranges of a tree, in rising order: which range comes next, and where the walk then is.
-- Source: the kernel's include/linux/maple_tree.h, mas_for_each, whose mas_find goes on in the leaf where it is.
use Rattle.std.specs.Prelude.{◌≡◌, ◌≢◌, ◌⊎◌, ◌==◌, ℕ, ◌+◌, ◌≤◌, nat_le, List, [], Option, Some, None, IfSome, if◌then◌else◌, option_map}
use Rattle.mt_engine.specs.Prelude.{Range, Find, answer, greatest, Rooted, Sheet, ReadsUpTo, Handle, PathStep, IsHandleOf, path_in, last_step}
use Rattle.mt_engine.specs.MapSpans.{range_of}
use Rattle.mt_engine.specs.declared.range_walk.RangeWalk.{RangeWalk}

-- the range that comes next where a walk goes on from an index: what a find answers from there on; none at the end
abbrev pub found_from : List Range → ℕ → Option ℕ → Option Range
found_from m top None = None
found_from m top (Some index) = answer m (Find index top)

-- the index, where it is one of a tree that ends there
abbrev pub index_in : ℕ → ℕ → Option ℕ
index_in top index = if nat_le index top then Some index else None

-- the index after a range, if there is one
abbrev pub index_behind : ℕ → Option Range → Option ℕ
index_behind top None = None
index_behind top (Some r) = if r.last == top then None else Some (r.last + 1)

-- the range in a slot
abbrev pub range_at : Option Handle → Option Range
range_at here = option_map (λ (h : Handle). range_of h.span) here

-- If the slot that was returned last does not end its leaf, at most this many words were loaded: the pivots and the slots of
-- two.
abbrev pub StepsWithin : RangeWalk → Sheet → Sheet → Type 0
StepsWithin walk s s' = IfSome walk.last (λ handle. handle.span.last ≢ handle.leaf.max → ReadsUpTo 4 s s')

-- The walk is one of this tree as it is. It goes on from an index right after the slot that it returned last.
pub record WalksFrom (t : Rooted) (walk : RangeWalk) : Type 0 where
  pub within : IfSome walk.next (λ index. index ≤ greatest t.table.width)
  pub given : IfSome walk.last (λ handle. IsHandleOf t handle × IfSome walk.next (λ index. index ≡ handle.span.last + 1))

-- where a walk goes on that returned this slot last
abbrev pub walk_after : Rooted → Handle → RangeWalk
walk_after t h = record { next = index_behind (greatest t.table.width) (range_at (Some h)); last = Some h }

-- the way leads to a leaf, by whatever slot of it
pub record LeadsToLeaf (t : Rooted) (way : List PathStep) (leaf : PathStep) : Type 0 where
  pub index : ℕ
  pub within : index ≤ greatest t.table.width
  pub is : way ≡ path_in t.table t.root index
  pub ends : (last_step way).max ≡ leaf.max

-- no way is kept, or one to the leaf
abbrev pub IsWayOrNone : Rooted → List PathStep → PathStep → Type 0
IsWayOrNone t way leaf = (way ≡ []) ⊎ LeadsToLeaf t way leaf
