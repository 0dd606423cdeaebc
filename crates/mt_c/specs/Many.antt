-- Many look-ups and many steps of a walk in one call, as C has them: they return what that many single calls would have
-- returned.
-- Source: this project's own; the kernel is asked for one index, or one range, at a time.
use Rattle.std.specs.Prelude.{◌≡◌, ℕ, List, Option, Some, None, length, take}
use Rattle.mt_engine.specs.Batches.{PutSteps, Stepped, entries_at, put_first, steps_by}
use Rattle.mt_c.specs.Prelude.{map_by}
use Rattle.mt_c.specs.declared.told.OutRange.{OutRange}
use Rattle.mt_c.specs.declared.steps.OutWalk.{OutWalk}
use Rattle.mt_c.specs.Own.{OwnTree}
use Rattle.mt_c.specs.Calls.{IsAsked, many_status, range_out}
use Rattle.mt_c.specs.Walking.{last_index_of, walk_from, walk_index, walk_start}

-- ---- look-ups

-- The entries at these indexes are in the first places, one for each, as far as there are places; the others are unchanged. So is
-- the place that the tree keeps of its last walk. A closed tree is EBADF, and all places are unchanged.
abbrev pub LoadedMany : List ℕ → Option OwnTree → Option OwnTree → ℕ → List ℕ → List ℕ → Type 0
LoadedMany indexes None after status out out' = (after ≡ None) × (status ≡ 9) × (out' ≡ out)
LoadedMany indexes (Some t) None status out out' = ⊥
LoadedMany indexes (Some t) (Some t') status out out' =
    IsAsked t.engine t'.engine × (t'.place ≡ t.place) × (status ≡ 0) × (out' ≡ put_first (entries_at (map_by t.engine.sheet.tree) (take (length out) indexes)) out)

-- ---- steps of a walk

-- what this many steps find from an index on, and where they leave the walk
abbrev pub tree_steps : OwnTree → ℕ → Option ℕ → Stepped
tree_steps t most from = steps_by t.engine.sheet.tree most (walk_start (last_index_of t) from)

-- As many steps as there are places, from an index: the ranges that they find are in the first places, and are counted. The
-- tree keeps the place after them.
pub record HasSteppedMany (t t' : OwnTree) (from : Option ℕ) (out out' : List OutRange) (count : ℕ) : Type 0 where
  pub rest : IsAsked t.engine t'.engine
  pub put : PutSteps range_out (tree_steps t (length out) from) out out' count t'.place.next

-- If none was found and the walk has ended, that is ENOENT. With no place it goes on from where it was, or has ended if that is
-- above the tree's greatest index. A closed tree is EBADF, and the walk and all places are unchanged.
abbrev pub SteppedMany : OutWalk → Option OwnTree → Option OwnTree → ℕ → List OutRange → List OutRange → ℕ → OutWalk → Type 0
SteppedMany walk None after status out out' count walk' = (after ≡ None) × (status ≡ 9) × (out' ≡ out) × (count ≡ 0) × (walk' ≡ walk)
SteppedMany walk (Some t) None status out out' count walk' = ⊥
SteppedMany walk (Some t) (Some t') status out out' count walk' =
    HasSteppedMany t t' (walk_index walk) out out' count × (status ≡ many_status count t'.place.next) × (walk' ≡ walk_from t'.place.next)
