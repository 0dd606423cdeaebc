-- Walks by ranges, as C has them: a walk is an index to go on from, which C keeps.
-- Source: the kernel's include/linux/maple_tree.h, mas_for_each.
use Rattle.std.specs.Prelude.{◌≡◌, ℕ, ◌==◌, Option, Some, None, IfSome, if◌then◌else◌}
use Rattle.mt_c.specs.Prelude.{Range, greatest, map_by, found_from, index_behind, index_in, StepsWithin}
use Rattle.mt_c.specs.declared.told.OutRange.{OutRange}
use Rattle.mt_c.specs.declared.steps.OutWalk.{OutWalk}
use Rattle.mt_c.specs.Own.{OwnTree}
use Rattle.mt_c.specs.Calls.{IsAsked, found_status, no_range, out_of}

-- the index from which a walk goes on; none where it has ended
abbrev pub walk_index : OutWalk → Option ℕ
walk_index walk = if walk.ended == 0 then Some walk.next else None

-- the walk that goes on from there
abbrev pub walk_from : Option ℕ → OutWalk
walk_from None = record { next = 0; ended = 1 }
walk_from (Some index) = record { next = index; ended = 0 }

abbrev pub last_index_of : OwnTree → ℕ
last_index_of t = greatest t.engine.sheet.tree.table.width

-- the index from which a walk goes on if a tree's indexes end at `top`: there is none above it
abbrev pub walk_start : ℕ → Option ℕ → Option ℕ
walk_start top None = None
walk_start top (Some index) = index_in top index

-- One step from an index: the range is the first that ends there or above. The tree keeps the place after it. If it had kept
-- the place from which the walk goes on, a step within a leaf loads no path from the root.
pub record IsStepped (t t' : OwnTree) (from : Option ℕ) (found : Option Range) : Type 0 where
  pub rest : IsAsked t.engine t'.engine
  pub range : found ≡ found_from (map_by t.engine.sheet.tree) (last_index_of t) (walk_start (last_index_of t) from)
  pub place : t'.place.next ≡ index_behind (last_index_of t) found
  pub near : t.place.next ≡ from → IfSome found (λ _. StepsWithin t.place t.engine.sheet t'.engine.sheet)

-- A step of a walk on what C keeps: the walk goes on after the range that is returned, and has ended if there is none. A closed
-- tree is EBADF, and the walk is as it was.
abbrev pub HasSteppedOn : OutWalk → Option OwnTree → Option OwnTree → ℕ → OutRange → OutWalk → Type 0
HasSteppedOn walk None after status out walk' = (after ≡ None) × (status ≡ 9) × (out ≡ no_range) × (walk' ≡ walk)
HasSteppedOn walk (Some t) None status out walk' = ⊥
HasSteppedOn walk (Some t) (Some t') status out walk' =
    (found : Option Range) × IsStepped t t' (walk_index walk) found × (status ≡ found_status found) × (out ≡ out_of found) × (walk' ≡ walk_from (index_behind (last_index_of t) found))
