-- How far a walk over a shared tree's ranges has come, and what a step does to it.
-- Source: the kernel's documentation of the maple tree, mas_for_each, whose state is kept from range to range.
use Rattle.std.specs.Prelude.{◌≡◌, ◌≢◌, ℕ, ◌+◌, ◌≤◌, List, [], ◌∷◌, ◌++◌, Option, Some, None, length}
use Rattle.mt_desks.specs.Prelude.{Range, History, Pass, Read, find_at, place_behind}

-- The tree as it opened. Which reference to its handle the walk has, what that handle knows, and how many steps it has made
-- without the lock. Where the walk goes on, and its bound. The section that is open for the handle is the walk's own.
pub record Walk : Type 0 where
  pub history : History
  pub reference : ℕ
  pub pass : Pass
  pub steps : ℕ
  pub at : Option ℕ
  pub max : ℕ

-- the epochs of a handle's sections after a read at `lo`, which opens a section only if none is open
abbrev pub opened_at : ℕ → Option ℕ → List ℕ → List ℕ
opened_at lo None opened = opened ++ lo ∷ []
opened_at lo (Some epoch) opened = opened

-- A read of the walk, in few steps. It has opened its section if that was not open, and no other. The section is open then.
pub record HasWalkedOn (lo hi : ℕ) (value : Option Range) (w w' : Walk) : Type 0 where
  pub is : w' ≡ record w { pass = w'.pass; steps = w'.steps; at = place_behind value w.max }
  pub k : ℕ
  pub read : Read w.history w.pass lo hi k (find_at w.at w.max) value w'.pass
  pub few : w'.steps ≤ w.steps + 220
  pub opened : w'.pass.opened ≡ opened_at lo w.pass.standing w.pass.opened
  pub stands : w'.pass.standing ≢ None

-- The handle has opened at most one section.
pub record OpensOnce (p q : Pass) : Type 0 where
  pub epochs : List ℕ
  pub opened : q.opened ≡ p.opened ++ epochs
  pub once : length epochs ≤ 1
