-- Handles of a tree that meet under its lock: each then sees its whole history.
-- Source: this project's own.
use Rattle.std.specs.Prelude.{◌≡◌, ℕ, ◌<◌, All, List, Some, length, slice_get}
use Rattle.mt_tree.specs.Prelude.{Record, PenPart, WasShown}
use Rattle.mt_base.specs.Passes as known
use Rattle.mt_tree.specs.declared.trees.Tree.{Tree}
use Rattle.mt_tree.specs.Trees.{Pass, pass_in, opened, passes_of, place_of}

-- the pen of this tree has shown to a handle what it knows
abbrev pub Shown : Tree → PenPart → known.Pass → known.Pass → Type 0
Shown t pen p q = WasShown (opened t) pen p q × (pen.shape ≡ (place_of t).shape)

-- it has shown it to each of these handles
pub record AreShown (t : Tree) (pen : PenPart) (ps qs : List Pass) : Type 0 where
  pub count : length qs ≡ length ps
  pub each : (i : ℕ) (p q : Pass) → slice_get ps i ≡ Some p → slice_get qs i ≡ Some q → Shown t pen (pass_in p) (pass_in q)

-- These handles have met: each has then seen the same calls, which are all that the tree has had, and their number. Each call
-- is of a handle of the tree, by its number.
pub record HaveMet (t : Tree) (ps qs : List known.Pass) (calls : ℕ) : Type 0 where
  pub count : length qs ≡ length ps
  pub history : List Record
  pub all : length history ≡ calls
  pub callers : All (λ r. r.pass < passes_of t) history
  pub each : (i : ℕ) (p q : known.Pass) → slice_get ps i ≡ Some p → slice_get qs i ≡ Some q → known.Saw (opened t) p q × (q.seen ≡ history)
