-- What a step of a walk does to its handle and to the walk, whether the caller keeps both or a cursor does.
-- Source: the kernel's documentation of the maple tree, mas_find over a struct ma_state that the caller keeps.
use Rattle.std.specs.Prelude.{◌≡◌, ◌⊎◌, ℕ, ◌+◌, ◌≤◌, IfSome, Option, None, Some}
use Rattle.mt_tree.specs.Prelude.{Range, Cursor, HasStepped, IsCursorOf, IsOver, IsOverPlace, LeafWasMarked, MarksKeptLeaf, epoch_or, place_behind, find_at, part_of, Read}
use Rattle.mt_base.specs.Passes as known
use Rattle.mt_tree.specs.declared.trees.Tree.{Tree}
use Rattle.mt_tree.specs.Trees.{Pass, Takes, pass_in, steps_made, opened}

-- The walk is of this handle: its section is open, if the walk opened one.
abbrev pub IsWalkOf : Pass → Cursor → Type 0
IsWalkOf p w = IsCursorOf (part_of p) w

-- The walk went on by one range, read in a section that is then open, and is now after that range. It took few steps if it went
-- on from a leaf that it kept, unless that was then found marked as dead.
pub record HasWalked (t : Tree) (p : Pass) (w : Cursor) (r : Read (Option Range)) (q : Pass) (w' : Cursor) : Type 0 where
  pub read : (k : ℕ) × known.Read (opened t) (pass_in p) r.lo r.hi k (find_at w.at w.max) r.value (pass_in q)
  pub section : HasStepped r.lo r.hi w.epoch (pass_in p) (pass_in q)
  pub at : w'.at ≡ place_behind r.value w.max
  pub max : w'.max ≡ w.max
  pub epoch : w'.epoch ≡ Some (epoch_or w.epoch r.lo)
  pub leaf : IfSome r.value (λ range. IsOver w'.leaf range.last)
  pub lo : (w'.leaf ≡ w.leaf) ⊎ IfSome w'.leaf (λ kept. kept.lo ≡ r.lo)
  pub marks : MarksKeptLeaf w.leaf w.at r.hi (part_of p) (part_of q)
  pub short : IsOverPlace w.leaf w.at → (steps_made q ≤ steps_made p + 40) ⊎ LeafWasMarked w.leaf w.at r.hi (part_of p) (part_of q)
  pub takes : Takes 220 p q

-- The section of the walk was closed by one step, and its place is kept alone.
pub record HasHalted (p : Pass) (w : Cursor) (q : Pass) (w' : Cursor) : Type 0 where
  pub closed : pass_in q ≡ record (pass_in p) { standing = None }
  pub same : w' ≡ record w { leaf = None; epoch = None }
  pub takes : Takes 1 p q
