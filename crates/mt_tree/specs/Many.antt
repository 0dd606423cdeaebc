-- Many look-ups in one read-side section, and many steps of a walk in one, each with one window (version interval) for all.
-- Source: this project's own; the kernel's readers ask for one index, or one range, at a time.
use Rattle.std.specs.Prelude.{◌≡◌, ◌⊎◌, ℕ, ◌+◌, ◌*◌, ◌++◌, List, IfSome, Some, length, min, drop}
use Rattle.mt_tree.specs.Prelude.{Range, Cursor, HasStepped, epoch_or, part_of, Read, HasRead}
use Rattle.mt_base.specs.Passes as known
use Rattle.mt_read.specs.Leaves.{WentByLeaves, stand}
use Rattle.mt_read.specs.Many.{EntriesPut, HasFound, ReadAt}
use Rattle.mt_tree.specs.declared.trees.Tree.{Tree}
use Rattle.mt_tree.specs.Trees.{Pass, Takes, pass_in, opened}

-- The entries at the first of these indexes were put, as many as there are places for. Each is that of a read of the one
-- window. The handle has opened one section, where the window begins, and closed it.
pub record HasLoadedMany (t : Tree) (p : known.Pass) (indexes old : List ℕ) (r : Read ℕ) (new : List ℕ) (q : known.Pass) : Type 0 where
  pub count : r.value ≡ min (length indexes) (length old)
  pub entries : EntriesPut (ReadAt (opened t) p r.lo r.hi q) r.lo r.hi r.value indexes old new
  pub section : HasRead r.lo r.hi p q

-- The walk found these ranges, with room for `room`. Each is that of a read of the one window, in the section of the walk,
-- which is then open. It went from leaf to leaf, and took few steps a range from a place that the leaf at hand covers.
pub record HasWalkedMany (t : Tree) (p : Pass) (w : Cursor) (room : ℕ) (found : List Range) (r : Read ℕ) (q : Pass) (w' : Cursor) : Type 0 where
  pub count : r.value ≡ length found
  pub ranges : HasFound (ReadAt (opened t) (pass_in p) r.lo r.hi (pass_in q)) w.max r.lo r.hi w.at room found w'.at
  pub section : HasStepped r.lo r.hi w.epoch (pass_in p) (pass_in q)
  pub max : w'.max ≡ w.max
  pub epoch : w'.epoch ≡ Some (epoch_or w.epoch r.lo)
  pub lo : (w'.leaf ≡ w.leaf) ⊎ IfSome w'.leaf (λ kept. kept.lo ≡ r.lo)
  pub looked : (few : ℕ) × WentByLeaves (part_of q) r.lo r.hi w.max (stand w.leaf w.at (part_of p).marks) room found few (stand w'.leaf w'.at (part_of q).marks) × Takes (few + 3) p q
  pub takes : Takes (198 * room + 3) p q
  pub few : Takes (198 * length found + 201) p q

-- They are the first elements of a list, whose others are unchanged.
pub record HasPutMany (t : Tree) (p : Pass) (w : Cursor) (old : List Range) (r : Read ℕ) (new : List Range) (q : Pass) (w' : Cursor) : Type 0 where
  pub found : List Range
  pub walked : HasWalkedMany t p w (length old) found r q w'
  pub put : new ≡ found ++ drop r.value old
