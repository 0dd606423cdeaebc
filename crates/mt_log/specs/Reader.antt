-- What a reader knows of what it read so far, and of what a good line may add.
-- Source: this project's own, the language of logs.
use Rattle.std.specs.Prelude.{◌≡◌, ◌<◌, ◌≤◌, ◌+◌, ◌-◌, ℕ, false, List, [], ◌∷◌, None, length, map}
use Rattle.mt_log.specs.declared.lines.Item.{Item}
use Rattle.mt_log.specs.declared.lines.Item.TheVariants.{Tree, Dup}
use Rattle.mt_log.specs.declared.lines.Line.{Line}
use Rattle.mt_log.specs.declared.trees.KnownTree.{KnownTree}
use Rattle.mt_log.specs.Phases.{IsInPlace, stepped_from}
use Rattle.mt_log.specs.Reading.{ReadSoFar, most_scan_steps, declared_place, scan_steps_of}
use Rattle.mt_log.specs.Trees.{IsReadable, NamesBelow, most_trees, trees_of}

-- the least number of a line after these, if it was this one before them
abbrev pub least_behind : ℕ → List Line → ℕ
least_behind least [] = least
least_behind least (line ∷ lines) = least_behind (line.number + 1) lines

pub record IsSoundReading (read : ReadSoFar) : Type 0 where
  pub readable : IsReadable read.lines
  pub above : least_behind 2 read.lines ≤ read.next
  pub stepped : stepped_from false read.lines ≡ read.stepped
  pub known : map (λ d. d.tree) (trees_of read.lines) ≡ read.trees

-- a line that declares a tree has fewer than the greatest number of trees before it, and its name is new
abbrev pub HasTreeRoom : List KnownTree → Item → Type 0
HasTreeRoom trees (Tree name kind) = (length trees < most_trees) × (declared_place trees name ≡ None)
HasTreeRoom trees (Dup from name) = (length trees < most_trees) × (declared_place trees name ≡ None)
HasTreeRoom trees item = Unit {0}

-- A line that says this may follow. The trees that it names are declared, it is in its place, and there is room for the tree
-- that it declares. If it is a scan, its steps are no more than the scans before it have left.
pub record MayFollow (read : ReadSoFar) (item : Item) : Type 0 where
  pub named : NamesBelow (length read.trees) item
  pub placed : IsInPlace read.stepped item
  pub trees : HasTreeRoom read.trees item
  pub scans : scan_steps_of item ≤ most_scan_steps - read.scanned
