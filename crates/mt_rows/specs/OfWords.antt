-- Nodes in memory that are made of given words.
-- Source: this project's own.
use Rattle.std.specs.Prelude.{◌≡◌, ℕ, ◌+◌, ◌*◌, ◌/◌, ◌<◌, ◌≤◌, List, ◌++◌, length, replicate, if◌then◌else◌}
use Rattle.mt_rows.specs.Prelude.{Kind, Width, columns, first_row}
use Rattle.mt_rows.specs.declared.rows.Life.TheVariants as lives
use Rattle.mt_rows.specs.Trees.{reached_in}
use Rattle.mt_rows.specs.Sheet.{Sheet, Rooted, life_of}
use Rattle.mt_rows.specs.Publish.{IsLawfulOf, is_reached}
use Rattle.mt_rows.specs.Plain.{new_sheet}

abbrev pub tree_made : Width → ℕ → List ℕ → Rooted
tree_made width root words = record {
  rows = length words / columns width;
  table = record { width = width; words = replicate (columns width * first_row) 0 ++ words };
  root = root;
}

-- The nodes hold these words from the first on, and no call was begun. Where the words are well-formed, the nodes that are
-- reached from the root word are live, and all others are new.
pub record IsMadeOf (width : Width) (root : ℕ) (words : List ℕ) (s : Sheet) : Type 0 where
  pub rest : s ≡ record (new_sheet width (length words / columns width)) { tree = tree_made width root words; lives = s.lives; opened = s.opened }
  pub lives : (kind : Kind) → IsLawfulOf s.tree kind → (row : ℕ) → first_row ≤ row → row < first_row + s.tree.rows → life_of s.lives row ≡ (if is_reached s.tree row then lives.Live else lives.New)
  pub opened : (kind : Kind) → IsLawfulOf s.tree kind → s.opened ≡ length (reached_in s.tree.table s.tree.root)
