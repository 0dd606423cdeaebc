-- The height of a tree, which an engine keeps beside the tree's nodes and their book.
-- Source: the kernel keeps the height in the flags of struct maple_tree, mt_height; that a store in a slot leaves it is this
-- project's.
use Rattle.std.specs.Prelude.{◌≡◌, ℕ, Bool, true, false}
use Rattle.mt_engine.specs.Prelude.{Kind, Book, Place, Root, Slot, height_in, Rooted, Sheet}
use Rattle.mt_engine.specs.Engine.{IsIdle}

-- the tree has this many levels
abbrev pub HasHeight : Rooted → ℕ → Type 0
HasHeight t height = height ≡ height_in t.table t.root

abbrev pub is_root : Place → Bool
is_root Root = true
is_root (Slot row col) = false

-- they have as many levels
abbrev pub SameHeight : Rooted → Rooted → Type 0
SameHeight t t' = height_in t'.table t'.root ≡ height_in t.table t.root

-- the nodes and the book between two calls, and how many levels their tree has
pub record IsMeasured (kind : Kind) (s : Sheet) (book : Book) (height : ℕ) : Type 0 where
  pub idle : IsIdle kind s book
  pub measured : HasHeight s.tree height
