-- What a replacement begins with, given by the entry that begins it.
-- Source: this project's own.
use Rattle.std.specs.Prelude.{◌≡◌, ◌-◌, ℕ, List, [], length}
use Rattle.mt_splice.specs.Prelude.{Call, Kind, acted, Book, path_in, Sheet, map_by, tree_as, Reply, Item, PathStep}
use Rattle.mt_splice.specs.steps.Ledgers.{Before}
use Rattle.mt_splice.specs.Splice.{MaySplice}
use Rattle.mt_splice.specs.steps.Starts.{Start}

-- the nodes and the book as they are now
abbrev pub before_of : Kind → Sheet → Book → ℕ → Before
before_of kind s book number = record { sheet = s; book = book; kind = kind; number = number }

-- the tree as it is now, with the map that the call makes, and the indexes of what it changes
abbrev pub start_for : Kind → Sheet → Call → ℕ → ℕ → Start
start_for kind s call first last = record {
  tree = tree_as kind s.tree;
  height = length (path_in s.tree.table s.tree.root 0) - 1;
  map = (acted kind (map_by s.tree) call).0;
  first = first;
  last = last;
}

pub record IsBegunBy (b : Before) (begin : Start) (kind : Kind) (s : Sheet) (book : Book) (number : ℕ) (call : Call) (first last : ℕ) : Type 0 where
  pub before : b ≡ before_of kind s book number
  pub start : begin ≡ start_for kind s call first last

-- a store of an entry into the empty tree, where these are the items after it
pub record IsFirstStore (b : Before) (start : Start) (s : Sheet) (book : Book) (items : List Item) (call : Call) (reply : Reply) : Type 0 where
  pub right : List PathStep
  pub begun : IsBegunBy b start b.kind s book b.number call start.first start.last
  pub may : MaySplice b.kind s book [] right items b.number call reply
