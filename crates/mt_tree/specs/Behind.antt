-- What the lock of a tree protects: its pen (the writer's capability), and the book (node allocator) of its table. The table's
-- words represent the map after all calls.
-- Source: this project's own; the kernel's ma_lock guards the whole tree.
use Rattle.std.specs.Prelude.{◌≡◌, ◌⊎◌, ℕ, ◌+◌, ◌/◌, ◌≤◌, Option, Some, None, IfSome, List, length}
use Rattle.mt_tree.specs.Prelude.{Reply, last_map, Parts, IsIdle, HasHeight, HasRoom, Book, new_book, no_table, map_by, Moment, PenPart, Shape, no_pen, pen_joined, records_of, pen_sheet, tree_of, Identity, IsAlone, identity_of_pen, pen_in}
use Rattle.mt_base.specs.declared.replies.Reply.TheVariants as replies
use Rattle.mt_tree.specs.declared.behind.Tools.{Tools}

-- the table that is written, what its pen knows, and the nodes with their book
pub record Behind : Type 0 where
  pub table : Identity
  pub pen : PenPart
  pub parts : Parts

-- the nodes that the pen knows, with this book
abbrev pub parts_of : PenPart → Book → Parts
parts_of p book = record { sheet = pen_sheet p; book = book; kind = p.shape.kind }

-- what the tools represent; while a call is at work they are not there
abbrev pub behind_lock : Option Tools → Behind
behind_lock (Some t) = record { table = identity_of_pen t.pen; pen = pen_in t.pen; parts = parts_of (pen_in t.pen) t.book }
behind_lock None = record { table = no_table; pen = no_pen; parts = parts_of no_pen (new_book 0) }

-- The nodes are of this tree. They represent the map after these calls, and as many have ended. They opened with at most as
-- many nodes as a map of that many ranges may have.
pub record AreRowsOf (shape : Shape) (history : List Moment) (e : Parts) : Type 0 where
  pub kind : e.kind ≡ shape.kind
  pub rows : e.sheet.tree.rows ≡ shape.rows
  pub map : map_by e.sheet.tree ≡ last_map (tree_of shape history)
  pub ended : e.sheet.ended ≡ length history
  pub opened : e.sheet.opened ≤ length shape.opening / 2 + 2

-- No call is in flight, and all handles are dealt. The nodes are well-formed and of the pen's tree, which has no more calls
-- than it may have, and this height. The book is of these nodes.
pub record IsPenAtRest (p : PenPart) (e : Parts) (height : ℕ) : Type 0 where
  pub dealt : p.dealt ≡ p.shape.passes
  pub of : AreRowsOf p.shape p.history e
  pub idle : IsIdle e.kind e.sheet e.book
  pub few : length p.history ≤ p.shape.calls
  pub levels : HasHeight e.sheet.tree height

-- While the lock is free, no handle is joined with the pen.
abbrev pub IsAtRest : Option Tools → Type 0
IsAtRest (Some t) = IsAlone t.pen × IsPenAtRest (pen_in t.pen) (parts_of (pen_in t.pen) t.book) t.height
IsAtRest None = ⊥

-- how many ranges there are, if that is known
abbrev pub IsCountBehind : Option ℕ → Behind → Type 0
IsCountBehind ranges b = IfSome ranges (λ n. n ≡ length (map_by b.parts.sheet.tree))

-- what the lock protects when a handle was shown the history: no section word was loaded since
abbrev pub after_show : Behind → Behind
after_show b = record b { pen = pen_joined b.pen }

-- a store may be made for which nodes are at hand
abbrev pub IsReady : Parts → Type 0
IsReady e = HasRoom e.sheet.tree e.book

-- such a store is made, onto nothing or over some range, or it is refused as invalid
abbrev pub IsStoreReply : Reply → Type 0
IsStoreReply reply = (reply ≡ replies.Ok) ⊎ ((entry : ℕ) × (reply ≡ replies.Over entry)) ⊎ (reply ≡ replies.Invalid)

-- The words were only read.
pub record IsOnlyRead (b b' : Behind) : Type 0 where
  pub table : b'.table ≡ b.table
  pub records : records_of b'.pen.history ≡ records_of b.pen.history
  pub parts : b'.parts ≡ b.parts
