-- The words that the ways to many indexes lead to, level by level.
-- Source: this project's own; the kernel looks up one index at a time.
use Rattle.std.specs.Prelude.{◌≡◌, ℕ, ◌<◌, List, Some, length, map}
use Rattle.mt_base.specs.declared.kinds.Kind.{Kind}
use Rattle.mt_path.specs.Prelude.{RowKind, Rooted, named_kind, root_span, Width, IsTreeOf}
use Rattle.mt_path.specs.Handles.{handle_in}
use Rattle.mt_path.specs.Paths.{path_in, row_on}

-- The word on the way to an index this many levels below the root: the name of the node there, or what is in the leaf's slot.
abbrev pub word_on : Rooted → ℕ → ℕ → ℕ
word_on t depth index = (row_on t.table depth (root_span t.table t.root) index).word

abbrev pub words_on : Rooted → ℕ → List ℕ → List ℕ
words_on t depth indexes = map (λ index. word_on t depth index) indexes

-- the words that these indexes hold: an entry, or 0 for a hole
abbrev pub words_in : Rooted → List ℕ → List ℕ
words_in t indexes = map (λ index. (handle_in t index).span.word) indexes

-- The words are those of a tree, and it is of this width.
pub record IsTreeOfWidth (t : Rooted) (width : Width) : Type 0 where
  pub wide : width ≡ t.table.width
  pub tree : (kind : Kind) × IsTreeOf t kind

-- So many levels below the root there are nodes, of this kind. All ways are as long as the way to 0, and their nodes of the same
-- kinds.
pub record IsLevel (t : Rooted) (depth : ℕ) (kind : RowKind) : Type 0 where
  pub low : depth < length (path_in t.table t.root 0)
  pub named : named_kind (word_on t depth 0) ≡ Some kind
