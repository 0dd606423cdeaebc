-- Words that are all 0, over which empty trees are made.
-- Source: this project's own.
use Rattle.std.specs.Prelude.{◌≡◌, ℕ, ◌≤◌, All, List, length}
use Rattle.mt_tree.specs.Prelude.{Kind, kind_width, table_size}

abbrev pub AreZero : List ℕ → Type 0
AreZero words = All (λ word. word ≡ 0) words

-- An empty tree of this kind, with this many nodes, can be made over these words: they are as many as those of its table, or
-- more.
abbrev pub Serve : List ℕ → Kind → ℕ → Type 0
Serve words kind rows = table_size (kind_width kind) rows ≤ length words
