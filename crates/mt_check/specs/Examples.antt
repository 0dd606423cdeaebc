-- Trees worked by hand, of both widths: a leaf with one range, an allocation tree of three nodes, and what becomes of them by
-- one changed word.
-- Source: this project's own.
use Rattle.std.specs.Prelude.{ℕ, ◌+◌, ◌-◌, ◌*◌, List, [], ◌∷◌, ◌++◌, replicate, slice_set}
use Rattle.std.specs.List.{range_with_len}
use Rattle.mt_check.specs.Prelude.{Kind, Range, Alloc, Range32, Alloc32, finds_room, kind_width, columns, first_row, greatest_of, base_of, Tree}

abbrev top : ℕ
top = greatest_of Range

-- the words of nodes from `first_row` on, after as many zeros as come before the first node
abbrev pub example_tree : Kind → ℕ → ℕ → List ℕ → Tree
example_tree kind root rows words = record {
  rows = rows;
  gapped = finds_room kind;
  table = record { width = kind_width kind; words = replicate (columns (kind_width kind) * first_row) 0 ++ words };
  root = root;
}

-- the tree after one word was changed
abbrev pub with_column : Tree → ℕ → ℕ → ℕ → Tree
with_column t row col word = record t { table = record t.table { words = slice_set t.table.words (base_of t.table row + col) word } }

abbrev pub unused_row : List ℕ
unused_row = replicate (columns (kind_width Range)) 0

-- the range 10 to 19 with the entry 5, in two nodes
abbrev pub one_leaf : Tree
one_leaf = example_tree Range 4108 2
    ((1 ∷ 9 ∷ 19 ∷ top ∷ [] ++ replicate 12 0)
    ++ (0 ∷ 5 ∷ [] ++ replicate 14 0)
    ++ unused_row)

-- a node with one child, which no root may be
abbrev pub one_child : Tree
one_child = example_tree Range 4116 2 ((1 ∷ top ∷ [] ++ replicate 14 0) ++ (4364 ∷ [] ++ replicate 15 0) ++ unused_row)

-- eleven ranges with the entry 4096, in two leaves below a root
abbrev pub two_leaves : Tree
two_leaves = example_tree Alloc 4124 3
    ((1 ∷ 11 ∷ top ∷ [] ++ replicate 7 0)
    ++ (4364 ∷ 4620 ∷ [] ++ replicate 8 0)
    ++ (0 ∷ 18446744073709551599 ∷ [] ++ replicate 10 0)
    ++ ((4096 ∷ 0 ∷ 1 ∷ 2 ∷ 3 ∷ 4 ∷ 11 ∷ [] ++ replicate 9 0) ++ (replicate 6 4096 ++ replicate 10 0))
    ++ ((4097 ∷ 12 ∷ 13 ∷ 14 ∷ 15 ∷ 16 ∷ top ∷ [] ++ replicate 9 0) ++ (replicate 5 4096 ++ replicate 11 0)))

-- ---- narrow trees

abbrev narrow_top : ℕ
narrow_top = greatest_of Range32

-- the range 10 to 19 with the entry 5
abbrev pub narrow_leaf : Tree
narrow_leaf = example_tree Range32 4108 1 ((1 ∷ 9 ∷ 19 ∷ narrow_top ∷ [] ++ replicate 28 0) ++ (0 ∷ 5 ∷ [] ++ replicate 30 0))

-- `n` ranges of one index with the entry 4096 from 0 on in one leaf, and thirteen after them in another, below a root
abbrev pub narrow_leaves : ℕ → Tree
narrow_leaves count = example_tree Alloc32 4124 3
    ((1 ∷ (count - 1) ∷ narrow_top ∷ [] ++ replicate 18 0)
    ++ (4364 ∷ 4620 ∷ [] ++ replicate 19 0)
    ++ (0 ∷ (narrow_top - (count + 12)) ∷ [] ++ replicate 20 0)
    ++ ((4096 ∷ range_with_len 0 count ++ replicate (31 - count) 0) ++ (replicate count 4096 ++ replicate (32 - count) 0))
    ++ ((4097 ∷ range_with_len count 13 ++ narrow_top ∷ replicate 17 0) ++ (replicate 13 4096 ++ replicate 19 0)))
