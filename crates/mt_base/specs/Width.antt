-- How wide the words of a tree's nodes are, and how large a tree can be.
-- Source: the kernel's include/linux/maple_tree.h, for machines of 64 bits. This project's own are the narrow width, that nodes
-- are numbered in 16 bits, from which number on, and how many of them a call takes.
use Rattle.std.specs.Prelude.{ℕ, ◌+◌, ◌-◌, ◌*◌, ◌^◌}
use Rattle.mt_base.specs.declared.kinds.Kind.{Kind}
use Rattle.mt_base.specs.declared.kinds.Kind.TheVariants as kinds
use Rattle.mt_base.specs.declared.widths.Width.{Width}
use Rattle.mt_base.specs.declared.widths.Width.TheVariants.{Long, Short}

abbrev pub kind_width : Kind → Width
kind_width kinds.Range = Long
kind_width kinds.Alloc = Long
kind_width kinds.Range32 = Short
kind_width kinds.Alloc32 = Short

-- the greatest index
abbrev pub greatest : Width → ℕ
greatest Long = 2 ^ 64 - 1
greatest Short = 2 ^ 32 - 1

-- the greatest index of a tree of this kind
abbrev pub greatest_of : Kind → ℕ
greatest_of kind = greatest (kind_width kind)

-- how many words a node has
abbrev pub columns : Width → ℕ
columns Long = 32
columns Short = 64

-- the number of the first node
abbrev pub first_row : ℕ
first_row = 16

-- the greatest number of nodes of a tree
abbrev pub most_rows : ℕ
most_rows = 65504

-- the greatest number of levels of a tree
abbrev pub deepest : ℕ
deepest = 9

-- the greatest number of nodes that a call takes: three for each level, and one
abbrev pub most_taken : ℕ
most_taken = 3 * deepest + 1
