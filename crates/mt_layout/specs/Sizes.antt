-- How large nodes and lists of items are: each number once.
-- Source: the kernel's include/linux/maple_tree.h, MAPLE_RANGE64_SLOTS and MAPLE_ARANGE64_SLOTS; the sizes of narrow nodes, the
-- least numbers of items and the rooms are this project's.
use Rattle.std.specs.Prelude.{ℕ}
use Rattle.mt_layout.specs.Prelude.{Width, Long, Short}
use Rattle.mt_layout.specs.declared.names.RowKind.{RowKind}
use Rattle.mt_layout.specs.declared.names.RowKind.TheVariants as kinds

-- how many slots and gaps a node of a kind has
abbrev pub slots_of : Width → RowKind → ℕ
slots_of Long kinds.Leaf = 16
slots_of Long kinds.Inner = 16
slots_of Long kinds.Gapped = 10
slots_of Short kinds.Leaf = 32
slots_of Short kinds.Inner = 32
slots_of Short kinds.Gapped = 21

abbrev pub gaps_of : Width → RowKind → ℕ
gaps_of Long kinds.Leaf = 0
gaps_of Long kinds.Inner = 0
gaps_of Long kinds.Gapped = 10
gaps_of Short kinds.Leaf = 0
gaps_of Short kinds.Inner = 0
gaps_of Short kinds.Gapped = 21

-- the least number of items in a node that is not the root
abbrev pub least_items : Width → RowKind → ℕ
least_items Long kinds.Leaf = 6
least_items Long kinds.Inner = 6
least_items Long kinds.Gapped = 4
least_items Short kinds.Leaf = 14
least_items Short kinds.Inner = 14
least_items Short kinds.Gapped = 9

-- how many items are gathered at once: the room of a `Run`
abbrev pub run_room : ℕ
run_room = 72

-- how many items a store may begin with: it adds two
abbrev pub edit_room : ℕ
edit_room = 70
