-- The nodes of a tree as the kernel prints them.
-- Source: the kernel's lib/maple_tree.c, mt_dump and its parts, with decimal indexes, and names in place of addresses.
use Rattle.std.specs.Prelude.{ℕ, Bool, ◌+◌, ◌-◌, ◌*◌, ◌/◌, ◌%◌, ◌^◌, ◌==◌, min, nat_le, false, true, List, [], ◌∷◌, ◌++◌, codes, length, slice_index_or, if◌then◌else◌}
use Rattle.std.specs.List.{flat_map, fold, range_with_len}
use Rattle.std.specs.Fmt.{decimal, digits, padded_integral, format_spec}
use Rattle.mt_draw.specs.Prelude.{Kind, finds_room, kind_width, Width, Long, Short, RowKind, Leaf, Inner, Gapped, Span, kind_number, parent_at, slots_of, Table, column, spans_in, height_in}
use Rattle.mt_draw.specs.Trees.{gap_of_slot, nodes_in, table_of}
use Rattle.mt_draw.specs.declared.trees.Node.{Node}
use Rattle.mt_draw.specs.declared.trees.DrawnTree.{DrawnTree}

-- a number in at least this many hexadecimal digits
abbrev pub hexadecimal : ℕ → Bool → ℕ → List ℕ
hexadecimal least upper n = padded_integral (format_spec 32 0 4 least (2 ^ 64 - 1)) false [] (digits 16 upper n)

-- a pointer has the digits of 64 bits, or of 32 in a narrow tree
abbrev pub pointer_text : Width → ℕ → List ℕ
pointer_text Long word = hexadecimal 16 false word
pointer_text Short word = hexadecimal 8 false word

-- two spaces for each node above
abbrev pub indent_text : ℕ → List ℕ
indent_text depth = flat_map (λ (_ : ℕ). codes "  ") (range_with_len 0 depth)

abbrev pub indexes_text : Span → List ℕ
indexes_text x = if x.first == x.last then decimal x.first else decimal x.first ++ (codes "-" ++ decimal x.last)

-- an odd word is a value
abbrev pub word_text : Width → ℕ → List ℕ
word_text width word =
    if word % 2 == 1 then codes "value " ++ (decimal (word / 2) ++ (codes " (0x" ++ (digits 16 false (word / 2) ++ (codes ") [" ++ (pointer_text width word ++ codes "]")))))
    else pointer_text width word

abbrev pub type_of : RowKind → ℕ
type_of kind = kind_number kind

-- each gap word and a space
abbrev pub gaps_text : Table → Node → List ℕ
gaps_text t x = flat_map (λ i. decimal (gap_of_slot t x i) ++ codes " ") (range_with_len 0 (slots_of t.width x.kind))

-- what is in a slot, and zeros if it is not used
abbrev pub slot_at : List Span → ℕ → Span
slot_at spans i = slice_index_or spans i (record { first = 0; last = 0; word = 0 })

-- each slot but the last of all, with its pivot
abbrev pub pair_text : Width → Span → List ℕ
pair_text width x = pointer_text width x.word ++ (codes " " ++ (decimal x.last ++ codes " "))

abbrev pub pairs_text : Table → Node → List ℕ
pairs_text t x = flat_map (λ i. pair_text t.width (slot_at (spans_in t x.span) i)) (range_with_len 0 (slots_of t.width x.kind - 1))

-- the last of the slots with the longest gap
abbrev pub longer_of : Table → Node → ℕ → ℕ → ℕ
longer_of t x best slot = if nat_le (gap_of_slot t x best) (gap_of_slot t x slot) then slot else best

abbrev pub longest_slot : Table → Node → ℕ → ℕ
longest_slot t x used = fold (longer_of t x) 0 (range_with_len 0 used)

-- the numbers of the last slot that is used, and of the one with the longest gap
abbrev pub meta_text : ℕ → ℕ → List ℕ
meta_text end longest = codes "| " ++ (hexadecimal 2 true end ++ (codes " " ++ (hexadecimal 2 true longest ++ codes "| ")))

-- what comes before the slots of a node with gaps
abbrev pub gaps_and_meta : Table → Node → ℕ → List ℕ
gaps_and_meta t x used = gaps_text t x ++ meta_text (used - 1) (longest_slot t x used)

abbrev pub heads_by : RowKind → List ℕ → List ℕ
heads_by Leaf heads = []
heads_by Inner heads = []
heads_by Gapped heads = heads

abbrev pub heads_text : Table → Node → List ℕ
heads_text t x = heads_by x.kind (gaps_and_meta t x (length (spans_in t x.span)))

abbrev pub contents_text : Table → Node → List ℕ
contents_text t x = heads_text t x ++ (pairs_text t x ++ pointer_text t.width (slot_at (spans_in t x.span) (slots_of t.width x.kind - 1)).word)

-- the line of what is in a slot of a leaf
abbrev pub slot_line : Width → ℕ → Span → List ℕ
slot_line width depth x = indent_text depth ++ (indexes_text x ++ (codes ": " ++ (word_text width x.word ++ codes "\n")))

abbrev pub lines_of : RowKind → Table → Node → List ℕ
lines_of Leaf t x = flat_map (slot_line t.width (min (x.depth + 1) (2 ^ 32 - 1))) (spans_in t x.span)
lines_of Inner t x = []
lines_of Gapped t x = []

abbrev pub entries_text : Table → Node → List ℕ
entries_text t x = lines_of x.kind t x

abbrev pub title_text : Table → Node → List ℕ
title_text t x =
    indent_text x.depth ++ (indexes_text x.span ++ (codes ": node " ++ (pointer_text t.width (parent_at x.row 0) ++ (codes " depth " ++ (decimal x.depth
    ++ (codes " type " ++ (decimal (type_of x.kind) ++ (codes " parent " ++ (pointer_text t.width (column t x.row 0) ++ codes " contents: ")))))))))

abbrev pub row_text : Table → Node → List ℕ
row_text t x = title_text t x ++ (contents_text t x ++ (codes "\n" ++ entries_text t x))

abbrev pub rows_text : Table → List Node → List ℕ
rows_text t nodes = flat_map (row_text t) nodes

-- the height from the third bit on, and in the first bit whether the tree finds room
abbrev pub flags_of : Kind → ℕ → ℕ
flags_of kind height = if finds_room kind then 4 * height + 1 else 4 * height

abbrev pub dump_head : Kind → ℕ → ℕ → List ℕ
dump_head kind height root =
    codes "maple_tree(" ++ (pointer_text (kind_width kind) 0 ++ (codes ") flags " ++ (digits 16 true (flags_of kind height)
    ++ (codes ", height " ++ (decimal height ++ (codes " root " ++ (pointer_text (kind_width kind) root ++ codes "\n")))))))

abbrev pub body_of : Table → List Node → List ℕ
body_of t [] = codes "(empty)\n"
body_of t (x ∷ nodes) = rows_text t (x ∷ nodes)

-- a tree whose nodes are in hand
abbrev pub tree_text : DrawnTree → List ℕ
tree_text tree = dump_head tree.kind tree.height tree.root ++ body_of (table_of tree) tree.nodes.items

-- the tree of these words, from the root word
unfoldable pub dump_text : Kind → Table → ℕ → List ℕ
dump_text kind t root = dump_head kind (height_in t root) root ++ body_of t (nodes_in t root)
