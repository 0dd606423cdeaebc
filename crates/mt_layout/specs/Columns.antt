-- The columns (words) of a row (a node): a parent word, pivots, slots and gaps. And the items that are read from them.
-- Source: the kernel's lib/maple_tree.c, ma_pivots, ma_slots and ma_gaps of maple_range_64 and maple_arange_64. A node has
-- `slots` slots, and as many gaps or none. Column c of the node that begins at `base` is the word base + c.
use Rattle.std.specs.Prelude.{◌≡◌, ℕ, zero, suc, ◌+◌, ◌-◌, ◌*◌, ◌≤◌, ◌<◌, ◌==◌, List, [], ◌∷◌, ◌++◌, length, map, max, take, replicate, nat_le, slice_index, if◌then◌else◌}
use Rattle.mt_layout.specs.Prelude.{Width, columns}
use Rattle.mt_layout.specs.declared.items.Item.{Item}
use Rattle.mt_layout.specs.declared.names.RowKind.{RowKind}
use Rattle.mt_layout.specs.declared.names.RowKind.TheVariants as kinds
use Rattle.mt_layout.specs.Sizes.{slots_of, gaps_of}
use Rattle.mt_layout.specs.Spans.{spans_from, longest_in}

-- nodes of some width and kind have these numbers of words, slots and gaps
pub record IsLayout (words slots gaps : ℕ) : Type 0 where
  pub width : Width
  pub kind : RowKind
  pub all : words ≡ columns width
  pub slots_are : slots ≡ slots_of width kind
  pub gaps_are : gaps ≡ gaps_of width kind

abbrev pub pivot_column : ℕ → ℕ
pivot_column i = 1 + i

abbrev pub slot_column : ℕ → ℕ → ℕ
slot_column slots i = slots + i

abbrev pub gap_column : ℕ → ℕ → ℕ
gap_column slots i = 2 * slots + i

abbrev pub gap_at : ℕ → ℕ → List ℕ → ℕ → ℕ → ℕ
gap_at slots gaps w base i = if gaps == 0 then 0 else slice_index w (base + gap_column slots i)

-- the item in slot i, if its greatest index is `last`
abbrev pub item_at : ℕ → ℕ → List ℕ → ℕ → ℕ → ℕ → Item
item_at slots gaps w base i last = record { last = last; word = slice_index w (base + slot_column slots i); gap = gap_at slots gaps w base i }

-- The items from slot i on, at most `left` of them, in a node that ends at `max`. They end with the first whose pivot is at
-- least `max`, or with the last slot, which has no pivot.
abbrev pub items_from : ℕ → ℕ → List ℕ → ℕ → ℕ → ℕ → ℕ → List Item
items_from slots gaps w base max zero i = []
items_from slots gaps w base max (suc zero) i = item_at slots gaps w base i max ∷ []
items_from slots gaps w base max (suc (suc left)) i =
    if nat_le max (slice_index w (base + pivot_column i))
    then item_at slots gaps w base i (slice_index w (base + pivot_column i)) ∷ []
    else item_at slots gaps w base i (slice_index w (base + pivot_column i)) ∷ items_from slots gaps w base max (suc left) (i + 1)

-- the items of the node that begins at `base` and ends at `max`
abbrev pub items_at : ℕ → ℕ → List ℕ → ℕ → ℕ → List Item
items_at slots gaps w base max = items_from slots gaps w base max slots 0

-- ---- the words of a node

-- these words, and zeros after them up to this number of words
abbrev pub padded_to : ℕ → List ℕ → List ℕ
padded_to n xs = xs ++ replicate (n - length xs) 0

abbrev pub pivot_words : ℕ → List Item → List ℕ
pivot_words slots items = padded_to (slots - 1) (take (slots - 1) (map (λ x. x.last) items))

abbrev pub slot_words : ℕ → List Item → List ℕ
slot_words slots items = padded_to slots (map (λ x. x.word) items)

abbrev pub gap_words : ℕ → List Item → List ℕ
gap_words gaps items = if gaps == 0 then [] else padded_to gaps (map (λ x. x.gap) items)

-- the words of a node with these items and this number of columns: what is unused is 0
abbrev pub row_words : ℕ → ℕ → ℕ → ℕ → List Item → List ℕ
row_words columns slots gaps parent items = padded_to columns (parent ∷ pivot_words slots items ++ slot_words slots items ++ gap_words gaps items)

-- ---- items by themselves

-- the greatest indexes rise, from `min` on
abbrev pub RiseFrom : ℕ → List Item → Type 0
RiseFrom min [] = Unit {0}
RiseFrom min (x ∷ items) = (min ≤ x.last) × RiseFrom (x.last + 1) items

-- the last index of the items
abbrev pub end_of : ℕ → List Item → ℕ
end_of max [] = max
end_of max (x ∷ items) = end_of x.last items

-- no item has a gap
abbrev pub NoGaps : List Item → Type 0
NoGaps items = map (λ x. x.gap) items ≡ replicate (length items) 0

-- what a node can hold: 1 to `slots` items whose greatest indexes rise, and gaps only if it has columns for them
pub record FitRow (slots gaps : ℕ) (items : List Item) : Type 0 where
  pub some : 0 < length items
  pub fit : length items ≤ slots
  pub rise : RiseFrom 0 items
  pub no_gaps : gaps ≡ 0 → NoGaps items

-- the number of indexes of the longest hole of a leaf whose first item begins at `min`
abbrev pub longest_hole : ℕ → List Item → ℕ
longest_hole min items = longest_in (spans_from min items)

-- the greatest gap of items
abbrev pub greatest_gap : List Item → ℕ
greatest_gap [] = 0
greatest_gap (x ∷ items) = max x.gap (greatest_gap items)

-- the longest hole below a node of a tree with gaps: among a leaf's items, or by the gaps of its children
abbrev pub longest_under : RowKind → ℕ → List Item → ℕ
longest_under kinds.Leaf first items = longest_hole first items
longest_under kinds.Inner first items = greatest_gap items
longest_under kinds.Gapped first items = greatest_gap items
