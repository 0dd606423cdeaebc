-- How the items of a level are cut into nodes, from the left: full nodes, and at the end two of about one size; and no leaf but
-- the last ends with a hole.
-- Source: this project's own; the kernel's mab_calc_split keeps a leaf from ending with a slot of no entry.
use Rattle.std.specs.Prelude.{◌≡◌, ℕ, zero, suc, ◌+◌, ◌-◌, ◌*◌, ◌/◌, ◌<◌, ◌≤◌, ◌==◌, nat_lt, List, [], ◌∷◌, length, map, take, drop, slice_index, if◌then◌else◌}
use Rattle.std.specs.List.{AllByRecursion, flat_map}
use Rattle.mt_bulk.specs.Prelude.{Item, spans_from, EndsFull}

abbrev pub word_of : List Item → ℕ → ℕ
word_of items i = slice_index (map (λ x. x.word) items) i

-- this many items, or one fewer, so that they do not end with a hole
abbrev pub or_one_fewer : List Item → ℕ → ℕ
or_one_fewer items n = if word_of items (n - 1) == 0 then n - 1 else n

-- this many items, or one more, so that they do not end with a hole
abbrev pub or_one_more : List Item → ℕ → ℕ
or_one_more items n = if word_of items (n - 1) == 0 then n + 1 else n

-- how many of these items the first leaf has, where `most` fit
abbrev pub leaf_size : ℕ → List Item → ℕ
leaf_size most items =
    if nat_lt (2 * most - 2) (length items) then or_one_fewer items most
    else (if nat_lt most (length items) then or_one_more items ((length items + 1) / 2)
    else length items)

-- how many of `count` items the first inner node has
abbrev pub inner_count : ℕ → ℕ → ℕ
inner_count most count = if nat_lt (2 * most) count then most else (if nat_lt most count then (count + 1) / 2 else count)

abbrev pub inner_size : ℕ → List Item → ℕ
inner_size most items = inner_count most (length items)

-- items cut from the left into at most `n` pieces, each of the size that `size` says
abbrev pub cut_by : (List Item → ℕ) → ℕ → List Item → List (List Item)
cut_by size zero items = []
cut_by size (suc left) [] = []
cut_by size (suc left) (x ∷ items) = take (size (x ∷ items)) (x ∷ items) ∷ cut_by size left (drop (size (x ∷ items)) (x ∷ items))

abbrev pub cut : (List Item → ℕ) → List Item → List (List Item)
cut size items = cut_by size (length items) items

-- ---- what the nodes of a level are to be

abbrev pub AllButLast : {A : Type 0} → (A → Type 0) → List A → Type 0
AllButLast E [] = Unit {0}
AllButLast E (g ∷ []) = Unit {0}
AllButLast E (g ∷ f ∷ gs) = E g × AllButLast E (f ∷ gs)

-- a leaf of these items ends with an entry
abbrev pub EndsWithEntry : List Item → Type 0
EndsWithEntry items = EndsFull (spans_from 0 items)

abbrev pub EndsAnyhow : List Item → Type 0
EndsAnyhow items = Unit {0}

-- The nodes hold the items, one node after another. Each node has at least one item and at most `most`. If there are `least`
-- items, each node has at least that many. Each node but the last ends as `E` says. Items that fit into one node are one node.
-- Two items or more have fewer nodes than items.
pub record AreCut (least most : ℕ) (E : List Item → Type 0) (items : List Item) (rows : List (List Item)) : Type 0 where
  pub joined : flat_map (λ row. row) rows ≡ items
  pub some : AllByRecursion (λ row. 1 ≤ length row) rows
  pub few : AllByRecursion (λ row. length row ≤ most) rows
  pub many : least ≤ length items → AllByRecursion (λ row. least ≤ length row) rows
  pub ends : AllButLast E rows
  pub one : 1 ≤ length items → length items ≤ most → rows ≡ items ∷ []
  pub fewer : 2 ≤ length items → length rows < length items

-- where each node ends, where the first begins at a place
abbrev pub ends_from : ℕ → List (List Item) → List ℕ
ends_from at [] = []
ends_from at (row ∷ rows) = (at + length row) ∷ ends_from (at + length row) rows
