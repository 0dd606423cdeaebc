-- What a store makes of the items of a few leaves that lie next to each other.
-- Source: the kernel's lib/maple_tree.c, mas_wr_store_entry and its parts: a store splits the ranges at its ends, replaces
-- what lies between, and never leaves two slots of no entry next to each other.
use Rattle.std.specs.Prelude.{ℕ, Bool, false, List, [], ◌∷◌, ◌++◌, Option, ◌+◌, ◌-◌, ◌==◌, ◌&&◌, not, nat_lt, min, max, map, filter, position, if◌then◌else◌}
use Rattle.mt_layout.specs.declared.spans.Span.{Span}

-- what is left of a span below `first`, and above `last`
abbrev pub span_below : ℕ → Span → Span
span_below first x = record x { last = min x.last (first - 1) }

abbrev pub span_above : ℕ → Span → Span
span_above last x = record x { first = max x.first (last + 1) }

-- the part below `first` of each span that begins below it
abbrev pub spans_below : List Span → ℕ → List Span
spans_below xs first = map (span_below first) (filter (λ x. nat_lt x.first first) xs)

-- the part above `last` of each span that ends above it
abbrev pub spans_above : List Span → ℕ → List Span
spans_above xs last = map (span_above last) (filter (λ x. nat_lt last x.last) xs)

abbrev pub span_stored : ℕ → ℕ → ℕ → Span
span_stored first last entry = record { first = first; last = last; word = entry }

-- the spans after `entry` was stored over `first` to `last`; an entry of 0 makes a hole
abbrev pub stored : List Span → ℕ → ℕ → ℕ → List Span
stored xs first last entry = spans_below xs first ++ (span_stored first last entry ∷ spans_above xs last)

-- a span in front of others, as one with the hole that they begin with, if it is a hole too
abbrev pub join : Span → List Span → List Span
join x [] = x ∷ []
join x (y ∷ ys) = if (x.word == 0) && (y.word == 0) then record x { last = y.last } ∷ ys else x ∷ y ∷ ys

-- the spans with each two holes that follow each other made one
abbrev pub holes_joined : List Span → List Span
holes_joined [] = []
holes_joined (x ∷ xs) = join x (holes_joined xs)

-- a store on the spans of a few leaves, holes joined
abbrev pub edited : List Span → ℕ → ℕ → ℕ → List Span
edited xs first last entry = holes_joined (stored xs first last entry)

-- the slot of the entry that has exactly these indexes
abbrev pub exact_slot_of : List Span → ℕ → ℕ → Option ℕ
exact_slot_of xs first last = position (λ x. (x.first == first) && ((x.last == last) && not (x.word == 0))) xs

-- the spans, if the first of them begins at `first`
abbrev pub starting : ℕ → List Span → List Span
starting first [] = []
starting first (x ∷ xs) = record x { first = first } ∷ xs

-- the last span is a hole
abbrev pub ends_with_hole : List Span → Bool
ends_with_hole [] = false
ends_with_hole (x ∷ []) = x.word == 0
ends_with_hole (x ∷ y ∷ ys) = ends_with_hole (y ∷ ys)
