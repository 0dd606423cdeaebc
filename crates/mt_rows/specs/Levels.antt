-- A tree by its levels. The nodes of one height are a list of spans, and what these nodes hold is the list one level lower.
use Rattle.std.specs.Prelude.{◌≡◌, ◌≢◌, ℕ, zero, suc, ◌+◌, ◌<◌, ◌==◌, List, [], ◌∷◌, Bool, true, false, Some}
use Rattle.std.specs.List.{AllByRecursion, flat_map, slice_get}
use Rattle.mt_rows.specs.Prelude.{Range, Leaf, row_in, named_kind, Span, leaf_range}
use Rattle.mt_rows.specs.Spans.{Table, column, spans_in}

-- what nodes hold
abbrev pub expand : Table → List Span → List Span
expand t xs = flat_map (spans_in t) xs

-- the nodes d levels lower
abbrev pub level : Table → ℕ → List Span → List Span
level t zero xs = xs
level t (suc d) xs = level t d (expand t xs)

-- the map below nodes of a height; leaves have the height 0
abbrev pub map_of : Table → ℕ → List Span → List Range
map_of t zero xs = flat_map leaf_range (expand t xs)
map_of t (suc h) xs = map_of t h (expand t xs)

-- what holds of each node that is reached, with its height
abbrev pub Levels : (ℕ → Span → Type 0) → Table → ℕ → List Span → Type 0
Levels P t zero xs = AllByRecursion (P zero) xs
Levels P t (suc h) xs = AllByRecursion (P (suc h)) xs × Levels P t h (expand t xs)

abbrev pub one_if : Bool → ℕ
one_if true = 1
one_if false = 0

abbrev pub tally : {A : Type 0} → (A → Bool) → List A → ℕ
tally p [] = 0
tally p (x ∷ xs) = one_if (p x) + tally p xs

-- how many of the nodes that are reached satisfy a test of their height and their span
abbrev pub times : (ℕ → Span → Bool) → Table → ℕ → List Span → ℕ
times p t zero xs = tally (p zero) xs
times p t (suc h) xs = tally (p (suc h)) xs + times p t h (expand t xs)

-- the span's node has this number
abbrev pub is_row_of : ℕ → ℕ → Span → Bool
is_row_of row h x = row_in x.word == row

-- x is d levels below `top`
abbrev pub IsBelow : Table → ℕ → Span → Span → Type 0
IsBelow t zero top x = x ≡ top
IsBelow t (suc d) top x = (named_kind top.word ≢ Some Leaf) × ((i : ℕ) × (y : Span) × (slice_get (spans_in t top) i ≡ Some y) × IsBelow t d y x)

-- ---- what two moments share

-- the node holds the same spans in both tables, whatever it covers and whatever its kind
abbrev pub SameSpans : Table → Table → Span → Type 0
SameSpans t t' x = spans_in t' x ≡ spans_in t x

-- the two tables agree on a node, except for its parent word
abbrev pub SameColumns : Table → Table → ℕ → ℕ → Type 0
SameColumns t t' columns row = (c : ℕ) → 0 < c → c < columns → column t' row c ≡ column t row c
