-- A tree of a height or the empty tree: which rows are reached, and where they stand.
use Rattle.mt_splice.proofs.Prelude.{◌≡◌, ◌⊎◌, ℕ, zero, suc, ◌+◌, ◌<◌, ◌≤◌, [], Option, Some, None, Bool, true, false, refl, ap, ◌∙◌, inl, inr, arith, cases_Bool, row_in, Span, deepest, first_row, Table, root_span, is_row_of, map_in, height_in, Tree, IsTree, is_reached, StandsAt, ranges_by_depth, Implies, stays_in_place, StandsAs, count_in, map_as}
use Rattle.mt_rows.proofs.Reached as reached
use Rattle.mt_splice.proofs.StoredWords.{words_of}

-- ---- the empty tree

none_reached : (t : Tree) (row : ℕ) → is_reached (record { rows = t.rows; table = t.table; root = 0 }) row ≡ false
none_reached t row = refl

none_high : (t : Table) → height_in t 0 ≡ 0
none_high t = refl

none_held : (t : Table) → map_in t 0 ≡ []
none_held t = refl

empty_reaches : (t : Tree) (row : ℕ) → t.root ≡ 0 → is_reached (words_of t) row ≡ false
empty_reaches t row empty = ap (λ (root : ℕ). is_reached (record { rows = t.rows; table = t.table; root = root }) row) empty ∙ none_reached t row

stands_nowhere : (t : Tree) (k : ℕ) (x : Span) → t.root ≡ 0 → StandsAt (words_of t) k x → ⊥
stands_nowhere t k x empty at = let none = ap (height_in t.table) empty ∙ none_high t.table in let levels = at.levels in omega arith

-- ---- either

pub is_tree : (t : Tree) (o : Option ℕ) → StandsAs t o → IsTree t
is_tree t None stands = inl stands
is_tree t (Some h) stands = inr (h, stands)

pub map_is : (t : Tree) (o : Option ℕ) → StandsAs t o → map_in t.table t.root ≡ map_as t o
map_is t None stands = ap (map_in t.table) stands ∙ none_held t.table
map_is t (Some h) stands = ranges_by_depth t deepest h (root_span t.table t.root) stands.low stands.rows

pub count_once : (t : Tree) (o : Option ℕ) (row : ℕ) → StandsAs t o → count_in (is_row_of row) t o ≤ 1
count_once t None row stands = omega arith
count_once t (Some h) row stands = reached.times_in_once t h stands row

pub reached_count : (t : Tree) (o : Option ℕ) (row : ℕ) → StandsAs t o → is_reached (words_of t) row ≡ true → 1 ≤ count_in (is_row_of row) t o
reached_count t None row stands is = let none = empty_reaches t row stands in absurd (cc)
reached_count t (Some h) row stands is = reached.reached_times t h stands row is

pub count_reached : (t : Tree) (o : Option ℕ) (row : ℕ) → StandsAs t o → 1 ≤ count_in (is_row_of row) t o → is_reached (words_of t) row ≡ true
count_reached t None row stands some = absurd (omega arith)
count_reached t (Some h) row stands some = reached.times_reached t h stands row some

pub unreached_count : (t : Tree) (o : Option ℕ) (row : ℕ) → StandsAs t o → is_reached (words_of t) row ≡ false → count_in (is_row_of row) t o ≡ 0
unreached_count t None row stands is = refl
unreached_count t (Some h) row stands is = reached.unreached_times t h stands row is

pub count_unreached : (t : Tree) (o : Option ℕ) (row : ℕ) → StandsAs t o → count_in (is_row_of row) t o ≡ 0 → is_reached (words_of t) row ≡ false
count_unreached t o row stands none = elim (cases_Bool (is_reached (words_of t) row)) [
  | inl is ↦ let some = reached_count t o row stands is in absurd (omega arith)
  | inr not ↦ not
]

pub count_number : (t : Tree) (o : Option ℕ) (row : ℕ) → StandsAs t o → 1 ≤ count_in (is_row_of row) t o → (first_row ≤ row) × (row < first_row + t.rows)
count_number t None row stands some = absurd (omega arith)
count_number t (Some h) row stands some = reached.reached_number t h stands row some

pub none_or_some : (n : ℕ) → (n ≡ 0) ⊎ (1 ≤ n)
none_or_some zero = inl refl
none_or_some (suc n) = inr (omega arith)

pub placed_count : (t : Tree) (o : Option ℕ) (k : ℕ) (x : Span) → StandsAs t o → StandsAt (words_of t) k x → 1 ≤ count_in (is_row_of (row_in x.word)) t o
placed_count t None k x stands at = absurd (stands_nowhere t k x stands at)
placed_count t (Some h) k x stands at = reached.on_level_reached t h stands k x (reached.on_level t h stands k x at)

-- a row of which as much is taken as is gone stands where it stood
pub stays : (t t' : Tree) (o o' : Option ℕ) (taken gone : (ℕ → Span → Bool) → ℕ) (k k' : ℕ) (x x' : Span) → StandsAs t o → StandsAs t' o'
    → ((p : ℕ → Span → Bool) → count_in p t o + taken p ≡ count_in p t' o' + gone p) → StandsAt (words_of t) k x → StandsAt (words_of t') k' x' → row_in x.word ≡ row_in x'.word
    → ((p : ℕ → Span → Bool) → Implies p (is_row_of (row_in x.word)) → taken p ≡ gone p) → (k' ≡ k) × (x'.first ≡ x.first) × (x'.last ≡ x.last) × (x'.word ≡ x.word)
stays t t' None o' taken gone k k' x x' stands stands' rows at at' same even = absurd (stands_nowhere t k x stands at)
stays t t' (Some h) None taken gone k k' x x' stands stands' rows at at' same even = absurd (stands_nowhere t' k' x' stands' at')
stays t t' (Some h) (Some h') taken gone k k' x x' stands stands' rows at at' same even =
    stays_in_place t t' h h' stands stands' taken gone rows k k' x x' (reached.on_level t h stands k x at) (reached.on_level t' h' stands' k' x' at') same even
