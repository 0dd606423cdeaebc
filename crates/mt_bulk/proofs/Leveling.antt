-- The levels above the leaves, laid before their items are known.
use Rattle.mt_bulk.proofs.Prelude.{◌≡◌, ◌≢◌, ℕ, suc, ◌+◌, ◌*◌, ◌<◌, ◌≤◌, List, [], ◌∷◌, ◌++◌, length, replicate, refl, ap, ◌∙◌, subst, arith, append_assoc, length-append, length-replicate, Result, Ok, Err, OnOk, div_ceil, Kind, finds_room, kind_width, Item, RowKind, inner_kind, Leaves, LevelToFill, Built, inner_slots, HasLeafFacts, AreLevels, HavePushed, IsLevelOf, above_leaves, whole_of, words_room, ChunkView, IsLevelToNumber, heads_in, rows_between, chunk_words, cut, ends_from, inner_size}
use Rattle.mt_bulk.proofs.Counts.{half_at_most, length_cut, some_rows}
use Rattle.mt_bulk.proofs.Raised.{length_ends}
use Rattle.mt_bulk.proofs.Raising.{LevelFacts, ends_are, raise_facts}
use Rattle.mt_bulk.proofs.Rows.{length_heads}

-- ---- how many rows a level has

no_item : Item
no_item = record { last = 0; word = 0; gap = 0 }

pub rows_over_items : (tree : Kind) (count most : ℕ) (ends : List ℕ) → most ≡ inner_slots (kind_width tree) (finds_room tree) → ((items : List Item) → length items ≡ count → ends ≡ ends_from 0 (cut (inner_size most) items))
    → length ends ≡ div_ceil count (inner_slots (kind_width tree) (finds_room tree))
rows_over_items tree count most ends most_is each =
    let slots = inner_slots (kind_width tree) (finds_room tree) in
    let items = replicate count no_item in
    let long : length items ≡ count = length-replicate count no_item in
    ap length (each items long) ∙ (ap (λ (n : ℕ). length (ends_from 0 (cut (inner_size n) items))) most_is
    ∙ (length_ends 0 (cut (inner_size slots) items) ∙ (length_cut (kind_width tree) (finds_room tree) items ∙ ap (λ (n : ℕ). div_ceil n slots) long)))

-- one at the least, and half as many as the items at the most
pub few_over : (tree : Kind) (count most : ℕ) (ends : List ℕ) → most ≡ inner_slots (kind_width tree) (finds_room tree) → ((items : List Item) → length items ≡ count → ends ≡ ends_from 0 (cut (inner_size most) items)) → 2 ≤ count
    → (1 ≤ length ends) × (2 * length ends ≤ count)
few_over tree count most ends most_is each two =
    let many = rows_over_items tree count most ends most_is each in
    (omega (arith, many, some_rows (kind_width tree) (finds_room tree) count (omega arith)), omega (arith, many, half_at_most (kind_width tree) (finds_room tree) count two))

-- ---- levels are pushed

pub pushed_top : (tree : Kind) (number count : ℕ) (before after : List LevelToFill) (l : LevelToFill) → IsLevelOf tree number count l → length l.ends.items ≡ 1 → after ≡ before ++ l ∷ [] → HavePushed tree number count before after
pushed_top tree number count before after l is one pushed = (l ∷ [], pushed, (is, λ other. absurd (other one)))

pushed_more : (tree : Kind) (number count : ℕ) (before middle after : List LevelToFill) (l : LevelToFill) → IsLevelOf tree number count l → middle ≡ before ++ l ∷ [] → HavePushed tree (number + length l.ends.items) (length l.ends.items) middle after → HavePushed tree number count before after
pushed_more tree number count before middle after l is pushed more = (
  l ∷ more.0,
  more.1 ∙ (ap (λ (x : List LevelToFill). x ++ more.0) pushed ∙ append_assoc before (l ∷ []) more.0),
  (is, λ other. more.2),
)

pub then_pushed : {A E : Type 0} → (r : Result A E) (tree : Kind) (number count rows : ℕ) (before middle after : List LevelToFill) (l : LevelToFill) → IsLevelOf tree number count l → rows ≡ length l.ends.items → middle ≡ before ++ l ∷ []
    → OnOk r (HavePushed tree (number + rows) rows middle after) → OnOk r (HavePushed tree number count before after)
then_pushed (Ok x) tree number count rows before middle after l is rows_is pushed told = pushed_more tree number count before middle after l is pushed (subst (λ (n : ℕ). HavePushed tree (number + n) n middle after) rows_is told)
then_pushed (Err e) tree number count rows before middle after l is rows_is pushed told = told

-- ---- a level whose items are known now

pub known_level : (tree : Kind) (number : ℕ) (items : List Item) (kind : RowKind) (l : LevelToFill) (ends parents : List ℕ) → kind ≡ inner_kind tree → IsLevelToNumber tree number items → IsLevelOf tree number (length items) l → ends ≡ l.ends.items → parents ≡ l.parents.items
    → LevelFacts tree 1 number items kind ends parents
known_level tree number items kind l ends parents kind_is level is ends_is parents_is =
    raise_facts tree number items kind l.ends.items ends l.parents.items parents (length l.ends.items) kind_is level
    (ends_are tree items (inner_slots (kind_width tree) (finds_room tree)) l.ends.items refl (is.ends items refl)) ends_is parents_is refl is.parents

pub some_levels : (tree : Kind) (number count : ℕ) (levels : List LevelToFill) → AreLevels tree number count levels → 0 < length levels
some_levels tree number count [] are = absurd are
some_levels tree number count (l ∷ levels) are = omega arith

pub first_level : (tree : Kind) (number count : ℕ) (levels above : List LevelToFill) (l : LevelToFill) → levels ≡ l ∷ above → AreLevels tree number count levels
    → IsLevelOf tree number count l × (length l.ends.items ≢ 1 → AreLevels tree (number + length l.ends.items) (length l.ends.items) above)
first_level tree number count levels above l is are = subst (AreLevels tree number count) is are

-- ---- as many items on the level above as leaves

length_rows_between : (items : List Item) (from : ℕ) (ends : List ℕ) → length (rows_between items from ends) ≡ length ends
length_rows_between items from [] = refl
length_rows_between items from (end ∷ ends) = ap suc (length_rows_between items end ends)

pub length_heads_in : (c : ChunkView) → length (heads_in c) ≡ length c.ends
length_heads_in c = length_heads (finds_room c.tree) c.kind _ c.number (rows_between c.items c.from c.ends) ∙ length_rows_between c.items c.from c.ends

-- the words of all rows, where there are several leaves
pub words_above : (l : Leaves) → HasLeafFacts l → length l.ends.items ≢ 1 → length (chunk_words (whole_of l)) + length (above_leaves l.kind l.items.items l.ends.items l.parents.items).words ≡ words_room l
words_above l are more =
    let above = above_leaves l.kind l.items.items l.ends.items l.parents.items in
    let is = ap (λ (b : Built). length b.words) (are.several more) in
    omega (arith, is, are.even, length-append (chunk_words (whole_of l)) above.words)
