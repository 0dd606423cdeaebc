-- A bulk build is finished: what is made of the words of `bulk` is built, and refusals.
use Rattle.mt_bulk.proofs.Prelude.{◌≡◌, ℕ, ◌+◌, ◌*◌, ◌/◌, ◌%◌, ◌≤◌, List, [], ◌∷◌, Option, Some, None, length, nat_lt, refl, sym, ap, ◌∙◌, subst, inl, inr, arith, cases_Bool, ltb-true, Kind, Range, Width, Long, Short, finds_room, columns, first_row, greatest_of, kind_width, most_rows, spans_from, Apart, IsMadeOf, tree_made, new_sheet, IsLawfulOf, map_by, Rooted, Sheet, BulkError, Leaves, HasLeafFacts, IsBuilt, refusal, refused_by, too_many, bulk, rows_in, rows_up, items_of, misplaced}
use Rattle.mt_bulk.proofs.Built.{rows_of}
use Rattle.mt_bulk.proofs.Counts.{length_built}
use Rattle.mt_bulk.proofs.ItemLaws.{map_items_apart}
use Rattle.mt_bulk.proofs.LawfulTree.{bulk_lawful}
use Rattle.mt_bulk.proofs.Whole.{in_order, some_items}

-- ---- the rows of what is built

whole_quotient : (width : Width) (n : ℕ) → columns width * n / columns width ≡ n
whole_quotient Long n = omega arith
whole_quotient Short n = omega arith

whole_rest : (width : Width) (n : ℕ) → columns width * n % columns width ≡ 0
whole_rest Long n = omega arith
whole_rest Short n = omega arith

no_words_even : (width : Width) → 0 ≡ columns width * 0
no_words_even Long = refl
no_words_even Short = refl

pub apart_items : (kind : Kind) (m : List Range) → misplaced kind m ≡ None → Apart (spans_from 0 (items_of kind m))
apart_items kind m good = let order = in_order kind 0 0 m good in map_items_apart kind m (record { rise = order.rise; within = order.within })

-- the number of rows, by that of the leaves
pub rows_counted : (kind : Kind) (r : Range) (m : List Range) → misplaced kind (r ∷ m) ≡ None
    → length (bulk kind (r ∷ m)).words ≡ columns (kind_width kind) * rows_up (kind_width kind) (finds_room kind) (length (items_of kind (r ∷ m))) (length (rows_of kind 0 (items_of kind (r ∷ m))))
rows_counted kind r m good = length_built kind (length (items_of kind (r ∷ m))) 0 first_row (items_of kind (r ∷ m)) (omega arith) (some_items 0 (greatest_of kind + 1) r m) (λ is. apart_items kind (r ∷ m) good)

pub rows_are : (kind : Kind) (m : List Range) (n : ℕ) → length (bulk kind m).words ≡ columns (kind_width kind) * n → rows_in kind m ≡ n
rows_are kind m n long = ap (λ (k : ℕ). k / columns (kind_width kind)) long ∙ whole_quotient (kind_width kind) n

pub rows_even : (kind : Kind) (m : List Range) → misplaced kind m ≡ None → length (bulk kind m).words ≡ columns (kind_width kind) * rows_in kind m
rows_even kind [] good = no_words_even (kind_width kind) ∙ ap (λ (n : ℕ). columns (kind_width kind) * n) (sym (rows_are kind [] 0 (no_words_even (kind_width kind))))
rows_even kind (r ∷ m) good =
    let long = rows_counted kind r m good in
    long ∙ ap (λ (n : ℕ). columns (kind_width kind) * n) (sym (rows_are kind (r ∷ m) (rows_up (kind_width kind) (finds_room kind) (length (items_of kind (r ∷ m))) (length (rows_of kind 0 (items_of kind (r ∷ m))))) long))

-- ---- what is made of the words

pub bulk_is_lawful : (kind : Kind) (m : List Range) → misplaced kind m ≡ None → rows_in kind m ≤ most_rows
    → IsLawfulOf (tree_made (kind_width kind) (bulk kind m).root (bulk kind m).words) kind × (map_by (tree_made (kind_width kind) (bulk kind m).root (bulk kind m).words) ≡ m)
bulk_is_lawful kind m good few =
    let both = bulk_lawful kind m (rows_in kind m) good few (rows_even kind m good) in
    (record { width = refl; words = both.0 }, both.1)

pub made_is_built : (kind : Kind) (m : List Range) (s : Sheet) → misplaced kind m ≡ None → rows_in kind m ≤ most_rows → IsMadeOf (kind_width kind) (bulk kind m).root (bulk kind m).words s → IsBuilt kind m s
made_is_built kind m s good few made =
    let tree : s.tree ≡ tree_made (kind_width kind) (bulk kind m).root (bulk kind m).words = ap (λ (x : Sheet). x.tree) made.rest in
    let both = bulk_is_lawful kind m good few in
    record {
      words = made;
      lawful = subst (λ (t : Rooted). IsLawfulOf t kind) (sym tree) both.0;
      map = ap map_by tree ∙ both.1;
    }

-- of the leaves' ranges
pub leaves_built : (l : Leaves) (s : Sheet) (root : ℕ) (words : List ℕ) → HasLeafFacts l → root ≡ (bulk l.kind l.ranges.now).root → words ≡ (bulk l.kind l.ranges.now).words → IsMadeOf (kind_width l.kind) root words s → IsBuilt l.kind l.ranges.now s
leaves_built l s root words are root_is words_is made =
    made_is_built l.kind l.ranges.now s are.good (subst (λ (n : ℕ). n ≤ most_rows) (sym (rows_are l.kind l.ranges.now l.rows are.even)) are.few)
    (subst (λ (w : List ℕ). IsMadeOf (kind_width l.kind) (bulk l.kind l.ranges.now).root w s) words_is (subst (λ (r : ℕ). IsMadeOf (kind_width l.kind) r words s) root_is made))

pub words_whole : (l : Leaves) (words : List ℕ) → HasLeafFacts l → words ≡ (bulk l.kind l.ranges.now).words → (length words % columns (kind_width l.kind) ≡ 0) × (length words / columns (kind_width l.kind) ≤ most_rows)
words_whole l words are is =
    let long = ap length is ∙ are.even in
    let few = are.few in
    let q = ap (λ (n : ℕ). n / columns (kind_width l.kind)) long ∙ whole_quotient (kind_width l.kind) l.rows in
    (ap (λ (n : ℕ). n % columns (kind_width l.kind)) long ∙ whole_rest (kind_width l.kind) l.rows, omega (arith, q, few))

-- ---- refusals

pub few_none : (rows : ℕ) → rows ≤ most_rows → too_many rows ≡ None
few_none rows few = elim (cases_Bool (nat_lt most_rows rows)) [
  | inl many ↦ absurd (let high = ltb-true most_rows rows many in omega arith)
  | inr fit ↦ rw fit refl
]

pub none_refused : (kind : Kind) (ranges : List Range) → length ranges ≡ 0 → refusal kind ranges ≡ None
unfolding refusal
none_refused kind (r ∷ m) none = absurd (omega arith)
none_refused kind [] none_is = few_none (rows_in kind []) (let none = rows_are kind [] 0 (no_words_even (kind_width kind)) in omega arith)

pub leaves_taken : (l : Leaves) → HasLeafFacts l → refusal l.kind l.ranges.now ≡ None
unfolding refusal
leaves_taken l are =
    let rows = rows_are l.kind l.ranges.now l.rows are.even in
    let few = are.few in
    ap (λ (o : Option ℕ). refused_by o (rows_in l.kind l.ranges.now)) are.good ∙ few_none (rows_in l.kind l.ranges.now) (omega (arith, rows, few))

pub refused_order : (kind : Kind) (ranges : List Range) (e : BulkError) → ((rows : ℕ) → refused_by (misplaced kind ranges) rows ≡ Some e) → refusal kind ranges ≡ Some e
unfolding refusal
refused_order kind ranges e each = each (rows_in kind ranges)

pub refused_rows : (kind : Kind) (ranges : List Range) (rows : ℕ) (e : BulkError) → misplaced kind ranges ≡ None → rows_in kind ranges ≡ rows → too_many rows ≡ Some e → refusal kind ranges ≡ Some e
unfolding refusal
refused_rows kind ranges rows e good is many = (λ i. refused_by (good i) (is i)) ∙ many

-- ---- the table

-- a table that was made for so many rows is one for these words
pub table_for : (l : Leaves) (W : Width) (words : List ℕ) (s : Sheet) → HasLeafFacts l → W ≡ kind_width l.kind → words ≡ (bulk l.kind l.ranges.now).words → s ≡ new_sheet (kind_width l.kind) l.rows
    → (length words % columns W ≡ 0) × (s ≡ new_sheet W (length words / columns W))
table_for l W words s are width_is words_is made = subst (λ (w : Width). (length words % columns w ≡ 0) × (s ≡ new_sheet w (length words / columns w))) (sym width_is) (
    let long = ap length words_is ∙ are.even in
    let whole = (words_whole l words are words_is).0 in
    let count = ap (λ (n : ℕ). n / columns (kind_width l.kind)) long ∙ whole_quotient (kind_width l.kind) l.rows in
    (whole, made ∙ ap (new_sheet (kind_width l.kind)) (sym count)))

pub built_in : (l : Leaves) (W : Width) (root : ℕ) (words : List ℕ) (s : Sheet) → HasLeafFacts l → W ≡ kind_width l.kind → root ≡ (bulk l.kind l.ranges.now).root → words ≡ (bulk l.kind l.ranges.now).words
    → IsMadeOf W root words s → IsBuilt l.kind l.ranges.now s
built_in l W root words s are width_is root_is words_is made = leaves_built l s root words are root_is words_is (subst (λ (w : Width). IsMadeOf w root words s) width_is made)
