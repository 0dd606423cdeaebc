-- The items of a level by their parts, each of which stands in a row.
use Rattle.mt_splice.proofs.Prelude.{◌≡◌, ◌≢◌, ℕ, zero, suc, ◌+◌, ◌-◌, ◌<◌, ◌≤◌, List, [], ◌∷◌, ◌++◌, Bool, true, false, length, map, take, drop, get_or, refl, sym, ap, ◌∙◌, subst, ⊎_elim, arith, append-nil, length-append, take-append-drop, length-take-le, length-drop, if◌then◌else◌, AllByRecursion, cases_lt, take_all, take-take, drop-take, take-map, drop-map, get_or-take, get_or-drop, Width, all_front, all_back, Item, Span, RowKind, slots_of, least_items, spans_from, Fills, Apart, EndsFull, some_least, length-spans_from, after, after-append, spans-append, fills_after, fills_items, apart_front, apart_back, full_back, two_hold_an_entry, word_of, IsPiece, ArePieces, Tree, top_of, kind_on, least_of, least_of_root, covers_all, IsCutOf, MayBeIn, most_in_three, MayBeLeaves, span_to, MayBeCut}
use Rattle.std.proofs.lemmas.List.{drop-drop}

ends_full : (lo k : ℕ) (xs : List Item) → k + 1 ≡ length xs → get_or (map (λ (x : Item). x.word) xs) k 0 ≢ 0 → EndsFull (spans_from lo xs)
ends_full lo k [] at full = tt
ends_full lo zero (x ∷ []) at full = full
ends_full lo zero (x ∷ y ∷ xs) at full = absurd (omega arith)
ends_full lo (suc k) (x ∷ []) at full = absurd (omega arith)
ends_full lo (suc k) (x ∷ y ∷ xs) at full = ends_full (x.last + 1) k (y ∷ xs) (omega arith) full

-- ---- a part of the items

abbrev pub IsRun : Tree → ℕ → ℕ → ℕ → List Item → Type 0
IsRun t height lo hi items = MayBeCut t height lo hi (spans_from lo items)

pub some_items : {t : Tree} {height lo hi : ℕ} (items : List Item) → IsRun t height lo hi items → 1 ≤ length items
some_items {t} {height} {lo} {hi} items run = subst (λ (n : ℕ). 1 ≤ n) (length-spans_from lo items) run.some

-- the kind of the rows of a height, and how many items these have
abbrev pub least_in : Tree → ℕ → ℕ
least_in t height = least_items t.table.width (kind_on t.gapped height)

abbrev pub most_in : Tree → ℕ → ℕ
most_in t height = slots_of t.table.width (kind_on t.gapped height)

least_is_few : (t : Tree) (height n : ℕ) (x : Span) → least_in t height ≤ n → 2 ≤ n → least_of t height x ≤ n
least_is_few t height n x least two = by (covers_all t x) (of_root height)
  where
    of_root : (height : ℕ) → least_of_root height ≤ 2
    of_root zero = omega arith
    of_root (suc height) = omega arith

    by : (c : Bool) → least_of_root height ≤ 2 → (if c then least_of_root height else least_in t height) ≤ n
    by true few = omega arith
    by false few = least

module _ {t : Tree} {height lo hi : ℕ} (front part back : List Item) (run : IsRun t height lo hi (front ++ (part ++ back))) (least : least_in t height ≤ length part)
    (full : height ≡ 0 → 1 ≤ length back → EndsFull (spans_from (after lo front) part)) where
  abbrev begin : ℕ
  begin = after lo front

  abbrev end : ℕ
  end = after begin part

  two : 2 ≤ length part
  two = omega (arith, some_least t.table.width (kind_on t.gapped height), least)

  fills_all : Fills begin end (spans_from begin part) × Fills end hi (spans_from end back)
  fills_all = fills_items begin hi part back (fills_items lo hi front (part ++ back) run.fills).1

  parts_are : spans_from lo (front ++ (part ++ back)) ≡ spans_from lo front ++ (spans_from begin part ++ spans_from end back)
  parts_are = spans-append lo front (part ++ back) ∙ ap (λ (l : List Span). spans_from lo front ++ l) (spans-append begin part back)

  of_part : (P : Span → Type 0) → AllByRecursion P (spans_from lo (front ++ (part ++ back))) → AllByRecursion P (spans_from begin part)
  of_part P all = all_front P (spans_from begin part) (spans_from end back) (all_back P (spans_from lo front) (spans_from begin part ++ spans_from end back) (subst (AllByRecursion P) parts_are all))

  apart_part : Apart (spans_from lo (front ++ (part ++ back))) → Apart (spans_from begin part)
  apart_part apart = apart_front (spans_from begin part) (spans_from end back) (apart_back (spans_from lo front) (spans_from begin part ++ spans_from end back) (subst Apart parts_are apart))

  long : 2 ≤ length (spans_from begin part)
  long = subst (λ (n : ℕ). 2 ≤ n) (sym (length-spans_from begin part)) two

  ends_part : height ≡ 0 → (back' : List Item) → back ≡ back' → (hi ≤ top_of t → EndsFull (spans_from lo (front ++ (part ++ back)))) → end ≤ top_of t → EndsFull (spans_from begin part)
  ends_part is [] none ends below =
      let hi_is : end ≡ hi = subst (λ (l : List Item). Fills end hi (spans_from end l)) none fills_all.1 in
      let all : EndsFull (spans_from lo front ++ (spans_from begin part ++ spans_from end back)) = subst EndsFull parts_are (ends (omega arith)) in
      let nothing : spans_from begin part ++ spans_from end back ≡ spans_from begin part = ap (λ (l : List Item). spans_from begin part ++ spans_from end l) none ∙ append-nil (spans_from begin part) in
      full_back (spans_from lo front) (spans_from begin part) (let l = long in omega arith) (subst (λ (l : List Span). EndsFull (spans_from lo front ++ l)) nothing all)
  ends_part is (x ∷ rest) some ends below = full is (let more = ap length some in omega arith)

  fit_part : (h : ℕ) → MayBeIn h (spans_from lo (front ++ (part ++ back))) → MayBeIn h (spans_from begin part)
  fit_part zero fit = (apart_part fit.0, of_part _ fit.1)
  fit_part (suc h) fit = tt

  few_in_part : length (spans_from begin part) ≤ most_in_three t.table.width (kind_on t.gapped height)
  few_in_part =
      let few = run.few in let all = length-spans_from lo (front ++ (part ++ back)) in let here = length-spans_from begin part in
      let long = length-append front (part ++ back) in let rest = length-append part back in
      omega arith

  leaves_part : height ≡ 0 → MayBeLeaves t end (spans_from begin part)
  leaves_part is = record {
    ends = ends_part is back refl (run.leaves is).ends;
    some = two_hold_an_entry (spans_from begin part) (subst (λ (h : ℕ). MayBeIn h (spans_from begin part)) is (fit_part height run.fit)).0 long;
  }

  part_is_run : IsRun t height begin end part
  part_is_run = record {
    fills = fills_all.0;
    some = let l = long in omega arith;
    few = few_in_part;
    least = subst (λ (n : ℕ). least_of t height (span_to begin end) ≤ n) (sym (length-spans_from begin part)) (least_is_few t height (length part) (span_to begin end) least two);
    fit = fit_part height run.fit;
    leaves = leaves_part;
  }

-- ---- all parts

-- the items `from` to, but without, `to`
abbrev pub part_of : List Item → ℕ → ℕ → List Item
part_of items from to = take (to - from) (drop from items)

-- they begin at `at`, and can stand in one row
pub record IsPart (t : Tree) (height at : ℕ) (items : List Item) (from to : ℕ) : Type 0 where
  pub some : from < to
  pub within : to ≤ length items
  pub fit : to ≤ from + most_in t height
  pub run : IsRun t height at (after at (part_of items from to)) (part_of items from to)

abbrev pub AreParts : Tree → ℕ → ℕ → List Item → ℕ → List ℕ → Type 0
AreParts t height at items from [] = from ≡ length items
AreParts t height at items from (to ∷ ends) = IsPart t height at items from to × AreParts t height (after at (part_of items from to)) items to ends

pub take_part : (items : List Item) (from to : ℕ) → from ≤ to → take to items ≡ take from items ++ part_of items from to
take_part items from to order =
    let whole : from + (to - from) ≡ to = omega arith in
    sym (take-append-drop from (take to items))
    ∙ (λ i. take-take from to items order i ++ (ap (λ (n : ℕ). drop from (take n items)) (sym whole) ∙ drop-take from (to - from) items) i)

drop_part : (items : List Item) (from to : ℕ) → from ≤ to → drop from items ≡ part_of items from to ++ drop to items
drop_part items from to order =
    let whole : from + (to - from) ≡ to = omega arith in
    sym (take-append-drop (to - from) (drop from items)) ∙ ap (λ (l : List Item). part_of items from to ++ l) (drop-drop (to - from) from items ∙ ap (λ (n : ℕ). drop n items) whole)

all_parts : (items : List Item) (from to : ℕ) → from ≤ to → items ≡ take from items ++ (part_of items from to ++ drop to items)
all_parts items from to order = sym (take-append-drop from items) ∙ ap (λ (l : List Item). take from items ++ l) (drop_part items from to order)

pub length-part : (items : List Item) (from to : ℕ) → to ≤ length items → length (part_of items from to) ≡ to - from
length-part items from to within = length-take-le (to - from) (drop from items) (let rest = length-drop from items in omega arith)

word_in_part : (items : List Item) (from to : ℕ) → from < to → get_or (map (λ (x : Item). x.word) (part_of items from to)) (to - from - 1) 0 ≡ word_of items (to - 1)
word_in_part items from to some =
    let words = map (λ (x : Item). x.word) items in
    let at : from + (to - from - 1) ≡ to - 1 = omega arith in
    ap (λ (l : List ℕ). get_or l (to - from - 1) 0) (sym (take-map (λ (x : Item). x.word) (to - from) (drop from items)) ∙ ap (take (to - from)) (sym (drop-map (λ (x : Item). x.word) from items)))
    ∙ (get_or-take (to - from) (drop from words) (to - from - 1) 0 (omega arith) ∙ (get_or-drop from words (to - from - 1) 0 ∙ ap (λ (n : ℕ). get_or words n 0) at))

module _ {t : Tree} {height lo hi : ℕ} (items : List Item) (leaf : Bool) (run : IsRun t height lo hi items) (is_leaf : height ≡ 0 → leaf ≡ true) where
  pieces_within : (from : ℕ) (ends : List ℕ) → ArePieces leaf (least_in t height) (most_in t height) items from ends → from ≤ length items
  pieces_within from [] pieces = omega arith
  pieces_within from (to ∷ ends) pieces = let below = pieces_within to ends pieces.1 in let some = pieces.0.some in omega arith

  piece_is_part : (from to at : ℕ) → at ≡ after lo (take from items) → IsPiece leaf (least_in t height) (most_in t height) items from to → to ≤ length items → IsPart t height at items from to
  piece_is_part from to at begins piece within =
      let some = piece.some in let many = piece.many in
      let long : length (part_of items from to) ≡ to - from = length-part items from to within in
      let all = subst (IsRun t height lo hi) (all_parts items from to (omega arith)) run in
      let full : height ≡ 0 → 1 ≤ length (drop to items) → EndsFull (spans_from (after lo (take from items)) (part_of items from to)) = λ zero behind.
      let rest = length-drop to items in
      ends_full (after lo (take from items)) (to - from - 1) (part_of items from to) (omega arith) (subst (λ (n : ℕ). n ≢ 0) (sym (word_in_part items from to some)) (piece.full (is_leaf zero) (omega arith))) in
      record {
        some = some;
        within = within;
        fit = piece.few;
        run = subst (λ (n : ℕ). IsRun t height n (after n (part_of items from to)) (part_of items from to)) (sym begins)
            (part_is_run (take from items) (part_of items from to) (drop to items) all (omega arith) full);
      }

  pieces_are_parts : (from at : ℕ) (ends : List ℕ) → at ≡ after lo (take from items) → ArePieces leaf (least_in t height) (most_in t height) items from ends → AreParts t height at items from ends
  pieces_are_parts from at [] begins pieces = pieces
  pieces_are_parts from at (to ∷ ends) begins pieces =
      let order : from ≤ to = let some = pieces.0.some in omega arith in (
        piece_is_part from to at begins pieces.0 (pieces_within to ends pieces.1),
        pieces_are_parts to (after at (part_of items from to)) ends
            (ap (λ (n : ℕ). after n (part_of items from to)) begins ∙ (sym (after-append lo (take from items) (part_of items from to)) ∙ ap (after lo) (sym (take_part items from to order)))) pieces.1,
      )

  one_part : length items ≤ most_in t height → AreParts t height lo items 0 (length items ∷ [])
  one_part few =
      let whole : items ≡ part_of items 0 (length items) = sym (take_all (length items - 0) items (omega arith)) in
      let some = some_items items run in (
        record {
          some = omega arith;
          within = omega arith;
          fit = omega arith;
          run = subst (λ (l : List Item). IsRun t height lo (after lo l) l) whole (subst (λ (n : ℕ). IsRun t height lo n items) (fills_after lo hi items run.fills) run);
        },
        refl,
      )

-- a cut makes parts of the items
pub cut_makes_parts : {t : Tree} {height lo hi : ℕ} {ends : List ℕ} (items : List Item) → IsRun t height lo hi items → IsCutOf t.table.width (kind_on t.gapped height) items ends → AreParts t height lo items 0 ends
cut_makes_parts {t} {height} {lo} {hi} {ends} items run cut =
    let leaf_is : height ≡ 0 → cut.leaf ≡ true = λ zero. cut.of_leaf (ap (kind_on t.gapped) zero) in
    ⊎_elim
    (λ (many : most_in t height < length items). pieces_are_parts items cut.leaf run leaf_is 0 lo ends refl (cut.cut.more many).pieces)
    (λ (few : length items ≤ most_in t height). subst (AreParts t height lo items 0) (sym (cut.cut.one few)) (one_part items cut.leaf run leaf_is few))
    (cases_lt (most_in t height) (length items))

-- it makes one row at the least
pub some_ends : {width : Width} {kind : RowKind} {items : List Item} {ends : List ℕ} → IsCutOf width kind items ends → 1 ≤ length items → 1 ≤ length ends
some_ends {width} {kind} {items} {ends} cut some =
    ⊎_elim
    (λ (many : slots_of width kind < length items). by ends (cut.cut.more many).pieces)
    (λ (few : length items ≤ slots_of width kind). let one = ap length (cut.cut.one few) in omega arith)
    (cases_lt (slots_of width kind) (length items))
  where
    by : (ends : List ℕ) → ArePieces cut.leaf (least_items width kind) (slots_of width kind) items 0 ends → 1 ≤ length ends
    by [] pieces = let none : 0 ≡ length items = pieces in absurd (omega arith)
    by (to ∷ ends) pieces = omega arith
