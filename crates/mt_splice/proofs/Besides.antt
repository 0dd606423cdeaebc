-- The row beside a window is taken in, and the run may be cut.
use Rattle.mt_splice.proofs.Prelude.{◌≡◌, ◌≢◌, ◌⊎◌, ℕ, zero, suc, ◌+◌, ◌-◌, ◌<◌, ◌≤◌, ◌==◌, ◌&&◌, List, [], ◌∷◌, ◌++◌, Bool, true, false, length, refl, sym, ap, ◌∙◌, subst, inl, inr, arith, append_assoc, length-append, ne_eqb, eq-eqb, if◌then◌else◌, flat_map, flat_map-append, Range, reserved, all_join, Span, slots_of, least_items, leaf_range, Fills, EndsFull, sizes, fills-append, some_filled, full-append, two_hold_an_entry, spans_in, expand, Tree, IsRow, top_of, kind_on, covers_all, least_of_root, least_of, row_most, expand-append, holes_joined, ends_joined, full_unless_hole, no_hole_ends, ranges_joined, fills_joined, apart_joined, length_joined, length_joins, place, lawful, Start, rows_at, MayBeIn, most_in_three, span_to, MayBeCut, before, behind, row_at, low_of, high_of, StandFor, Gathered}
use Rattle.mt_splice.proofs.EditedRegions.{all_joined}
use Rattle.mt_splice.proofs.Windows.{begins_behind, row_behind, ahead_within, ends_ahead, row_ahead}
use Rattle.mt_splice.proofs.TakenIn.{beside}

-- ---- spans beside each other

beside_fills : (h lo middle hi : ℕ) (xs ys : List Span) → Fills lo middle xs → Fills middle hi ys → Fills lo hi (beside h xs ys)
beside_fills zero lo middle hi xs ys front back = fills_joined lo hi (xs ++ ys) (fills-append lo middle hi xs ys front back)
beside_fills (suc h) lo middle hi xs ys front back = fills-append lo middle hi xs ys front back

abbrev IsFree : Span → Type 0
IsFree x = reserved x.word ≡ false

beside_fit : (h : ℕ) (xs ys : List Span) → MayBeIn h xs → MayBeIn h ys → MayBeIn h (beside h xs ys)
beside_fit zero xs ys front back = (apart_joined (xs ++ ys), all_joined IsFree (λ x last free. free) (xs ++ ys) (all_join IsFree xs ys front.1 back.1))
beside_fit (suc h) xs ys front back = tt

beside_few : (h : ℕ) (xs ys : List Span) → length (beside h xs ys) ≤ length xs + length ys
beside_few zero xs ys = let most = length_joined (xs ++ ys) in omega (arith, most, length-append xs ys)
beside_few (suc h) xs ys = omega (arith, length-append xs ys)

beside_many : (h : ℕ) (xs ys : List Span) → MayBeIn h xs → MayBeIn h ys → length xs + length ys ≤ length (beside h xs ys) + 1
beside_many zero xs ys front back = length_joins xs ys front.0 back.0
beside_many (suc h) xs ys front back = omega (arith, length-append xs ys)

beside_full : (h : ℕ) (xs ys : List Span) → 1 ≤ length ys → EndsFull ys → EndsFull (beside h xs ys)
beside_full zero xs ys some full = full_unless_hole (holes_joined (xs ++ ys)) (ends_joined (xs ++ ys) ∙ no_hole_ends (xs ++ ys) (full-append xs ys some full))
beside_full (suc h) xs ys some full = full-append xs ys some full

beside_stands : (map : List Range) (below : List Span) (h : ℕ) (front xs ys back : List Span) → StandFor map below h (front ++ ((xs ++ ys) ++ back)) → StandFor map below h (front ++ (beside h xs ys ++ back))
beside_stands map below zero front xs ys back stands =
    flat_map-append leaf_range front (holes_joined (xs ++ ys) ++ back)
    ∙ (ap (λ (l : List Range). flat_map leaf_range front ++ l)
    (flat_map-append leaf_range (holes_joined (xs ++ ys)) back ∙ (ap (λ (l : List Range). l ++ flat_map leaf_range back) (ranges_joined (xs ++ ys)) ∙ sym (flat_map-append leaf_range (xs ++ ys) back)))
    ∙ (sym (flat_map-append leaf_range front ((xs ++ ys) ++ back)) ∙ stands))
beside_stands map below (suc h) front xs ys back stands = stands

-- ---- a row of the tree

pub row_fit : (t : Tree) (h : ℕ) (x : Span) → IsRow t h x → MayBeIn h (spans_in t.table x)
row_fit t zero x row = (row.holes.apart, row.entries)
row_fit t (suc h) x row = tt

row_full : (t : Tree) (h : ℕ) (x : Span) → h ≡ 0 → IsRow t h x → x.last < top_of t → EndsFull (spans_in t.table x)
row_full t zero x leaf row more = row.holes.ends more
row_full t (suc h) x leaf row more = absurd (omega arith)

part_least : (t : Tree) (h : ℕ) (x : Span) → (x.first ≢ 0) ⊎ (x.last ≢ top_of t) → IsRow t h x → least_items t.table.width (kind_on t.gapped h) ≤ length (spans_in t.table x)
part_least t h x part row = subst (λ (b : Bool). (if b then least_of_root h else least_items t.table.width (kind_on t.gapped h)) ≤ length (spans_in t.table x)) (is_part part) row.count.least
  where
    and_false : (b : Bool) → (b && false) ≡ false
    and_false true = refl
    and_false false = refl

    is_part : (x.first ≢ 0) ⊎ (x.last ≢ top_of t) → covers_all t x ≡ false
    is_part (inl late) = rw (ne_eqb x.first 0 late) refl
    is_part (inr early) = rw (ne_eqb x.last (top_of t) early) (and_false (x.first == 0))

-- ---- how many are enough

pub least_enough : (t : Tree) (h lo hi : ℕ) (n : ℕ) → least_items t.table.width (kind_on t.gapped h) ≤ n → least_of t h (span_to lo hi) ≤ n
least_enough t h lo hi n enough = by (covers_all t (span_to lo hi))
  where
    root_least : (h : ℕ) → least_of_root h ≤ 2
    root_least zero = omega arith
    root_least (suc h) = omega arith

    by : (b : Bool) → (if b then least_of_root h else least_items t.table.width (kind_on t.gapped h)) ≤ n
    by true = let two = root_least h in let some = (sizes t.table.width (kind_on t.gapped h)).some in omega arith
    by false = enough

pub all_enough : (t : Tree) (h lo hi n : ℕ) → lo ≡ 0 → hi ≡ top_of t + 1 → least_of_root h ≤ n → least_of t h (span_to lo hi) ≤ n
all_enough t h lo hi n first last least = let end : hi - 1 ≡ top_of t = omega arith in rw (eq-eqb lo 0 first, eq-eqb (hi - 1) (top_of t) end) least

pub leaf_entry : (h : ℕ) (run : List Span) → h ≡ 0 → MayBeIn h run → 2 ≤ length run → flat_map leaf_range run ≢ []
leaf_entry zero run leaf fit two = two_hold_an_entry run fit.0 two
leaf_entry (suc h) run leaf fit two = absurd (omega arith)

pub begin_within : {start : Start} {below : List Span} {i j d h : ℕ} {run : List Span} → Gathered start below i j d h run → i ≤ top_of start.tree
begin_within g = let order = g.order in let within = g.within in omega arith

pub low_enough : {start : Start} {below : List Span} {i j d h : ℕ} {run : List Span} → Gathered start below i j d h run → d ≤ start.height
low_enough g = let levels = g.levels in omega arith

pub some_gathered : {start : Start} {below : List Span} {i j d h : ℕ} {run : List Span} → Gathered start below i j d h run → 1 ≤ length run
some_gathered {start} {below} {i} {j} {d} {h} {run} g =
    let from = (place start.tree start.height g.stands i d (begin_within g) (low_enough g)).from in let to = (place start.tree start.height g.stands j d g.within (low_enough g)).to in let order = g.order in
    some_filled (low_of start.tree d i) (high_of start.tree d j) run g.fills (omega arith)

pub cut_of : {start : Start} {below : List Span} {i j d h : ℕ} {run : List Span} → Gathered start below i j d h run → length run ≤ most_in_three start.tree.table.width (kind_on start.tree.gapped h)
    → least_of start.tree h (span_to (low_of start.tree d i) (high_of start.tree d j)) ≤ length run → (h ≡ 0 → high_of start.tree d j ≤ top_of start.tree → EndsFull run) → (h ≡ 0 → flat_map leaf_range run ≢ [])
    → MayBeCut start.tree h (low_of start.tree d i) (high_of start.tree d j) run
cut_of g few enough ends some = record { fills = g.fills; some = some_gathered g; few = few; least = enough; fit = g.fit; leaves = λ leaf. record { ends = ends leaf; some = some leaf } }

module _ {start : Start} {below : List Span} {i j d h : ℕ} {run : List Span} (g : Gathered start below i j d h run) where
  abbrev t : Tree
  t = start.tree

  abbrev least : ℕ
  least = least_items t.table.width (kind_on t.gapped h)

  abbrev slots : ℕ
  slots = slots_of t.table.width (kind_on t.gapped h)

  -- ---- the row behind

  module _ (more : high_of t d j ≤ top_of t) where
    abbrev j' : ℕ
    j' = high_of t d j

    abbrev x : Span
    x = row_at t d j'

    law : IsRow t h x
    law = lawful t start.height g.stands j' d h more g.levels

    begins : x.first ≡ j'
    begins = begins_behind t start.height g.stands j d g.within (low_enough g) more

    pub takes_behind : Gathered start below i j' d h (beside h run (spans_in t.table x))
    takes_behind =
        let to = (place t start.height g.stands j d g.within (low_enough g)).to in
        record {
          stands = g.stands;
          levels = g.levels;
          order = let order = g.order in omega arith;
          within = more;
          first = g.first;
          last = let last = g.last in let after = (place t start.height g.stands j' d more (low_enough g)).to in omega arith;
          fills = beside_fills h (low_of t d i) j' (high_of t d j') run (spans_in t.table x) g.fills (subst (λ (k : ℕ). Fills k (high_of t d j') (spans_in t.table x)) begins law.pivots.fills);
          fit = beside_fit h run (spans_in t.table x) g.fit (row_fit t h x law);
          level = beside_stands start.map below h (expand t.table (before i (rows_at t d))) run (spans_in t.table x) (expand t.table (behind j' (rows_at t d)))
              (subst (StandFor start.map below h)
              (ap (λ (l : List Span). expand t.table (before i (rows_at t d)) ++ l)
              (ap (λ (l : List Span). run ++ expand t.table l) (row_behind t start.height g.stands j d g.within (low_enough g) more) ∙ sym (append_assoc run (spans_in t.table x) (expand t.table (behind j' (rows_at t d))))))
              g.level);
        }

    pub cut_behind : length run + slots ≤ most_in_three t.table.width (kind_on t.gapped h) → MayBeCut t h (low_of t d i) (high_of t d j') (beside h run (spans_in t.table x))
    cut_behind few =
        let enough = sizes t.table.width (kind_on t.gapped h) in let one = some_gathered g in
        let begin = begins in
        let many = part_least t h x (inl (λ none. omega arith)) law in let most = row_most law.name in
        let few_all = beside_few h run (spans_in t.table x) in let many_all = beside_many h run (spans_in t.table x) g.fit (row_fit t h x law) in
        cut_of takes_behind (omega arith) (least_enough t h (low_of t d i) (high_of t d j') (length (beside h run (spans_in t.table x))) (omega arith))
        (λ leaf inside. beside_full h run (spans_in t.table x) (omega arith) (row_full t h x leaf law (omega arith)))
        (λ leaf. leaf_entry h (beside h run (spans_in t.table x)) leaf takes_behind.fit (omega arith))

  -- ---- the row before, where none stands behind

  module _ (some : 0 < low_of t d i) where
    abbrev i' : ℕ
    i' = low_of t d i - 1

    abbrev y : Span
    y = row_at t d i'

    within' : i' ≤ top_of t
    within' = ahead_within t start.height g.stands i d (begin_within g) (low_enough g) some

    law_before : IsRow t h y
    law_before = lawful t start.height g.stands i' d h within' g.levels

    ends : y.last + 1 ≡ low_of t d i
    ends = ends_ahead t start.height g.stands i d (begin_within g) (low_enough g) some

    pub takes_before : Gathered start below i' j d h (beside h (spans_in t.table y) run)
    takes_before =
        let from = (place t start.height g.stands i d (begin_within g) (low_enough g)).from in
        record {
          stands = g.stands;
          levels = g.levels;
          order = let order = g.order in omega arith;
          within = g.within;
          first = let first = g.first in let ahead = (place t start.height g.stands i' d within' (low_enough g)).from in omega arith;
          last = g.last;
          fills = beside_fills h (low_of t d i') (low_of t d i) (high_of t d j) (spans_in t.table y) run (subst (λ (k : ℕ). Fills (low_of t d i') k (spans_in t.table y)) ends law_before.pivots.fills) g.fills;
          fit = beside_fit h (spans_in t.table y) run (row_fit t h y law_before) g.fit;
          level = beside_stands start.map below h (expand t.table (before i' (rows_at t d))) (spans_in t.table y) run (expand t.table (behind j (rows_at t d)))
              (subst (StandFor start.map below h)
              ((λ m. (ap (expand t.table) (row_ahead t start.height g.stands i d (begin_within g) (low_enough g) some) ∙ expand-append t.table (before i' (rows_at t d)) (y ∷ [])) m ++ (run ++ expand t.table (behind j (rows_at t d))))
              ∙ regroup (expand t.table (before i' (rows_at t d))) (spans_in t.table y) (expand t.table (behind j (rows_at t d))))
              g.level);
        }
      where
        regroup : (a b e : List Span) → (a ++ (b ++ [])) ++ (run ++ e) ≡ a ++ ((b ++ run) ++ e)
        regroup a b e = simp append_assoc

    pub cut_before : high_of t d j ≡ top_of t + 1 → length run + slots ≤ most_in_three t.table.width (kind_on t.gapped h) → MayBeCut t h (low_of t d i') (high_of t d j) (beside h (spans_in t.table y) run)
    cut_before last few =
        let enough = sizes t.table.width (kind_on t.gapped h) in let one = some_gathered g in
        let from = (place t start.height g.stands i d (begin_within g) (low_enough g)).from in let within = begin_within g in let begin = ends in
        let many = part_least t h y (inr (λ none. omega arith)) law_before in let most = row_most law_before.name in
        let few_all = beside_few h (spans_in t.table y) run in let many_all = beside_many h (spans_in t.table y) run (row_fit t h y law_before) g.fit in
        cut_of takes_before (omega arith) (least_enough t h (low_of t d i') (high_of t d j) (length (beside h (spans_in t.table y) run)) (omega arith))
        (λ leaf inside. absurd (omega arith))
        (λ leaf. leaf_entry h (beside h (spans_in t.table y) run) leaf takes_before.fit (omega arith))
