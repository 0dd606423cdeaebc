-- What a leaf tells of a map by one of its slots, and by the one behind it.
use Rattle.mt_read.proofs.Prelude.{◌≡◌, ◌≢◌, ℕ, suc, ◌+◌, ◌<◌, ◌≤◌, ◌==◌, Bool, true, false, List, [], ◌∷◌, ◌++◌, length, Some, None, inl, inr, refl, sym, ap, ◌∙◌, subst, arith, append_assoc, if◌then◌else◌, AllByRecursion, flat_map, slice_get, cases_lt, flat_map-append, Range, Kind, Width, Load, Find, answer, IsMap, greatest, greatest_of, kind_width, all_map, all_join, get_parts, Span, leaf_range, Fills, Apart, BeginsFull, EndsFull, fills_le, fills_split, none_filled, full_back, full_behind_hole, Table, Between, leaf_between, Extent, spans_at, IsPart}
use Rattle.mt_life.specs.Known.{Shape}
use Rattle.mt_read.proofs.MapAnswers.{range_part, hole_part, load_hole, load_range, find_range, find_none, find_hole}

abbrev ranges : List Span → List Range
ranges xs = flat_map leaf_range xs

regroup : (f gf lx gb b : List Range) → f ++ ((gf ++ (lx ++ gb)) ++ b) ≡ (f ++ gf) ++ (lx ++ (gb ++ b))
regroup f gf lx gb b =
    ap (λ (l : List Range). f ++ l) (append_assoc gf (lx ++ gb) b ∙ ap (λ (l : List Range). gf ++ l) (append_assoc lx gb b))
    ∙ sym (append_assoc f gf (lx ++ (gb ++ b)))

in_slot : (x : Span) → x.first ≤ x.last → AllByRecursion (λ (r : Range). (x.first ≤ r.first) × (r.last ≤ x.last)) (leaf_range x)
in_slot x order = by_word (x.word == 0)
  where
    by_word : (b : Bool) → AllByRecursion (λ (r : Range). (x.first ≤ r.first) × (r.last ≤ x.last)) (if b then [] else record { first = x.first; last = x.last; entry = x.word } ∷ [])
    by_word true = tt
    by_word false = ((omega arith, omega arith), tt)

-- what a map has over the indexes of a leaf tells what it has over those of a slot
narrow_at : (m : List Range) (lo hi : ℕ) (front : List Span) (x : Span) (back : List Span) → IsPart m lo hi (ranges (front ++ (x ∷ back))) → Fills lo (hi + 1) (front ++ (x ∷ back)) → IsPart m x.first x.last (leaf_range x)
narrow_at m lo hi front x back part fills =
    let split = fills_split lo (hi + 1) front x back fills in
    let low = fills_le lo x.first front split.0 in
    let high = fills_le (x.last + 1) (hi + 1) back split.2 in
    record {
      front = part.front ++ ranges front;
      back = ranges back ++ part.back;
      joined = part.joined ∙ (ap (λ (l : List Range). part.front ++ (l ++ part.back)) (flat_map-append leaf_range front (x ∷ back)) ∙ regroup part.front (ranges front) (leaf_range x) (ranges back) part.back);
      within = in_slot x (split.1);
      below = all_join (λ (r : Range). r.last < x.first) part.front (ranges front)
          (all_map (λ (r : Range). r.last < lo) (λ (r : Range). r.last < x.first) (λ r below. omega arith) part.front part.below)
          (all_map (Between lo x.first) (λ (r : Range). r.last < x.first) (λ r between. between.2) (ranges front) (leaf_between lo x.first front split.0));
      above = all_join (λ (r : Range). x.last < r.first) (ranges back) part.back
          (all_map (Between (x.last + 1) (hi + 1)) (λ (r : Range). x.last < r.first) (λ r between. let first = between.0 in omega arith) (ranges back) (leaf_between (x.last + 1) (hi + 1) back split.2))
          (all_map (λ (r : Range). hi < r.first) (λ (r : Range). x.last < r.first) (λ r above. omega arith) part.back part.above);
    }

pub narrow : (m : List Range) (lo hi i : ℕ) (xs : List Span) (x : Span) → IsPart m lo hi (ranges xs) → Fills lo (hi + 1) xs → slice_get xs i ≡ Some x → IsPart m x.first x.last (leaf_range x)
narrow m lo hi i xs x part fills at =
    let parts = get_parts xs i x at in
    narrow_at m lo hi parts.0 x parts.1 (subst (λ (l : List Span). IsPart m lo hi (ranges l)) parts.2 part) (subst (Fills lo (hi + 1)) parts.2 fills)

get_behind : {A : Type 0} (front : List A) (x : A) (back : List A) (y : A) → slice_get (front ++ (x ∷ back)) (length front + 1) ≡ Some y → (rest : List A) × (back ≡ y ∷ rest)
get_behind front x [] y at = let none = past front x in let clash : None ≡ Some y = sym none ∙ at in absurd cc
  where
    past : {A : Type 0} (front : List A) (x : A) → slice_get (front ++ (x ∷ [])) (length front + 1) ≡ None
    past [] x = refl
    past (z ∷ front) x = let more : suc (length front) + 1 ≡ suc (length front + 1) = omega arith in ap (slice_get (z ∷ (front ++ (x ∷ [])))) more ∙ past front x
get_behind front x (z ∷ back) y at =
    let there = second front x z back in
    let same : Some z ≡ Some y = sym there ∙ at in
    (back, (let one : z ≡ y = cc in ap (λ (v : _). v ∷ back) one))
  where
    second : {A : Type 0} (front : List A) (x z : A) (back : List A) → slice_get (front ++ (x ∷ z ∷ back)) (length front + 1) ≡ Some z
    second [] x z back = refl
    second (w ∷ front) x z back = let more : suc (length front) + 1 ≡ suc (length front + 1) = omega arith in ap (slice_get (w ∷ (front ++ (x ∷ z ∷ back)))) more ∙ second front x z back

-- a place and the one behind it
pub behind_in : (lo hi i : ℕ) (xs : List Span) (x y : Span) → Fills lo hi xs → slice_get xs i ≡ Some x → slice_get xs (i + 1) ≡ Some y → (y.first ≡ x.last + 1) × (y.first ≤ y.last) × (y.last < hi) × (Apart xs → x.word ≡ 0 → y.word ≢ 0)
behind_in lo hi i xs x y fills at at' =
    let parts = get_parts xs i x at in
    let front = parts.0 in let back = parts.1 in
    let there : slice_get (front ++ (x ∷ back)) (length front + 1) ≡ Some y = (λ j. slice_get (sym parts.2 j) (parts.3 j + 1)) ∙ at' in
    let rest = get_behind front x back y there in
    let split = fills_split lo hi front x back (subst (Fills lo hi) parts.2 fills) in
    let behind : Fills (x.last + 1) hi (y ∷ rest.0) = subst (Fills (x.last + 1) hi) rest.1 split.2 in
    let begins = behind.0 in let order = behind.1 in let ends = fills_le (y.last + 1) hi rest.0 behind.2 in (
      begins,
      omega arith,
      omega arith,
      λ apart hole. subst BeginsFull rest.1 (full_behind_hole front x back (subst Apart parts.2 apart) hole),
    )

-- ---- what a leaf tells by a slot

module _ (kind : Kind) (m : List Range) (map : IsMap kind m) (t : Table) (row : ℕ) (e : Extent) (level : e.level ≡ 0) (shape : Shape kind t row e)
    (part : IsPart m e.first e.last (ranges (spans_at kind t row e))) (i : ℕ) (x : Span) (at : slice_get (spans_at kind t row e) i ≡ Some x) (index : ℕ) (from : x.first ≤ index) (to : index ≤ x.last) where
  abbrev range_of : Span → Range
  range_of y = record { first = y.first; last = y.last; entry = y.word }

  here : IsPart m x.first x.last (leaf_range x)
  here = narrow m e.first e.last i (spans_at kind t row e) x part shape.fills at

  pub load_entry : x.word ≢ 0 → Some (range_of x) ≡ answer m (Load index)
  load_entry entry = load_range m (range_of x) index (range_part kind m map x entry here) from to

  pub load_none : x.word ≡ 0 → None ≡ answer m (Load index)
  load_none hole = load_hole kind m x.first x.last index map (hole_part kind m map x hole here) from to

  pub find_entry : x.word ≢ 0 → Some (range_of x) ≡ answer m (Find index (greatest_of kind))
  find_entry entry = find_range kind m map index (range_of x) (range_part kind m map x entry here) from to

  -- a leaf that ends with a hole ends at the greatest index
  pub find_end : x.word ≡ 0 → x.last ≡ e.last → t.width ≡ kind_width kind → e.last ≤ greatest_of kind → None ≡ answer m (Find index (greatest_of kind))
  find_end hole last wide low =
      let parts = get_parts (spans_at kind t row e) i x at in
      let fills = fills_split e.first (e.last + 1) parts.0 x parts.1 (subst (Fills e.first (e.last + 1)) parts.2 shape.fills) in
      let none = none_filled (x.last + 1) (e.last + 1) parts.1 fills.2 (omega arith) in
      let ends : e.last ≡ greatest_of kind = elim (cases_lt e.last (greatest_of kind)) [
        | inl less ↦ absurd (
            let full = shape.ends level (subst (λ (w : Width). e.last < greatest w) (sym wide) less) in
            full_back parts.0 (x ∷ []) (omega arith) (subst EndsFull (parts.2 ∙ ap (λ (l : List Span). parts.0 ++ (x ∷ l)) none) full) hole)
        | inr more ↦ omega arith
      ] in
      find_none kind m map index x.first (subst (λ (n : ℕ). IsPart m x.first n []) (last ∙ ends) (hole_part kind m map x hole here)) from (omega arith)

  -- behind a hole stands a range
  pub find_behind : (y : Span) → slice_get (spans_at kind t row e) (i + 1) ≡ Some y → x.word ≡ 0 → e.last ≤ greatest_of kind → Some (range_of y) ≡ answer m (Find index (greatest_of kind))
  find_behind y at' hole low =
      let next = behind_in e.first (e.last + 1) i (spans_at kind t row e) x y shape.fills at at' in
      let first = next.0 in let order = next.1 in let last = next.2 in
      let there : IsPart m y.first y.last (leaf_range y) = narrow m e.first e.last (i + 1) (spans_at kind t row e) y part shape.fills at' in
      find_range kind m map (x.last + 1) (range_of y) (range_part kind m map y (next.3 (shape.apart level) hole) there) (omega arith) (omega arith)
      ∙ find_hole kind m map index x.first x.last (hole_part kind m map x hole here) from to (omega arith)
