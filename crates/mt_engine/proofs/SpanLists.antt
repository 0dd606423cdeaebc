-- Spans end to end: the map that they stand for, what it has at an index, and what stands beside a hole.
use Rattle.mt_engine.proofs.Prelude.{◌≡◌, ◌≢◌, ℕ, ◌+◌, ◌-◌, ◌<◌, ◌≤◌, ◌==◌, List, [], ◌∷◌, ◌++◌, Some, None, false, nat_le, refl, ap, ◌∙◌, subst, inl, inr, arith, IsSome, is_some, flat_map, cases_Bool, and_left, and_right, eqb-true, lt-leb, le-leb, Range, holds, holding, overlaps, is_held, Span, leaf_range, Fills, BeginsFull, Apart, EndsFull, fills_le, full_before_hole, full_behind_hole, range_of, IsSpanAt, At, stops_below}

-- the ranges of spans, which are the map that they stand for
abbrev pub ranges : List Span → List Range
ranges xs = flat_map leaf_range xs

-- ---- one range

pub starts_above : (r : Range) (index : ℕ) → index < r.first → holds index r ≡ false
starts_above r index lt = and_left (nat_le r.first index) (nat_le index r.last) (lt-leb r.first index lt)

lies_above : (r : Range) (first last : ℕ) → last < r.first → overlaps first last r ≡ false
lies_above r first last lt = and_left (nat_le r.first last) (nat_le first r.last) (lt-leb r.first last lt)

lies_below : (r : Range) (first last : ℕ) → r.last < first → overlaps first last r ≡ false
lies_below r first last lt = and_right (nat_le r.first last) (nat_le first r.last) (lt-leb first r.last lt)

-- ---- at an index

-- a hole gives no range, and an entry one
ranges_hole : (x : Span) (xs : List Span) → x.word ≡ 0 → ranges (x ∷ xs) ≡ ranges xs
ranges_hole x xs hole = rw hole refl

ranges_entry : (x : Span) (xs : List Span) → x.word ≢ 0 → ranges (x ∷ xs) ≡ range_of x ∷ ranges xs
ranges_entry x xs entry = elim (cases_Bool (x.word == 0)) [ inl hole ↦ absurd (entry (eqb-true x.word 0 hole)) | inr some ↦ rw some refl ]

-- spans above an index hold it not, nor do spans below it
none_above : (lo hi index : ℕ) (xs : List Span) → Fills lo hi xs → index < lo → holding (ranges xs) index ≡ None
none_above lo hi index [] fills above = refl
none_above lo hi index (x ∷ xs) fills above =
    let begins = fills.0 in let ends = fills.1 in
    let behind = none_above (x.last + 1) hi index xs fills.2 (omega arith) in
    elim (cases_Bool (x.word == 0)) [ inl hole ↦ rw hole behind | inr entry ↦ rw (entry, starts_above (range_of x) index (omega arith)) behind ]

-- what stands before the index does not count
pub holding_behind : (lo mid index : ℕ) (front back : List Span) → Fills lo mid front → mid ≤ index → holding (ranges (front ++ back)) index ≡ holding (ranges back) index
holding_behind lo mid index [] back fills below = refl
holding_behind lo mid index (x ∷ front) back fills below =
    let less = fills_le (x.last + 1) mid front fills.2 in
    let behind = holding_behind (x.last + 1) mid index front back fills.2 below in
    elim (cases_Bool (x.word == 0)) [ inl hole ↦ rw hole behind | inr entry ↦ rw (entry, stops_below (range_of x) index (omega arith)) behind ]

pub held_at_entry : (x : Span) (xs : List Span) (index : ℕ) → x.word ≢ 0 → x.first ≤ index → index ≤ x.last → holding (ranges (x ∷ xs)) index ≡ Some (range_of x)
held_at_entry x xs index entry from to = rw (ranges_entry x xs entry, le-leb x.first index from, le-leb index x.last to) refl

-- ---- over a hole

unheld_above : (lo hi first last : ℕ) (xs : List Span) → Fills lo hi xs → last < lo → is_held (ranges xs) first last ≡ false
unheld_above lo hi first last [] fills above = refl
unheld_above lo hi first last (x ∷ xs) fills above =
    let begins = fills.0 in let ends = fills.1 in
    let behind = unheld_above (x.last + 1) hi first last xs fills.2 (omega arith) in
    elim (cases_Bool (x.word == 0)) [ inl hole ↦ rw hole behind | inr entry ↦ rw (entry, lies_above (range_of x) first last (omega arith)) behind ]

held_behind : (lo mid first last : ℕ) (front back : List Span) → Fills lo mid front → mid ≤ first → is_held (ranges (front ++ back)) first last ≡ is_held (ranges back) first last
held_behind lo mid first last [] back fills below = refl
held_behind lo mid first last (x ∷ front) back fills below =
    let less = fills_le (x.last + 1) mid front fills.2 in
    let behind = held_behind (x.last + 1) mid first last front back fills.2 below in
    elim (cases_Bool (x.word == 0)) [ inl hole ↦ rw hole behind | inr entry ↦ rw (entry, lies_below (range_of x) first last (omega arith)) behind ]

-- ---- beside a hole

-- the last index of spans that end with an entry is held
held_at_end : (lo mid : ℕ) (front back : List Span) → Fills lo mid front → lo < mid → EndsFull front → IsSome (holding (ranges (front ++ back)) (mid - 1))
held_at_end lo mid [] back fills some full = absurd (omega arith)
held_at_end lo mid (x ∷ []) back fills some full =
    let begins = fills.0 in let within = fills.1 in let ends = fills.2 in
    ap is_some (held_at_entry x back (mid - 1) full (omega arith) (omega arith))
held_at_end lo mid (x ∷ y ∷ front) back fills some full =
    let begins = fills.2.0 in let within = fills.2.1 in
    let less = fills_le (y.last + 1) mid front fills.2.2 in
    let behind = held_at_end (x.last + 1) mid (y ∷ front) back fills.2 (omega arith) full in
    ap is_some (holding_behind lo (x.last + 1) (mid - 1) (x ∷ []) ((y ∷ front) ++ back) (fills.0, fills.1, refl) (omega arith)) ∙ behind

-- and so is the first index of spans that begin with one
held_at_begin : (mid hi : ℕ) (back : List Span) → Fills mid hi back → mid < hi → BeginsFull back → IsSome (holding (ranges back) mid)
held_at_begin mid hi [] fills some full = absurd (omega arith)
held_at_begin mid hi (x ∷ back) fills some full =
    let begins = fills.0 in let within = fills.1 in
    ap is_some (held_at_entry x back mid full (omega arith) (omega arith))

-- ---- what the span at an index tells of the map

pub span_tells : (top index : ℕ) (all : List Span) (x : Span) → At 0 (top + 1) all index x → Apart all → IsSpanAt (ranges all) top index x
span_tells top index all x at apart =
    let from = at.from in let to = at.to in
    let less = fills_le (x.last + 1) (top + 1) at.back at.after in
    let parts = at.parts in
    let whole = subst Apart parts apart in
    record {
      from = from;
      to = to;
      within = omega arith;
      held = λ entry.
          ap (λ (l : List Span). holding (ranges l) index) parts
          ∙ (holding_behind 0 x.first index at.front (x ∷ at.back) at.before from ∙ held_at_entry x at.back index entry from to);
      hole = λ hole.
          ap (λ (l : List Span). is_held (ranges l) x.first x.last) parts
          ∙ (held_behind 0 x.first x.first x.last at.front (x ∷ at.back) at.before (omega arith)
          ∙ (ap (λ (m : List Range). is_held m x.first x.last) (ranges_hole x at.back hole) ∙ unheld_above (x.last + 1) (top + 1) x.first x.last at.back at.after (omega arith)));
      before = λ hole some.
          ap (λ (l : List Span). is_some (holding (ranges l) (x.first - 1))) parts
          ∙ held_at_end 0 x.first at.front (x ∷ at.back) at.before some (full_before_hole at.front x at.back whole hole);
      behind = λ hole more.
          ap (λ (l : List Span). is_some (holding (ranges l) (x.last + 1))) parts
          ∙ (ap is_some (holding_behind 0 x.first (x.last + 1) at.front (x ∷ at.back) at.before (omega arith) ∙ ap (λ (m : List Range). holding m (x.last + 1)) (ranges_hole x at.back hole))
          ∙ held_at_begin (x.last + 1) (top + 1) at.back at.after (omega arith) (full_behind_hole at.front x at.back whole hole));
    }
