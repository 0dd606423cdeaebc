-- What a list of ranges holds at an index after a store: from `first` to `last` the entry stored, elsewhere what it held before.
use Rattle.mt_base.proofs.Prelude.{◌≡◌, ℕ, ◌+◌, ◌-◌, ◌<◌, ◌≤◌, false, List, [], ◌∷◌, ◌++◌, Option, Some, None, min, max, map, arith, nat_lt, nat_le, ◌==◌, cond, refl, ap, ◌∙◌, inl, inr, option_map, cond_both, cases_Bool, and_left, and_right, ltb-true, ltb-false, leb-true, leb-false, le-leb, lt-leb, Range, holds, holding, over, parts_below, parts_above, part_stored, cut_below, cut_above}

abbrev entry_of : Option Range → Option ℕ
entry_of held = option_map (λ r. r.entry) held

ends_below : (r : Range) (index : ℕ) → r.last < index → holds index r ≡ false
ends_below r index lt = and_right (nat_le r.first index) (nat_le index r.last) (lt-leb index r.last lt)

begins_above : (r : Range) (index : ℕ) → index < r.first → holds index r ≡ false
begins_above r index lt = and_left (nat_le r.first index) (nat_le index r.last) (lt-leb r.first index lt)

-- where two ranges with one entry both hold the index or both do not, and the ranges behind them agree, so do the lists
same_entry : (r s : Range) (index : ℕ) (x y : Option Range) → r.entry ≡ s.entry → holds index r ≡ holds index s → entry_of x ≡ entry_of y → entry_of (cond (holds index r) (Some r) x) ≡ entry_of (cond (holds index s) (Some s) y)
same_entry r s index x y entry held behind =
    elim (cases_Bool (holds index s)) [ inl both ↦ rw (held, both) (ap Some entry) | inr neither ↦ rw (held, neither) behind ]

-- a cut below `first` keeps what is held below it
cut_below_holds : (r : Range) (first index : ℕ) → index < first → holds index (cut_below first r) ≡ holds index r
cut_below_holds r first index lt =
    elim (cases_Bool (nat_le index r.last)) [
      | inl within ↦ rw (within, le-leb index (min r.last (first - 1)) (omega (arith, leb-true index r.last within))) refl
      | inr out ↦ rw (out, lt-leb index (min r.last (first - 1)) (omega (arith, leb-false index r.last out))) refl
    ]

cut_above_holds : (r : Range) (last index : ℕ) → last < index → holds index (cut_above last r) ≡ holds index r
cut_above_holds r last index lt =
    elim (cases_Bool (nat_le r.first index)) [
      | inl within ↦ rw (within, le-leb (max r.first (last + 1)) index (omega (arith, leb-true r.first index within))) refl
      | inr out ↦ rw (out, lt-leb (max r.first (last + 1)) index (omega (arith, leb-false r.first index out))) refl
    ]

below_keeps : (m rest : List Range) (first index : ℕ) → index < first → holding rest index ≡ None → entry_of (holding (parts_below m first ++ rest) index) ≡ entry_of (holding m index)
below_keeps [] rest first index lt none = rw none refl
below_keeps (r ∷ m) rest first index lt none =
    let behind = below_keeps m rest first index lt none in
    cond_both (nat_lt r.first first) _ _ (λ kept. entry_of (holding (map (cut_below first) kept ++ rest) index) ≡ entry_of (holding (r ∷ m) index))
    (λ part. same_entry (cut_below first r) r index _ _ refl (cut_below_holds r first index lt) behind)
    (λ out. rw (begins_above r index (omega (arith, ltb-false r.first first out))) behind)

below_holds_none : (m rest : List Range) (first index : ℕ) → first ≤ index → holding (parts_below m first ++ rest) index ≡ holding rest index
below_holds_none [] rest first index le = refl
below_holds_none (r ∷ m) rest first index le =
    let behind = below_holds_none m rest first index le in
    cond_both (nat_lt r.first first) _ _ (λ kept. holding (map (cut_below first) kept ++ rest) index ≡ holding rest index)
    (λ part. rw (ends_below (cut_below first r) index (omega (arith, ltb-true r.first first part))) behind)
    (λ out. behind)

above_keeps : (m : List Range) (last index : ℕ) → last < index → entry_of (holding (parts_above m last) index) ≡ entry_of (holding m index)
above_keeps [] last index lt = refl
above_keeps (r ∷ m) last index lt =
    let behind = above_keeps m last index lt in
    cond_both (nat_lt last r.last) _ _ (λ kept. entry_of (holding (map (cut_above last) kept) index) ≡ entry_of (holding (r ∷ m) index))
    (λ part. same_entry (cut_above last r) r index _ _ refl (cut_above_holds r last index lt) behind)
    (λ out. rw (ends_below r index (omega (arith, ltb-false last r.last out))) behind)

above_holds_none : (m : List Range) (last index : ℕ) → index ≤ last → holding (parts_above m last) index ≡ None
above_holds_none [] last index le = refl
above_holds_none (r ∷ m) last index le =
    let behind = above_holds_none m last index le in
    cond_both (nat_lt last r.last) _ _ (λ kept. holding (map (cut_above last) kept) index ≡ None)
    (λ part. rw (begins_above (cut_above last r) index (omega arith)) behind)
    (λ out. behind)

stored_holds_none : (rest : List Range) (first last entry index : ℕ) → holds index (record { first = first; last = last; entry = entry }) ≡ false → holding (part_stored first last entry ++ rest) index ≡ holding rest index
stored_holds_none rest first last entry index out =
    cond_both (entry == 0) _ _ (λ stored. holding (stored ++ rest) index ≡ holding rest index) (λ none. refl) (λ some. rw out refl)

pub entry_inside : (m : List Range) (first last entry index : ℕ) → first ≤ index → index ≤ last → entry_of (holding (over m first last entry) index) ≡ cond (entry == 0) None (Some entry)
entry_inside m first last entry index from to =
    let above : holding (parts_above m last) index ≡ None = above_holds_none m last index to in
    rw (below_holds_none m (part_stored first last entry ++ parts_above m last) first index from)
    (elim (cases_Bool (entry == 0)) [
      | inl none ↦ rw (none, above) refl
      | inr some ↦ rw (some, le-leb first index from, le-leb index last to) refl
    ])

pub entry_below : (m : List Range) (first last entry index : ℕ) → first ≤ last → index < first → entry_of (holding (over m first last entry) index) ≡ entry_of (holding m index)
entry_below m first last entry index le lt =
    let stored : Range = record { first = first; last = last; entry = entry } in
    below_keeps m (part_stored first last entry ++ parts_above m last) first index lt
    (stored_holds_none (parts_above m last) first last entry index (begins_above stored index lt) ∙ above_holds_none m last index (omega arith))

pub entry_above : (m : List Range) (first last entry index : ℕ) → first ≤ last → last < index → entry_of (holding (over m first last entry) index) ≡ entry_of (holding m index)
entry_above m first last entry index le lt =
    let stored : Range = record { first = first; last = last; entry = entry } in
    ap entry_of (below_holds_none m (part_stored first last entry ++ parts_above m last) first index (omega arith)
    ∙ stored_holds_none (parts_above m last) first last entry index (ends_below stored index lt))
    ∙ above_keeps m last index lt

-- what an index has after a store: in its range, below it and above it
pub ruleset entries_after = (entry_inside, entry_below, entry_above)
