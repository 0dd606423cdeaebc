-- Which shelves a query's answer hangs on.
use Rattle.mt_shelves.proofs.Prelude.{◌≡◌, ℕ, zero, suc, ◌+◌, ◌-◌, ◌<◌, ◌≤◌, ◌&&◌, Bool, true, false, List, [], ◌∷◌, ◌++◌, Option, Some, None, length, filter, find, take, drop, get_or, nat_lt, nat_le, refl, sym, ap, ◌∙◌, subst, inl, inr, arith, length-append, AllByRecursion, slice_get, is_some, and_left, and_right, cases_Bool, lt-leb, le-ltb, append-nil, filter-append, Query, Load, Find, Next, Prev, Rfind, Range, answer, IsMapFrom, first_range, holds, last_range, get_behind, AreRising, BeginAbove, EndBelow, LooksDown, LooksUp, begins_above, ends_below, joined}
use Rattle.mt_shelves.proofs.LyingBeside.{before_reach, behind_reach, joined_drop, joined_parts, joined_take, rise_back, rise_front}

-- ---- the first and the last that pass

first_some : (xs ys : List Range) (r : Range) → first_range xs ≡ Some r → first_range (xs ++ ys) ≡ Some r
first_some [] ys r is = absurd (cc)
first_some (x ∷ xs) ys r is = is

first_none : (xs ys : List Range) → first_range xs ≡ None → first_range (xs ++ ys) ≡ first_range ys
first_none [] ys is = refl
first_none (x ∷ xs) ys is = absurd (cc)

last_some : (xs ys : List Range) (r : Range) → last_range ys ≡ Some r → last_range (xs ++ ys) ≡ Some r
last_some xs [] r is = absurd (cc)
last_some xs (y ∷ ys) r is =
    let last : length (xs ++ (y ∷ ys)) - 1 ≡ length xs + (length (y ∷ ys) - 1) = omega (arith, length-append xs (y ∷ ys)) in
    ap (slice_get (xs ++ (y ∷ ys))) last ∙ (get_behind xs (y ∷ ys) (length (y ∷ ys) - 1) ∙ is)

last_none : (xs ys : List Range) → last_range ys ≡ None → last_range (xs ++ ys) ≡ last_range xs
last_none xs [] is = ap last_range (append-nil xs)
last_none xs (y ∷ ys) is = absurd (some_at (y ∷ ys) (length (y ∷ ys) - 1) (omega arith) is)
  where
    some_at : (zs : List Range) (i : ℕ) → i < length zs → slice_get zs i ≡ None → ⊥
    some_at [] i within none = omega (arith, within)
    some_at (z ∷ zs) zero within none = cc
    some_at (z ∷ zs) (suc i) within none = some_at zs i (omega (arith, within)) none

none_pass : (p : Range → Bool) (Q : Range → Type 0) → ((r : Range) → r.first ≤ r.last → Q r → p r ≡ false) → (m : List Range) (low : ℕ) → IsMapFrom low m → AllByRecursion Q m → filter p m ≡ []
none_pass p Q none [] low rise all = refl
none_pass p Q none (r ∷ m) low rise all = rw (none r rise.1 all.0) (none_pass p Q none m (r.last + 1) rise.3 all.1)

find_first : (p : Range → Bool) (m : List Range) → find p m ≡ first_range (filter p m)
find_first p [] = refl
find_first p (r ∷ m) = elim (cases_Bool (p r)) [ inl passes ↦ rw passes refl | inr other ↦ rw other (find_first p m) ]

-- the whole answers as a part of it does, if it does so where the part has nothing and where it has something
by_part : (whole part : Option Range) → (part ≡ None → whole ≡ None) → ((r : Range) → part ≡ Some r → whole ≡ Some r) → whole ≡ part
by_part whole None none some = none refl
by_part whole (Some r) none some = some r refl

-- ---- upwards

first_passes : (p : Range → Bool) (xs ys : List Range) (r : Range) → first_range (filter p xs) ≡ Some r → first_range (filter p (xs ++ ys)) ≡ Some r
first_passes p xs ys r is = ap first_range (filter-append p xs ys) ∙ first_some (filter p xs) (filter p ys) r is

first_behind : (p : Range → Bool) (xs ys : List Range) → first_range (filter p xs) ≡ None → first_range (filter p (xs ++ ys)) ≡ first_range (filter p ys)
first_behind p xs ys is = ap first_range (filter-append p xs ys) ∙ first_none (filter p xs) (filter p ys) is

up_some : (q : Query) (from to : ℕ) (xs ys : List Range) (r : Range) → LooksUp q from to → answer xs q ≡ Some r → answer (xs ++ ys) q ≡ Some r
up_some (Load index) from to xs ys r up is = find_first (holds index) (xs ++ ys) ∙ first_passes (holds index) xs ys r (sym (find_first (holds index) xs) ∙ is)
up_some (Find index max) from to xs ys r up is = elim (cases_Bool (nat_lt max index)) [
  | inl past ↦ (let none : None ≡ Some r = sym (rw past refl) ∙ is in absurd (cc))
  | inr order ↦ rw order (first_passes (λ (x : Range). nat_le index x.last && nat_le x.first max) xs ys r (rw order at is))
]
up_some (Next index max) from to xs ys r up is = first_passes (λ (x : Range). nat_lt index x.first && nat_le x.first max) xs ys r is
up_some (Prev index min) from to xs ys r up is = absurd up
up_some (Rfind index min) from to xs ys r up is = absurd up

pub up_none : (q : Query) (from to : ℕ) (xs ys : List Range) → LooksUp q from to → answer xs q ≡ None → answer (xs ++ ys) q ≡ answer ys q
up_none (Load index) from to xs ys up is = find_first (holds index) (xs ++ ys) ∙ (first_behind (holds index) xs ys (sym (find_first (holds index) xs) ∙ is) ∙ sym (find_first (holds index) ys))
up_none (Find index max) from to xs ys up is = elim (cases_Bool (nat_lt max index)) [
  | inl past ↦ rw past refl
  | inr order ↦ rw order (first_behind (λ (x : Range). nat_le index x.last && nat_le x.first max) xs ys (rw order at is))
]
up_none (Next index max) from to xs ys up is = first_behind (λ (x : Range). nat_lt index x.first && nat_le x.first max) xs ys is
up_none (Prev index min) from to xs ys up is = absurd up
up_none (Rfind index min) from to xs ys up is = absurd up

-- none below where it looks from, and none above where it looks to
none_below : (q : Query) (from to : ℕ) (m : List Range) → LooksUp q from to → IsMapFrom 0 m → EndBelow from m → answer m q ≡ None
none_below (Load index) from to m up rise below =
    find_first (holds index) m ∙ ap first_range (none_pass (holds index) (λ (x : Range). x.last < from) (λ x order ends. and_right (nat_le x.first index) (nat_le index x.last) (lt-leb index x.last (omega (arith, ends, up.0)))) m 0 rise below)
none_below (Find index max) from to m up rise below = elim (cases_Bool (nat_lt max index)) [
  | inl past ↦ rw past refl
  | inr order ↦
      rw order (ap first_range (none_pass (λ (x : Range). nat_le index x.last && nat_le x.first max) (λ (x : Range). x.last < from) (λ x order ends. and_left (nat_le index x.last) (nat_le x.first max) (lt-leb index x.last (omega (arith, ends, up.0)))) m 0 rise below))
]
none_below (Next index max) from to m up rise below =
    ap first_range (none_pass (λ (x : Range). nat_lt index x.first && nat_le x.first max) (λ (x : Range). x.last < from) (λ x order ends. and_left (nat_lt index x.first) (nat_le x.first max) (le-ltb index x.first (omega (arith, order, ends, up.0)))) m 0 rise below)
none_below (Prev index min) from to m up rise below = absurd up
none_below (Rfind index min) from to m up rise below = absurd up

none_above : (q : Query) (from to : ℕ) (m : List Range) → LooksUp q from to → IsMapFrom 0 m → BeginAbove to m → answer m q ≡ None
none_above (Load index) from to m up rise above =
    find_first (holds index) m ∙ ap first_range (none_pass (holds index) (λ (x : Range). to < x.first) (λ x order begins. and_left (nat_le x.first index) (nat_le index x.last) (lt-leb x.first index (omega (arith, begins, up.1)))) m 0 rise above)
none_above (Find index max) from to m up rise above = elim (cases_Bool (nat_lt max index)) [
  | inl past ↦ rw past refl
  | inr order ↦
      rw order (ap first_range (none_pass (λ (x : Range). nat_le index x.last && nat_le x.first max) (λ (x : Range). to < x.first) (λ x order begins. and_right (nat_le index x.last) (nat_le x.first max) (lt-leb x.first max (omega (arith, begins, up.1)))) m 0 rise above))
]
none_above (Next index max) from to m up rise above =
    ap first_range (none_pass (λ (x : Range). nat_lt index x.first && nat_le x.first max) (λ (x : Range). to < x.first) (λ x order begins. and_right (nat_lt index x.first) (nat_le x.first max) (lt-leb x.first max (omega (arith, begins, up.1)))) m 0 rise above)
none_above (Prev index min) from to m up rise above = absurd up
none_above (Rfind index min) from to m up rise above = absurd up

-- the ranges before where it looks from, and behind where it looks to, may be left out
pub up_from : (q : Query) (from to : ℕ) (front m : List Range) → LooksUp q from to → IsMapFrom 0 front → EndBelow from front → answer (front ++ m) q ≡ answer m q
up_from q from to front m up rise below = up_none q from to front m up (none_below q from to front up rise below)

pub up_to : (q : Query) (from to : ℕ) (m back : List Range) → LooksUp q from to → IsMapFrom 0 back → BeginAbove to back → answer (m ++ back) q ≡ answer m q
up_to q from to m back up rise above = by_part (answer (m ++ back) q) (answer m q) (λ is. up_none q from to m back up is ∙ none_above q from to back up rise above) (λ r is. up_some q from to m back r up is)

pub up_found : (q : Query) (from to : ℕ) (xs ys : List Range) → LooksUp q from to → (answer xs q ≡ None → ⊥) → answer (xs ++ ys) q ≡ answer xs q
up_found q from to xs ys up some = by_part (answer (xs ++ ys) q) (answer xs q) (λ is. absurd (some is)) (λ r is. up_some q from to xs ys r up is)

-- ---- downwards

last_passes : (p : Range → Bool) (xs ys : List Range) (r : Range) → last_range (filter p ys) ≡ Some r → last_range (filter p (xs ++ ys)) ≡ Some r
last_passes p xs ys r is = ap last_range (filter-append p xs ys) ∙ last_some (filter p xs) (filter p ys) r is

last_before : (p : Range → Bool) (xs ys : List Range) → last_range (filter p ys) ≡ None → last_range (filter p (xs ++ ys)) ≡ last_range (filter p xs)
last_before p xs ys is = ap last_range (filter-append p xs ys) ∙ last_none (filter p xs) (filter p ys) is

down_some : (q : Query) (from to : ℕ) (xs ys : List Range) (r : Range) → LooksDown q from to → answer ys q ≡ Some r → answer (xs ++ ys) q ≡ Some r
down_some (Load index) from to xs ys r down is = absurd down
down_some (Find index max) from to xs ys r down is = absurd down
down_some (Next index max) from to xs ys r down is = absurd down
down_some (Prev index min) from to xs ys r down is = last_passes (λ (x : Range). nat_lt x.last index && nat_le min x.last) xs ys r is
down_some (Rfind index min) from to xs ys r down is = elim (cases_Bool (nat_lt index min)) [
  | inl past ↦ (let none : None ≡ Some r = sym (rw past refl) ∙ is in absurd (cc))
  | inr order ↦ rw order (last_passes (λ (x : Range). nat_le x.first index && nat_le min x.last) xs ys r (rw order at is))
]

pub down_none : (q : Query) (from to : ℕ) (xs ys : List Range) → LooksDown q from to → answer ys q ≡ None → answer (xs ++ ys) q ≡ answer xs q
down_none (Load index) from to xs ys down is = absurd down
down_none (Find index max) from to xs ys down is = absurd down
down_none (Next index max) from to xs ys down is = absurd down
down_none (Prev index min) from to xs ys down is = last_before (λ (x : Range). nat_lt x.last index && nat_le min x.last) xs ys is
down_none (Rfind index min) from to xs ys down is = elim (cases_Bool (nat_lt index min)) [
  | inl past ↦ rw past refl
  | inr order ↦ rw order (last_before (λ (x : Range). nat_le x.first index && nat_le min x.last) xs ys (rw order at is))
]

-- none above where it looks from, and none below where it looks to
none_from : (q : Query) (from to : ℕ) (m : List Range) → LooksDown q from to → IsMapFrom 0 m → BeginAbove from m → answer m q ≡ None
none_from (Load index) from to m down rise above = absurd down
none_from (Find index max) from to m down rise above = absurd down
none_from (Next index max) from to m down rise above = absurd down
none_from (Prev index min) from to m down rise above =
    ap last_range (none_pass (λ (x : Range). nat_lt x.last index && nat_le min x.last) (λ (x : Range). from < x.first) (λ x order begins. and_left (nat_lt x.last index) (nat_le min x.last) (le-ltb x.last index (omega (arith, order, begins, down.0)))) m 0 rise above)
none_from (Rfind index min) from to m down rise above = elim (cases_Bool (nat_lt index min)) [
  | inl past ↦ rw past refl
  | inr order ↦
      rw order (ap last_range (none_pass (λ (x : Range). nat_le x.first index && nat_le min x.last) (λ (x : Range). from < x.first) (λ x order begins. and_left (nat_le x.first index) (nat_le min x.last) (lt-leb x.first index (omega (arith, begins, down.0)))) m 0 rise above))
]

none_to : (q : Query) (from to : ℕ) (m : List Range) → LooksDown q from to → IsMapFrom 0 m → EndBelow to m → answer m q ≡ None
none_to (Load index) from to m down rise below = absurd down
none_to (Find index max) from to m down rise below = absurd down
none_to (Next index max) from to m down rise below = absurd down
none_to (Prev index min) from to m down rise below =
    ap last_range (none_pass (λ (x : Range). nat_lt x.last index && nat_le min x.last) (λ (x : Range). x.last < to) (λ x order ends. and_right (nat_lt x.last index) (nat_le min x.last) (lt-leb min x.last (omega (arith, ends, down.1)))) m 0 rise below)
none_to (Rfind index min) from to m down rise below = elim (cases_Bool (nat_lt index min)) [
  | inl past ↦ rw past refl
  | inr order ↦
      rw order (ap last_range (none_pass (λ (x : Range). nat_le x.first index && nat_le min x.last) (λ (x : Range). x.last < to) (λ x order ends. and_right (nat_le x.first index) (nat_le min x.last) (lt-leb min x.last (omega (arith, ends, down.1)))) m 0 rise below))
]

pub down_from : (q : Query) (from to : ℕ) (m back : List Range) → LooksDown q from to → IsMapFrom 0 back → BeginAbove from back → answer (m ++ back) q ≡ answer m q
down_from q from to m back down rise above = down_none q from to m back down (none_from q from to back down rise above)

pub down_to : (q : Query) (from to : ℕ) (front m : List Range) → LooksDown q from to → IsMapFrom 0 front → EndBelow to front → answer (front ++ m) q ≡ answer m q
down_to q from to front m down rise below = by_part (answer (front ++ m) q) (answer m q) (λ is. down_none q from to front m down is ∙ none_to q from to front down rise below) (λ r is. down_some q from to front m r down is)

pub down_found : (q : Query) (from to : ℕ) (xs ys : List Range) → LooksDown q from to → (answer ys q ≡ None → ⊥) → answer (xs ++ ys) q ≡ answer ys q
down_found q from to xs ys down some = by_part (answer (xs ++ ys) q) (answer ys q) (λ is. absurd (some is)) (λ r is. down_some q from to xs ys r down is)

-- ---- from shelf to shelf

pub some_found : (found other : Option Range) → is_some found ≡ true → found ≡ other → other ≡ None → ⊥
some_found found other some same none = let both : true ≡ false = sym some ∙ ap is_some (same ∙ none) in absurd (cc)

pub none_found : (found other : Option Range) → is_some found ≡ false → found ≡ other → other ≡ None
none_found None other none same = sym same
none_found (Some r) other none same = absurd (cc)

module _ (shelves : List (List Range)) (q : Query) (from to : ℕ) (rising : AreRising shelves) where
  -- upwards: the shelves from a place on have the answer
  abbrev pub IsBehind : ℕ → Type 0
  IsBehind at = answer (joined (drop at shelves)) q ≡ answer (joined shelves) q

  pub start_up : LooksUp q from to → (at : ℕ) → EndBelow from (joined (take at shelves)) → IsBehind at
  start_up up at below = sym (ap (λ (m : List Range). answer m q) (sym (joined_parts shelves at)) ∙ up_from q from to (joined (take at shelves)) (joined (drop at shelves)) up (rise_front shelves at rising.rise) below)

  here_up : (at : ℕ) (d : List Range) → at < length shelves → IsBehind at → answer (get_or shelves at d ++ joined (drop (at + 1) shelves)) q ≡ answer (joined shelves) q
  here_up at d within behind = ap (λ (m : List Range). answer m q) (sym (joined_drop shelves at d within)) ∙ behind

  pub found_up : LooksUp q from to → (at : ℕ) (d : List Range) → at < length shelves → IsBehind at → (answer (get_or shelves at d) q ≡ None → ⊥) → answer (get_or shelves at d) q ≡ answer (joined shelves) q
  found_up up at d within behind some = sym (up_found q from to (get_or shelves at d) (joined (drop (at + 1) shelves)) up some) ∙ here_up at d within behind

  pub ends_up : LooksUp q from to → (at : ℕ) (d : List Range) → at < length shelves → IsBehind at → ends_below to (get_or shelves at d) ≡ false → answer (get_or shelves at d) q ≡ answer (joined shelves) q
  ends_up up at d within behind reach =
      sym (up_to q from to (get_or shelves at d) (joined (drop (at + 1) shelves)) up (rise_back shelves (at + 1) rising.rise)
      (behind_reach to 0 (get_or shelves at d) (joined (drop (at + 1) shelves)) (subst (IsMapFrom 0) (joined_drop shelves at d within) (rise_back shelves at rising.rise)) reach)) ∙ here_up at d within behind

  pub more_up : LooksUp q from to → (at : ℕ) (d : List Range) → at < length shelves → IsBehind at → answer (get_or shelves at d) q ≡ None → IsBehind (at + 1)
  more_up up at d within behind none = sym (up_none q from to (get_or shelves at d) (joined (drop (at + 1) shelves)) up none) ∙ here_up at d within behind

  -- downwards: the shelves before a place have it
  abbrev pub IsBefore : ℕ → Type 0
  IsBefore end = answer (joined (take end shelves)) q ≡ answer (joined shelves) q

  pub start_down : LooksDown q from to → (end : ℕ) → BeginAbove from (joined (drop end shelves)) → IsBefore end
  start_down down end above = sym (ap (λ (m : List Range). answer m q) (sym (joined_parts shelves end)) ∙ down_from q from to (joined (take end shelves)) (joined (drop end shelves)) down (rise_back shelves end rising.rise) above)

  here_down : (at : ℕ) (d : List Range) → at < length shelves → IsBefore (at + 1) → answer (joined (take at shelves) ++ get_or shelves at d) q ≡ answer (joined shelves) q
  here_down at d within before = ap (λ (m : List Range). answer m q) (sym (joined_take shelves at d within)) ∙ before

  pub found_down : LooksDown q from to → (at : ℕ) (d : List Range) → at < length shelves → IsBefore (at + 1) → (answer (get_or shelves at d) q ≡ None → ⊥) → answer (get_or shelves at d) q ≡ answer (joined shelves) q
  found_down down at d within before some = sym (down_found q from to (joined (take at shelves)) (get_or shelves at d) down some) ∙ here_down at d within before

  pub ends_down : LooksDown q from to → (at : ℕ) (d : List Range) → at < length shelves → IsBefore (at + 1) → begins_above to (get_or shelves at d) ≡ false → answer (get_or shelves at d) q ≡ answer (joined shelves) q
  ends_down down at d within before reach =
      let front : IsMapFrom 0 (joined (take at shelves) ++ get_or shelves at d) = subst (IsMapFrom 0) (joined_take shelves at d within) (rise_front shelves (at + 1) rising.rise) in
      sym (down_to q from to (joined (take at shelves)) (get_or shelves at d) down (rise_front shelves at rising.rise) (before_reach to 0 (joined (take at shelves)) (get_or shelves at d) front reach)) ∙ here_down at d within before

  pub more_down : LooksDown q from to → (at : ℕ) (d : List Range) → at < length shelves → IsBefore (at + 1) → answer (get_or shelves at d) q ≡ None → IsBefore at
  more_down down at d within before none = sym (down_none q from to (joined (take at shelves)) (get_or shelves at d) down none) ∙ here_down at d within before
