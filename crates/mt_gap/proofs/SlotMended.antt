-- A row whose gap word is mended in the slot that covers an index keeps the law of gaps.
use Rattle.mt_gap.proofs.Prelude.{◌≡◌, ◌≢◌, ℕ, ◌+◌, ◌<◌, ◌≤◌, ◌&&◌, ◌⊎◌, List, [], ◌∷◌, ◌++◌, Bool, true, false, nat_le, length, refl, sym, ◌∙◌, subst, inl, inr, arith, AllByRecursion, lt-leb, Gapped, Span, gap_column, slots_of, Fills, fills_le, covers, GapsFromBut, GapsFrom, longest_below, Levels, Table, column, At, Shared, levels_front, levels_back, longest_shared}

-- ---- what covers an index

not_below : (index : ℕ) (x : Span) → x.last < index → covers index x ≡ false
not_below index x below = let test : nat_le index x.last ≡ false = lt-leb index x.last below in rw test (both (nat_le x.first index))
  where
    both : (b : Bool) → (b && false) ≡ false
    both true = refl
    both false = refl

not_above : (index : ℕ) (x : Span) → index < x.first → covers index x ≡ false
not_above index x above = let test : nat_le x.first index ≡ false = lt-leb x.first index above in rw test refl

pub none_before : (index lo hi : ℕ) (xs : List Span) → Fills lo hi xs → hi ≤ index → AllByRecursion (λ (y : Span). covers index y ≡ false) xs
none_before index lo hi [] fills past = tt
none_before index lo hi (x ∷ xs) fills past = let rest = fills_le (x.last + 1) hi xs fills.2 in (not_below index x (omega arith), none_before index (x.last + 1) hi xs fills.2 past)

pub none_behind : (index lo hi : ℕ) (xs : List Span) → Fills lo hi xs → index < lo → AllByRecursion (λ (y : Span). covers index y ≡ false) xs
none_behind index lo hi [] fills low = tt
none_behind index lo hi (x ∷ xs) fills low =
    let begins = fills.0 in let order = fills.1 in
    (not_above index x (omega arith), none_behind index (x.last + 1) hi xs fills.2 (omega arith))

-- ---- slot by slot

module _ (t : Table) (words : List ℕ) (k index row : ℕ) where
  abbrev t' : Table
  t' = record { width = t.width; words = words }

  abbrev at_gap : ℕ → ℕ
  at_gap slot = gap_column (slots_of t.width Gapped) slot

  pub but_front : (slot : ℕ) (xs ys : List Span) → GapsFromBut index t k row slot (xs ++ ys) → GapsFromBut index t k row slot xs
  but_front slot [] ys but = tt
  but_front slot (x ∷ xs) ys but = (but.0, but_front (slot + 1) xs ys but.1)

  pub but_back : (slot n : ℕ) (xs ys : List Span) → n ≡ slot + length xs → GapsFromBut index t k row slot (xs ++ ys) → GapsFromBut index t k row n ys
  but_back slot n [] ys is but = let same : slot ≡ n = omega arith in subst (λ (m : ℕ). GapsFromBut index t k row m ys) same but
  but_back slot n (x ∷ xs) ys is but = but_back (slot + 1) n xs ys (omega arith) but.1

  gaps_join : (slot n : ℕ) (xs ys : List Span) → n ≡ slot + length xs → GapsFrom t' k row slot xs → GapsFrom t' k row n ys → GapsFrom t' k row slot (xs ++ ys)
  gaps_join slot n [] ys is front back = let same : n ≡ slot = omega arith in subst (λ (m : ℕ). GapsFrom t' k row m ys) same back
  gaps_join slot n (x ∷ xs) ys is front back = (front.0, gaps_join (slot + 1) n xs ys (omega arith) front.1 back)

  pub uncovered : (slot : ℕ) (xs : List Span) → AllByRecursion (λ (y : Span). covers index y ≡ false) xs → ((j : ℕ) → slot ≤ j → j < slot + length xs → column t' row (at_gap j) ≡ column t row (at_gap j))
      → Levels (Shared t t') t k xs → GapsFromBut index t k row slot xs → GapsFrom t' k row slot xs
  uncovered slot [] none same shared but = tt
  uncovered slot (x ∷ xs) none same shared but = (
    same slot (omega arith) (omega arith) ∙ (but.0 none.0 ∙ sym (longest_shared t t' k (x ∷ []) (levels_front (Shared t t') t k (x ∷ []) xs shared))),
    uncovered (slot + 1) xs none.1 (λ j from to. same j (omega arith) (omega arith)) (levels_back (Shared t t') t k (x ∷ []) xs shared) but.1,
  )

  -- the law may fail there as before
  pub but_stays : (slot : ℕ) (xs : List Span) → ((j : ℕ) → slot ≤ j → j < slot + length xs → column t' row (at_gap j) ≡ column t row (at_gap j))
      → Levels (Shared t t') t k xs → GapsFromBut index t k row slot xs → GapsFromBut index t' k row slot xs
  but_stays slot [] same shared but = tt
  but_stays slot (x ∷ xs) same shared but = (
    (λ none. same slot (omega arith) (omega arith) ∙ (but.0 none ∙ sym (longest_shared t t' k (x ∷ []) (levels_front (Shared t t') t k (x ∷ []) xs shared)))),
    but_stays (slot + 1) xs (λ j from to. same j (omega arith) (omega arith)) (levels_back (Shared t t') t k (x ∷ []) xs shared) but.1,
  )

  pub law_stays : (slot : ℕ) (xs : List Span) → ((j : ℕ) → slot ≤ j → j < slot + length xs → column t' row (at_gap j) ≡ column t row (at_gap j))
      → Levels (Shared t t') t k xs → GapsFrom t k row slot xs → GapsFrom t' k row slot xs
  law_stays slot [] same shared law = tt
  law_stays slot (x ∷ xs) same shared law = (
    same slot (omega arith) (omega arith) ∙ (law.0 ∙ sym (longest_shared t t' k (x ∷ []) (levels_front (Shared t t') t k (x ∷ []) xs shared))),
    law_stays (slot + 1) xs (λ j from to. same j (omega arith) (omega arith)) (levels_back (Shared t t') t k (x ∷ []) xs shared) law.1,
  )

  -- the law of the whole row, where the one slot is mended
  pub slot_mended : (lo hi : ℕ) (xs : List Span) (child : Span) (slot : ℕ) (at : At lo hi xs index child) → length at.front ≡ slot → ((j : ℕ) → j ≢ slot → column t' row (at_gap j) ≡ column t row (at_gap j))
      → column t' row (at_gap slot) ≡ longest_below t k (child ∷ []) → Levels (Shared t t') t k xs → GapsFromBut index t k row 0 xs → GapsFrom t' k row 0 xs
  slot_mended lo hi xs child slot at here others mended shared but =
      let parts = at.parts in
      let split = subst (Levels (Shared t t') t k) parts shared in
      let but_all = subst (GapsFromBut index t k row 0) parts but in
      let from = at.from in let to = at.to in
      let behind = levels_back (Shared t t') t k at.front (child ∷ at.back) split in
      subst (GapsFrom t' k row 0) (sym parts) (gaps_join 0 slot at.front (child ∷ at.back) (omega arith)
      (uncovered 0 at.front (none_before index lo child.first at.front at.before from) (λ j above below. others j (λ e. omega arith)) (levels_front (Shared t t') t k at.front (child ∷ at.back) split) (but_front 0 at.front (child ∷ at.back) but_all)) (
        mended ∙ sym (longest_shared t t' k (child ∷ []) (levels_front (Shared t t') t k (child ∷ []) at.back behind)),
        uncovered (slot + 1) at.back (none_behind index (child.last + 1) hi at.back at.after (omega arith)) (λ j above below. others j (λ e. omega arith)) (levels_back (Shared t t') t k (child ∷ []) at.back behind)
            (but_back 0 slot at.front (child ∷ at.back) (omega arith) but_all).1,
      ))

-- a row that does not cover the index has no slot that does
pub law_beside : (t : Table) (k index row lo hi : ℕ) (xs : List Span) → Fills lo hi xs → ((hi ≤ index) ⊎ (index < lo)) → GapsFromBut index t k row 0 xs → GapsFrom t k row 0 xs
law_beside t k index row lo hi xs fills out but = unmoved 0 xs (none out) but
  where
    none : (hi ≤ index) ⊎ (index < lo) → AllByRecursion (λ (y : Span). covers index y ≡ false) xs
    none (inl below) = none_before index lo hi xs fills below
    none (inr above) = none_behind index lo hi xs fills above

    unmoved : (slot : ℕ) (ys : List Span) → AllByRecursion (λ (y : Span). covers index y ≡ false) ys → GapsFromBut index t k row slot ys → GapsFrom t k row slot ys
    unmoved slot [] none but = tt
    unmoved slot (y ∷ ys) none but = (but.0 none.0, unmoved (slot + 1) ys none.1 but.1)
