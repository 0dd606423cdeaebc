-- A draw adds one range at the most, and so a tree that nobody else holds rows of does not lack rows.
use Rattle.mt_ids.proofs.Prelude.{◌≡◌, ℕ, ◌+◌, ◌-◌, ◌*◌, ◌/◌, ◌<◌, ◌≤◌, ◌==◌, Bool, true, false, List, [], ◌∷◌, ◌++◌, Some, length, ap, subst, nat_lt, nat_le, inl, inr, arith, length-append, cases_lt, cond_both, or_parts, lt-ltb, le-ltb, le-leb, Kind, Range, Reply, Shortage, low, IsMap, over, overlaps, is_held, parts_below, parts_above, part_stored, IsShort, Limits, most_rows, low_is_room, few_unheld, Allocation, limits_at, IsDrawShort, Draws}
use Rattle.mt_base.specs.declared.replies.Reply.TheVariants as replies

-- ---- how many ranges

-- a range that does not hold an index lies below it or above it
pub few_parts : (m : List Range) (s : ℕ) → is_held m s s ≡ false → length (parts_below m s) + length (parts_above m s) ≤ length m
few_parts [] s free = omega arith
few_parts (r ∷ m) s free =
    let parts = or_parts (overlaps s s r) (is_held m s s) free in
    let others = few_parts m s parts.1 in
    elim (cases_lt r.first s) [
      | inl begins ↦ elim (cases_lt s r.last) [
        | inl ends ↦
            let one : nat_le r.first s ≡ true = le-leb r.first s (omega arith) in
            let two : nat_le s r.last ≡ true = le-leb s r.last (omega arith) in
            let both : true ≡ false = rw (one, two) at parts.0 in
            absurd (cc)
        | inr low_end ↦ rw (lt-ltb r.first s begins, le-ltb s r.last low_end) (omega arith)
      ]
      | inr above ↦ elim (cases_lt s r.last) [
        | inl ends ↦ rw (le-ltb r.first s above, lt-ltb s r.last ends) (omega arith)
        | inr low_end ↦ rw (le-ltb r.first s above, le-ltb s r.last low_end) (omega arith)
      ]
    ]

one_stored : (s entry : ℕ) → length (part_stored s s entry) ≤ 1
one_stored s entry = cond_both (entry == 0) _ _ (λ (l : List Range). length l ≤ 1) (λ none. omega arith) (λ some. omega arith)

pub one_range_more : (m : List Range) (s entry : ℕ) → is_held m s s ≡ false → length (over m s s entry) ≤ length m + 1
one_range_more m s entry free =
    omega (arith, few_parts m s free, one_stored s entry, length-append (parts_below m s) (part_stored s s entry ++ parts_above m s), length-append (part_stored s s entry) (parts_above m s))

-- an index that a search finds is free
pub found_is_free : (kind : Kind) (m : List Range) (lo hi s : ℕ) → IsMap kind m → low kind m 1 lo hi ≡ Some s → is_held m s s ≡ false
found_is_free kind m lo hi s is found = let one : s + 1 - 1 ≡ s = omega arith in rw one at (low_is_room kind m 1 lo hi s is (omega arith) found).free

-- ---- rows

no_nodes_same : (a b : Shortage) → replies.NoNodes a ≡ replies.NoNodes b → a ≡ b
no_nodes_same a b is = cc

-- with no more ranges than these a tree of all rows that may be named is not short of rows, where none is held
pub none_short : (l : Limits) (m : List Range) (shortage : Shortage) → l.rows ≡ most_rows → length m ≤ 100001 → shortage.held ≡ 0 → IsShort l m shortage → ⊥
none_short l m shortage rows few none short =
    let levels = short.low in
    let many = few_unheld l m shortage short none in
    omega arith

pub none_lacked : (d : Draws) (s : Allocation) (entry : ℕ) (shortage : Shortage) (s' : Allocation) → s.rows ≡ most_rows → length s.map ≤ 100001 → s.alone ≡ true → IsDrawShort d s entry shortage s' → ⊥
none_lacked d s entry shortage s' rows few alone lacks =
    let refused = lacks.refused in
    let same = no_nodes_same shortage refused.shortage refused.told in
    none_short (limits_at s (s'.calls - 1)) s.map refused.shortage rows few (subst (λ (x : Shortage). x.held ≡ 0) same (lacks.unheld alone)) refused.short
