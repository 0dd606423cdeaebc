-- At most one range of a map holds an index.
use Rattle.mt_base.proofs.Prelude.{◌≡◌, ℕ, ◌+◌, ◌≤◌, suc, zero, true, List, [], ◌∷◌, Some, arith, nat_le, refl, ap, slice_get, and_parts, leb-true, Kind, Range, IsMapFrom, IsMap, holds}

held_from : (r : Range) (index : ℕ) → holds index r ≡ true → r.first ≤ index
held_from r index held = leb-true r.first index (and_parts (nat_le r.first index) (nat_le index r.last) held).0

held_to : (r : Range) (index : ℕ) → holds index r ≡ true → index ≤ r.last
held_to r index held = leb-true index r.last (and_parts (nat_le r.first index) (nat_le index r.last) held).1

-- each range of a map from `low` begins at `low` or above
begins_from : (m : List Range) (low k : ℕ) (r : Range) → IsMapFrom low m → slice_get m k ≡ Some r → low ≤ r.first
begins_from [] low k r ordered at = absurd (cc)
begins_from (s ∷ m) low zero r ordered at = let same : s ≡ r = cc in rw (← same) ordered.0
begins_from (s ∷ m) low (suc k) r ordered at = omega (arith, ordered.0, ordered.1, begins_from m (s.last + 1) k r ordered.3 at)

one_range_from : (m : List Range) (low index i j : ℕ) (r s : Range) → IsMapFrom low m → slice_get m i ≡ Some r → slice_get m j ≡ Some s → holds index r ≡ true → holds index s ≡ true → i ≡ j
one_range_from [] low index i j r s ordered at_i at_j held_r held_s = absurd (cc)
one_range_from (t ∷ m) low index zero zero r s ordered at_i at_j held_r held_s = refl
one_range_from (t ∷ m) low index zero (suc j) r s ordered at_i at_j held_r held_s =
    let first : t ≡ r = cc in
    let ends : index ≤ t.last = rw first (held_to r index held_r) in
    absurd (omega (arith, held_from s index held_s, begins_from m (t.last + 1) j s ordered.3 at_j))
one_range_from (t ∷ m) low index (suc i) zero r s ordered at_i at_j held_r held_s =
    let first : t ≡ s = cc in
    let ends : index ≤ t.last = rw first (held_to s index held_s) in
    absurd (omega (arith, held_from r index held_r, begins_from m (t.last + 1) i r ordered.3 at_i))
one_range_from (t ∷ m) low index (suc i) (suc j) r s ordered at_i at_j held_r held_s = ap suc (one_range_from m (t.last + 1) index i j r s ordered.3 at_i at_j held_r held_s)

pub one_range : (kind : Kind) (m : List Range) (index i j : ℕ) (r s : Range) → IsMap kind m → slice_get m i ≡ Some r → slice_get m j ≡ Some s → holds index r ≡ true → holds index s ≡ true → i ≡ j
one_range kind m index i j r s ordered = one_range_from m 0 index i j r s ordered.rise
