-- In a map the first and the last indexes rise, so that a partition point is the end of the front that passes.
use Rattle.mt_list.proofs.Prelude.{◌≡◌, ℕ, ◌+◌, ◌<◌, ◌≤◌, suc, zero, Bool, true, false, List, [], ◌∷◌, length, get_or, arith, prefix_len, IsNonDecreasingBy, IsPartitionPoint, prefix_len_is, Range, IsMapFrom}

-- each range of a map from `low` lies at `low` or above
at_or_above : (m : List Range) (low k : ℕ) (d : Range) → IsMapFrom low m → k < length m → (low ≤ (get_or m k d).first) × ((get_or m k d).first ≤ (get_or m k d).last)
at_or_above [] low k d ordered within = absurd (omega arith)
at_or_above (r ∷ m) low zero d ordered within = (ordered.0, ordered.1)
at_or_above (r ∷ m) low (suc k) d ordered within =
    let behind : (r.last + 1 ≤ (get_or m k d).first) × ((get_or m k d).first ≤ (get_or m k d).last) = at_or_above m (r.last + 1) k d ordered.3 (omega arith) in
    (omega (arith, ordered.0, ordered.1, behind.0), behind.1)

-- an index of each range rises in a map
rise : (at : Range → ℕ) → ((r : Range) → r.first ≤ r.last → (r.first ≤ at r) × (at r ≤ r.last)) → (m : List Range) (low : ℕ) → IsMapFrom low m → IsNonDecreasingBy at m
rise at inside [] low ordered i j d le within = absurd (omega arith)
rise at inside (r ∷ m) low ordered zero zero d le within = omega arith
rise at inside (r ∷ m) low ordered zero (suc j) d le within =
    let behind : (r.last + 1 ≤ (get_or m j d).first) × ((get_or m j d).first ≤ (get_or m j d).last) = at_or_above m (r.last + 1) j d ordered.3 (omega arith) in
    omega (arith, behind.0, (inside r ordered.1).1, (inside (get_or m j d) behind.1).0)
rise at inside (r ∷ m) low ordered (suc i) zero d le within = absurd (omega arith)
rise at inside (r ∷ m) low ordered (suc i) (suc j) d le within = rise at inside m (r.last + 1) ordered.3 i j d (omega arith) (omega arith)

pub lasts_rise : (m : List Range) (low : ℕ) → IsMapFrom low m → IsNonDecreasingBy (λ r. r.last) m
lasts_rise m low ordered = rise (λ r. r.last) (λ r order. (order, omega arith)) m low ordered

pub firsts_rise : (m : List Range) (low : ℕ) → IsMapFrom low m → IsNonDecreasingBy (λ r. r.first) m
firsts_rise m low ordered = rise (λ r. r.first) (λ r order. (omega arith, order)) m low ordered

no_range : Range
no_range = record { first = 0; last = 0; entry = 0 }

-- a partition point is the length of the front that passes
pub partition_point_is : (passes : Range → Bool) (m : List Range) (i : ℕ) → i ≤ length m → IsPartitionPoint (λ r. passes r ≡ true) (λ r. passes r ≡ false) m i → prefix_len passes m ≡ i
partition_point_is passes m i within point = prefix_len_is passes m i no_range within (λ k below. point.0 k no_range (omega arith) below) (λ inside. point.1 i no_range (omega arith) inside)
