-- The slots that a search by greatest indexes finds: where a store begins and ends.
use Rattle.mt_leaf.proofs.Prelude.{◌≡◌, ℕ, zero, suc, ◌+◌, ◌-◌, ◌<◌, ◌≤◌, Bool, true, false, nat_lt, List, [], ◌∷◌, length, get_or, refl, arith, prefix_len, IsNonDecreasingBy, IsPartitionPoint, prefix_len_is, prefix_len_passes, prefix_len-le-length, ltb-true, Item, RiseFrom, rise_from_zero, slot_reaching, first_of}

pub no_item : Item
no_item = record { last = 0; word = 0; gap = 0 }

at_or_above : (items : List Item) (min k : ℕ) (d : Item) → RiseFrom min items → k < length items → min ≤ (get_or items k d).last
at_or_above [] min k d rise within = absurd (omega arith)
at_or_above (x ∷ items) min zero d rise within = rise.0
at_or_above (x ∷ items) min (suc k) d rise within = let behind = at_or_above items (x.last + 1) k d rise.1 (omega arith) in omega (arith, rise.0, behind)

pub lasts_rise : (items : List Item) (min : ℕ) → RiseFrom min items → IsNonDecreasingBy (λ x. x.last) items
lasts_rise [] min rise i j d le within = absurd (omega arith)
lasts_rise (x ∷ items) min rise zero zero d le within = omega arith
lasts_rise (x ∷ items) min rise zero (suc j) d le within = let behind = at_or_above items (x.last + 1) j d rise.1 (omega arith) in omega arith
lasts_rise (x ∷ items) min rise (suc i) zero d le within = absurd (omega arith)
lasts_rise (x ∷ items) min rise (suc i) (suc j) d le within = lasts_rise items (x.last + 1) rise.1 i j d (omega arith) (omega arith)

-- a partition point is the length of the front that passes
pub partition_point_is : (passes : Item → Bool) (items : List Item) (i : ℕ) → i ≤ length items → IsPartitionPoint (λ x. passes x ≡ true) (λ x. passes x ≡ false) items i → prefix_len passes items ≡ i
partition_point_is passes items i within point = prefix_len_is passes items i no_item within (λ k below. point.0 k no_item (omega arith) below) (λ inside. point.1 i no_item (omega arith) inside)

-- an item behind another begins at its end
pub first_of-behind : (items : List Item) (min slot : ℕ) (d : Item) → 0 < slot → slot ≤ length items → (get_or items (slot - 1) d).last + 1 ≡ first_of min items slot
first_of-behind items min zero d some within = absurd (omega arith)
first_of-behind [] min (suc slot) d some within = absurd (omega arith)
first_of-behind (x ∷ items) min (suc zero) d some within = refl
first_of-behind (x ∷ items) min (suc (suc slot)) d some within =
    let behind = first_of-behind items (x.last + 1) (suc slot) d (omega arith) (omega arith) in
    let before : suc (suc slot) - 1 ≡ suc slot = omega arith in
    let further : suc slot - 1 ≡ slot = omega arith in
    rw before (rw further at behind)

-- the slots before end below the index
pub before_reaching : (items : List Item) (index slot : ℕ) (d : Item) → slot ≡ slot_reaching items index → 0 < slot → (get_or items (slot - 1) d).last < index
before_reaching items index slot d is some = ltb-true (get_or items (slot - 1) d).last index (prefix_len_passes (λ x. nat_lt x.last index) items (slot - 1) d (omega arith))

pub reaching_within : (items : List Item) (index : ℕ) → slot_reaching items index ≤ length items
reaching_within items index = prefix_len-le-length (λ x. nat_lt x.last index) items

-- what the search for a slot cites
pub ruleset slots = (rise_from_zero, first_of-behind, before_reaching)
