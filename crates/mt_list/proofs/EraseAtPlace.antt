-- The range that an erase removes stands at the place of its index.
use Rattle.mt_list.proofs.Prelude.{◌≡◌, ℕ, ◌+◌, ◌<◌, suc, zero, List, [], ◌∷◌, Some, length, remove, true, arith, nat_lt, nat_le, refl, ap, sym, slice_get, cond_some, cond_both, and_right, ltb-true, ltb-false, lt-leb, le-leb, Range, IsMapFrom, holding, without, place_below, up_to}
use Rattle.mt_list.proofs.HoldingAtPlace.{holding_at_place}

-- a map from above the index loses nothing
pub without_above : (m : List Range) (low index : ℕ) → index < low → IsMapFrom low m → without m index ≡ m
without_above [] low index above ordered = refl
without_above (r ∷ m) low index above ordered =
    rw (lt-leb r.first index (omega (arith, ordered.0)))
    (ap (λ rest. r ∷ rest) (without_above m (r.last + 1) index (omega (arith, ordered.0, ordered.1)) ordered.3))

without_from : (m : List Range) (low index : ℕ) (r : Range) → IsMapFrom low m → up_to index (slice_get m (place_below m index)) ≡ Some r → without m index ≡ remove m (place_below m index)
without_from [] low index r ordered = λ held. absurd (cc)
without_from (s ∷ m) low index r ordered =
    cond_both (nat_lt s.last index) (1 + place_below m index) 0 (λ n. up_to index (slice_get (s ∷ m) n) ≡ Some r → without (s ∷ m) index ≡ remove (s ∷ m) n)
    (λ before held.
    let next : 1 + place_below m index ≡ suc (place_below m index) = omega arith in
    let place = rw next at held in
    rw (next, and_right (nat_le s.first index) (nat_le index s.last) (lt-leb index s.last (ltb-true s.last index before)))
    (ap (λ rest. s ∷ rest) (without_from m (s.last + 1) index r ordered.3 place)))
    (λ here held.
    let begins : nat_le s.first index ≡ true = (cond_some (nat_le s.first index) s r held).0 in
    rw (begins, le-leb index s.last (ltb-false s.last index here)) (without_above m (s.last + 1) index (omega (arith, ltb-false s.last index here)) ordered.3))

up_to_within : (m : List Range) (place index : ℕ) (r : Range) → up_to index (slice_get m place) ≡ Some r → place < length m
up_to_within [] place index r held = absurd (cc)
up_to_within (s ∷ m) zero index r held = omega arith
up_to_within (s ∷ m) (suc place) index r held = omega (arith, up_to_within m place index r held)

-- a range that holds the index stands at the index's place
pub place_within : (m : List Range) (place index : ℕ) (r : Range) → place ≡ place_below m index → up_to index (slice_get m place) ≡ Some r → place < length m
place_within m place index r at held = up_to_within m place index r held

-- without the range that holds the index, the map is the map without the range at the index's place
pub without_at_place : (m : List Range) (place index : ℕ) (r : Range) → IsMapFrom 0 m → place ≡ place_below m index → up_to index (slice_get m place) ≡ Some r → remove m place ≡ without m index
without_at_place m place index r ordered at held = rw at (sym (without_from m 0 index r ordered (rw at at held)))

pub held_at_place : (m : List Range) (place index : ℕ) → IsMapFrom 0 m → place ≡ place_below m index → up_to index (slice_get m place) ≡ holding m index
held_at_place m place index ordered at = rw at (sym (holding_at_place m index ordered))

-- what an erase's proof cites
pub ruleset erases = (place_within, without_at_place, held_at_place)
