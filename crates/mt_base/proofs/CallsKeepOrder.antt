-- Every call keeps a map a map.
use Rattle.mt_base.proofs.Prelude.{◌≡◌, ℕ, ◌+◌, ◌-◌, ◌≤◌, Bool, true, List, [], ◌∷◌, Option, Some, None, arith, nat_lt, false, not, ◌==◌, ◌||◌, refl, cond_both, ltb-false, eqb-false, or_parts, AllByRecursion, Kind, greatest_of, Range, Call, Store, StorePre, Insert, Erase, Alloc, Ralloc, Gap, Rgap, Clear, Reply, acted, erased, placed, is_invalid, finds_room, is_no_area, is_bad_area, reserved, IsRoom, low, high, IsMapFrom, IsMap, holds, holding, is_held, without, over}
use Rattle.mt_base.proofs.FreeAreas.{low_is_room, high_is_room}
use Rattle.mt_base.proofs.StoredOrder.{IsMapFrom-lower, over_is_map}

IsMapFrom-without : (m : List Range) (low index : ℕ) → IsMapFrom low m → IsMapFrom low (without m index)
IsMapFrom-without [] low index ordered = tt
IsMapFrom-without (r ∷ m) low index ordered =
    let behind : IsMapFrom (r.last + 1) (without m index) = IsMapFrom-without m (r.last + 1) index ordered.3 in
    cond_both (not (holds index r)) _ _ (λ kept. IsMapFrom low kept)
    (λ other. (ordered.0, ordered.1, ordered.2, behind))
    (λ held. IsMapFrom-lower (without m index) low (r.last + 1) (omega (arith, ordered.0, ordered.1)) behind)

within_without : (top : ℕ) (m : List Range) (index : ℕ) → AllByRecursion (λ (r : Range). r.last ≤ top) m → AllByRecursion (λ (r : Range). r.last ≤ top) (without m index)
within_without top [] index within = tt
within_without top (r ∷ m) index within =
    cond_both (not (holds index r)) _ _ (λ kept. AllByRecursion (λ (x : Range). x.last ≤ top) kept)
    (λ other. (within.0, within_without top m index within.1))
    (λ held. within_without top m index within.1)

-- an erase keeps a map a map
pub without_is_map : (kind : Kind) (m : List Range) (index : ℕ) → IsMap kind m → IsMap kind (without m index)
without_is_map kind m index ordered = record { rise = IsMapFrom-without m 0 index ordered.rise; within = within_without (greatest_of kind) m index ordered.within }

erased_is_map : (kind : Kind) (m : List Range) (index : ℕ) (held : Option Range) → IsMap kind m → IsMap kind (erased m index held).0
erased_is_map kind m index None ordered = ordered
erased_is_map kind m index (Some r) ordered = without_is_map kind m index ordered

-- a store that is not invalid
pub valid_order : (kind : Kind) (first last entry : ℕ) → is_invalid kind first last entry ≡ false → first ≤ last
valid_order kind first last entry valid = ltb-false last first (or_parts (nat_lt last first) _ valid).0

pub valid_within : (kind : Kind) (first last entry : ℕ) → is_invalid kind first last entry ≡ false → last ≤ greatest_of kind
valid_within kind first last entry valid = ltb-false (greatest_of kind) last (or_parts (nat_lt (greatest_of kind) last) (reserved entry) (or_parts (nat_lt last first) _ valid).1).0

pub valid_entry : (kind : Kind) (first last entry : ℕ) → is_invalid kind first last entry ≡ false → reserved entry ≡ false
valid_entry kind first last entry valid = (or_parts (nat_lt (greatest_of kind) last) (reserved entry) (or_parts (nat_lt last first) _ valid).1).1

-- the store of a call that is not invalid keeps a map a map
stored_is_map : (kind : Kind) (m : List Range) (first last entry : ℕ) → is_invalid kind first last entry ≡ false → IsMap kind m → IsMap kind (over m first last entry)
stored_is_map kind m first last entry valid ordered = over_is_map kind m first last entry (valid_order kind first last entry valid) (valid_within kind first last entry valid) ordered

-- what a search that is not invalid is given
pub record IsArea (kind : Kind) (size lo hi : ℕ) : Type 0 where
  pub finds : finds_room kind ≡ true
  pub order : lo ≤ hi
  pub within : hi ≤ greatest_of kind
  pub some : 1 ≤ size
  pub fits : size - 1 ≤ hi - lo

pub is_area : (kind : Kind) (size lo hi : ℕ) → is_no_area kind size lo hi ≡ false → IsArea kind size lo hi
is_area kind size lo hi valid =
    let kinds = or_parts (not (finds_room kind)) _ valid in
    let orders = or_parts (nat_lt hi lo) _ kinds.1 in
    let ends = or_parts (nat_lt (greatest_of kind) hi) _ orders.1 in
    let sizes = or_parts (size == 0) (nat_lt (hi - lo) (size - 1)) ends.1 in
    record {
      finds = not_not (finds_room kind) kinds.0;
      order = ltb-false hi lo orders.0;
      within = ltb-false (greatest_of kind) hi ends.0;
      some = omega (arith, eqb-false size 0 sizes.0);
      fits = ltb-false (hi - lo) (size - 1) sizes.1;
    }
  where
    not_not : (b : Bool) → not b ≡ false → b ≡ true
    not_not true is = refl
    not_not false is = absurd (cc)

pub stored_area : (kind : Kind) (size lo hi entry : ℕ) → is_bad_area kind size lo hi entry ≡ false → IsArea kind size lo hi
stored_area kind size lo hi entry valid = is_area kind size lo hi (or_parts (is_no_area kind size lo hi) (reserved entry || (entry == 0)) valid).0

-- an entry stored where there is room
placed_is_map : (kind : Kind) (m : List Range) (size lo hi entry : ℕ) (start : Option ℕ) → is_bad_area kind size lo hi entry ≡ false → IsMap kind m → ((s : ℕ) → start ≡ Some s → IsRoom m size lo hi s) → IsMap kind (placed m size entry start).0
placed_is_map kind m size lo hi entry None valid ordered room = ordered
placed_is_map kind m size lo hi entry (Some s) valid ordered room =
    let area = stored_area kind size lo hi entry valid in
    over_is_map kind m s (s + size - 1) entry (omega (arith, area.some)) (omega (arith, area.some, area.within, (room s refl).to)) ordered

-- every call keeps a map a map
pub acted_is_map : (kind : Kind) (m : List Range) (call : Call) → IsMap kind m → IsMap kind (acted kind m call).0
acted_is_map kind m (Store first last entry) ordered =
    cond_both (is_invalid kind first last entry) _ _ (λ (after : List Range × Reply). IsMap kind after.0)
    (λ invalid. ordered)
    (λ valid. stored_is_map kind m first last entry valid ordered)
acted_is_map kind m (StorePre first last entry) ordered =
    cond_both (is_invalid kind first last entry) _ _ (λ (after : List Range × Reply). IsMap kind after.0)
    (λ invalid. ordered)
    (λ valid. stored_is_map kind m first last entry valid ordered)
acted_is_map kind m (Insert first last entry) ordered =
    cond_both (is_invalid kind first last entry || (entry == 0)) _ _ (λ (after : List Range × Reply). IsMap kind after.0)
    (λ invalid. ordered)
    (λ valid. cond_both (is_held m first last) _ _ (λ (after : List Range × Reply). IsMap kind after.0)
    (λ held. ordered)
    (λ free. stored_is_map kind m first last entry (or_parts (is_invalid kind first last entry) (entry == 0) valid).0 ordered))
acted_is_map kind m (Erase index) ordered = erased_is_map kind m index (holding m index) ordered
acted_is_map kind m (Alloc size lo hi entry) ordered =
    cond_both (is_bad_area kind size lo hi entry) _ _ (λ (after : List Range × Reply). IsMap kind after.0)
    (λ invalid. ordered)
    (λ valid. placed_is_map kind m size lo hi entry (low kind m size lo hi) valid ordered (λ s. low_is_room kind m size lo hi s ordered (stored_area kind size lo hi entry valid).some))
acted_is_map kind m (Ralloc size lo hi entry) ordered =
    cond_both (is_bad_area kind size lo hi entry) _ _ (λ (after : List Range × Reply). IsMap kind after.0)
    (λ invalid. ordered)
    (λ valid. placed_is_map kind m size lo hi entry (high kind m size lo hi) valid ordered (λ s. high_is_room kind m size lo hi s ordered (stored_area kind size lo hi entry valid).some))
acted_is_map kind m (Gap size lo hi) ordered = ordered
acted_is_map kind m (Rgap size lo hi) ordered = ordered
acted_is_map kind m Clear ordered = record { rise = tt; within = tt }
