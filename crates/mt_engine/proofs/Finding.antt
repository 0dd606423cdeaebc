-- What a search for room comes to, and an allocation; and how many words a search loads.
use Rattle.mt_engine.proofs.Prelude.{◌≡◌, ◌≢◌, ℕ, ◌+◌, ◌-◌, ◌*◌, ◌^◌, ◌<◌, ◌≤◌, ◌==◌, ◌||◌, not, true, false, List, Option, Some, None, refl, sym, ap, ◌∙◌, subst, arith, or_parts, eqb-false, Kind, Range, Call, Store, StorePre, Insert, Erase, Alloc, Ralloc, Gap, Rgap, Clear, Reply, Shortage, Width, acted, found, placed, is_no_area, is_bad_area, reserved, IsRoom, IsMap, is_held, over, columns, greatest, greatest_of, is_area, low_is_room, high_is_room, greatest_fits, IsGapped, IsLawfulOf, map_by, Rooted, Sheet, ReadsUpTo, RoseUpTo, height_in, Handle, PathStep, path_in, Sought, Lowest, Highest, Plan, start_to, allocation, search, OnlySearches, is_refusal, most_searched, IsHereAt, IsSearched, IsStoreOf, IsStorePlan, IsDoneBy, StoreBy, rose_up}
use Rattle.mt_base.specs.declared.replies.Reply.TheVariants as reply
use Rattle.mt_engine.specs.declared.plans.Plan.TheVariants as plans
use Rattle.mt_engine.proofs.Moments.{tree_if_lawful}
use Rattle.mt_engine.proofs.Planning.{ComesToNothing}
use Rattle.mt_engine.proofs.Slots.{tree_map}
use Rattle.mt_engine.proofs.Wanting.{stays_replaces_none}

abbrev pub start_for : Sought → Kind → List Range → ℕ → ℕ → ℕ → Option ℕ
start_for sought kind = start_to sought (greatest_of kind)

-- ---- the conditions

pub good_area : (kind : Kind) (size lo hi entry : ℕ) → is_bad_area kind size lo hi entry ≡ false → (is_no_area kind size lo hi ≡ false) × ((reserved entry ≡ false) × (entry ≢ 0))
good_area kind size lo hi entry good =
    let parts = or_parts (is_no_area kind size lo hi) (reserved entry || (entry == 0)) good in
    let entries = or_parts (reserved entry) (entry == 0) parts.1 in
    (parts.0, (entries.0, eqb-false entry 0 entries.1))

-- ---- a tree of which an area is asked

module _ (t : Rooted) (kind : Kind) (lawful : IsLawfulOf t kind) (size lo hi : ℕ) where
  -- its holes are searched
  pub is_gapped : is_no_area kind size lo hi ≡ false → IsGapped t
  is_gapped area = record { kind = kind; room = (is_area kind size lo hi area).finds; lawful = lawful }

  -- what is found up to the greatest index of the words is what is found in a tree of this kind
  pub start_is : (sought : Sought) (start : Option ℕ) → start ≡ start_to sought (greatest t.table.width) (map_by t) size lo hi → start_for sought kind (map_by t) size lo hi ≡ start
  start_is sought start found = ap (λ (w : Width). start_to sought (greatest w) (map_by t) size lo hi) (sym lawful.width) ∙ sym found

-- ---- what an allocation does

allocation_acts : (sought : Sought) (kind : Kind) (m : List Range) (size lo hi entry : ℕ) → is_bad_area kind size lo hi entry ≡ false → acted kind m (allocation sought size lo hi entry) ≡ placed m size entry (start_for sought kind m size lo hi)
allocation_acts Lowest kind m size lo hi entry good = rw good refl
allocation_acts Highest kind m size lo hi entry good = rw good refl

allocation_stays : (sought : Sought) (kind : Kind) (m : List Range) (size lo hi entry : ℕ) (answer : Reply) → acted kind m (allocation sought size lo hi entry) ≡ (m, answer) → ComesToNothing kind m (allocation sought size lo hi entry) answer
allocation_stays Lowest kind m size lo hi entry answer acts = (acts, stays_replaces_none kind m (Alloc size lo hi entry) answer acts)
allocation_stays Highest kind m size lo hi entry answer acts = (acts, stays_replaces_none kind m (Ralloc size lo hi entry) answer acts)

pub allocation_invalid : (sought : Sought) (kind : Kind) (m : List Range) (size lo hi entry : ℕ) → is_bad_area kind size lo hi entry ≡ true → ComesToNothing kind m (allocation sought size lo hi entry) reply.Invalid
allocation_invalid Lowest kind m size lo hi entry bad = allocation_stays Lowest kind m size lo hi entry reply.Invalid (rw bad refl)
allocation_invalid Highest kind m size lo hi entry bad = allocation_stays Highest kind m size lo hi entry reply.Invalid (rw bad refl)

pub allocation_busy : (sought : Sought) (kind : Kind) (m : List Range) (size lo hi entry : ℕ) → is_bad_area kind size lo hi entry ≡ false → start_for sought kind m size lo hi ≡ None → ComesToNothing kind m (allocation sought size lo hi entry) reply.Busy
allocation_busy sought kind m size lo hi entry good none = allocation_stays sought kind m size lo hi entry reply.Busy (allocation_acts sought kind m size lo hi entry good ∙ ap (placed m size entry) none)

-- ---- a place that was found

room_is : (sought : Sought) (kind : Kind) (m : List Range) (size lo hi start : ℕ) → IsMap kind m → 1 ≤ size → start_for sought kind m size lo hi ≡ Some start → IsRoom m size lo hi start
room_is Lowest kind m size lo hi start map some is = low_is_room kind m size lo hi start map some is
room_is Highest kind m size lo hi start map some is = high_is_room kind m size lo hi start map some is

module _ (t : Rooted) (kind : Kind) (lawful : IsLawfulOf t kind) (sought : Sought) (size lo hi : ℕ) (area : is_no_area kind size lo hi ≡ false) (start : ℕ) (is : start_for sought kind (map_by t) size lo hi ≡ Some start) where
  room : IsRoom (map_by t) size lo hi start
  room = room_is sought kind (map_by t) size lo hi start (tree_map t kind (tree_if_lawful t kind lawful)) (is_area kind size lo hi area).some is

  pub place_within : start + (size - 1) ≤ greatest t.table.width
  place_within =
      let top = (is_area kind size lo hi area).within in let some = (is_area kind size lo hi area).some in let to = room.to in
      subst (λ (w : Width). start + (size - 1) ≤ greatest w) (sym lawful.width) (omega arith)

  pub place_fits : start + (size - 1) < 2 ^ 64
  place_fits = let top = greatest_fits t.table.width in let most = place_within in omega arith

  last_is : start + size - 1 ≡ start + (size - 1)
  last_is = let some = (is_area kind size lo hi area).some in omega arith

  pub start_within : start ≤ greatest t.table.width
  start_within = let most = place_within in omega arith

  own_by : (s : Sought) (entry : ℕ) → entry ≢ 0 → IsStoreOf (map_by t) (allocation s size lo hi entry) start (start + (size - 1)) entry
  own_by Lowest entry some = record { entry_is = refl; some = some; free = ap (is_held (map_by t) start) (sym last_is) ∙ room.free }
  own_by Highest entry some = record { entry_is = refl; some = some; free = ap (is_held (map_by t) start) (sym last_is) ∙ room.free }

  pub place_plan : (entry : ℕ) {path : List PathStep} {here : Option Handle} {by : StoreBy} → is_bad_area kind size lo hi entry ≡ false → path ≡ path_in t.table t.root start → IsHereAt t start here → IsDoneBy here start (start + (size - 1)) entry by
      → IsStorePlan kind t (allocation sought size lo hi entry) path (record { edit = record { first = start; last = start + (size - 1); entry = entry }; by = by }) (reply.Start start)
  place_plan entry {here = here} good way stands done =
      let entries = (good_area kind size lo hi entry good).1 in
      record {
        store = record {
          acts = allocation_acts sought kind (map_by t) size lo hi entry good ∙ (ap (placed (map_by t) size entry) is ∙ ap (λ (last : ℕ). (over (map_by t) start last entry, reply.Start start)) last_is);
          order = omega arith;
          within = place_within;
          lawful = entries.0;
        };
        own = own_by sought entry entries.1;
        success = refl;
        way = way;
        by = record { here = here; stands = stands; done = done };
      }

-- ---- a search alone

pub search_invalid : (sought : Sought) (kind : Kind) (m : List Range) (size lo hi : ℕ) → is_no_area kind size lo hi ≡ true → ComesToNothing kind m (search sought size lo hi) reply.Invalid
search_invalid Lowest kind m size lo hi bad = (rw bad refl, λ wants. wants)
search_invalid Highest kind m size lo hi bad = (rw bad refl, λ wants. wants)

pub search_tells : (sought : Sought) (kind : Kind) (m : List Range) (size lo hi : ℕ) (start : Option ℕ) → is_no_area kind size lo hi ≡ false → start_for sought kind m size lo hi ≡ start → ComesToNothing kind m (search sought size lo hi) (found start)
search_tells Lowest kind m size lo hi start good is = (rw good (ap (λ (o : Option ℕ). (m, found o)) is), λ wants. wants)
search_tells Highest kind m size lo hi start good is = (rw good (ap (λ (o : Option ℕ). (m, found o)) is), λ wants. wants)

-- ---- how many words were loaded

rose_none : (n : ℕ) (a : Option ℕ) → RoseUpTo n a a
rose_none n None = tt
rose_none n (Some a) = omega arith

abbrev pub RoseFew : Sheet → Sheet → Type 0
RoseFew s s' = RoseUpTo (most_searched s.tree) s.reads s'.reads

pub few_loaded : (s s' : Sheet) → ReadsUpTo (3 * height_in s.tree.table s.tree.root * columns s.tree.table.width + 1) s s' → RoseFew s s'
few_loaded s s' reads = twice (3 * height_in s.tree.table s.tree.root * columns s.tree.table.width + 1) reads.reads
  where
    twice : (n : ℕ) → RoseUpTo n s.reads s'.reads → RoseUpTo (2 * n) s.reads s'.reads
    twice n rose = rose_up n (2 * n) s.reads s'.reads (omega arith) rose

pub none_loaded : (s : Sheet) → RoseFew s s
none_loaded s = rose_none (most_searched s.tree) s.reads

-- a plan of a call that is no search
pub not_searched : (s s' : Sheet) (call : Call) (plan : Plan) → ((answer : Reply) → OnlySearches call answer → ⊥) → IsSearched s s' call plan
not_searched s s' call (plans.Nothing answer) not = λ only. absurd (not answer only)
not_searched s s' call (plans.Store write answer) not = tt
not_searched s s' call plans.Empty not = tt

-- a store that is carried out, or refused for want of rows, is of no call that only searches
pub store_is_no_search : (m : List Range) (call : Call) (first last entry : ℕ) (answer : Reply) → IsStoreOf m call first last entry → answer ≢ reply.Busy → OnlySearches call answer → ⊥
store_is_no_search m (Store f l e) first last entry answer own other only = only
store_is_no_search m (StorePre f l e) first last entry answer own other only = only
store_is_no_search m (Insert f l e) first last entry answer own other only = only
store_is_no_search m (Erase index) first last entry answer own other only = only
store_is_no_search m (Alloc size lo hi e) first last entry answer own other only = other only
store_is_no_search m (Ralloc size lo hi e) first last entry answer own other only = other only
store_is_no_search m (Gap size lo hi) first last entry answer own other only = own
store_is_no_search m (Rgap size lo hi) first last entry answer own other only = own
store_is_no_search m Clear first last entry answer own other only = only

pub success_is_not_busy : (answer : Reply) → is_refusal answer ≡ false → answer ≢ reply.Busy
success_is_not_busy answer success busy = let refused : true ≡ false = sym (ap is_refusal busy) ∙ success in absurd (cc)

pub shortage_is_not_busy : (shortage : Shortage) → reply.NoNodes shortage ≢ reply.Busy
shortage_is_not_busy shortage same = absurd (cc)
