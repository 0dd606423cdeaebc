-- What C gets of the ranges that a store meets.
-- Source: this project's own; the kernel's mas_store returns the first entry that it overwrites, and mas_for_each visits the
-- others.
use Rattle.std.specs.Prelude.{◌≡◌, ℕ, List, Option, Some, None, Result, Ok, Err}
use Rattle.mt_base.specs.Passes as known
use Rattle.mt_base.specs.declared.calls.Call.TheVariants.{Store}
use Rattle.mt_tree.specs.Overwrites.{TellsMet, map_met, ranges_met}
use Rattle.mt_c.specs.Prelude.{Reply, Parts, map_by, Busy, Done, Tree, Worn, IsBusyOf, WasMade}
use Rattle.mt_c.specs.declared.shared_told.Outcome.{Outcome}
use Rattle.mt_c.specs.declared.told.OutRange.{OutRange}
use Rattle.mt_c.specs.declared.user.User.{User}
use Rattle.mt_c.specs.declared.user_handle.UserHandle.{UserHandle}
use Rattle.mt_c.specs.Calls.{IsAsked, MadeOrSpent, range_out, status_of, word_in_c}
use Rattle.mt_c.specs.Own.{OwnTree}
use Rattle.mt_c.specs.Receipts.{when_tried}
use Rattle.mt_c.specs.Shared.{OnUser, no_outcome, outcome_of, tried_status}
use Rattle.mt_c.specs.Users.{known_to, paused, user_tree}
use Rattle.mt_c.specs.Walkers.{Tried, TriedOnce}

-- ---- a tree of one's own

-- The tree was read, and the store was then made, or the tree had had all its calls.
abbrev pub StoresOver : ℕ → ℕ → ℕ → List OutRange → List OutRange → ℕ → OwnTree → OwnTree → Option Reply → Type 0
StoresOver first last entry met met' count t t' made =
    TellsMet range_out (ranges_met (map_by t.engine.sheet.tree) first last) met met' count × (read : Parts) × IsAsked t.engine read × MadeOrSpent read t'.engine (Store first last entry) made

-- A store on what C keeps, which returns the ranges that it met whether it was made or refused. A closed one is EBADF, and no
-- range.
abbrev pub StoredOver : ℕ → ℕ → ℕ → List OutRange → List OutRange → ℕ → Option OwnTree → Option OwnTree → ℕ → ℕ → Type 0
StoredOver first last entry met met' count None after status old = (after ≡ None) × (status ≡ 9) × (old ≡ 0) × (count ≡ 0) × (met' ≡ met)
StoredOver first last entry met met' count (Some t) None status old = ⊥
StoredOver first last entry met met' count (Some t) (Some t') status old = (made : Option Reply) × StoresOver first last entry met met' count t t' made × (status ≡ status_of made) × (old ≡ word_in_c made)

-- ---- a shared tree

-- The result of a store, and how many ranges it met; or the lock was found taken.
abbrev pub TriedOver : Type 0
TriedOver = Result (Result Done Worn × ℕ) Busy

-- The ranges are those that the store met; if the lock was found taken, none is written.
abbrev pub IsTriedOver : Tree → known.Pass → ℕ → ℕ → ℕ → List OutRange → List OutRange → TriedOver → known.Pass → Type 0
IsTriedOver t p first last entry met met' (Ok r) q = WasMade t p (Store first last entry) r.0 q × TellsMet range_out (ranges_met (map_met t r.0 q) first last) met met' r.1
IsTriedOver t p first last entry met met' (Err busy) q = IsBusyOf t busy × (q ≡ p) × (met' ≡ met)

-- the result of the store alone, and how many ranges it met
abbrev pub tried_alone : TriedOver → Tried
tried_alone (Ok r) = Ok r.0
tried_alone (Err busy) = Err busy

abbrev pub met_count : TriedOver → ℕ
met_count (Ok r) = r.1
met_count (Err busy) = 0

-- A user has tried this, and went for the lock once. It keeps no walk, and makes no step at the purse.
abbrev pub HasTriedOver : ℕ → ℕ → ℕ → List OutRange → List OutRange → ℕ → ℕ → Outcome → User → User → Type 0
HasTriedOver first last entry met met' count status out u v =
    (tried : TriedOver) × IsTriedOver (user_tree u) (paused u) first last entry met met' tried (known_to v) × TriedOnce u.walker v.walker × (v.walker.walk ≡ None) × (v.chair ≡ u.chair) × (v.receipts ≡ when_tried (tried_alone tried) u.receipts)
    × (status ≡ tried_status (tried_alone tried)) × (out ≡ outcome_of (tried_alone tried)) × (count ≡ met_count tried)

abbrev pub SharedTriedOver : ℕ → ℕ → ℕ → List OutRange → List OutRange → ℕ → UserHandle → UserHandle → ℕ → Outcome → Type 0
SharedTriedOver first last entry met met' count before after status out =
    OnUser before after status ((out ≡ no_outcome) × (count ≡ 0) × (met' ≡ met)) (HasTriedOver first last entry met met' count status out)
