-- A call that stores an entry where it finds room wants rows exactly where it finds some: the map changes there.
use Rattle.mt_base.proofs.Prelude.{◌≡◌, ◌≢◌, ◌↔◌, ℕ, ◌+◌, ◌-◌, ◌≤◌, false, List, [], ◌∷◌, Option, Some, None, arith, refl, ◌==◌, cond, subst, option_map, cond_both, or_parts, Kind, Range, Alloc, Ralloc, Reply, reserved, IsMap, overlaps, holding, is_held, over, IsRoom, low, high, acted, placed, is_no_area, is_bad_area, Wants}
use Rattle.mt_base.specs.declared.replies.Reply.TheVariants as reply
use Rattle.mt_base.proofs.CallsKeepOrder.{stored_area}
use Rattle.mt_base.proofs.FreeAreas.{part_is_free, low_is_room, high_is_room}
use Rattle.mt_base.proofs.ReadingAfterStore.{entry_inside}

-- an index that is free has no range
none_held : (m : List Range) (index : ℕ) → is_held m index index ≡ false → holding m index ≡ None
none_held [] index free = refl
none_held (r ∷ m) index free = let parts = or_parts (overlaps index index r) (is_held m index index) free in rw parts.0 (none_held m index parts.1)

-- an entry stored in a free area changes the map
over_changes : (m : List Range) (first last entry : ℕ) → first ≤ last → (entry == 0) ≡ false → is_held m first last ≡ false → over m first last entry ≢ m
over_changes m first last entry order some free same =
    let none : holding m first ≡ None = none_held m first (part_is_free m first last first first (omega arith) order free) in
    let stored = subst (λ (after : List Range). option_map (λ r. r.entry) (holding after first) ≡ cond (entry == 0) None (Some entry)) same (entry_inside m first last entry first (omega arith) order) in
    let told : None ≡ Some entry = rw (none, some) at stored in
    cc

abbrev Started : List Range × Reply → Type 0
Started after = (s : ℕ) × (after.1 ≡ reply.Start s)

placed_wants : (kind : Kind) (m : List Range) (size lo hi entry : ℕ) (start : Option ℕ) → is_bad_area kind size lo hi entry ≡ false → ((s : ℕ) → start ≡ Some s → IsRoom m size lo hi s)
    → ((placed m size entry start).0 ≢ m) ↔ Started (placed m size entry start)
placed_wants kind m size lo hi entry None valid room = ((λ changes. absurd (changes refl)), (λ started. absurd (cc)))
placed_wants kind m size lo hi entry (Some s) valid room =
    let area = stored_area kind size lo hi entry valid in
    let some : (entry == 0) ≡ false = (or_parts (reserved entry) (entry == 0) (or_parts (is_no_area kind size lo hi) _ valid).1).1 in (
      (λ changes. (s, refl)),
      (λ started. over_changes m s (s + size - 1) entry (omega (arith, area.some)) some (room s refl).free),
    )

pub alloc_wants : (kind : Kind) (m : List Range) (size lo hi entry : ℕ) → IsMap kind m → Wants kind m (Alloc size lo hi entry) ↔ Started (acted kind m (Alloc size lo hi entry))
alloc_wants kind m size lo hi entry is =
    cond_both (is_bad_area kind size lo hi entry) _ _ (λ (after : List Range × Reply). (after.0 ≢ m) ↔ Started after)
    (λ invalid. ((λ changes. absurd (changes refl)), (λ started. absurd (cc))))
    (λ valid. placed_wants kind m size lo hi entry (low kind m size lo hi) valid (λ s. low_is_room kind m size lo hi s is (stored_area kind size lo hi entry valid).some))

pub ralloc_wants : (kind : Kind) (m : List Range) (size lo hi entry : ℕ) → IsMap kind m → Wants kind m (Ralloc size lo hi entry) ↔ Started (acted kind m (Ralloc size lo hi entry))
ralloc_wants kind m size lo hi entry is =
    cond_both (is_bad_area kind size lo hi entry) _ _ (λ (after : List Range × Reply). (after.0 ≢ m) ↔ Started after)
    (λ invalid. ((λ changes. absurd (changes refl)), (λ started. absurd (cc))))
    (λ valid. placed_wants kind m size lo hi entry (high kind m size lo hi) valid (λ s. high_is_room kind m size lo hi s is (stored_area kind size lo hi entry valid).some))
