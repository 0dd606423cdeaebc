-- What one call for one index answers, by the map.
use Rattle.mt_ids.proofs.Prelude.{◌≡◌, ◌≢◌, ℕ, ◌+◌, ◌-◌, ◌≤◌, ◌==◌, ◌||◌, Bool, true, false, not, List, [], ◌∷◌, Option, Some, None, min, max, nat_lt, refl, sym, ap, ◌∙◌, subst, inl, inr, arith, cond_both, le-ltb, leb-true, Kind, Range, Alloc, Reply, Shortage, acted, finds_room, is_bad_area, placed, reserved, map_after, map_by_reply, Hole, clip, fits, kept, low, lowest_in, over, Changes, IsRefused, greatest_of, Allocation, IsNextCall, limits_at, recorded, is_bad_draw, LiesIn, Draws, holes}
use Rattle.mt_base.specs.declared.replies.Reply.TheVariants as reply

-- ---- which calls are invalid

tests : (finds above bad : Bool) → ((finds || (false || (above || (false || false)))) || bad) ≡ (finds || (above || bad))
tests true above bad = refl
tests false true bad = refl
tests false false bad = refl

not_below : (a b : ℕ) → b ≤ a → nat_lt a b ≡ false
not_below a b le = le-ltb a b le

pub same_bad : (kind : Kind) (from hi entry : ℕ) → from ≤ hi → is_bad_area kind 1 from hi entry ≡ is_bad_draw kind hi entry
same_bad kind from hi entry order =
    let one : nat_lt hi from ≡ false = not_below hi from order in
    let two : nat_lt (hi - from) 0 ≡ false = not_below (hi - from) 0 (omega arith) in
    rw (one, two) (tests (not (finds_room kind)) (nat_lt (greatest_of kind) hi) (reserved entry || (entry == 0)))

-- ---- where a number lies

pub lies_in : (n lo hi s : ℕ) (xs : List Hole) → lowest_in (kept n lo hi xs) ≡ Some s → (lo ≤ s) × (s + n ≤ hi + 1)
lies_in n lo hi s [] found = absurd (cc)
lies_in n lo hi s (x ∷ xs) found = cond_both (fits n (clip lo hi x)) _ _ (λ (l : List Hole). lowest_in l ≡ Some s → (lo ≤ s) × (s + n ≤ hi + 1))
    (λ fit first.
    let same : max lo x.first ≡ s = cc in
    let room : max lo x.first + n ≤ min hi x.last + 1 = leb-true (max lo x.first + n) (min hi x.last + 1) fit in
    (omega arith, omega arith))
    (λ none behind. lies_in n lo hi s xs behind) found

-- ---- what is answered

-- a call that changes the map finds an index
finds : (kind : Kind) (m : List Range) (from hi entry : ℕ) → from ≤ hi → Changes kind m (Alloc 1 from hi entry) → (is_bad_draw kind hi entry ≡ false) × ((n : ℕ) × (low kind m 1 from hi ≡ Some n))
finds kind m from hi entry order =
    let same = same_bad kind from hi entry order in
    cond_both (is_bad_area kind 1 from hi entry) _ _ (λ (after : List Range × Reply). after.0 ≢ m → (is_bad_draw kind hi entry ≡ false) × ((n : ℕ) × (low kind m 1 from hi ≡ Some n)))
    (λ bad changes. absurd (changes refl))
    (λ good. by_place (low kind m 1 from hi) refl (sym same ∙ good))
  where
    by_place : (o : Option ℕ) → low kind m 1 from hi ≡ o → is_bad_draw kind hi entry ≡ false → (placed m 1 entry o).0 ≢ m → (is_bad_draw kind hi entry ≡ false) × ((n : ℕ) × (low kind m 1 from hi ≡ Some n))
    by_place None found good changes = absurd (changes refl)
    by_place (Some n) found good changes = (good, (n, found))

module _ (kind : Kind) (m m' : List Range) (from hi entry : ℕ) (Lacks : Shortage → Type 0) where
  abbrev pub Answers : Reply → Type 0
  Answers (reply.Start s) = (is_bad_draw kind hi entry ≡ false) × (low kind m 1 from hi ≡ Some s) × (m' ≡ over m s s entry)
  Answers reply.Busy = (is_bad_draw kind hi entry ≡ false) × (low kind m 1 from hi ≡ None) × (m' ≡ m)
  Answers reply.Invalid = (is_bad_draw kind hi entry ≡ true) × (m' ≡ m)
  Answers (reply.NoNodes shortage) = Lacks shortage × ((n : ℕ) × (low kind m 1 from hi ≡ Some n)) × (m' ≡ m)
  Answers reply.Ok = ⊥
  Answers (reply.Over e) = ⊥
  Answers (reply.Was r) = ⊥
  Answers reply.None = ⊥
  Answers reply.Exists = ⊥

  abbrev Leads : Reply → List Range × Reply → Type 0
  Leads r after = (r ≡ after.1) → (m' ≡ map_by_reply r m after.0) → Answers r

  by_place : (o : Option ℕ) (r : Reply) → is_bad_draw kind hi entry ≡ false → low kind m 1 from hi ≡ o → Leads r (placed m 1 entry o)
  by_place None r good found is after = subst (λ (a : Reply). (m' ≡ map_by_reply a m m) → Answers a) (sym is) (λ same. (good, found, same)) after
  by_place (Some s) r good found is after =
      let one : s + 1 - 1 ≡ s = omega arith in
      subst (λ (a : Reply). (m' ≡ map_by_reply a m (over m s (s + 1 - 1) entry)) → Answers a) (sym is) (λ same. (good, found, same ∙ ap (λ (l : ℕ). over m s l entry) one)) after

  pub by_call : (r : Reply) → from ≤ hi → Leads r (acted kind m (Alloc 1 from hi entry))
  by_call r order =
      let same = same_bad kind from hi entry order in
      cond_both (is_bad_area kind 1 from hi entry) _ _ (Leads r)
      (λ bad is after. subst (λ (a : Reply). (m' ≡ map_by_reply a m m) → Answers a) (sym is) (λ kept_map. (sym same ∙ bad, kept_map)) after)
      (λ good. by_place (low kind m 1 from hi) r (sym same ∙ good) refl)

  pub by_refusal : (r : Reply) (shortage : Shortage) → from ≤ hi → r ≡ reply.NoNodes shortage → Changes kind m (Alloc 1 from hi entry) → Lacks shortage → m' ≡ map_by_reply r m (acted kind m (Alloc 1 from hi entry)).0 → Answers r
  by_refusal r shortage order is changes lacks after =
      subst (λ (a : Reply). (m' ≡ map_by_reply a m (acted kind m (Alloc 1 from hi entry)).0) → Answers a) (sym is) (λ same. (lacks, (finds kind m from hi entry order changes).1, same)) after

-- where too few rows were free for this call
abbrev pub LacksNow : Allocation → ℕ → ℕ → ℕ → Shortage → Type 0
LacksNow s from hi entry shortage = IsRefused s.kind (limits_at s s.calls) s.map (Alloc 1 from hi entry) (reply.NoNodes shortage) × (s.alone ≡ true → shortage.held ≡ 0)

pub one_call : (s s' : Allocation) (from hi entry : ℕ) (r : Reply) → from ≤ hi → IsNextCall s (Alloc 1 from hi entry) r s' → Answers s.kind s.map s'.map from hi entry (LacksNow s from hi entry) r
one_call s s' from hi entry r order called =
    let after : s'.map ≡ map_after s.kind s.map (recorded (Alloc 1 from hi entry) r) = ap (λ (x : Allocation). x.map) called.after in
    elim called.answered [
      | inl is ↦ by_call s.kind s.map s'.map from hi entry (LacksNow s from hi entry) r order is after
      | inr refused ↦
          let lacks = subst (IsRefused s.kind (limits_at s s.calls) s.map (Alloc 1 from hi entry)) refused.told refused in
          by_refusal s.kind s.map s'.map from hi entry (LacksNow s from hi entry) r refused.shortage order refused.told refused.wants (lacks, λ alone. called.unheld alone refused.shortage refused.told) after
    ]

-- a number that is answered lies in the window of the call
pub lies : (s s' : Allocation) (d : Draws) (from entry : ℕ) (r : Reply) → d.lo ≤ from → from ≤ d.hi → IsNextCall s (Alloc 1 from d.hi entry) r s' → LiesIn d r
lies s s' d from entry r begins order called = by_answer r (one_call s s' from d.hi entry r order called)
  where
    by_answer : (r : Reply) → Answers s.kind s.map s'.map from d.hi entry (LacksNow s from d.hi entry) r → LiesIn d r
    by_answer (reply.Start n) answers =
        let within = lies_in 1 from d.hi n (holes s.kind s.map) answers.1 in
        let low_end = within.0 in
        let high_end = within.1 in
        (omega arith, omega arith)
    by_answer reply.Busy answers = tt
    by_answer (reply.NoNodes shortage) answers = tt
    by_answer reply.Ok answers = tt
    by_answer (reply.Over e) answers = tt
    by_answer (reply.Was e) answers = tt
    by_answer reply.None answers = tt
    by_answer reply.Exists answers = tt
    by_answer reply.Invalid answers = tt
