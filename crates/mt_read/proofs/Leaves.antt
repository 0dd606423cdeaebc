-- How many ranges are found from leaf to leaf: the leaves that a section has reached, one look, and one look more.
use Rattle.mt_read.proofs.Prelude.{◌≡◌, ℕ, zero, suc, ◌+◌, ◌-◌, ◌<◌, ◌≤◌, List, [], ◌∷◌, ◌++◌, Option, Some, None, length, take, refl, sym, ap, ◌∙◌, subst, arith, IfSome, inl, inr, ⊎_elim, ◌⊎◌, length-take-le, some, some-injective, get_elem?, Range, Held, PassPart, place_behind, IsAt, here, KeptLeaf, Resumed, IsOnKeptLeaf, IsOver, LeafWasMarked, kept_lo, row_of, IsUnder, GoesByLeaves, HasReached, IsHoldOf, KeepsReached, LooksFrom, LooksOn, WalkStand, WentByLeaves, stand}
use Rattle.mt_rule.specs.Sections.{first_held}

-- ---- the leaves that a section has reached

held_first : (held : List Held) (x : Held) → get_elem? held 0 ≡ some x → first_held held ≡ x
held_first [] x at = absurd (cc)
held_first (y ∷ held) x at = some-injective y x at

-- the leaf that the section is at
pub reached_here : (q : PassPart) (kept : KeptLeaf) → IsOnKeptLeaf q kept → HasReached q kept
reached_here q kept on = record {
  held = here q;
  place = 0;
  stands = on.leaf.on.at;
  is = record { row = on.leaf.on.number; min = on.leaf.on.min; max = on.leaf.on.max; level = on.leaf.level };
}

-- what is held is held still
pub reached_same : (q q' : PassPart) → q'.held ≡ q.held → KeepsReached q q'
reached_same q q' same = record {
  stay = λ kept r. record { held = r.held; place = r.place; stands = subst (λ (l : List Held). get_elem? l r.place ≡ some r.held) (sym same) r.stands; is = r.is };
}

pub reached_then : (q q' q'' : PassPart) → KeepsReached q q' → KeepsReached q' q'' → KeepsReached q q''
reached_then q q' q'' first next = record { stay = λ kept r. next.stay kept (first.stay kept r) }

-- one that is held below is held below still
below_still : (q q' : PassPart) (kept : KeptLeaf) (x : Held) (j : ℕ) → ((y : Held) → IsUnder q y → IsUnder q' y) → get_elem? q.held (suc j) ≡ some x → IsHoldOf kept x → HasReached q' kept
below_still q q' kept x j under at is = let now = under x (j, at) in record { held = x; place = suc now.0; stands = now.1; is = is }

-- a walk from the root leaves the leaf that the section was at below
anew_at : (q q' : PassPart) (kept : KeptLeaf) (x : Held) (j : ℕ) → ((y : Held) → IsUnder q y → IsUnder q' y) → (IsAt q → IsUnder q' (here q)) → get_elem? q.held j ≡ some x → IsHoldOf kept x → HasReached q' kept
anew_at q q' kept x zero under below at is =
    let same : here q ≡ x = held_first q.held x at in
    let now = below (subst (λ (y : Held). get_elem? q.held 0 ≡ some y) (sym same) at) in
    record { held = here q; place = suc now.0; stands = now.1; is = subst (λ (y : Held). IsHoldOf kept y) (sym same) is }
anew_at q q' kept x (suc j) under below at is = below_still q q' kept x j under at is

pub reached_anew : (q q' : PassPart) → ((y : Held) → IsUnder q y → IsUnder q' y) → (IsAt q → IsUnder q' (here q)) → KeepsReached q q'
reached_anew q q' under below = record { stay = λ kept r. anew_at q q' kept r.held r.place under below r.stands r.is }

-- and the section is at the leaf that it was at
stay_at : (q q' : PassPart) (leaf kept : KeptLeaf) (x : Held) (j : ℕ) → ((y : Held) → IsUnder q y → IsUnder q' y) → IsOnKeptLeaf q leaf → IsOnKeptLeaf q' leaf → get_elem? q.held j ≡ some x → IsHoldOf kept x → HasReached q' kept
stay_at q q' leaf kept x zero under on on' at is =
    let same : x ≡ here q = sym (held_first q.held x at) in
    record {
      held = here q';
      place = 0;
      stands = on'.leaf.on.at;
      is = record {
        row = is.row ∙ (ap (λ (y : Held). y.row) same ∙ (sym on.leaf.on.number ∙ on'.leaf.on.number));
        min = is.min ∙ (ap (λ (y : Held). y.extent.first) same ∙ (sym on.leaf.on.min ∙ on'.leaf.on.min));
        max = is.max ∙ (ap (λ (y : Held). y.extent.last) same ∙ (sym on.leaf.on.max ∙ on'.leaf.on.max));
        level = on'.leaf.level;
      };
    }
stay_at q q' leaf kept x (suc j) under on on' at is = below_still q q' kept x j under at is

pub reached_still : (q q' : PassPart) (leaf : KeptLeaf) → ((y : Held) → IsUnder q y → IsUnder q' y) → IsOnKeptLeaf q leaf → IsOnKeptLeaf q' leaf → KeepsReached q q'
reached_still q q' leaf under on on' = record { stay = λ kept r. stay_at q q' leaf kept r.held r.place under on on' r.stands r.is }

-- ---- one look

near_of : (q q' : PassPart) (leaf leaf' : Option KeptLeaf) (index steps steps' : ℕ) → (steps' ≤ steps + 35) ⊎ LeafWasMarked leaf (Some index) q'.risen q q' → (leaf' ≡ leaf) ⊎ LeafWasMarked leaf (Some index) q'.risen q q' → (q'.marks ≡ q.marks) ⊎ LeafWasMarked leaf (Some index) q'.risen q q'
    → ((steps' - steps ≤ 35) × (leaf' ≡ leaf) × (q'.marks ≡ q.marks)) ⊎ ((q'.marks ≡ row_of leaf ∷ q.marks) × (kept_lo leaf < q'.risen))
near_of q q' leaf leaf' index steps steps' (inl few) (inl same) (inl marks) = inl (omega arith, same, marks)
near_of q q' leaf leaf' index steps steps' (inl few) (inl same) (inr marked) = inr (marked.marks, marked.later)
near_of q q' leaf leaf' index steps steps' (inl few) (inr marked) marks = inr (marked.marks, marked.later)
near_of q q' leaf leaf' index steps steps' (inr marked) same marks = inr (marked.marks, marked.later)

unmarked : (q q' : PassPart) (leaf : Option KeptLeaf) (index : ℕ) → (IsOver leaf index → ⊥) → (q'.marks ≡ q.marks) ⊎ LeafWasMarked leaf (Some index) q'.risen q q' → q'.marks ≡ q.marks
unmarked q q' leaf index away (inl same) = same
unmarked q q' leaf index away (inr marked) = absurd (away marked.over)

far_of : (q q' : PassPart) (steps steps' : ℕ) → steps' ≤ steps + 163 → q'.marks ≡ q.marks → (steps' - steps ≤ 163) × (q'.marks ≡ q.marks)
far_of q q' steps steps' few same = (omega arith, same)

pub looks_there : (q q' : PassPart) (leaf leaf' : Option KeptLeaf) (at : Option ℕ) (index steps steps' : ℕ) → at ≡ Some index → (IsOver leaf index → (steps' ≤ steps + 35) ⊎ LeafWasMarked leaf (Some index) q'.risen q q')
    → (IsOver leaf index → (leaf' ≡ leaf) ⊎ LeafWasMarked leaf (Some index) q'.risen q q') → (q'.marks ≡ q.marks) ⊎ LeafWasMarked leaf (Some index) q'.risen q q' → ((IsOver leaf index → ⊥) → steps' ≤ steps + 163) → steps' ≤ steps + 198
    → LooksOn q'.risen leaf leaf' at q.marks q'.marks (steps' - steps)
looks_there q q' leaf leaf' at index steps steps' same short stays marks walk bound =
    let look : LooksFrom q'.risen leaf leaf' index q.marks q'.marks (steps' - steps) = record {
      near = λ over. near_of q q' leaf leaf' index steps steps' (short over) (stays over) marks;
      far = λ away. far_of q q' steps steps' (walk away) (unmarked q q' leaf index away marks);
      most = omega arith;
    } in
    subst (λ (o : Option ℕ). LooksOn q'.risen leaf leaf' o q.marks q'.marks (steps' - steps)) (sym same) look

-- a walk that has ended looks for nothing
pub looks_nowhere : (q : PassPart) (leaf : Option KeptLeaf) (at : Option ℕ) (steps : ℕ) → at ≡ None → LooksOn q.risen leaf leaf at q.marks q.marks (steps - steps)
looks_nowhere q leaf at steps none = subst (λ (o : Option ℕ). LooksOn q.risen leaf leaf o q.marks q.marks (steps - steps)) (sym none) (omega arith, refl, refl)

-- more calls have begun since
looks_later : (begun begun' : ℕ) (leaf leaf' : Option KeptLeaf) (at : Option ℕ) (marks marks' : List ℕ) (few : ℕ) → begun ≤ begun' → LooksOn begun leaf leaf' at marks marks' few → LooksOn begun' leaf leaf' at marks marks' few
looks_later begun begun' leaf leaf' None marks marks' few later look = look
looks_later begun begun' leaf leaf' (Some index) marks marks' few later look = record {
  near = λ over. ⊎_elim
      (λ (stays : (few ≤ 35) × (leaf' ≡ leaf) × (marks' ≡ marks)). inl stays)
      (λ (marked : (marks' ≡ row_of leaf ∷ marks) × (kept_lo leaf < begun)). inr (marked.0, omega (arith, marked.1, later)))
      (look.near over);
  far = look.far;
  most = look.most;
}

-- ---- many looks

pub leaves_later : (q q' : PassPart) (lo begun begun' max : ℕ) → KeepsReached q q' → begun ≤ begun' → (s : WalkStand) (found : List Range) (few : ℕ) (s' : WalkStand) → GoesByLeaves q lo begun max s found few s' → GoesByLeaves q' lo begun' max s found few s'
leaves_later q q' lo begun begun' max keeps later s [] few s' went = went
leaves_later q q' lo begun begun' max keeps later s (r ∷ found) few s' went = (
  went.0,
  went.1,
  went.2,
  went.3,
  keeps.stay went.0 went.4,
  went.5,
  went.6,
  looks_later begun begun' s.leaf (Some went.0) s.at s.marks went.1 went.2 later went.7,
  leaves_later q q' lo begun begun' max keeps later (stand (Some went.0) (place_behind (Some r) max) went.1) found went.3 s' went.8,
  went.9,
)

leaves_more : (q : PassPart) (lo begun max : ℕ) (s : WalkStand) (found : List Range) (few : ℕ) (s' : WalkStand) → GoesByLeaves q lo begun max s found few s' → (r : Range) (next : KeptLeaf) (marks : List ℕ) (one : ℕ) → HasReached q next → IsOver (Some next) r.last → (Some next ≡ s'.leaf) ⊎ (next.lo ≡ lo)
    → LooksOn begun s'.leaf (Some next) s'.at s'.marks marks one
    → GoesByLeaves q lo begun max s (found ++ (r ∷ [])) (few + one) (stand (Some next) (place_behind (Some r) max) marks)
leaves_more q lo begun max s [] few s' went r next marks one reached over since look =
    let none = went.0 in
    (next, marks, one, 0, reached, over, subst (λ (x : WalkStand). (Some next ≡ x.leaf) ⊎ (next.lo ≡ lo)) went.1 since, subst (λ (x : WalkStand). LooksOn begun x.leaf (Some next) x.at x.marks marks one) went.1 look, (refl, refl), omega arith)
leaves_more q lo begun max s (x ∷ found) few s' went r next marks one reached over since look =
    let sum = went.9 in
    (went.0, went.1, went.2, went.3 + one, went.4, went.5, went.6, went.7, leaves_more q lo begun max (stand (Some went.0) (place_behind (Some x) max) went.1) found went.3 s' went.8 r next marks one reached over since look, omega arith)

-- one range more is found, and the leaf that it is in is kept
pub leaves_next : (q q' : PassPart) (lo max : ℕ) (s : WalkStand) (found : List Range) (few : ℕ) (leaf : Option KeptLeaf) (at : Option ℕ) → GoesByLeaves q lo q.risen max s found few (stand leaf at q.marks) → KeepsReached q q' → q.risen ≤ q'.risen
    → (r : Range) (leaf' : Option KeptLeaf) → IfSome leaf' (IsOnKeptLeaf q') → IsOver leaf' r.last → (leaf' ≡ leaf) ⊎ IfSome leaf' (λ (kept : KeptLeaf). kept.lo ≡ lo) → (one : ℕ) → LooksOn q'.risen leaf leaf' at q.marks q'.marks one → GoesByLeaves q' lo q'.risen max s (found ++ (r ∷ [])) (few + one) (stand leaf' (place_behind (Some r) max) q'.marks)
leaves_next q q' lo max s found few leaf at went keeps later r None kept over since one look = absurd over
leaves_next q q' lo max s found few leaf at went keeps later r (Some next) kept over since one look =
    leaves_more q' lo q'.risen max s found few (stand leaf at q.marks) (leaves_later q q' lo q.risen q'.risen max keeps later s found few (stand leaf at q.marks) went) r next q'.marks one (reached_here q' next kept) over since look

-- ---- a batch that ends

-- there is no place left
pub leaves_all : (q : PassPart) (lo begun max : ℕ) (s : WalkStand) (room count : ℕ) (ranges : List Range) (few : ℕ) (s' : WalkStand) → GoesByLeaves q lo begun max s (take count ranges) few s' → count ≡ room → length ranges ≡ room → WentByLeaves q lo begun max s room (take room ranges) few s'
leaves_all q lo begun max s room count ranges few s' went all fits =
    let long = length-take-le room ranges (omega arith) in record {
      until = s';
      first = few;
      looks = subst (λ (n : ℕ). GoesByLeaves q lo begun max s (take n ranges) few s') all went;
      full = λ _. (refl, refl);
      ended = λ short. absurd (omega arith);
    }

-- a look found none
pub leaves_end : (q q' : PassPart) (lo max : ℕ) (s : WalkStand) (room count : ℕ) (ranges : List Range) (few : ℕ) (leaf : Option KeptLeaf) (at : Option ℕ) → GoesByLeaves q lo q.risen max s (take count ranges) few (stand leaf at q.marks) → count < room → length ranges ≡ room
    → KeepsReached q q' → q.risen ≤ q'.risen → (leaf' : Option KeptLeaf) (at' : Option ℕ) (one : ℕ) → LooksOn q'.risen leaf leaf' at q.marks q'.marks one → WentByLeaves q' lo q'.risen max s room (take count ranges) (few + one) (stand leaf' at' q'.marks)
leaves_end q q' lo max s room count ranges few leaf at went more fits keeps later leaf' at' one look =
    let long = length-take-le count ranges (omega arith) in record {
      until = stand leaf at q.marks;
      first = few;
      looks = leaves_later q q' lo q.risen q'.risen max keeps later s (take count ranges) few (stand leaf at q.marks) went;
      full = λ all. absurd (omega arith);
      ended = λ short. (one, look, refl);
    }

-- the same looks, in other words
pub leaves_as : (q q' : PassPart) (lo begun begun' max : ℕ) (leaf : Option KeptLeaf) (at : Option ℕ) (marks before : List ℕ) (room : ℕ) (found : List Range) (few : ℕ) (leaf' : Option KeptLeaf) (at' : Option ℕ) (marks' after : List ℕ) → KeepsReached q q' → begun ≤ begun' → marks ≡ before → marks' ≡ after
    → WentByLeaves q lo begun max (stand leaf at marks) room found few (stand leaf' at' marks') → WentByLeaves q' lo begun' max (stand leaf at before) room found few (stand leaf' at' after)
leaves_as q q' lo begun begun' max leaf at marks before room found few leaf' at' marks' after keeps later was is went =
    subst (λ (m : List ℕ). WentByLeaves q' lo begun' max (stand leaf at before) room found few (stand leaf' at' m)) is
    (subst (λ (m : List ℕ). WentByLeaves q' lo begun' max (stand leaf at m) room found few (stand leaf' at' marks')) was (record {
      until = went.until;
      first = went.first;
      looks = leaves_later q q' lo begun begun' max keeps later (stand leaf at marks) found went.first went.until went.looks;
      full = went.full;
      ended = λ short.
          let end = went.ended short in
          (end.0, looks_later begun begun' went.until.leaf leaf' went.until.at went.until.marks marks' end.0 later end.1, end.2);
    }))

-- ---- steps

pub few_more : (before now next few : ℕ) → now ≤ before + few → next ≤ before + (few + (next - now))
few_more before now next few low = omega arith

pub few_around : (before first second after few : ℕ) → first ≤ before + 2 → second ≤ first + few → after ≡ second + 1 → after ≤ before + few + 3
few_around before first second after few low middle last = omega arith

-- a section that is opened, or is open, has loaded no dead mark by that
pub resumed_marks : (lo : ℕ) (epoch : Option ℕ) (q q' : PassPart) → Resumed lo epoch q q' → q'.marks ≡ q.marks
resumed_marks lo None q q' resumed = ap (λ (z : PassPart). z.marks) resumed.is
resumed_marks lo (Some epoch) q q' resumed = ap (λ (z : PassPart). z.marks) resumed.is
