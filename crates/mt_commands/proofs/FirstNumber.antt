-- The first number that is drawn of an empty map is the window's first index.
use Rattle.mt_commands.proofs.Prelude.{◌≡◌, ℕ, zero, suc, ◌+◌, ◌^◌, ◌<◌, ◌≤◌, Bool, true, false, [], ◌∷◌, Option, Some, None, max, min, nat_le, refl, sym, ap, ◌∙◌, subst, arith, IsSome, if◌then◌else◌, le-leb, lowest_in, low, Found, drawn, first_found, new_draws, Tally, Turns, new_turns, or_this, tallied, turn, turns}
use Rattle.mt_base.specs.declared.kinds.Kind.TheVariants as kinds
use Rattle.mt_commands.proofs.FewTurns.{turns_more}

all_free : (lo hi : ℕ) → lo ≤ hi → hi < 2 ^ 64 → low kinds.Alloc [] 1 lo hi ≡ Some lo
all_free lo hi order high =
    let fit : nat_le (max lo 0 + 1) (min hi 18446744073709551615 + 1) ≡ true = le-leb (max lo 0 + 1) (min hi 18446744073709551615 + 1) (omega arith) in
    let start : max lo 0 ≡ lo = omega arith in
    ap (λ (b : Bool). lowest_in (if b then record { first = max lo 0; last = min hi 18446744073709551615 } ∷ [] else [])) fit ∙ ap (λ (n : ℕ). Some n) start

record Begins (lo : ℕ) (t : Tally) : Type 0 where
  first : t.first ≡ Some lo
  last : IsSome t.last

goes_on : (lo : ℕ) (t : Tally) (o : Option Found) → Begins lo t → Begins lo (tallied t o)
goes_on lo t None begins = record { first = begins.first; last = begins.last }
goes_on lo t (Some f) begins = record { first = ap (λ (x : Option ℕ). or_this x f.at) begins.first; last = refl }

first_turn : (lo hi drops : ℕ) → lo ≤ hi → hi < 2 ^ 64 → Begins lo (turn drops (new_turns lo hi) 1).tally
first_turn lo hi drops order high =
    let found : drawn kinds.Alloc [] (new_draws lo hi) ≡ Some (record { at = lo; wrapped = false }) = ap (λ (o : Option ℕ). first_found o (low kinds.Alloc [] 1 lo hi)) (all_free lo hi order high) in
    subst (λ (o : Option Found). Begins lo (tallied (new_turns lo hi).tally o)) (sym found) (record { first = refl; last = refl })

by_turns : (lo hi drops n : ℕ) → lo ≤ hi → hi < 2 ^ 64 → Begins lo (turns lo hi (n + 1) drops).tally
by_turns lo hi drops zero order high = first_turn lo hi drops order high
by_turns lo hi drops (suc n) order high =
    let t = turns lo hi (n + 1) drops in
    let more : turns lo hi ((n + 1) + 1) drops ≡ turn drops t ((n + 1) + 1) = turns_more lo hi drops (n + 1) in
    let same : (n + 1) + 1 ≡ suc n + 1 = omega arith in
    subst (λ (k : ℕ). Begins lo (turns lo hi k drops).tally) same
    (subst (λ (x : Turns). Begins lo x.tally) (sym more) (goes_on lo t.tally (drawn kinds.Alloc t.map t.draws) (by_turns lo hi drops n order high)))

pub first_is : (lo hi steps drops : ℕ) → lo ≤ hi → hi < 2 ^ 64 → 1 ≤ steps → ((turns lo hi steps drops).tally.first ≡ Some lo) × IsSome (turns lo hi steps drops).tally.last
first_is lo hi zero drops order high some = absurd (omega arith)
first_is lo hi (suc n) drops order high some =
    let same : n + 1 ≡ suc n = omega arith in
    let begins = subst (λ (k : ℕ). Begins lo (turns lo hi k drops).tally) same (by_turns lo hi drops n order high) in
    (begins.first, begins.last)
