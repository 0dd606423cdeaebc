-- The first line that does not keep to those before it.
use Rattle.mt_judge.proofs.Prelude.{◌≡◌, ℕ, ◌+◌, ◌-◌, ◌^◌, ◌<◌, ◌≤◌, Bool, true, false, List, Option, Some, None, length, take, get_or, min, slice_get, refl, sym, subst, inl, inr, ◌∙◌, arith, if◌then◌else◌, nat_lt, AllPairs, cases_lt, ltb-false, true≢false, get_or-take, length-take, take_all, take-take, slice_get-get_or, ToldLine, InPrintedOrder, KeepsOrder, earlier, is_of_order, order_cause, IsFirstOut, IsInOrder, FoundFault}

pairs_first : {X : Type 0} (R : X → X → Type 0) (k : ℕ) (xs : List X) → AllPairs R xs → AllPairs R (take k xs)
pairs_first R k xs h i j d lt within =
    let long = length-take k xs in
    let low = get_or-take k xs i d (omega (arith, long, lt, within)) in
    let high = get_or-take k xs j d (omega (arith, long, lt, within)) in
    rw (low, high) (h i j d lt (omega (arith, long, within)))

pub phases_first : (k : ℕ) (told : List ToldLine) → AllPairs (λ s t. s.phase ≤ t.phase) told → AllPairs (λ s t. s.phase ≤ t.phase) (take k told)
phases_first k told h = pairs_first (λ s t. s.phase ≤ t.phase) k told h

pub order_of_none : (told : List ToldLine) → length told ≡ 0 → IsInOrder told
order_of_none told none i j d lt within = absurd (omega (arith, none, within))

-- The lines before one place are in order, those up to another are not.
pub record LiesWithin (told : List ToldLine) (low last : ℕ) : Type 0 where
  pub up : low ≤ last
  pub within : last < length told
  pub before : IsInOrder (take low told)
  pub out : IsInOrder (take (last + 1) told) → ⊥

pub lies_within : (told : List ToldLine) (last : ℕ) → last + 1 ≡ length told → (IsInOrder told → ⊥) → LiesWithin told 0 last
lies_within told last all out = record {
  up = omega arith;
  within = omega (arith, all);
  before = λ i j d lt within. absurd (omega (arith, within, length-take 0 told));
  out = λ order. out (subst IsInOrder (take_all (last + 1) told (omega (arith, all))) order);
}

pub first_found : (told : List ToldLine) (low last : ℕ) → LiesWithin told low last → last ≤ low → IsFirstOut told last
first_found told low last lies met =
    let one : low ≡ last = omega (arith, lies.up, met) in
    record { within = lies.within; before = subst (λ (k : ℕ). IsInOrder (take k told)) one lies.before; out = lies.out }

-- ---- what is told of it

none_out : (told : List ToldLine) (place : ℕ) → IsInOrder told → IsFirstOut told place → ⊥
none_out told place order first = first.out (pairs_first InPrintedOrder (place + 1) told order)

pub told_earlier : (told : List ToldLine) (found : Option FoundFault) (fault : FoundFault) → KeepsOrder told found → is_of_order fault.cause ≡ false → KeepsOrder told (Some (earlier fault found))
told_earlier told None fault order other = (λ place first. absurd (none_out told place order first), λ is. absurd (true≢false (sym is ∙ other)))
told_earlier told (Some one) fault order other = by_test (nat_lt one.line fault.line) refl
  where
    by_test : (b : Bool) → nat_lt one.line fault.line ≡ b → KeepsOrder told (Some (if b then one else fault))
    by_test true is = order
    by_test false is =
        let above : fault.line ≤ one.line = ltb-false one.line fault.line is in
        (λ place first. (let upto = order.0 place first in omega (arith, upto, above)), λ same. absurd (true≢false (sym same ∙ other)))

later_out : (told : List ToldLine) (place other : ℕ) → IsFirstOut told place → IsFirstOut told other → place ≤ other
later_out told place other first second = elim (cases_lt other place) [
  | inl below ↦
      (let part : take (other + 1) (take place told) ≡ take (other + 1) told = take-take (other + 1) place told (omega (arith, below)) in
      absurd (second.out (subst IsInOrder part (pairs_first InPrintedOrder (other + 1) (take place told) first.before))))
  | inr above ↦ above
]

pub first_told : (told : List ToldLine) (place : ℕ) (d : ToldLine) (fault : FoundFault) → IsFirstOut told place → place + 1 < 2 ^ 64 → fault.line ≡ min (place + 1) (2 ^ 64 - 1) → fault.cause ≡ order_cause (get_or told place d).what → KeepsOrder told (Some fault)
first_told told place d fault first fits line cause =
    let is : fault.line ≡ place + 1 = omega (arith, line, fits) in
    let here : slice_get told place ≡ Some (get_or told place d) = slice_get-get_or told place d first.within in (
      (λ other second. (let upto = later_out told place other first second in omega (arith, is, upto))),
      (λ order. record { place = place; first = first; line = is; cause = rw here cause }),
    )
