-- What a call leaves on the shelves is a map of the same kind.
use Rattle.mt_shelves.proofs.Prelude.{◌≡◌, ℕ, suc, not, ◌+◌, ◌<◌, ◌≤◌, ◌^◌, ◌==◌, Bool, List, [], ◌∷◌, ◌++◌, Option, Some, None, OnSome, IfNone, length, filter, take, drop, get_or, nat_lt, sym, ap, ◌∙◌, subst, inl, inr, arith, length-append, cases_Bool, cond_both, ltb-true, ltb-false, length-map, Kind, Range, IsMap, IsMapFrom, cut_above, over, part_stored, parts_above, parts_below, holds, without, greatest_of, over_is_map, erased_is_map, no_part_below, AllFilled, AreRising, IsShelfMap, joined}
use Rattle.mt_shelves.proofs.LyingBeside.{joined_parts, joined_take}

pub fewer_so_far : (shelves : List (List Range)) (i : ℕ) → length (joined (take i shelves)) ≤ length (joined shelves)
fewer_so_far shelves i = omega (arith, ap length (joined_parts shelves i), length-append (joined (take i shelves)) (joined (drop i shelves)))

pub one_more_shelf : (shelves : List (List Range)) (i : ℕ) (d : List Range) → i < length shelves → length (joined (take (i + 1) shelves)) ≡ length (joined (take i shelves)) + length (get_or shelves i d)
one_more_shelf shelves i d within = ap length (joined_take shelves i d within) ∙ length-append (joined (take i shelves)) (get_or shelves i d)

-- ---- how many there are

few_pass : (p : Range → Bool) (m : List Range) → length (filter p m) ≤ length m
few_pass p [] = omega arith
few_pass p (r ∷ m) = cond_both (p r) _ _ (λ (kept : List Range). length kept ≤ suc (length m)) (λ passes. omega (arith, few_pass p m)) (λ other. omega (arith, few_pass p m))

few_above : (m : List Range) (last : ℕ) → length (parts_above m last) ≤ length m
few_above m last = omega (arith, length-map (filter (λ (r : Range). nat_lt last r.last) m) (cut_above last), few_pass (λ (r : Range). nat_lt last r.last) m)

-- at most one range keeps a part on either side
few_parts : (m : List Range) (low first last : ℕ) → first ≤ last → IsMapFrom low m → length (parts_below m first) + length (parts_above m last) ≤ length m + 1
few_parts [] low first last le rise = omega arith
few_parts (r ∷ m) low first last le rise = elim (cases_Bool (nat_lt r.first first)) [
  | inr from ↦
      (let none : parts_below m first ≡ [] = no_part_below m (r.last + 1) first (omega (arith, ltb-false r.first first from, rise.1)) rise.3 in
      let all : length (parts_above (r ∷ m) last) ≤ length (r ∷ m) = few_above (r ∷ m) last in
      rw (from, none) (omega (arith, all)))
  | inl begins ↦
      elim (cases_Bool (nat_lt last r.last)) [
        | inr inside ↦ rw (begins, inside) (omega (arith, few_parts m (r.last + 1) first last le rise.3))
        | inl beyond ↦
            (let none : parts_below m first ≡ [] = no_part_below m (r.last + 1) first (omega (arith, le, ltb-true last r.last beyond)) rise.3 in
            rw (begins, beyond, none) (omega (arith, few_above m last)))
      ]
]

few_stored : (first last entry : ℕ) → length (part_stored first last entry) ≤ 1
few_stored first last entry = cond_both (entry == 0) _ _ (λ (stored : List Range). length stored ≤ 1) (λ none. omega arith) (λ some. omega arith)

few_over : (m : List Range) (first last entry : ℕ) → first ≤ last → IsMapFrom 0 m → length (over m first last entry) ≤ length m + 2
few_over m first last entry le rise =
    omega (arith, length-append (parts_below m first) (part_stored first last entry ++ parts_above m last), length-append (part_stored first last entry) (parts_above m last), few_stored first last entry, few_parts m 0 first last le rise)

-- ---- after a call

pub rising_of : (kind : Kind) (most : ℕ) (shelves : List (List Range)) → IsShelfMap kind most shelves → AreRising shelves
rising_of kind most shelves is = record { rise = is.are.is.rise; filled = is.are.filled }

pub put_in : (kind : Kind) (most : ℕ) (shelves new : List (List Range)) (first last entry : ℕ) → first ≤ last → last ≤ greatest_of kind → most < 2 ^ 61 → IsShelfMap kind most shelves → joined new ≡ over (joined shelves) first last entry → AllFilled new
    → IsShelfMap kind (most + 2) new
put_in kind most shelves new first last entry le within room is same filled = record {
  are = record { is = subst (IsMap kind) (sym same) (over_is_map kind (joined shelves) first last entry le within is.are.is); filled = filled };
  few = omega (arith, ap length same, few_over (joined shelves) first last entry le is.are.is.rise, is.few);
  bound = omega (arith, room);
}

pub kept_in : (kind : Kind) (most : ℕ) (shelves new : List (List Range)) → IsShelfMap kind most shelves → joined new ≡ joined shelves → AllFilled new → IsShelfMap kind most new
kept_in kind most shelves new is same filled = record {
  are = record { is = subst (IsMap kind) (sym same) is.are.is; filled = filled };
  few = omega (arith, ap length same, is.few);
  bound = is.bound;
}

pub erased_in : (kind : Kind) (most : ℕ) (shelves new : List (List Range)) (index : ℕ) (erased : Option Range) → IsShelfMap kind most shelves → OnSome erased (joined new ≡ without (joined shelves) index) → IfNone erased (joined new ≡ joined shelves) → AllFilled new
    → IsShelfMap kind most new
erased_in kind most shelves new index None is some none filled = kept_in kind most shelves new is none filled
erased_in kind most shelves new index (Some r) is some none filled = record {
  are = record { is = erased_is_map kind (joined shelves) (joined new) index (Some r) is.are.is some none; filled = filled };
  few = omega (arith, ap length some, few_pass (λ (r : Range). not (holds index r)) (joined shelves), is.few);
  bound = is.bound;
}
