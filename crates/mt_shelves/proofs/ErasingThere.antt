-- An index lies on the first shelf that does not end below it, if on any.
use Rattle.mt_shelves.proofs.Prelude.{◌≡◌, ℕ, ◌+◌, ◌<◌, ◌≤◌, false, List, [], ◌∷◌, ◌++◌, None, length, take, drop, set, get_or, not, nat_le, refl, sym, ap, ◌∙◌, subst, arith, and_right, lt-leb, drop_all, get_or_default, filter-append, Load, Range, IsMapFrom, holding, holds, without, without_above, AreRising, EndBelow, ends_below, joined}
use Rattle.mt_shelves.proofs.Answering.{ends_up, start_up}
use Rattle.mt_shelves.proofs.Editing.{from_above, joined_at, joined_set}
use Rattle.mt_shelves.proofs.LyingBeside.{behind_reach, joined_drop, rise_back}

pub held_nowhere : (shelves : List (List Range)) (index at : ℕ) → AreRising shelves → EndBelow index (joined (take at shelves)) → at ≡ length shelves → None ≡ holding (joined shelves) index
held_nowhere shelves index at rising front end =
    ap (λ (l : List (List Range)). holding (joined l) index) (sym (drop_all at shelves (omega (arith, end)))) ∙ start_up shelves (Load index) index index rising (refl, refl) at front

pub held_there : (shelves : List (List Range)) (index at : ℕ) (d : List Range) → at < length shelves → AreRising shelves → EndBelow index (joined (take at shelves)) → ends_below index (get_or shelves at d) ≡ false → holding (get_or shelves at d) index ≡ holding (joined shelves) index
held_there shelves index at d within rising front reach = ends_up shelves (Load index) index index rising (refl, refl) at d within (start_up shelves (Load index) index index rising (refl, refl) at front) reach

without_below : (m : List Range) (index : ℕ) → EndBelow index m → without m index ≡ m
without_below [] index ends = refl
without_below (r ∷ m) index ends = rw (and_right (nat_le r.first index) (nat_le index r.last) (lt-leb index r.last ends.0)) (ap (λ (l : List Range). r ∷ l) (without_below m index ends.1))

without-append : (xs ys : List Range) (index : ℕ) → without (xs ++ ys) index ≡ without xs index ++ without ys index
without-append xs ys index = filter-append (λ (r : Range). not (holds index r)) xs ys

pub without_there : (shelves : List (List Range)) (index at : ℕ) (d s : List Range) → at < length shelves → AreRising shelves → EndBelow index (joined (take at shelves)) → ends_below index (get_or shelves at d) ≡ false → s ≡ without (get_or shelves at d) index
    → joined (set shelves at s) ≡ without (joined shelves) index
without_there shelves index at d s within rising front reach is =
    let rise : IsMapFrom 0 (get_or shelves at d ++ joined (drop (at + 1) shelves)) = subst (IsMapFrom 0) (joined_drop shelves at d within) (rise_back shelves at rising.rise) in
    let above : IsMapFrom (index + 1) (joined (drop (at + 1) shelves)) = from_above (joined (drop (at + 1) shelves)) 0 index (rise_back shelves (at + 1) rising.rise) (behind_reach index 0 (get_or shelves at d) (joined (drop (at + 1) shelves)) rise reach) in
    let behind : without (get_or shelves at d ++ joined (drop (at + 1) shelves)) index ≡ s ++ joined (drop (at + 1) shelves) =
    without-append (get_or shelves at d) (joined (drop (at + 1) shelves)) index ∙ (λ k. sym is k ++ without_above (joined (drop (at + 1) shelves)) (index + 1) index (omega arith) above k) in
    joined_set shelves at s within
    ∙ sym (ap (λ (m : List Range). without m index) (joined_at shelves at d within) ∙ (without-append (joined (take at shelves)) (get_or shelves at d ++ joined (drop (at + 1) shelves)) index ∙ (λ k. without_below (joined (take at shelves)) index front k ++ behind k)))

-- the same of a place that was found on these shelves
module _ (given shelves : List (List Range)) (index at : ℕ) (d : List Range) (same : given ≡ shelves) (rising : AreRising shelves) (bound : at ≤ length given) (front : EndBelow index (joined (take at given)))
    (reach : at < length given → ends_below index (get_or given at []) ≡ false) where
  front_there : EndBelow index (joined (take at shelves))
  front_there = subst (λ (l : List (List Range)). EndBelow index (joined (take at l))) same front

  many : length given ≡ length shelves
  many = ap length same

  pub end_held : at ≡ length shelves → None ≡ holding (joined shelves) index
  end_held end = held_nowhere shelves index at rising front_there end

  pub within_there : (at ≡ length shelves → ⊥) → at < length shelves
  within_there other = omega (arith, other, bound, many)

  reach_there : at < length shelves → ends_below index (get_or shelves at d) ≡ false
  reach_there within = ap (ends_below index) (get_or_default shelves at d [] within) ∙ subst (λ (l : List (List Range)). ends_below index (get_or l at []) ≡ false) same (reach (omega (arith, within, many)))

  pub shelf_held : at < length shelves → holding (get_or shelves at d) index ≡ holding (joined shelves) index
  shelf_held within = held_there shelves index at d within rising front_there (reach_there within)

  pub shelf_without : at < length shelves → (s : List Range) → s ≡ without (get_or shelves at d) index → joined (set shelves at s) ≡ without (joined shelves) index
  shelf_without within s is = without_there shelves index at d s within rising front_there (reach_there within) is
