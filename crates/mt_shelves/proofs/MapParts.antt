-- The parts of a map are maps.
use Rattle.mt_shelves.proofs.Prelude.{ℕ, ◌+◌, Bool, List, [], ◌∷◌, ◌++◌, filter, take, drop, not, sym, subst, arith, cond_both, take-append-drop, Range, IsMapFrom, holds, without, IsMapFrom-lower, IsMapFrom-front}

pub IsMapFrom-back : (low : ℕ) (front back : List Range) → IsMapFrom low (front ++ back) → IsMapFrom low back
IsMapFrom-back low [] back rise = rise
IsMapFrom-back low (r ∷ front) back rise = IsMapFrom-lower back low (r.last + 1) (omega (arith, rise.0, rise.1)) (IsMapFrom-back (r.last + 1) front back rise.3)

IsMapFrom-filter : (p : Range → Bool) (m : List Range) (low : ℕ) → IsMapFrom low m → IsMapFrom low (filter p m)
IsMapFrom-filter p [] low rise = tt
IsMapFrom-filter p (r ∷ m) low rise =
    let behind : IsMapFrom (r.last + 1) (filter p m) = IsMapFrom-filter p m (r.last + 1) rise.3 in
    cond_both (p r) _ _ (λ (kept : List Range). IsMapFrom low kept)
    (λ stays. (rise.0, rise.1, rise.2, behind))
    (λ goes. IsMapFrom-lower (filter p m) low (r.last + 1) (omega (arith, rise.0, rise.1)) behind)

pub without_rises : (m : List Range) (index : ℕ) → IsMapFrom 0 m → IsMapFrom 0 (without m index)
without_rises m index rise = IsMapFrom-filter (λ r. not (holds index r)) m 0 rise

pub take_rises : (m : List Range) (n : ℕ) → IsMapFrom 0 m → IsMapFrom 0 (take n m)
take_rises m n rise = IsMapFrom-front 0 (take n m) (drop n m) (subst (IsMapFrom 0) (sym (take-append-drop n m)) rise)

pub drop_rises : (m : List Range) (n : ℕ) → IsMapFrom 0 m → IsMapFrom 0 (drop n m)
drop_rises m n rise = IsMapFrom-back 0 (take n m) (drop n m) (subst (IsMapFrom 0) (sym (take-append-drop n m)) rise)
