-- Passes that have seen nothing have no section open, and one lane's pass serves its tree.
use Rattle.trials_lanes.proofs.Prelude.{AllByRecursion, All-from_recursion, ◌≡◌, ◌<◌, ℕ, zero, suc, List, [], ◌∷◌, None, All, map, arith, refl, sym, subst, slice_index_or, new_pass, AtEach, CanPass}
use Rattle.mt_base.specs.Passes.{Pass}

new_closed : (ns : List ℕ) → AllByRecursion (λ (p : Pass). p.standing ≡ None) (map new_pass ns)
new_closed [] = tt
new_closed (n ∷ ns) = (refl, new_closed ns)

of_map : {P : Type 0} (knows : P → Pass) (ps : List P) → AllByRecursion (λ (p : Pass). p.standing ≡ None) (map knows ps) → AllByRecursion (λ (p : P). (knows p).standing ≡ None) ps
of_map knows [] all = tt
of_map knows (p ∷ ps) all = (all.0, of_map knows ps all.1)

pub new_are_closed : {P : Type 0} (knows : P → Pass) (ps : List P) (ns : List ℕ) → map knows ps ≡ map new_pass ns → All (λ (p : P). (knows p).standing ≡ None) ps
new_are_closed knows ps ns new = All-from_recursion (λ p. (knows p).standing ≡ None) ps (of_map knows ps (subst (AllByRecursion (λ (p : Pass). p.standing ≡ None)) (sym new) (new_closed ns)))

-- what holds of the one item at place 0 holds at each place
pub at_only : {X : Type 0} (Q : ℕ → X → Type 0) (x : X) → Q 0 x → AtEach Q (x ∷ [])
at_only Q x one zero none below = one
at_only Q x one (suc place) none below = absurd (omega (arith, below))

-- one lane's pass on one tree
pub can_pass_one : {P T V : Type 0} (knows : P → Pass) (serves : T → P → Type 0) (items : V → List P) (t : T) (row : V) (p : P) → items row ≡ p ∷ [] → (knows p).standing ≡ None → serves t p → CanPass knows serves items 0 (t ∷ []) (row ∷ [])
can_pass_one {P} {T} {V} knows serves items t row p is closed of = record {
  count = refl;
  closed = λ tree v q below. at_only (λ _ (w : V). (knows (slice_index_or (items w) 0 q)).standing ≡ None) row (subst (λ (z : List P). (knows (slice_index_or z 0 q)).standing ≡ None) (sym is) closed) tree v below;
  serves_all = λ tree s v q below. serves_one tree s v q below;
}
  where
    serves_one : (tree : ℕ) (s : T) (v : V) (q : P) → tree < 1 → serves (slice_index_or (t ∷ []) tree s) (slice_index_or (items (slice_index_or (row ∷ []) tree v)) 0 q)
    serves_one zero s v q below = subst (λ (z : List P). serves t (slice_index_or z 0 q)) (sym is) of
    serves_one (suc tree) s v q below = absurd (omega (arith, below))
