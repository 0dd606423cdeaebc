-- What a batch takes whose kept leaf covers all of its places, while nobody writes.
use Rattle.mt_read.proofs.Prelude.{◌≡◌, ℕ, suc, ◌+◌, ◌*◌, ◌<◌, ◌≤◌, List, [], ◌∷◌, Option, Some, None, length, ap, subst, arith, ⊎_elim, Range, PassPart, place_behind, KeptLeaf, kept_lo, row_of, GoesByLeaves, WalkStand, stand}
use Rattle.mt_read.specs.Leaves.{CoversEach}

-- no call has begun since the leaf was walked to: it is not found marked, and each range takes 35 steps at the most
pub near_each : (q : PassPart) (lo begun max : ℕ) (kept : KeptLeaf) → begun ≤ kept.lo → (at : Option ℕ) (marks : List ℕ) (found : List Range) (few : ℕ) (s' : WalkStand) → GoesByLeaves q lo begun max (stand (Some kept) at marks) found few s' → CoversEach kept max at found
    → (few ≤ 35 * length found) × (s'.leaf ≡ Some kept) × (s'.marks ≡ marks)
near_each q lo begun max kept calm at marks [] few s' went covers =
    let none = went.0 in (omega arith, ap (λ (x : WalkStand). x.leaf) went.1, ap (λ (x : WalkStand). x.marks) went.1)
near_each q lo begun max kept calm None marks (r ∷ found) few s' went covers = absurd covers.0
near_each q lo begun max kept calm (Some index) marks (r ∷ found) few s' went covers = ⊎_elim
    (λ (stays : (went.2 ≤ 35) × (Some went.0 ≡ Some kept) × (went.1 ≡ marks)).
    let next = subst (λ (x : Option KeptLeaf × List ℕ). GoesByLeaves q lo begun max (stand x.0 (place_behind (Some r) max) x.1) found went.3 s') (λ i. (stays.1 i, stays.2 i)) went.8 in
    let rest = near_each q lo begun max kept calm (place_behind (Some r) max) marks found went.3 s' next covers.1 in
    (near_sum went.2 went.3 few (length found) stays.0 rest.0 went.9, rest.1, rest.2))
    (λ (marked : (went.1 ≡ row_of (Some kept) ∷ marks) × (kept_lo (Some kept) < begun)). absurd (omega (arith, calm, marked.1)))
    (went.7.near covers.0)
  where
    near_sum : (one rest few n : ℕ) → one ≤ 35 → rest ≤ 35 * n → few ≡ one + rest → few ≤ 35 * suc n
    near_sum one rest few n low more sum = omega arith
