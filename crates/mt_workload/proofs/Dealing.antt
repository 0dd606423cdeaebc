-- One step more, and one lane more.
use Rattle.mt_workload.proofs.Prelude.{◌≡◌, ℕ, suc, ◌+◌, ◌-◌, ◌≤◌, ◌<◌, List, [], ◌∷◌, ◌++◌, append_assoc, arith, refl, sym, ap, ◌∙◌, append-nil, Item, Lane, lanes_from, step, steps}

one_left : (count done : ℕ) → done < count → count - done ≡ suc (count - (done + 1))
one_left count done within = omega arith

none_left : (count done : ℕ) → count ≤ done → count - done ≡ 0
none_left count done all = omega arith

-- the steps from here on begin with the next one
first_step : (count x : ℕ) → (steps (suc count) x).0 ≡ (step x).0 ∷ (steps count (step x).1).0
unfolding steps
first_step count x = refl

behind_step : (count x : ℕ) → (steps (suc count) x).1 ≡ (steps count (step x).1).1
unfolding steps
behind_step count x = refl

pub step_more : (lines : List Item) (count done x : ℕ) → done < count
    → (lines ++ (step x).0 ∷ []) ++ (steps (count - (done + 1)) (step x).1).0 ≡ lines ++ (steps (count - done) x).0
step_more lines count done x within =
    append_assoc lines ((step x).0 ∷ []) (steps (count - (done + 1)) (step x).1).0
    ∙ ap (λ z. lines ++ z) (sym (ap (λ k. (steps k x).0) (one_left count done within) ∙ first_step (count - (done + 1)) x))

pub state_more : (count done x : ℕ) → done < count → (steps (count - (done + 1)) (step x).1).1 ≡ (steps (count - done) x).1
state_more count done x within = sym (ap (λ k. (steps k x).1) (one_left count done within) ∙ behind_step (count - (done + 1)) x)

-- and there are none where all are drawn
pub steps_none : (lines : List Item) (count done x : ℕ) → count ≤ done → lines ++ (steps (count - done) x).0 ≡ lines
unfolding steps
steps_none lines count done x all = rw (none_left count done all) (append-nil lines)

pub state_none : (count done x : ℕ) → count ≤ done → (steps (count - done) x).1 ≡ x
unfolding steps
state_none count done x all = rw (none_left count done all) refl

-- the same of lanes
first_lane : (count : ℕ → ℕ) (lane more x : ℕ) → (lanes_from count lane (suc more) x).0 ≡ Lane lane ∷ (steps (count lane) x).0 ++ (lanes_from count (lane + 1) more (steps (count lane) x).1).0
unfolding lanes_from
first_lane count lane more x = refl

pub lane_more : (lines : List Item) (count : ℕ → ℕ) (lanes lane x : ℕ) → lane < lanes
    → (lines ++ Lane lane ∷ (steps (count lane) x).0) ++ (lanes_from count (lane + 1) (lanes - (lane + 1)) (steps (count lane) x).1).0 ≡ lines ++ (lanes_from count lane (lanes - lane) x).0
lane_more lines count lanes lane x within =
    append_assoc lines (Lane lane ∷ (steps (count lane) x).0) (lanes_from count (lane + 1) (lanes - (lane + 1)) (steps (count lane) x).1).0
    ∙ ap (λ z. lines ++ z) (sym (ap (λ k. (lanes_from count lane k x).0) (one_left lanes lane within) ∙ first_lane count lane (lanes - (lane + 1)) x))

pub lanes_none : (lines : List Item) (count : ℕ → ℕ) (lanes lane x : ℕ) → lanes ≤ lane → lines ++ (lanes_from count lane (lanes - lane) x).0 ≡ lines
unfolding lanes_from
lanes_none lines count lanes lane x all = rw (none_left lanes lane all) (append-nil lines)
