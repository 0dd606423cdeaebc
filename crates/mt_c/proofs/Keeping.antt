-- By the count of what is kept, whether something is.
use Rattle.mt_c.proofs.Prelude.{◌≡◌, ◌≢◌, ◌∙◌, ℕ, Bool, true≢false, refl, sym, ap, arith, Option, Some, None, if◌then◌else◌, eqb-true, ◌==◌, open_count, is_kept, refusal, unopened, IsOpenHandle, eq-eqb, ne_eqb}

pub none_kept : {A : Type 0} (v : Option A) → open_count v ≡ 0 → v ≡ None
none_kept None none = refl
none_kept (Some x) none = absurd (omega arith)

pub some_kept : {A : Type 0} (v : Option A) → open_count v ≢ 0 → IsOpenHandle v
some_kept None some = absurd (some refl)
some_kept (Some x) some = tt

-- by the state of a handle, whether something is kept
pub none_there : {A : Type 0} (v : Option A) (state : ℕ) → (state == 1) ≡ is_kept v → state ≢ 1 → v ≡ None
none_there None state counted not = refl
none_there (Some x) state counted not = absurd (not (eqb-true state 1 counted))

pub some_there : {A : Type 0} (v : Option A) (state : ℕ) → (state == 1) ≡ is_kept v → state ≡ 1 → IsOpenHandle v
some_there None state counted is = absurd (true≢false (sym (eq-eqb state 1 is) ∙ counted))
some_there (Some x) state counted is = tt

-- ---- the numbers for a handle of a state

pub refusal_closed : (state : ℕ) → state ≡ 0 → refusal state ≡ 9
refusal_closed state is = ap refusal is

pub refusal_other : (state : ℕ) → state ≢ 0 → refusal state ≡ 35
refusal_other state not = ap (λ (b : Bool). if b then 9 else 35) (ne_eqb state 0 not)

pub unopened_closed : (state : ℕ) → state ≡ 0 → unopened state ≡ None
unopened_closed state is = ap unopened is

pub unopened_open : (state : ℕ) → state ≡ 1 → unopened state ≡ Some 114
unopened_open state is = ap unopened is

pub unopened_other : (state : ℕ) → state ≢ 0 → state ≢ 1 → unopened state ≡ Some 35
unopened_other state closed taken =
    let other : (if state == 1 then Some 114 else Some 35) ≡ Some 35 = ap (λ (b : Bool). if b then Some 114 else Some 35) (ne_eqb state 1 taken) in
    ap (λ (b : Bool). if b then None else (if state == 1 then Some 114 else Some 35)) (ne_eqb state 0 closed) ∙ other
