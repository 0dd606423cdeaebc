-- The only pass of a tree has made all calls of the history.
use Rattle.mt_commands.proofs.Prelude.{◌≡◌, ℕ, suc, ◌+◌, ◌==◌, ◌<◌, Bool, true, false, List, [], ◌∷◌, ◌++◌, length, refl, sym, ap, ◌∙◌, subst, arith, length-append, if◌then◌else◌, AllByRecursion, range_with_len, eq-eqb, append-nil, length-range_with_len, History, Record, Saw, places, places_from, HasCalled, IsOnlyPass}
use Rattle.mt_base.specs.Passes as known

places_joined : (n pass : ℕ) (xs ys : List Record) → places_from n pass (xs ++ ys) ≡ places_from n pass xs ++ places_from (n + length xs) pass ys
places_joined n pass [] ys = let same : n ≡ n + 0 = omega arith in ap (λ (k : ℕ). places_from k pass ys) same
places_joined n pass (r ∷ xs) ys =
    let same : (n + 1) + length xs ≡ n + suc (length xs) = omega arith in
    let rest : places_from (n + 1) pass (xs ++ ys) ≡ places_from (n + 1) pass xs ++ places_from (n + suc (length xs)) pass ys = places_joined (n + 1) pass xs ys ∙ ap (λ (k : ℕ). places_from (n + 1) pass xs ++ places_from k pass ys) same in
    by_test (r.pass == pass) rest
  where
    by_test : (b : Bool) → places_from (n + 1) pass (xs ++ ys) ≡ places_from (n + 1) pass xs ++ places_from (n + suc (length xs)) pass ys
        → (if b then n ∷ places_from (n + 1) pass (xs ++ ys) else places_from (n + 1) pass (xs ++ ys)) ≡ (if b then n ∷ places_from (n + 1) pass xs else places_from (n + 1) pass xs) ++ places_from (n + suc (length xs)) pass ys
    by_test true rest = ap (λ (l : List ℕ). n ∷ l) rest
    by_test false rest = rest

places_own : (n pass : ℕ) (xs : List Record) → AllByRecursion (λ r. r.pass ≡ pass) xs → places_from n pass xs ≡ range_with_len n (length xs)
places_own n pass [] ours = refl
places_own n pass (r ∷ xs) ours = rw (eq-eqb r.pass pass ours.0) (ap (λ (l : List ℕ). n ∷ l) (places_own (n + 1) pass xs ours.1))

-- calls of its own keep it so
pub only_on : (p q : known.Pass) → IsOnlyPass p → HasCalled p q → IsOnlyPass q
only_on p q only called =
    let number = ap (λ (x : known.Pass). x.number) called.pass in
    let from : 1 + length p.seen ≡ length p.seen + 1 = omega arith in
    record {
      number = number ∙ only.number;
      own = ap (λ (x : known.Pass). x.mine) called.pass
          ∙ ((λ k. only.own k ++ sym (places_own (length p.seen + 1) p.number called.own called.ours) k)
          ∙ (ap (λ (n : ℕ). places p.number p.seen ++ places_from n p.number called.own) (sym from)
          ∙ (sym (places_joined 1 p.number p.seen called.own)
          ∙ (λ k. places (sym number k) (sym (ap (λ (x : known.Pass). x.seen) called.pass) k)))));
      shut = ap (λ (x : known.Pass). x.standing) called.pass ∙ only.shut;
    }

-- ---- the lock shows it nothing new

is_first : (pass : ℕ) (xs : List Record) → pass ≡ 0 → AllByRecursion (λ r. r.pass < 1) xs → AllByRecursion (λ r. r.pass ≡ pass) xs
is_first pass [] zero_pass low = tt
is_first pass (r ∷ xs) zero_pass low = (omega (arith, zero_pass, low.0), is_first pass xs zero_pass low.1)

behind_all : {A : Type 0} (P : A → Type 0) (xs ys : List A) → AllByRecursion P (xs ++ ys) → AllByRecursion P ys
behind_all P [] ys all = all
behind_all P (x ∷ xs) ys all = behind_all P xs ys all.1

none_if : (xs : List Record) → length xs ≡ 0 → xs ≡ []
none_if [] none = refl
none_if (r ∷ xs) none = absurd (omega arith)

pub nothing_new : (tree : History) (p q : known.Pass) → IsOnlyPass p → Saw tree p q → AllByRecursion (λ r. r.pass < 1) q.seen → q.seen ≡ p.seen
nothing_new tree p q only saw callers =
    let rest = saw.seen.0 in
    let seen = saw.seen.1 in
    let number : q.number ≡ p.number = ap (λ (x : known.Pass). x.number) saw.pass in
    let mine : p.mine ≡ q.mine = sym (ap (λ (x : known.Pass). x.mine) saw.pass) in
    let ours = is_first p.number rest only.number (behind_all (λ (r : Record). r.pass < 1) p.seen rest (subst (AllByRecursion (λ r. r.pass < 1)) seen callers)) in
    let all : places p.number p.seen ≡ places p.number p.seen ++ range_with_len (1 + length p.seen) (length rest) =
    sym only.own ∙ (mine ∙ (saw.sound.own ∙ ((λ k. places (number k) (seen k)) ∙ (places_joined 1 p.number p.seen rest ∙ ap (λ (l : List ℕ). places p.number p.seen ++ l) (places_own (1 + length p.seen) p.number rest ours))))) in
    let none : length rest ≡ 0 = omega (arith, ap (λ (l : List ℕ). length l) all, length-append (places p.number p.seen) (range_with_len (1 + length p.seen) (length rest)), length-range_with_len (1 + length p.seen) (length rest)) in
    seen ∙ (ap (λ (l : List Record). p.seen ++ l) (none_if rest none) ∙ append-nil p.seen)

pub only_locked : (tree : History) (p q : known.Pass) → IsOnlyPass p → Saw tree p q → AllByRecursion (λ r. r.pass < 1) q.seen → IsOnlyPass q
only_locked tree p q only saw callers = record {
  number = ap (λ (x : known.Pass). x.number) saw.pass ∙ only.number;
  own = saw.sound.own;
  shut = ap (λ (x : known.Pass). x.standing) saw.pass ∙ only.shut;
}
