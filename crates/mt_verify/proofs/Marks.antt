-- Marks: what lines ask for of those that know of them.
use Rattle.mt_verify.proofs.Prelude.{◌≡◌, ◌↔◌, ℕ, ◌<◌, max, List, Bor, Option, Some, IfSome, arith, sym, subst, Call, Query, Answer, What, Wrote, Got, Copied, Lawful, Mark, Admits, KeepsTo}

-- this is the greater of two numbers, of which one may be none
abbrev pub IsGreatest : Option ℕ → ℕ → ℕ → Type 0
IsGreatest old number new = (n : ℕ) → (new < n) ↔ (IfSome old (λ a. a < n) × (number < n))

abbrev pub IsWith : Mark → ℕ → ℕ → What → Type 0
IsWith old above from s = (w : What) → Admits (record { above = Some above; from = from }) w ↔ (Admits old w × KeepsTo s w)

module _ (old : Mark) (above from : ℕ) where
  after_call : (number : ℕ) (call : Call) (reply : Bor (List ℕ)) → IsGreatest old.above number above → from ≡ max old.from number → IsWith old above from (Wrote number call reply)
  after_call number call reply greatest is (Wrote n d r) = greatest n
  after_call number call reply greatest is (Got lo hi q a) = (λ h. (omega arith, omega arith), λ h. omega (arith, h.0, h.1))
  after_call number call reply greatest is (Copied count) = (λ h. (tt, tt), λ h. tt)
  after_call number call reply greatest is (Lawful count) = (λ h. (tt, tt), λ h. tt)

  after_read : (lo hi : ℕ) (query : Query) (answer : Answer) → IsGreatest old.above hi above → from ≡ max old.from lo → IsWith old above from (Got lo hi query answer)
  after_read lo hi query answer greatest is (Wrote n d r) = greatest n
  after_read lo hi query answer greatest is (Got lo' hi' q a) = (λ h. (omega arith, omega arith), λ h. omega (arith, h.0, h.1))
  after_read lo hi query answer greatest is (Copied count) = (λ h. (tt, tt), λ h. tt)
  after_read lo hi query answer greatest is (Lawful count) = (λ h. (tt, tt), λ h. tt)

  pub with_call : (s : What) (number : ℕ) (call : Call) (reply : Bor (List ℕ)) → s ≡ Wrote number call reply → IsGreatest old.above number above → from ≡ max old.from number → IsWith old above from s
  with_call s number call reply same greatest is = subst (IsWith old above from) (sym same) (after_call number call reply greatest is)

  pub with_read : (s : What) (lo hi : ℕ) (query : Query) (answer : Answer) → s ≡ Got lo hi query answer → IsGreatest old.above hi above → from ≡ max old.from lo → IsWith old above from s
  with_read s lo hi query answer same greatest is = subst (IsWith old above from) (sym same) (after_read lo hi query answer greatest is)
