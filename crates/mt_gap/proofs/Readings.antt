-- Loads of a row's words, counted.
use Rattle.mt_gap.proofs.Prelude.{◌≡◌, ℕ, ◌+◌, ◌-◌, ◌*◌, ◌≤◌, sym, subst, arith, mul-le-mul_left, Sheet, loaded, ReadsUpTo, no_reads, one_read, reads_more, reads_up}

pub one_load : (n : ℕ) (s t : Sheet) → 1 ≤ n → t ≡ loaded s → ReadsUpTo n s t
one_load n s t low is = reads_up 1 n s t low (one_read s t is)

pub two_loads : (n : ℕ) (s t u : Sheet) → 2 ≤ n → t ≡ loaded s → u ≡ loaded t → ReadsUpTo n s u
two_loads n s t u low first second = reads_up 2 n s u low (reads_more 1 1 s t u (one_read s t first) (one_read t u second))

pub three_loads : (n : ℕ) (s t u v : Sheet) → 3 ≤ n → t ≡ loaded s → u ≡ loaded t → v ≡ loaded u → ReadsUpTo n s v
three_loads n s t u v low first second third = reads_up 3 n s v low (reads_more 2 1 s u v (two_loads 2 s t u (omega arith) first second) (one_read u v third))

pub no_load : (s t : Sheet) → t ≡ s → ReadsUpTo 1 s t
no_load s t same = subst (λ (r : Sheet). ReadsUpTo 1 s r) (sym same) (reads_up 0 1 s s (omega arith) (no_reads s))

-- the loads of so few steps
pub within_steps : (c n old new : ℕ) (s s' : Sheet) → new ≤ old + n → ReadsUpTo (c * (new - old) + 1) s s' → ReadsUpTo (n * c + 1) s s'
within_steps c n old new s s' few reads = reads_up (c * (new - old) + 1) (n * c + 1) s s' (let low = times c (new - old) n (omega arith) in omega (arith, low)) reads
  where
    times : (a b m : ℕ) → b ≤ m → a * b ≤ m * a
    times a b m few = let low = mul-le-mul_left a few in turned a b m low
      where
        turned : (a b m : ℕ) → a * b ≤ a * m → a * b ≤ m * a
        turned a b m low = grind (arith, low)
