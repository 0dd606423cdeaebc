-- The rows that surely hold so many ranges.
use Rattle.mt_tree.proofs.Prelude.{◌≡◌, ℕ, zero, suc, ◌<◌, ◌≤◌, List, Bool, length, refl, sym, ap, subst, ◌∙◌, arith, ◌+◌, ◌-◌, ◌*◌, if◌then◌else◌, Range, Shortage, IsShort, few_unheld, Limits, most_rows, level_from, levels_for, levels_from, rows_for, rows_told, ◌^◌, mul_assoc, mul_comm, pow-succ', le-leb, lt-leb}

-- ---- levels

pub one_more : (most least : ℕ) → least ≤ most → level_from most least ≡ 1
one_more most least low = ap (λ (b : Bool). if b then 1 else 0) (le-leb least most low)

-- four times as much, so many times
abbrev raised : ℕ → ℕ → ℕ
raised least zero = least
raised least (suc e) = raised (4 * least) e

raised_is : (least e : ℕ) → raised least e ≡ least * 4 ^ e
raised_is least zero = omega arith
raised_is least (suc e) = rw (pow-succ' 4 e) (raised_is (4 * least) e ∙ (ap (λ (n : ℕ). n * 4 ^ e) (mul_comm 4 least) ∙ mul_assoc least 4 (4 ^ e)))

least_first : (least e : ℕ) → least ≤ raised least e
least_first least zero = omega arith
least_first least (suc e) = let up = least_first (4 * least) e in omega (arith, up)

levels_low : (most more least d : ℕ) → d ≤ more → ((e : ℕ) → d ≡ suc e → raised least e ≤ most) → d ≤ levels_from most least more
levels_low most zero least d few low = few
levels_low most (suc more) least zero few low = omega arith
levels_low most (suc more) least (suc e) few low =
    let here = low e refl in
    let below = least_first least e in
    let first = one_more most least (omega (arith, below, here)) in
    let rest = levels_low most more (4 * least) e (omega (arith, few)) (λ n is. subst (λ (k : ℕ). raised least k ≤ most) is here) in
    omega (arith, first, rest)

-- a tree of so many ranges or fewer
few_levels : (ranges n levels : ℕ) → n ≤ ranges → levels ≤ 9 → (2 ≤ levels → 3 * 4 ^ (levels - 1) ≤ 2 * n + 1) → levels ≤ levels_for ranges
few_levels ranges n zero few low tall = omega arith
few_levels ranges n (suc zero) few low tall = omega arith
few_levels ranges n (suc (suc e)) few low tall =
    let one : suc (suc e) - 1 ≡ suc e = omega arith in
    let here : 3 * 4 ^ (suc e) ≤ 2 * n + 1 = subst (λ (k : ℕ). 3 * 4 ^ k ≤ 2 * n + 1) one (tall (omega arith)) in
    let most : raised 12 e ≤ 2 * ranges + 1 = (let is = raised_is 12 e in let four = pow-succ' 4 e in omega (arith, is, four, here, few)) in
    let more = levels_low (2 * ranges + 1) 8 12 (suc e) (omega (arith, low)) (λ k is. (let same : e ≡ k = omega (arith, is) in subst (λ (j : ℕ). raised 12 j ≤ 2 * ranges + 1) same most)) in
    omega (arith, more)

-- ---- rows

module _ (ranges : ℕ) where
  enough_rows : (l : Limits) (m : List Range) (s : Shortage) → length m ≤ ranges → IsShort l m s → s.held ≡ 0 → l.rows < rows_for ranges
  enough_rows l m s few short none =
      let levels = few_levels ranges (length m) short.levels few short.low short.tall in
      let rows = few_unheld l m s short none in
      omega (arith, levels, rows, few)

  pub enough : (rows : ℕ) → rows ≡ rows_for ranges → (l : Limits) (m : List Range) (s : Shortage) → length m ≤ ranges → IsShort l m s → s.held ≡ 0 → l.rows < rows
  enough rows is l m s few short none = let here = enough_rows l m s few short none in omega (arith, is, here)

  pub enough_far : ranges < 2 ^ 64 → (l : Limits) (m : List Range) (s : Shortage) → length m ≤ ranges → IsShort l m s → s.held ≡ 0 → l.rows < 2 ^ 64 - 1
  enough_far low l m s few short none =
      let rows = few_unheld l m s short none in
      let levels = short.low in
      omega (arith, low, rows, levels, few)

  pub told_rows : (rows : ℕ) → rows ≡ rows_for ranges → rows ≤ most_rows → rows ≡ rows_told ranges
  told_rows rows is low = is ∙ sym (ap (λ (b : Bool). if b then rows_for ranges else 2 ^ 64 - 1) (le-leb (rows_for ranges) most_rows (omega (arith, is, low))))

  pub told_many : most_rows < rows_for ranges → 2 ^ 64 - 1 ≡ rows_told ranges
  told_many many = sym (ap (λ (b : Bool). if b then rows_for ranges else 2 ^ 64 - 1) (lt-leb (rows_for ranges) most_rows many))

  pub told_far : 2 * most_rows < ranges → 2 ^ 64 - 1 ≡ rows_told ranges
  told_far far = told_many (omega (arith, far))

-- what `rows_enough` goes by
pub ruleset telling = (enough, enough_far, told_rows, told_many, told_far)
