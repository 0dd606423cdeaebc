-- Lists of what rows are, made by the row's number.
use Rattle.mt_rule.proofs.Prelude.{◌≡◌, ℕ, zero, suc, ◌+◌, ◌≤◌, List, [], ◌∷◌, Bool, false, map, replicate, refl, arith, Life, New, Draft, Live, Dead, one_if, HasDied, is_buried, life_of}

-- each life of a list, and that of a row behind them
pub every_life : (P : Life → Type 0) (f : ℕ → Life) → ((k : ℕ) → P (f k)) → P New → (ks : List ℕ) (row : ℕ) → P (life_of (map f ks) row)
every_life P f each new [] row = new
every_life P f each new (k ∷ ks) zero = each k
every_life P f each new (k ∷ ks) (suc row) = every_life P f each new ks row

pub none_marked : (n row : ℕ) → is_buried (replicate n false) row ≡ false
none_marked zero row = refl
none_marked (suc n) zero = refl
none_marked (suc n) (suc row) = none_marked n row

-- a row that has died has died later on
pub died_later : (ended ended' : ℕ) (flight flight' : Bool) (l : Life) → ended + one_if flight ≤ ended' + one_if flight' → HasDied ended flight l → HasDied ended' flight' l
died_later ended ended' flight flight' New up is = tt
died_later ended ended' flight flight' Draft up is = tt
died_later ended ended' flight flight' Live up is = tt
died_later ended ended' flight flight' (Dead call) up is = let low = is.1 in (is.0, omega arith)
