-- How numbers are drawn, one after another, each from the state that the one before left.
-- Source: this project's own; the states are those of a linear congruential generator of 31 bits, with the multiplier and the
-- increment of the C standard's example of `rand`.
use Rattle.std.specs.Prelude.{ℕ, ◌+◌, ◌*◌, ◌/◌, ◌%◌}
use Rattle.mt_base.specs.Limits.{seed_end}

-- what is drawn from a state, and the state that it leaves
abbrev pub Drawing : Type 0 → Type 0
Drawing A = ℕ → A × ℕ

-- the state after a state
abbrev pub next_state : ℕ → ℕ
next_state state = (1103515245 * state + 12345) % seed_end

-- a number below n
unfoldable pub draw_below : ℕ → Drawing ℕ
draw_below n state = ((next_state state * n) / seed_end, next_state state)

-- this, with nothing drawn for it
abbrev pub given : {A : Type 0} → A → Drawing A
given x state = (x, state)

-- with what is drawn, more is drawn
infixl 10 ◌>>=◌
abbrev pub ◌>>=◌ : {A B : Type 0} → Drawing A → (A → Drawing B) → Drawing B
drawing >>= more = λ state. more (drawing state).0 (drawing state).1
