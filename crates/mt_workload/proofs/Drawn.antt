-- What is drawn is below what it is drawn below.
use Rattle.mt_workload.proofs.Prelude.{ℕ, ◌*◌, ◌/◌, ◌^◌, ◌<◌, arith, div-lt_iff_lt-mul, mul-lt-mul_of_pos_right, mul_comm, mul-lt, draw_below, next_state}

pub product_fits : (state count : ℕ) → state < 2 ^ 31 → count < 2 ^ 32 → state * count < 2 ^ 64
product_fits state count small few = omega (arith, mul-lt state count (2 ^ 31) (2 ^ 32) small few)

pub drawn_below : (state count : ℕ) → state < 2 ^ 31 → 0 < count → (state * count) / 2 ^ 31 < count
drawn_below state count small some =
    let product : state * count < 2 ^ 31 * count = mul-lt-mul_of_pos_right small some in
    (div-lt_iff_lt-mul {k = 2 ^ 31} {x = state * count} {y = count} (omega arith)).1 (omega (arith, product, mul_comm count (2 ^ 31)))

pub state_below : (state : ℕ) → next_state state < 2 ^ 31
state_below state = omega arith

pub below_below : (count state : ℕ) → 0 < count → (draw_below count state).0 < count
unfolding draw_below
below_below count state some = drawn_below (next_state state) count (state_below state) some
