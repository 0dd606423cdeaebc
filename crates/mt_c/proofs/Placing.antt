-- Which place of a shared tree a user has, read off its pass.
use Rattle.mt_c.proofs.Prelude.{◌≡◌, ℕ, Option, Some, None, refl, ◌+◌, User, UserHandle, refusal, known_to, SharedPlaced}
use Rattle.mt_c.proofs.Sharing.{on_closed, on_open}

pub placed_open : (before after : UserHandle) (u : User) (status place : ℕ) → before.kept.value ≡ Some u → after.kept.value ≡ Some u → status ≡ 0 → place ≡ (known_to u).number + 1 → SharedPlaced before after status place
placed_open before after u status place was is number told = on_open before after u u status _ _ was is refl (refl, number, told)

pub placed_closed : (before after : UserHandle) (status place : ℕ) → before.kept.value ≡ None → after ≡ before → status ≡ refusal after.state → place ≡ 0 → SharedPlaced before after status place
placed_closed before after status place was is number none = on_closed before after status _ _ was is number none
