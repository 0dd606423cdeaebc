-- Which place of a shared tree a user has. Source: this project's own.
use Rattle.std.specs.Prelude.{◌≡◌, ◌+◌, ℕ, Option}
use Rattle.mt_c.specs.declared.user.User.{User}
use Rattle.mt_c.specs.declared.user_handle.UserHandle.{UserHandle}
use Rattle.mt_c.specs.Shared.{OnUser, known_to}

-- The number of its handle is returned, from 1, and the user is as it was. A closed one is EBADF.
abbrev pub SharedPlaced : UserHandle → UserHandle → ℕ → ℕ → Type 0
SharedPlaced before after status place = OnUser before after status (place ≡ 0) (λ u v. (v ≡ u) × (status ≡ 0) × (place ≡ (known_to u).number + 1))
