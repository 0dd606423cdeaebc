-- What a user finds under the lock of its tree, and what C is told of it.
use Rattle.mt_c.proofs.Prelude.{◌≡◌, ◌∙◌, ℕ, ◌<◌, ◌≤◌, ◌++◌, List, Option, Some, None, drop, length, refl, ap, subst, inl, inr, IfErr, IfOk, Result, Ok, Err, Form, Busy, Look, Stats, Tree, IsFormBehind, IsImagedBehind, IsOldest, IsStatsOf, Pass, opened, pass_in, IsBusyOf, OutForm, OutStats, User, UserHandle, no_form, refusal, FoundOrTaken, HasFoundOrTaken, IsFoundIn, MadeImage, PutsBytes, SharedChecked, SharedImaged, SharedOldest, SharedStats, TellsBytes, TellsCalls, TellsForm, TellsStats, when_found, no_stats, common_of, known_to, user_tree, IsPaused, rested, TriedShut, WasFound}
use Rattle.mt_base.specs.Passes as known
use Rattle.mt_c.proofs.Sharing.{on_closed, on_open}

found_in : {A : Type 0} (is : Tree → known.Pass → A × Look → Type 0) (t : Tree) (p : known.Pass) (a b : Pass) (found : FoundOrTaken A) → pass_in a ≡ p → WasFound is t a found b → IsFoundIn is t p found (pass_in b)
found_in is t p a b (Ok x) was told = (subst (λ (y : known.Pass). known.Saw (opened t) y (pass_in b)) was told.saw, told.said)
found_in is t p a b (Err why) was told = (told.busy, ap pass_in told.kept ∙ was)

-- one that had no section open has none then
found_shut : {A : Type 0} (is : Tree → known.Pass → A × Look → Type 0) (t : Tree) (q p : known.Pass) (found : FoundOrTaken A) → IsFoundIn is t p found q → p.standing ≡ None → q.standing ≡ None
found_shut is t q p (Ok x) said off = ap (λ (y : known.Pass). y.standing) said.0.pass ∙ off
found_shut is t q p (Err why) said off = ap (λ (y : known.Pass). y.standing) said.1 ∙ off

-- ---- what a pass found

module _ (t : Tree) (p : known.Pass) (a b : Pass) (was : pass_in a ≡ p) where
  pub form_found : (found : FoundOrTaken Form) → WasFound IsFormBehind t a found b → IsFoundIn IsFormBehind t p found (pass_in b)
  form_found found told = found_in IsFormBehind t p a b found was told

  pub stats_found : (found : FoundOrTaken Stats) → WasFound IsStatsOf t a found b → IsFoundIn IsStatsOf t p found (pass_in b)
  stats_found found told = found_in IsStatsOf t p a b found was told

  pub calls_found : (found : FoundOrTaken ℕ) → WasFound IsOldest t a found b → IsFoundIn IsOldest t p found (pass_in b)
  calls_found found told = found_in IsOldest t p a b found was told

  pub image_found : (found : FoundOrTaken MadeImage) → WasFound IsImagedBehind t a found b → IsFoundIn IsImagedBehind t p found (pass_in b)
  image_found found told = found_in IsImagedBehind t p a b found was told

-- ---- what a user was told

module _ (u v : User) (status : ℕ) (once : TriedShut u.walker v.walker) (off : IsPaused v.walker) (chair : v.chair ≡ u.chair) where
  pub form_told : (found : FoundOrTaken Form) (out : OutForm) → IsFoundIn IsFormBehind (user_tree u) (rested u) found (known_to v) → v.receipts ≡ when_found found u.receipts → TellsForm status out found → HasFoundOrTaken IsFormBehind (TellsForm status out) u v
  form_told found out said kept told = (found, said, once, (off, found_shut IsFormBehind (user_tree u) (known_to v) (rested u) found said refl), chair, kept, told)

  pub stats_told : (found : FoundOrTaken Stats) (out : OutStats) → IsFoundIn IsStatsOf (user_tree u) (rested u) found (known_to v) → v.receipts ≡ when_found found u.receipts → TellsStats status out found → HasFoundOrTaken IsStatsOf (TellsStats status out) u v
  stats_told found out said kept told = (found, said, once, (off, found_shut IsStatsOf (user_tree u) (known_to v) (rested u) found said refl), chair, kept, told)

  pub calls_told : (found : FoundOrTaken ℕ) (out : ℕ) → IsFoundIn IsOldest (user_tree u) (rested u) found (known_to v) → v.receipts ≡ when_found found u.receipts → TellsCalls status out found → HasFoundOrTaken IsOldest (TellsCalls status out) u v
  calls_told found out said kept told = (found, said, once, (off, found_shut IsOldest (user_tree u) (known_to v) (rested u) found said refl), chair, kept, told)

  pub image_told : (found : FoundOrTaken MadeImage) (out out' : List ℕ) (used : ℕ) → IsFoundIn IsImagedBehind (user_tree u) (rested u) found (known_to v) → v.receipts ≡ when_found found u.receipts → TellsBytes out out' used status found
      → HasFoundOrTaken IsImagedBehind (TellsBytes out out' used status) u v
  image_told found out out' used said kept told = (found, said, once, (off, found_shut IsImagedBehind (user_tree u) (known_to v) (rested u) found said refl), chair, kept, told)

-- ---- images

pub bytes_put : (out out' bytes : List ℕ) (used status : ℕ) → status ≡ 0 → used ≡ length bytes → length bytes ≤ length out → out' ≡ bytes ++ drop (length bytes) out → PutsBytes out out' used status bytes
bytes_put out out' bytes used status number count room put = (count, inl (number, room, put))

pub bytes_short : (out out' bytes : List ℕ) (used status : ℕ) → status ≡ 34 → used ≡ length bytes → length out < length bytes → out' ≡ out → PutsBytes out out' used status bytes
bytes_short out out' bytes used status number count short same = (count, inr (number, short, same))

-- ---- what C keeps

module _ (before after : UserHandle) (status : ℕ) where
  module _ (u v : User) (was : before.kept.value ≡ Some u) (is : after.kept.value ≡ Some v) (common : common_of v ≡ common_of u) where
    pub checked_open : (out : OutForm) → HasFoundOrTaken IsFormBehind (TellsForm status out) u v → SharedChecked before after status out
    checked_open out has = on_open before after u v status _ _ was is common has

    pub stats_open : (out : OutStats) → HasFoundOrTaken IsStatsOf (TellsStats status out) u v → SharedStats before after status out
    stats_open out has = on_open before after u v status _ _ was is common has

    pub oldest_open : (out : ℕ) → HasFoundOrTaken IsOldest (TellsCalls status out) u v → SharedOldest before after status out
    oldest_open out has = on_open before after u v status _ _ was is common has

    pub imaged_open : (out out' : List ℕ) (used : ℕ) → HasFoundOrTaken IsImagedBehind (TellsBytes out out' used status) u v → SharedImaged out out' used before after status
    imaged_open out out' used has = on_open before after u v status _ _ was is common has

  module _ (was : before.kept.value ≡ None) (is : after ≡ before) (number : status ≡ refusal after.state) where
    pub checked_closed : (out : OutForm) → out ≡ no_form → SharedChecked before after status out
    checked_closed out none = on_closed before after status _ _ was is number none

    pub stats_closed : (out : OutStats) → out ≡ no_stats → SharedStats before after status out
    stats_closed out none = on_closed before after status _ _ was is number none

    pub oldest_closed : (out : ℕ) → out ≡ 0 → SharedOldest before after status out
    oldest_closed out none = on_closed before after status _ _ was is number none

    pub imaged_closed : (out out' : List ℕ) (used : ℕ) → out' ≡ out → used ≡ 0 → SharedImaged out out' used before after status
    imaged_closed out out' used same none = on_closed before after status _ _ was is number (same, none)
