-- A turn under the lock, and the lock.
use Rattle.mt_commands.proofs.Prelude.{◌≡◌, ℕ, ◌<◌, List, ap, subst, AllByRecursion, Record, last_map, Saw, with_records, Tree, map_seen, opened, passes_of, HasOnePass, IsOnlyPass}
use Rattle.mt_base.specs.Passes as known
use Rattle.mt_commands.proofs.OnlyCalls.{nothing_new, only_locked}

-- the lock shows the only pass what it knew
pub record ShowsSame (t : Tree) (p q : known.Pass) : Type 0 where
  pub seen : q.seen ≡ p.seen
  pub pass : IsOnlyPass q
  pub map : map_seen t q ≡ map_seen t p

pub shows_same : (t : Tree) (p q : known.Pass) → HasOnePass t → IsOnlyPass p → Saw (opened t) p q → AllByRecursion (λ r. r.pass < passes_of t) q.seen → ShowsSame t p q
shows_same t p q only pass saw callers =
    let low : AllByRecursion (λ r. r.pass < 1) q.seen = subst (λ (n : ℕ). AllByRecursion (λ r. r.pass < n) q.seen) only.passes callers in
    let seen = nothing_new (opened t) p q pass saw low in
    record { seen = seen; pass = only_locked (opened t) p q pass saw low; map = ap (λ (rs : List Record). last_map (with_records (opened t) rs)) seen }
