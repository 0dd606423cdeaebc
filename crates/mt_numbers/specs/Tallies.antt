-- What a taker's tally says, and what is printed of a thread's work.
-- Source: this project's own.
use Rattle.std.specs.Prelude.{◌≡◌, ℕ, ◌+◌, ◌≤◌, List, ◌++◌, codes, decimal}
use Rattle.mt_numbers.specs.declared.crews.ThreadOutcome.{ThreadOutcome}
use Rattle.mt_numbers.specs.declared.crews.ThreadOutcome.TheVariants.{Took, Read}
use Rattle.mt_numbers.specs.declared.readers.TheConstants.{READS}
use Rattle.mt_numbers.specs.declared.takers.Tally.{Tally}

-- Each number that was taken is held, or was given back, or was not taken when it was given back. At each of these moments it
-- may have been marked as another taker's.
pub record Balances (held : ℕ) (t : Tally) : Type 0 where
  pub each : t.taken ≡ held + t.given_back + t.lost
  pub moments : t.clashes ≤ t.taken + t.given_back + t.lost

-- From one tally to another, exactly as many numbers were taken and given back as these counts say of the caller before and after.
pub record IsTallied {N : Type 0} (took gave : N → ℕ) (t u : Tally) (n m : N) : Type 0 where
  pub more : t.taken ≤ u.taken
  pub taken : took m + t.taken ≡ took n + u.taken
  pub given_back : gave m + t.given_back ≡ gave n + u.given_back

-- the line of a thread, after its number
abbrev pub thread_text : ThreadOutcome → List ℕ
thread_text (Took t) = codes "took " ++ decimal t.taken ++ codes " and gave " ++ decimal t.given_back ++ codes " back"
thread_text (Read faults) = codes "read all " ++ decimal READS ++ codes " times and saw " ++ decimal faults ++ codes " faults"
