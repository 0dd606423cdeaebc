-- What the adapters of std's readers and writers are seen as.
use Rattle.std.specs.Prelude.{◌≡◌, ℕ, List, Option, Result, is_err, if◌then◌else◌}
use Rattle.mt_io.specs.Memory.{one_more, late_after}

-- The bytes that the reader has left, or that the writer holds, where std knows them, and how many faults and late
-- calls there were.
pub record Adapted : Type 0 where
  pub known : Option (List ℕ)
  pub faults : ℕ
  pub late : ℕ

-- a call counted one fault if it failed, and one late call if a fault came before it
pub record CountsCall {T E : Type 0} (before now : Adapted) (result : Result T E) : Type 0 where
  pub faults : now.faults ≡ (if is_err result then one_more before.faults else before.faults)
  pub late : now.late ≡ late_after before.faults before.late
