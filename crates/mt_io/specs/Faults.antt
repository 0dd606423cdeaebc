-- What counts of failed calls say, as of std's readers and writers: a fault is counted by the call that meets it.
use Rattle.std.specs.Prelude.{◌≡◌, ℕ, ◌+◌, ◌-◌, ◌^◌, ◌<◌, ◌≤◌, min, OnOk, OnErr}
use Rattle.std.specs.declared.result.Result.{Result}

-- a count of 64 bits rose, or is at its last value
pub record Rose (before now : ℕ) : Type 0 where
  pub kept : before ≤ now
  pub more : min (before + 1) (2 ^ 64 - 1) ≤ now

-- a call failed only where the count rose, and an `Ok` leaves it
pub record HasCause {T E : Type 0} (before now : ℕ) (result : Result T E) : Type 0 where
  pub ok : OnOk result (now ≡ before)
  pub failed : OnErr result (Rose before now)

-- What a call does to the count of late calls. A call that began after a fault is late; one that began with none is not.
pub record CountsLate (faults before now : ℕ) : Type 0 where
  pub kept : before ≤ now
  pub late : 0 < faults → 0 < now
  pub in_time : faults ≡ 0 → now ≡ before
