-- What the sources and sinks in memory do, call by call: a piece at a call, and the listed calls fail.
use Rattle.std.specs.Prelude.{ℕ, Bool, List, ◌++◌, Result, Ok, Err, ◌+◌, ◌-◌, ◌^◌, ◌==◌, ◌&&◌, ◌||◌, min, length, take, drop, nat_lt, if◌then◌else◌}
use Rattle.std.specs.List.{list_any}
use Rattle.mt_io.specs.declared.traits.Failed.{Failed}

-- a count of 64 bits after one more, which stays at its last value
abbrev pub one_more : ℕ → ℕ
one_more n = min (n + 1) (2 ^ 64 - 1)

-- the count of late calls after one more call, by the faults before it
abbrev pub late_after : ℕ → ℕ → ℕ
late_after faults late = if nat_lt 0 faults then one_more late else late

abbrev pub is_listed : ℕ → List ℕ → Bool
is_listed call fails = list_any (λ n. n == call) fails

-- A source in memory: the bytes to come, the most at a call, and the numbers (from 0) of the calls that fail. And how many
-- calls, faults and late calls there were.
pub record Giving : Type 0 where
  pub left : List ℕ
  pub piece : ℕ
  pub fails : List ℕ
  pub calls : ℕ
  pub faults : ℕ
  pub late : ℕ

-- how many bytes a read gives where there is this room
abbrev pub given_count : Giving → ℕ → ℕ
given_count s room = min room (min s.piece (length s.left))

abbrev pub read_fails : Giving → Bool
read_fails s = is_listed s.calls s.fails

abbrev pub read_answer : Giving → ℕ → Result ℕ Failed
read_answer s room = if read_fails s then Err (record {}) else Ok (given_count s room)

abbrev pub after_read : Giving → ℕ → Giving
after_read s room = record {
  left = if read_fails s then s.left else drop (given_count s room) s.left;
  piece = s.piece;
  fails = s.fails;
  calls = one_more s.calls;
  faults = if read_fails s then one_more s.faults else s.faults;
  late = late_after s.faults s.late;
}

-- A sink in memory: the bytes written, how many it takes in all and at a call, and the numbers (from 0) of the calls that fail.
-- And how many calls, faults and late calls there were.
pub record Taking : Type 0 where
  pub written : List ℕ
  pub room : ℕ
  pub piece : ℕ
  pub fails : List ℕ
  pub calls : ℕ
  pub faults : ℕ
  pub late : ℕ

-- how many bytes a write of a piece takes
abbrev pub taken_count : Taking → List ℕ → ℕ
taken_count s piece = min (length piece) (min s.piece (s.room - length s.written))

-- a write fails where its call is listed, or where it has bytes and finds no room
abbrev pub write_fails : Taking → List ℕ → Bool
write_fails s piece = is_listed s.calls s.fails || (nat_lt 0 (length piece) && (s.room - length s.written == 0))

abbrev pub write_answer : Taking → List ℕ → Result ℕ Failed
write_answer s piece = if write_fails s piece then Err (record {}) else Ok (taken_count s piece)

abbrev pub after_write : Taking → List ℕ → Taking
after_write s piece = record {
  written = if write_fails s piece then s.written else s.written ++ take (taken_count s piece) piece;
  room = s.room;
  piece = s.piece;
  fails = s.fails;
  calls = one_more s.calls;
  faults = if write_fails s piece then one_more s.faults else s.faults;
  late = late_after s.faults s.late;
}
