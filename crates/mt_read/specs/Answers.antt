-- When an answer of a pass (a thread's handle) is true.
-- Source: the kernel's documentation of the maple tree, mtree_load, mt_find, mt_next and mt_prev.
use Rattle.std.specs.Prelude.{◌≡◌, ◌⊎◌, ℕ, [], ◌≤◌, ◌&&◌, nat_le, Option, Some, None, length, if◌then◌else◌}
use Rattle.mt_read.specs.Prelude.{Range, Query, answer, IsMap, Held, Snapshot, PassPart, here, moment_seen}

-- The range answers the query after some number of calls that the handle has seen, at least `least`.
pub record Answers (q : PassPart) (least : ℕ) (query : Query) (value : Option Range) : Type 0 where
  pub k : ℕ
  pub low : least ≤ k
  pub high : k ≤ length q.seen
  pub map : IsMap q.shape.kind (moment_seen q k).ranges
  pub is : value ≡ answer (moment_seen q k).ranges query

-- The leaf that the section is at answers: after all calls that the handle has seen, unless the leaf was found dead. A leaf of
-- the form of x, as the section held it before, then had what the map had.
pub record LeafAnswers (q : PassPart) (x : Held) (query : Query) (value : Option Range) : Type 0 where
  pub answers : Answers q x.since query value
  pub now : (here q).died ≡ None → answers.k ≡ length q.seen
  pub stood : Snapshot q.shape.kind x (moment_seen q answers.k)

-- The range answers at a moment at which a leaf of the form of x had what the map had, or the map was empty.
pub record AnswersBy (q : PassPart) (x : Held) (least : ℕ) (query : Query) (value : Option Range) : Type 0 where
  pub answers : Answers q least query value
  pub stood : ((moment_seen q answers.k).ranges ≡ []) ⊎ Snapshot q.shape.kind x (moment_seen q answers.k)

-- the range, where the index is not above max and the range does not begin above it
abbrev pub within : ℕ → ℕ → Option Range → Option Range
within index max None = None
within index max (Some r) = if nat_le index max && nat_le r.first max then Some r else None

-- the range, where the index is not below min and the range does not end below it
abbrev pub not_below : ℕ → ℕ → Option Range → Option Range
not_below index min None = None
not_below index min (Some r) = if nat_le min index && nat_le min r.last then Some r else None
