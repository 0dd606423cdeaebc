-- What lines ask for of those that know of them, gathered in marks.
-- Source: this project's own.
use Rattle.std.specs.Prelude.{◌≡◌, ◌↔◌, ℕ, ◌+◌, ◌*◌, ◌<◌, ◌≤◌, List, length, slice_index_or, All, IfSome}
use Rattle.mt_verify.specs.Prelude.{ToldLine, What, Wrote, Got, Copied, Lawful, most_lanes}
use Rattle.mt_verify.specs.declared.windows.Mark.{Mark}
use Rattle.mt_verify.specs.declared.windows.Marks.{Marks}
use Rattle.mt_verify.specs.PrintedOrder.{KeepsTo}

-- the line has what the mark asks for
abbrev pub Admits : Mark → What → Type 0
Admits mark (Wrote number call reply) = IfSome mark.above (λ above. above < number)
Admits mark (Got lo hi query answer) = mark.from ≤ lo
Admits mark (Copied count) = Unit {0}
Admits mark (Lawful count) = Unit {0}

-- each mark asks for what the lines ask for that are of its place
abbrev pub Gather : (ℕ → ToldLine → Type 0) → List Mark → List ToldLine → Type 0
Gather IsOf marks told = (place : ℕ) (other : Mark) (w : What) → place < length marks
    → Admits (slice_index_or marks place other) w ↔ All (λ s. IsOf place s → KeepsTo s.what w) told

-- the place of a lane on a tree among all
abbrev pub lane_place : ToldLine → ℕ
lane_place t = 16 * t.tree + t.lane

-- these lines were gone through: what each lane on a tree asks for, each tree, and each tree's lines of earlier phases
pub record AreMarked (marks : Marks) (told : List ToldLine) : Type 0 where
  pub lanes : Gather (λ place s. lane_place s ≡ place) marks.lanes told
  pub trees : Gather (λ tree s. s.tree ≡ tree) marks.trees told
  pub before : Gather (λ tree s. (s.tree ≡ tree) × (s.phase < marks.phase)) marks.before told
  pub phase : All (λ s. s.phase ≤ marks.phase) told
  pub within : All (λ s. s.lane < most_lanes) told
