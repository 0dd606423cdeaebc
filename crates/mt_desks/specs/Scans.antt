-- What a read and a scan of a lane lead to.
-- Source: this project's own, the language of logs.
use Rattle.std.specs.Prelude.{◌≡◌, ℕ, List, [], ◌∷◌, ◌++◌, Option, None, map}
use Rattle.mt_desks.specs.Prelude.{Range, Query, History, Pass, Read, Asked, Step, AreScanSteps, entry_of, shown, Entry, Leads, outcomes_of}
use Rattle.mt_log.specs.declared.transcripts.Said.TheVariants as said
use Rattle.mt_desks.specs.Walks.{Walk, OpensOnce}

-- one read, whose answer follows what the room held
pub record IsLooked (line : ℕ) (tree : History) (query : Query) (value : Option Range) (p q : Pass) (room room' : List Entry) : Type 0 where
  pub lo : ℕ
  pub hi : ℕ
  pub k : ℕ
  pub read : Read tree p lo hi k query value q
  pub told : room' ≡ room ++ record { line = line; said = said.Got lo hi (shown query value) } ∷ []

-- a whole scan, of the line a, from the place at
pub record IsScanDone (a : Asked) (number max count : ℕ) (at : Option ℕ) (tree : History) (p q : Pass) (room room' : List Entry) : Type 0 where
  pub steps : List Step
  pub scan : AreScanSteps a number max count at steps
  pub leads : Leads tree p (outcomes_of number a.lane steps) q
  pub told : room' ≡ room ++ map entry_of steps

-- the walk of a scan since its handle was this one: it has opened its section at most once, and not if one was open
pub record KeepsOne (p : Pass) (w : Walk) : Type 0 where
  pub once : OpensOnce p w.pass
  pub none : w.pass.standing ≡ None → w.pass.opened ≡ p.opened
