-- What the image of a run of a log is.
-- Source: this project's own.
use Rattle.std.specs.Prelude.{◌≡◌, ℕ, List, Some, slice_get}
use Rattle.mt_replay.specs.Prelude.{IsImageOfMap, Log, Listing, Transcript, IsRun}

-- some transcript is a run of the log, over trees of this many nodes, and the bytes are an image of the first tree that it
-- lists, of its kind
pub record IsImageOfRun (rows : ℕ) (log : Log) (bytes : List ℕ) : Type 0 where
  pub transcript : Transcript
  pub run : IsRun log rows transcript
  pub first : Listing
  pub first_is : slice_get transcript.lists 0 ≡ Some first
  pub image : IsImageOfMap first.kind first.ranges bytes
