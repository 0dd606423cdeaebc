-- What is read off a text of a scan.
-- Source: this project's own.
use Rattle.std.specs.Prelude.{ℕ, List, Option, Some, None}
use Rattle.mt_told.specs.Prelude.{Range, Scan, Step, AreScanSteps, place_within}
use Rattle.mt_log.specs.declared.transcripts.Answer.TheVariants as answers
use Rattle.mt_told.specs.declared.scans.Stretch.{Stretch}
use Rattle.mt_told.specs.declared.steps.LinePlace.{LinePlace}
use Rattle.mt_told.specs.declared.told.What.{What}
use Rattle.mt_told.specs.declared.told.What.TheVariants.{Got}
use Rattle.mt_told.specs.Steps.{asked_at}

-- the range that the line reports, if it reports one
abbrev pub range_told : What → Option Range
range_told (Got lo hi query (answers.Range range)) = Some range
range_told what = None

-- these steps are those of a scan of this stretch at this place: from here on, at most this many
abbrev pub IsScanFrom : LinePlace → Stretch → ℕ → Option ℕ → List Step → Type 0
IsScanFrom place scan count at steps = AreScanSteps (asked_at place (Scan place.tree scan.index scan.max scan.count)) place.tree scan.max count at steps

abbrev pub IsScanAt : LinePlace → Stretch → List Step → Type 0
IsScanAt place scan steps = IsScanFrom place scan scan.count (place_within scan.index scan.max) steps
