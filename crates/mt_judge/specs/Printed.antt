-- What is printed of a judgment.
-- Source: this project's own.
use Rattle.std.specs.Prelude.{ℕ, List, ◌∷◌, [], ◌++◌, Option, Some, None, codes, decimal}
use Rattle.mt_judge.specs.declared.causes.Cause.{Cause}
use Rattle.mt_judge.specs.declared.causes.Cause.TheVariants.{NoEntry, Form, Number, Order, Below, Beyond, Nowhere, Reply, Shortage, Count, Listing}
use Rattle.mt_judge.specs.declared.causes.FoundFault.{FoundFault}
use Rattle.mt_judge.specs.declared.judging.Found.{Found}
use Rattle.mt_judge.specs.declared.judging.Found.TheVariants.{Verified, Refused}
use Rattle.mt_judge.specs.declared.judging.Judgment.{Judgment}
use Rattle.mt_judge.specs.declared.tallies.ReadTally.{ReadTally}

abbrev pub cause_text : Cause → List ℕ
cause_text NoEntry = codes "no entry"
cause_text Form = codes "form"
cause_text Number = codes "call number"
cause_text Order = codes "order of its lane"
cause_text Below = codes "lo below"
cause_text Beyond = codes "hi beyond"
cause_text Nowhere = codes "true nowhere"
cause_text Reply = codes "wrong reply"
cause_text Shortage = codes "shortage"
cause_text Count = codes "count"
cause_text Listing = codes "listing"

abbrev pub found_text : Found → List ℕ
found_text Verified = codes "verified"
found_text (Refused (Some fault)) = codes "refused: line " ++ (decimal fault.line ++ (codes ", " ++ cause_text fault.cause))
found_text (Refused None) = codes "refused"

abbrev pub counts_text : ReadTally → List ℕ
counts_text t = codes "calls " ++ (decimal t.calls ++ (codes " reads " ++ (decimal t.reads ++ (codes " overlapped " ++ decimal t.overlapped))))

abbrev pub judgment_text : Judgment → List ℕ
judgment_text j = found_text j.found ++ (10 ∷ (counts_text j.tally ++ 10 ∷ []))

-- the status that the program ends with
abbrev pub status_of : Found → ℕ
status_of Verified = 0
status_of (Refused fault) = 1
