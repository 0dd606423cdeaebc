use Rattle.mt_workload.proofs.Prelude.{◌≡◌, ◌*◌, ◌≤◌, ◌^◌, length, take, sum_by}
use Rattle.mt_workload.proofs.summaries.ranges_of.Given as goal

abbrev pub invariant-loop-listing : goal.invariant-loop-listing
invariant-loop-listing l = (l.total ≡ sum_by (λ listing. length listing.ranges) (take l.listing-index l.lists)) × (l.total ≤ l.listing-index * 2 ^ 64)
