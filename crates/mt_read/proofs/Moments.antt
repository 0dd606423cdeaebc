-- The moments of a beginning of a history are those of the whole.
use Rattle.mt_read.proofs.Prelude.{◌≡◌, ℕ, ◌≤◌, length, ap, ◌∙◌, Begins, PassPart, Shape, moment_at, moment_seen, moment_within}

-- a pass that has seen more has the same moments, up to what it had seen
pub moment_stays : (q q' : PassPart) (k : ℕ) → q'.shape ≡ q.shape → Begins q.seen q'.seen → k ≤ length q.seen → moment_seen q' k ≡ moment_seen q k
moment_stays q q' k shape b low = ap (λ (s : Shape). moment_at s q'.seen k) shape ∙ moment_within q.shape q.seen q'.seen k b low
