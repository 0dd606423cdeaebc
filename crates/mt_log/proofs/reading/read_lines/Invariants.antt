use Rattle.mt_log.proofs.Prelude.{◌≡◌, ◌+◌, ◌≤◌, ◌==◌, length, slice_split, IsSoundReading, after_pieces, nothing_read}
use Rattle.mt_log.proofs.reading.read_lines.Given as goal

abbrev pub invariant-loop-line : goal.invariant-loop-line
invariant-loop-line l =
    (after_pieces l.reader (slice_split (λ b. b == 10) l.rest) ≡ after_pieces nothing_read (slice_split (λ b. b == 10) l.text))
    × IsSoundReading l.reader
    × (length l.reader.lines + length l.rest ≤ length l.text)
    × (l.reader.next + length l.rest ≤ length l.text + 2)

abbrev pub decreases-loop-line : goal.decreases-loop-line
decreases-loop-line l = length l.rest
