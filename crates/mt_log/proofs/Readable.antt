-- Lines that can follow, one behind the other, are those of a log that can be read.
use Rattle.mt_log.proofs.Prelude.{ℕ, ◌≤◌, List, [], ◌∷◌, ◌++◌, append_assoc, arith, sym, subst, append-nil, IsLog, log_text, IsSoundReading, ReadSoFar, after_item, nothing_read, IsReadable, Line, Log}
use Rattle.mt_log.proofs.Following.{CanAllFollow, at_line}
use Rattle.mt_log.proofs.Pieces.{IsVersion}
use Rattle.mt_log.proofs.RoundTrip.{at_line_too, prints}
use Rattle.mt_log.proofs.Soundness.{sound_more, sound_nothing}

sound_at : (number : ℕ) (r : ReadSoFar) → IsSoundReading r → r.next ≤ number → IsSoundReading (at_line number r)
sound_at number r h above = let behind = h.above in record { readable = h.readable; above = omega arith; stepped = h.stepped; known = h.known }

sound_behind : (r : ReadSoFar) (lines : List Line) → IsSoundReading r → CanAllFollow r lines → IsReadable (r.lines ++ lines)
sound_behind r [] sound h = subst IsReadable (sym (append-nil r.lines)) sound.readable
sound_behind r (line ∷ lines) sound h =
    let ready : ReadSoFar = at_line line.number r in
    let more : IsSoundReading (after_item ready line.item) = sound_more ready line.item (sound_at line.number r sound h.0) (at_line_too line.number r line.item h.1).follows in
    subst IsReadable (append_assoc r.lines (line ∷ []) lines) (sound_behind (after_item ready line.item) lines more h.2)

pub are_readable : (lines : List Line) → CanAllFollow nothing_read lines → IsReadable lines
are_readable lines h = sound_behind nothing_read lines sound_nothing h

-- and they make a log, which its own text is
pub is_log : (log : Log) → IsVersion log.version → CanAllFollow nothing_read log.lines → IsLog log
is_log log version h = (log_text log, prints log version h)
