-- Nodes that were seen at a height: those that a replacement has taken, and those that are gone.
-- Source: this project's own.
use Rattle.std.specs.Prelude.{ℕ, Bool, List, nat_lt}
use Rattle.mt_splice.specs.Prelude.{Span, is_row_of, tally}

pub record Seen : Type 0 where
  pub height : ℕ
  pub at : Span

-- how many of them satisfy a test of their height and their span
abbrev pub passing : (ℕ → Span → Bool) → List Seen → ℕ
passing p seen = tally (λ (s : Seen). p s.height s.at) seen

-- a row of this number is one of them
abbrev pub was_seen : List Seen → ℕ → Bool
was_seen seen row = nat_lt 0 (passing (is_row_of row) seen)
