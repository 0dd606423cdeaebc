use Rattle.mt_sequential.proofs.Prelude.{◌≡◌, All, take, IsPlayed, IsCalledWithin}
use Rattle.mt_sequential.proofs.player.play_lines.Given as goal

-- the lines so far were played, and no tree was called more often than there were lines
abbrev pub invariant-loop-line : goal.invariant-loop-line
invariant-loop-line g l = (l.player.rows ≡ l.rows) × IsPlayed l.rows (take l.line-index l.lines) l.player × All (IsCalledWithin l.line-index) l.player.trees
