use Rattle.mt_splice.proofs.Prelude.{◌∙◌}
use Rattle.mt_splice.proofs.DraftedRows.{piece_drafted}
use Rattle.mt_splice.proofs.drafting.draft_piece.Goals as goal

pub returns-clause-piece : goal.returns-clause-piece
returns-clause-piece g c = piece_drafted (record { last = 0; word = 0; gap = 0 }) c.requires.some c.draft_row-row.ensures.taken (c.word.ensures.word ∙ c.name_of.ensures) c.told_gap.ensures c.note_row.ensures.noted
