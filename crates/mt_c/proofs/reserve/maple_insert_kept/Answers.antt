use Rattle.mt_c.proofs.reserve.maple_insert_kept.Goals as goal

pub returns : goal.returns
returns c = (c.kept-status.result.1, c.kept-status.ensures)
