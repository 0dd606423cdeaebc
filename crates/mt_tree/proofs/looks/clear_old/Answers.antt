use Rattle.mt_tree.proofs.Prelude.{sym, ap, Sheet, is_scanned}
use Rattle.mt_tree.proofs.looks.clear_old.Goals as goal

pub returns-clause-scanned : goal.returns-clause-scanned
returns-clause-scanned g c = λ kind state. is_scanned kind _ _ _ _ _ state c.scan-scan.ensures.rest c.scan-scan.ensures.answer c.scan-scan.ensures.kept c.scan-scan.ensures.cleared c.reclaim.ensures.freed

pub returns-clause-least : goal.returns-clause-least
returns-clause-least g c = sym (ap (λ (s : Sheet). s.scan.least) c.scan-scan.ensures.rest)
