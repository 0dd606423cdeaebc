use Rattle.mt_judge.proofs.Prelude.{sym, subst, Log, IsReadable}
use Rattle.mt_judge.proofs.Beginnings.{readable_first}
use Rattle.mt_judge.proofs.forms.read_first.Goals as goal

pub read_told-requires : goal.read_told-requires
read_told-requires c = subst (λ (l : Log). IsReadable l.lines) (sym c.in_ok-first.ensures) (readable_first c.args.count c.args.log.now.lines c.requires)
