use Rattle.mt_commands.proofs.Prelude.{ap, Walk}
use Rattle.mt_commands.proofs.walks.scan_by.Goals as goal

pub returns-clause-same_reference : goal.returns-clause-same_reference
returns-clause-same_reference c = ap (λ (z : Walk). z.reference) c.scan.ensures.is

pub returns-clause-tree : goal.returns-clause-tree
returns-clause-tree c = c.scan.ensures.on c.args.tree.now c.requires.tree
