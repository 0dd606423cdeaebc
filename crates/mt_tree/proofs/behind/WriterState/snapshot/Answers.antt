use Rattle.mt_tree.proofs.Prelude.{rules, ◌≡◌, behind_lock}
use Rattle.mt_tree.proofs.Looking.{lies_there}
use Rattle.mt_tree.proofs.behind.WriterState.snapshot.Goals as goal

pub returns-clause-lies : goal.returns-clause-lies
returns-clause-lies c =
    let view : behind_lock c.self.inside.tools ≡ c.args.self.now = search rules in
    lies_there c.args.tree.now c.self.inside.tools c.args.self.now view c.self.invariant.0 c.requires
