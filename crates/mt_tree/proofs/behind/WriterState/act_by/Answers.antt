use Rattle.mt_tree.proofs.Keeping.{counted_answered}
use Rattle.mt_tree.proofs.behind.WriterState.act_by.Goals as goal

pub keep-requires : goal.keep-requires
keep-requires c =
    let done = c.in-Ok.ensures in
    counted_answered c.args.tree.now _ c.args.self.now c.act.new.self c.args.call.now c.in-Ok.done c.args.verdict.after c.args.verdict.before c.counted.result done.answered done.kept done.acts c.requires.verdict.after c.requires.verdict.before c.counted.ensures
