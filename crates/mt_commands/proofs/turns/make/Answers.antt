use Rattle.mt_commands.proofs.Prelude.{Err, ap, ◌∙◌}
use Rattle.mt_commands.proofs.turns.make.Goals as goal

pub unreachable-requires : goal.unreachable-requires
unreachable-requires c =
    let bad = (c.make.ensures.bad c.in-Err-BadShape.field-0-0).0 (c.in-Err-BadShape.is ∙ ap Err c.in-Err-BadShape.field-0-is) in
    absurd (cc)
