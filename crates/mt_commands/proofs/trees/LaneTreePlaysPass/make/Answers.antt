use Rattle.mt_commands.proofs.Prelude.{Err, refl, sym, ap, ◌∙◌, most_calls}
use Rattle.mt_commands.proofs.Lanes.{in_range, many}
use Rattle.mt_commands.proofs.trees.LaneTreePlaysPass.make.Goals as goal

pub unreachable-requires : goal.unreachable-requires
unreachable-requires c =
    let bad = (c.make_over.ensures.bad c.in-Err-BadShape.field-0-0).0 (c.in-Err-BadShape.is ∙ ap Err c.in-Err-BadShape.field-0-is) in
    let good = in_range (record { kind = c.args.kind; rows = c.args.rows; passes = c.args.passes; calls = most_calls }) c.requires.few_rows c.requires.rows c.requires.some_pass c.requires.passes refl in
    absurd (let clash = sym good ∙ bad in cc)

pub returns-in-Ok-clause-all : goal.returns-in-Ok-clause-all
returns-in-Ok-clause-all c =
    let new = c.in-Ok.ensures.new in
    record { count = new.all.count ∙ many _ _ _ _ new; of = new.all.of; numbered = new.all.numbered }

pub returns-in-Ok-clause-many : goal.returns-in-Ok-clause-many
returns-in-Ok-clause-many c = many _ _ _ _ c.in-Ok.ensures.new
