use Rattle.mt_commands.proofs.Prelude.{Err, refl, sym, ap, ◌∙◌, arith, most_rows, few_reached, sheet_in, most_calls}
use Rattle.mt_commands.proofs.Lanes.{in_range, many, new_tree}
use Rattle.mt_commands.proofs.trees.LaneTree.of_rows.Goals as goal

pub unreachable-requires : goal.unreachable-requires
unreachable-requires c =
    let bad = (c.of_rows.ensures.bad c.in-Err-BadShape.field-0-0).0 (c.in-Err-BadShape.is ∙ ap Err c.in-Err-BadShape.field-0-is) in
    let good = in_range (record { kind = c.args.kind; rows = most_rows; passes = 1; calls = most_calls }) (omega arith) (omega arith) (omega arith) (omega arith) refl in
    absurd (let clash = sym good ∙ bad in cc)

pub unreachable-requires-in-Err-NoNodes : goal.unreachable-requires-in-Err-NoNodes
unreachable-requires-in-Err-NoNodes c =
    let few = c.of_rows.ensures.counted.few c.in-Err-NoNodes.field-0-0 c.in-Err-NoNodes.field-0-1 (c.in-Err-NoNodes.is ∙ ap Err c.in-Err-NoNodes.field-0-is) in
    omega (arith, few_reached c.args.kind (sheet_in c.args.rows.now).tree c.requires, few.2, c.args.rows.now.plain.few)

pub returns-in-Ok-clause-new : goal.returns-in-Ok-clause-new
returns-in-Ok-clause-new c = new_tree _ _ _ _ c.in-Ok.ensures.new refl

pub returns-in-Ok-clause-all : goal.returns-in-Ok-clause-all
returns-in-Ok-clause-all c =
    let new = c.in-Ok.ensures.new in
    record { count = new.all.count ∙ many _ _ _ _ new; of = new.all.of; numbered = new.all.numbered }

pub returns-in-Ok-clause-many : goal.returns-in-Ok-clause-many
returns-in-Ok-clause-many c = many _ _ _ _ c.in-Ok.ensures.new
