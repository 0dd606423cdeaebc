use Rattle.mt_c.proofs.Prelude.{rules, refl}
use Rattle.mt_c.proofs.SharingMany.{is_step_many, left_ended, left_standing}
use Rattle.mt_c.proofs.Using.{last_none, last_one}
use Rattle.mt_c.proofs.walker.Walker.step_many.Goals as goal

-- the walk has ended, and is paused
pub returns-then-is_none-clause-stepped : goal.returns-then-is_none-clause-stepped
returns-then-is_none-clause-stepped c =
    let m = c.walk_at.new.self in let n = c.walk_out-read.new.self in let v = c.pause.new.self in
    is_step_many c.args.tree.now c.args.self.now m n v c.args.from c.args.ranges.now c.walk_out-read.new.ranges c.walk_out-read.result c.place-place.result (search rules) c.walk_at.ensures.at c.walk_at.ensures.begins c.walk_out-read.ensures.walked c.walk_out-read.ensures.walk
    (left_ended n v c.place-place.result (search rules) (search rules) c.pause.ensures.known c.pause.ensures.walk c.pause.ensures.took) c.walk_at.ensures.took (last_one n v.pass c.pause.ensures.took)

-- it stands, and is kept
pub returns-else-is_none-clause-stepped : goal.returns-else-is_none-clause-stepped
returns-else-is_none-clause-stepped c =
    let m = c.walk_at.new.self in let n = c.walk_out-read.new.self in
    is_step_many c.args.tree.now c.args.self.now m n n c.args.from c.args.ranges.now c.walk_out-read.new.ranges c.walk_out-read.result c.place-place.result (search rules) c.walk_at.ensures.at c.walk_at.ensures.begins c.walk_out-read.ensures.walked c.walk_out-read.ensures.walk
    (left_standing n c.place-place.result (search rules) (search rules)) c.walk_at.ensures.took (last_none n.pass n.pass refl)
