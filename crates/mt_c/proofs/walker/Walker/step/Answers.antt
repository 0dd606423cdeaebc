use Rattle.mt_c.proofs.Prelude.{rules, ◌≡◌, None, Some, refl}
use Rattle.mt_c.proofs.Using.{ends_walk, is_step, keeps_walk, last_none, last_one, left_off, left_on, paused_knows, same_knows}
use Rattle.mt_c.proofs.walker.Walker.step.Goals as goal

pub returns-in-Some-clause-stepped : goal.returns-in-Some-clause-stepped
returns-in-Some-clause-stepped c =
    let n = c.walk_on-read.new.self in
    let is : c.walk_on-read.result.value ≡ Some c.in-Some._range = search rules in
    is_step c.args.tree.now c.args.self.now c.walk_at.new.self n n c.args.from c.walk_on-read.result c.walk_at.ensures.at c.walk_at.ensures.known c.walk_at.ensures.begins
    c.walk_on-read.ensures.read c.walk_on-read.ensures.walked c.walk_on-read.ensures.at (same_knows _ _ refl) (keeps_walk n _ _ is c.walk_on-read.ensures.at) (left_on n _ _ is) c.walk_at.ensures.took (last_none _ _ refl)

pub returns-in-None-clause-stepped : goal.returns-in-None-clause-stepped
returns-in-None-clause-stepped c =
    let n = c.walk_on-read.new.self in
    let v = c.pause.new.self in
    let is : c.walk_on-read.result.value ≡ None = search rules in
    is_step c.args.tree.now c.args.self.now c.walk_at.new.self n v c.args.from c.walk_on-read.result c.walk_at.ensures.at c.walk_at.ensures.known c.walk_at.ensures.begins
    c.walk_on-read.ensures.read c.walk_on-read.ensures.walked c.walk_on-read.ensures.at (paused_knows n v c.pause.ensures.known)
    (ends_walk n v _ is c.walk_on-read.ensures.at c.pause.ensures.known c.pause.ensures.walk) (left_off n v _ is c.pause.ensures.known c.pause.ensures.walk c.pause.ensures.took) c.walk_at.ensures.took (last_one n _ c.pause.ensures.took)
