use Rattle.mt_splice.proofs.Prelude.{arith}
use Rattle.mt_splice.proofs.Climbed.{leaves_deep}
use Rattle.mt_splice.proofs.replacing.replace.Goals as goal

pub overflow_sub-depth : goal.overflow_sub-depth
overflow_sub-depth g c = let deep = (leaves_deep c.requires.level).0 in let same = c.len.ensures.value in omega arith

pub climb_up-top-requires : goal.climb_up-top-requires
climb_up-top-requires g c = c.requires.level

pub publish_climbed-requires-clause-leaves : goal.publish_climbed-requires-clause-leaves
publish_climbed-requires-clause-leaves g c = let deep = (leaves_deep c.requires.level).1 in let same = c.len.ensures.value in omega arith
