use Rattle.mt_bulk.proofs.Prelude.{arith}
use Rattle.mt_bulk.proofs.Leveling.{few_over}
use Rattle.mt_bulk.proofs.levels.level_over.Goals as goal

pub overflow_cast-len : goal.overflow_cast-len
overflow_cast-len c = omega (arith, c.len.ensures, c.in_ok-ends.ends.ok.0, (few_over c.args.tree c.args.count c.inner_slots.result c.in_ok-ends.ends.items c.inner_slots.ensures c.in_ok-ends.ensures c.requires.two).1, c.requires.room)

pub overflow_add-number : goal.overflow_add-number
overflow_add-number c = omega (arith, c.len.ensures, c.in_ok-ends.ends.ok.0, (few_over c.args.tree c.args.count c.inner_slots.result c.in_ok-ends.ends.items c.inner_slots.ensures c.in_ok-ends.ensures c.requires.two).1, c.requires.room)

pub parents_over-requires : goal.parents_over-requires
parents_over-requires c = record { room = omega (arith, c.len.ensures, c.len-2.ensures, c.in_ok-ends.ends.ok.0, (few_over c.args.tree c.args.count c.inner_slots.result c.in_ok-ends.ends.items c.inner_slots.ensures c.in_ok-ends.ensures c.requires.two).1, c.requires.room) }

pub returns-clause-some : goal.returns-clause-some
returns-clause-some c = (few_over c.args.tree c.args.count c.inner_slots.result c.in_ok-ends.ends.items c.inner_slots.ensures c.in_ok-ends.ensures c.requires.two).0

pub returns-clause-half : goal.returns-clause-half
returns-clause-half c = (few_over c.args.tree c.args.count c.inner_slots.result c.in_ok-ends.ends.items c.inner_slots.ensures c.in_ok-ends.ensures c.requires.two).1
