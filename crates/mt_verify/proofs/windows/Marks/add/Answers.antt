use Rattle.mt_verify.proofs.Prelude.{arith}
use Rattle.mt_verify.proofs.Gathered.{marked_one}
use Rattle.mt_verify.proofs.windows.Marks.add.Goals as goal

pub returns-clause-marked : goal.returns-clause-marked
returns-clause-marked c = λ earlier. marked_one c.args.self.now earlier c.args.told.now c.place_of-place.result c.with.result c.with-2.result _ _ c.place_of-place.ensures.place (omega arith) (omega arith) c.requires.tree c.requires.lane c.with.ensures c.with-2.ensures
