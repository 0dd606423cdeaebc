use Rattle.mt_verify.proofs.Placed.{put_number, taken_number}
use Rattle.mt_verify.proofs.calls.put.Goals as goal

pub returns-then-is_some-clause-not : goal.returns-then-is_some-clause-not
returns-then-is_some-clause-not c = taken_number c.args.number c.args.places.now c.if-number-eq0.false c.if-number-places.false c.if-is_some.ensures

pub returns-clause-put : goal.returns-clause-put
returns-clause-put c = put_number c.args.number c.args.places.now c.args.call c.if-number-eq0.false c.if-number-places.false c.if-is_some.ensures
