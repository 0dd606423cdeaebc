use Rattle.mt_replay.proofs.Prelude.{rules}
use Rattle.mt_replay.proofs.Making.{made_by_places}
use Rattle.mt_replay.proofs.makes.make_at_once.Goals as goal

pub returns-clause-made : goal.returns-clause-made
returns-clause-made g c = made_by_places g.T.Shared.tree g.P.Passage.knows g.T.Shared.serves g.T.Plays.many c.args.rows c.args.passes c.args.kinds.now c.in_ok-made.made.items (search rules) (λ i k m below. (c.in_ok-made.ensures.each i m below).1.met k)
