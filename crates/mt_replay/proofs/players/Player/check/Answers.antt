use Rattle.mt_replay.proofs.Seating.{checks, still_rests}
use Rattle.mt_replay.proofs.players.Player.check.Goals as goal

pub returns-clause-rest : goal.returns-clause-rest
returns-clause-rest g c = still_rests g.T.Shared.tree g.P.Passage.knows g.T.Shared.serves g.T.Plays.many c.count_of-count.new.self c.push.new.self c.count_of-count.ensures.rest

pub returns-clause-checks : goal.returns-clause-checks
returns-clause-checks g c = checks g.T.Shared.tree g.P.Passage.knows g.T.Shared.serves g.T.Plays.many c.args.self.now c.count_of-count.new.self c.push.new.self c.args.line c.args.tree c.count_of-count.result c.count_of-count.ensures.kept c.count_of-count.ensures.stays c.count_of-count.ensures.count c.in_ok-push.ensures.items
