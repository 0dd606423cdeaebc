use Rattle.mt_replay.proofs.Prelude.{arith, map, tracked_of}
use Rattle.mt_replay.proofs.Seating.{counts_here, count_in, stands, rests_counted}
use Rattle.mt_replay.proofs.players.Player.count_of.Goals as goal

pub count_again-requires-clause-all : goal.count_again-requires-clause-all
count_again-requires-clause-all g c κs lives = (stands g.T.Shared.tree g.P.Passage.knows g.T.Shared.serves g.T.Plays.many c.args.self.now c.args.number c.index.result.now c.index_mut.result.now c.requires.rest c.requires.declared c.index.ensures c.index_mut.ensures.value).all

pub count_again-requires-clause-settled : goal.count_again-requires-clause-settled
count_again-requires-clause-settled g c κs lives = (stands g.T.Shared.tree g.P.Passage.knows g.T.Shared.serves g.T.Plays.many c.args.self.now c.args.number c.index.result.now c.index_mut.result.now c.requires.rest c.requires.declared c.index.ensures c.index_mut.ensures.value).settled

pub index_mut-requires-2 : goal.index_mut-requires-2
index_mut-requires-2 g c = omega (arith, c.requires.declared, counts_here g.T.Shared.tree g.P.Passage.knows g.T.Shared.serves g.T.Plays.many c.args.self.now c.requires.rest)

pub count_again-requires-clause-counted : goal.count_again-requires-clause-counted
count_again-requires-clause-counted g c κs lives = count_in g.T.Shared.tree g.P.Passage.knows g.T.Shared.serves g.T.Plays.many c.args.self.now c.args.number c.index.result.now c.index_mut.result.now c.index_mut-2.result.now c.requires.rest c.requires.declared c.index.ensures c.index_mut.ensures.value c.index_mut-2.ensures.value

pub returns-clause-rest : goal.returns-clause-rest
returns-clause-rest g c = (rests_counted g.T.Shared.tree g.P.Passage.knows g.T.Shared.serves g.T.Plays.many c.args.self.now c.args.number c.index.result.now c.index_mut.result.now c.count_again.new.row c.count_again.new.counted c.requires.rest c.requires.declared c.index.ensures c.index_mut.ensures.value c.count_again.ensures.all c.count_again.ensures.stays c.count_again.ensures.counted).0

pub returns-clause-stays : goal.returns-clause-stays
returns-clause-stays g c = (rests_counted g.T.Shared.tree g.P.Passage.knows g.T.Shared.serves g.T.Plays.many c.args.self.now c.args.number c.index.result.now c.index_mut.result.now c.count_again.new.row c.count_again.new.counted c.requires.rest c.requires.declared c.index.ensures c.index_mut.ensures.value c.count_again.ensures.all c.count_again.ensures.stays c.count_again.ensures.counted).1

pub returns-clause-count : goal.returns-clause-count
returns-clause-count g c = record {
  tree = tracked_of (g.T.Shared.tree c.index.result.now) (map g.P.Passage.knows c.index_mut.result.now.items);
  tree_is = (stands g.T.Shared.tree g.P.Passage.knows g.T.Shared.serves g.T.Plays.many c.args.self.now c.args.number c.index.result.now c.index_mut.result.now c.requires.rest c.requires.declared c.index.ensures c.index_mut.ensures.value).is;
  holds = c.count_again.ensures.count;
}
