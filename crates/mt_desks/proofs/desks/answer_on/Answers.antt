use Rattle.mt_desks.proofs.Doing.{read_line, scan_line}
use Rattle.mt_desks.proofs.desks.answer_on.Goals as goal

pub returns-in-Ask-clause-done : goal.returns-in-Ask-clause-done
returns-in-Ask-clause-done g c = λ lane phase. rw c.in-Ask.is (read_line (g.T.Shared.tree c.args.tree.now) c.in-Ask.tree c.args.line.now.number lane phase c.in-Ask.query c.look.result (g.P.Passage.knows c.args.pass.now) (g.P.Passage.knows c.look.new.pass) c.args.room.now.items c.look.new.room.items c.look.ensures.looked)

pub returns-in-Scan-clause-done : goal.returns-in-Scan-clause-done
returns-in-Scan-clause-done g c = λ lane phase. rw c.in-Scan.is (scan_line (g.T.Shared.tree c.args.tree.now) c.in-Scan.tree c.args.line.now.number lane phase c.in-Scan.index c.in-Scan.max c.in-Scan.count (g.P.Passage.knows c.args.pass.now) (g.P.Passage.knows c.scan.new.pass) c.args.room.now.items c.scan.new.room.items (c.scan.ensures.scanned lane phase c.in-Scan.tree))
