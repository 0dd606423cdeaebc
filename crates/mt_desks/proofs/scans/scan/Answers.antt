use Rattle.mt_desks.proofs.Scanning.{scan_closes}
use Rattle.mt_desks.proofs.scans.scan.Goals as goal

pub returns-clause-scanned : goal.returns-clause-scanned
returns-clause-scanned g c = λ lane phase number item.
    scan_closes (record { line = c.args.line; lane = lane; phase = phase; item = item }) number c.args.count (g.W.Walks.walk c.args.walk.now) (g.W.Walks.walk c.read_on.new.walk) (g.W.Walks.walk c.close.new.self) c.args.room.now.items c.read_on.new.room.items
    c.close.ensures.closed (c.read_on.ensures.scanned lane phase number item)
