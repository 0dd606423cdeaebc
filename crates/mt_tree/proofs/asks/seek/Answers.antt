use Rattle.mt_tree.proofs.asks.seek.Goals as goal

pub returns-in-Load-clause-sought : goal.returns-in-Load-clause-sought
returns-in-Load-clause-sought g c = rw c.in-Load.is (record { read = c.load_range.ensures.read; section = c.load_range.ensures.section; moved = tt; given_up = tt; left = tt; takes = c.load_range.ensures.takes })

pub returns-in-Find-clause-sought : goal.returns-in-Find-clause-sought
returns-in-Find-clause-sought g c = rw c.in-Find.is (record { read = c.find.ensures.read; section = c.find.ensures.section; moved = tt; given_up = tt; left = tt; takes = c.find.ensures.takes })

pub returns-in-Next-clause-sought : goal.returns-in-Next-clause-sought
returns-in-Next-clause-sought g c = rw c.in-Next.is c.next.ensures.sought

pub returns-in-Prev-clause-sought : goal.returns-in-Prev-clause-sought
returns-in-Prev-clause-sought g c = rw c.in-Prev.is c.prev.ensures.sought

pub returns-clause-sought : goal.returns-clause-sought
returns-clause-sought g c = rw c.in-Rfind.is c.rfind.ensures.sought
