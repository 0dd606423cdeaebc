use Rattle.mt_c.proofs.Prelude.{◌∙◌, ap, length, take, map_by, OwnTree, entries_at, put_first}
use Rattle.mt_c.proofs.RangeCounts.{own_if_asked}
use Rattle.mt_c.proofs.own_tree.OwnTree.load_many.Goals as goal

pub returns-clause-entries : goal.returns-clause-entries
returns-clause-entries c =
    c.load_many.ensures.entries ∙ ap (λ (t : OwnTree). put_first (entries_at (map_by t.engine.sheet.tree) (take (length c.args.entries.now) c.args.indexes.now)) c.args.entries.now) c.self.view_is

pub invariant_of-self : goal.invariant_of-self
invariant_of-self c = own_if_asked c.self.inside c.load_many.new.self c.self.invariant (record { rest = c.load_many.ensures.rest; book = c.load_many.ensures.book; kind = c.load_many.ensures.kind })
