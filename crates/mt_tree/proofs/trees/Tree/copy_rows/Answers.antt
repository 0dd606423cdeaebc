use Rattle.mt_tree.proofs.Prelude.{List, ap, sym, ◌∙◌, subst, Range, sheet_in, Behind, live_rows, IsReadyToOpen, opened, pass_in, Snapshot}
use Rattle.mt_base.specs.Passes as known
use Rattle.mt_tree.proofs.Looking.{look_at}
use Rattle.mt_tree.proofs.Trying.{tries_once}
use Rattle.mt_tree.proofs.trees.Tree.copy_rows.Goals as goal

pub returns-clause-saw : goal.returns-clause-saw
returns-clause-saw g c = subst (λ (p : known.Pass). known.Saw (opened c.args.self.now) p (pass_in c.inspect-copied.new.pass)) c.take-taken.ensures.known c.inspect-copied.ensures.looked.saw

pub returns-clause-tries : goal.returns-clause-tries
returns-clause-tries g c = tries_once _ _ _ c.take-taken.ensures.tries c.inspect-copied.ensures.looked.rests

pub returns-clause-look : goal.returns-clause-look
returns-clause-look g c = look_at c.args.self.now (pass_in c.inspect-copied.new.pass) _ c.give_looked.result (ap (λ (x : Snapshot Behind). x.value) c.give_looked.ensures.took ∙ c.snapshot-took.ensures.value) (c.inspect-copied.ensures.looked.seen ∙ c.inspect-copied.ensures.looked.state.records) c.snapshot-took.ensures.lies

pub returns-clause-live : goal.returns-clause-live
returns-clause-live g c =
    c.inspect-copied.ensures.finds.0 ∙ sym (ap (λ (x : Snapshot Behind). live_rows x.value.parts.sheet.tree) c.give_looked.ensures.took ∙ ap (λ (x : Behind). live_rows x.parts.sheet.tree) c.snapshot-took.ensures.value)

pub returns-clause-copy : goal.returns-clause-copy
returns-clause-copy g c =
    λ fits. subst (λ (m : List Range). IsReadyToOpen (opened c.args.self.now).kind c.args.own.rows m (sheet_in c.inspect-copied.result.rows) c.inspect-copied.result.book)
    c.inspect-copied.ensures.looked.words.map (c.inspect-copied.ensures.finds.1 fits)
