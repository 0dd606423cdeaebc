use Rattle.mt_tree.proofs.Prelude.{◌≡◌, rules, Some, sym, subst, HasHeight, Sheet, sheet_told, pass_in, WasShown, IsAtRest, behind_lock, opened, shown_pass, AtWork}
use Rattle.mt_tree.proofs.AtWork.{at_work, seat_of}
use Rattle.mt_tree.proofs.works.begin.Given.{Over}
use Rattle.mt_tree.proofs.works.begin.Goals.{After-of_height}
use Rattle.mt_tree.proofs.works.begin.Goals as goal

pub of_height-requires-clause-height : goal.of_height-requires-clause-height
of_height-requires-clause-height g c =
    let t = c.in-Some.field-0 in
    let rest : IsAtRest (Some t) = search rules in
    subst (λ (s : Sheet). HasHeight s.tree t.height) (sym c.new-rows.ensures.sheet) rest.1.levels

pub returns-clause-seat : goal.returns-clause-seat
returns-clause-seat g c = seat_of _ _ _ c.requires.worker.turn_is c.requires.worker.pass

-- the call is at work
works : (g : Over) (c : After-of_height g) → AtWork c.args.tree.now g.W.Writer.table (behind_lock c.args.tools.now) (pass_in c.args.pass.now) c.of_height.result
works g c =
    let kind : c.of_height.result.kind ≡ (behind_lock c.args.tools.now).parts.kind = search rules in
    let book : c.of_height.result.book ≡ (behind_lock c.args.tools.now).parts.book = search rules in
    let sheet : c.of_height.result.sheet ≡ sheet_told g.W.Writer.table (behind_lock c.args.tools.now).pen (shown_pass (behind_lock c.args.tools.now).pen (pass_in c.args.pass.now)) = search rules in
    let shown : WasShown (opened c.args.tree.now) (behind_lock c.args.tools.now).pen (pass_in c.args.pass.now) (shown_pass (behind_lock c.args.tools.now).pen (pass_in c.args.pass.now)) = search rules in
    at_work c.args.tree.now c.args.tools.now c.args.pass.now g.W.Writer.table g.W.Writer.turn g.W.Writer.steps g.K.OfWidth.wide c.of_height.result c.requires.worker kind book sheet shown

pub returns-clause-kind : goal.returns-clause-kind
returns-clause-kind g c = sym c.of_height.ensures.kind

pub returns-clause-work : goal.returns-clause-work
returns-clause-work g c = works g (goal.at.returns-clause-work g c).After-of_height
