use Rattle.mt_tree.proofs.Prelude.{sym, ap, ◌∙◌, IsScanned, Sheet}
use Rattle.mt_tree.proofs.AtWork.{still_few}
use Rattle.mt_tree.proofs.Calling.{least_by, saw_all, seen_still}
use Rattle.mt_tree.proofs.Looking.{high_scanned, idle_scanned, scanned_as}
use Rattle.mt_tree.proofs.looks.oldest_at_work.Given.{Over}
use Rattle.mt_tree.proofs.looks.oldest_at_work.Goals.{After-of_height-engine}
use Rattle.mt_tree.proofs.looks.oldest_at_work.Goals as goal

-- the section words were scanned
scan : (g : Over) (c : After-of_height-engine g) → IsScanned c.begin-engine.result.kind c.begin-engine.result.sheet c.of_height-engine.result.sheet c.begin-engine.result.book c.of_height-engine.result.book
scan g c = scanned_as _ _ _ _ _ _ _ _ _ c.parts-rows.ensures.rows c.of_height-engine.ensures.sheet c.parts-rows.ensures.book c.of_height-engine.ensures.book (c.clear_old-least.ensures.scanned c.begin-engine.result.kind c.parts-rows.ensures.idle.state)

pub clear_old-least-requires : goal.clear_old-least-requires
clear_old-least-requires g c = (c.begin-engine.result.kind, c.parts-rows.ensures.idle.state)

pub of_height-engine-requires-clause-idle : goal.of_height-engine-requires-clause-idle
of_height-engine-requires-clause-idle g c =
    let scan = c.clear_old-least.ensures.scanned c.begin-engine.result.kind c.parts-rows.ensures.idle.state in
    idle_scanned _ _ _ _ _ _ _ c.parts-rows.ensures.rows (sym c.begin-engine.ensures.kind) c.parts-rows.ensures.idle scan

pub of_height-engine-requires-clause-height : goal.of_height-engine-requires-clause-height
of_height-engine-requires-clause-height g c =
    let scan = c.clear_old-least.ensures.scanned c.begin-engine.result.kind c.parts-rows.ensures.idle.state in
    high_scanned _ _ _ _ _ _ _ c.parts-rows.ensures.rows (sym c.begin-engine.ensures.kind) c.parts-rows.ensures.idle scan c.height-height.result c.height-height.ensures

pub end-requires-clause-few : goal.end-requires-clause-few
end-requires-clause-few g c = still_few _ _ _ _ _ c.begin-engine.ensures.work c.of_height-engine.result (ap (λ (s : Sheet). s.told) (scan g (goal.at.end-requires-clause-few g c).After-of_height-engine).rest)

pub returns-clause-seen : goal.returns-clause-seen
returns-clause-seen g c = seen_still _ _ _ _ _ _ _ _ c.begin-engine.ensures.work c.end.ensures.back (ap (λ (s : Sheet). s.told) (scan g (goal.at.returns-clause-seen g c).After-of_height-engine).rest)

pub returns-clause-saw : goal.returns-clause-saw
returns-clause-saw g c = saw_all _ _ _ _ _ _ _ _ c.begin-engine.ensures.work c.end.ensures.back (ap (λ (s : Sheet). s.told) (scan g (goal.at.returns-clause-saw g c).After-of_height-engine).rest)

pub returns-clause-least : goal.returns-clause-least
returns-clause-least g c =
    least_by _ _ _ _ _ _ _ _ c.begin-engine.ensures.work c.end.ensures.back (scan g (goal.at.returns-clause-least g c).After-of_height-engine) (c.of_height-engine.ensures.kind ∙ c.begin-engine.ensures.kind) c.clear_old-least.result (c.clear_old-least.ensures.least ∙ sym (ap (λ (s : Sheet). s.scan.least) c.of_height-engine.ensures.sheet))
