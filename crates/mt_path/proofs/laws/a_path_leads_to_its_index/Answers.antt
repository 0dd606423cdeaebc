use Rattle.mt_path.proofs.Prelude.{◌≤◌, sym, subst, PathStep}
use Rattle.mt_path.proofs.TreePaths.{levels, step, place}
use Rattle.mt_path.proofs.laws.a_path_leads_to_its_index.Goals as goal

pub returns-clause-levels : goal.returns-clause-levels
returns-clause-levels c t h index stands within = levels t h stands index within

pub returns-clause-from : goal.returns-clause-from
returns-clause-from c t h index level stands within low = subst (λ (s : PathStep). s.min ≤ index) (sym (step t h stands index level within low)) (place t h stands index level within low).from

pub returns-clause-to : goal.returns-clause-to
returns-clause-to c t h index level stands within low = subst (λ (s : PathStep). index ≤ s.max) (sym (step t h stands index level within low)) (place t h stands index level within low).to
