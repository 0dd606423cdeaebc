use Rattle.mt_path.proofs.Prelude.{◌≡◌, ℕ, ◌+◌, ◌-◌, sym, ap, ◌∙◌, subst, arith, PathStep}
use Rattle.mt_path.proofs.TreePaths.{row_of, step_of, step, place, right_begins, left_ends}
use Rattle.mt_path.proofs.laws.neighbours_stand_side_by_side.Goals as goal

pub returns-clause-right : goal.returns-clause-right
returns-clause-right c t h index level stands within low more =
    let here : (step_of t level index).max ≡ (row_of t level index).last = ap (λ (s : PathStep). s.max) (step t h stands index level within low) in
    subst (λ (k : ℕ). (step_of t level (k + 1)).min ≡ k + 1) (sym here)
    (ap (λ (s : PathStep). s.min) (step t h stands ((row_of t level index).last + 1) level (omega arith) low) ∙ right_begins t h stands index level within low (omega arith))

pub returns-clause-left : goal.returns-clause-left
returns-clause-left c t h index level stands within low some =
    let here : (step_of t level index).min ≡ (row_of t level index).first = ap (λ (s : PathStep). s.min) (step t h stands index level within low) in
    let from = (place t h stands index level within low).from in
    subst (λ (k : ℕ). (step_of t level (k - 1)).max + 1 ≡ k) (sym here)
    (ap (λ (s : PathStep). s.max + 1) (step t h stands ((row_of t level index).first - 1) level (omega arith) low) ∙ left_ends t h stands index level within low (omega arith))
