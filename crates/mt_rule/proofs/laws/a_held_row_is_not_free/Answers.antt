use Rattle.mt_rule.proofs.Prelude.{ℕ, ◌+◌, ◌≤◌, sym, subst, arith, Later, Life, New, Draft, Live, Dead, IsFree, life_of, PenPart, least_number}
use Rattle.mt_rule.proofs.laws.a_held_row_is_not_free.Goals as goal

-- a row that died behind all that is cleared
not_free : (cleared since : ℕ) (l : Life) → cleared ≤ since → Later (since + 1) l → ¬ IsFree cleared l
not_free cleared since New kept later free = later
not_free cleared since Draft kept later free = later
not_free cleared since Live kept later free = free
not_free cleared since (Dead call) kept later free = absurd (omega arith)

pub returns : goal.returns
returns c = λ told s writer reader v w p q j x rule at_v pen at_w pass held.
    let one = ((rule.each writer v at_v).keeper p pen).1 in
    let row = (((rule.each reader w at_w).passes q pass).held j x held).row in
    subst (λ (part : PenPart). ¬ IsFree (least_number part.cleared) (life_of part.lives x.row)) (sym one) (not_free (least_number rule.part.cleared) x.since (life_of rule.part.lives x.row) row.kept row.life)
