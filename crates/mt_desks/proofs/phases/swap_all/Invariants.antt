use Rattle.mt_desks.proofs.Prelude.{◌≡◌, EachPlace, AllHaveSwapped}
use Rattle.mt_desks.proofs.phases.swap_all.Given as goal

abbrev pub invariant-loop-lane : goal.invariant-loop-lane
invariant-loop-lane g l =
    AllHaveSwapped (λ row. row.items) (λ x. x.desk.passes.items) l.lane l.initial.rows l.rows l.initial.lanes l.lanes
    × EachPlace (λ x y. y ≡ record x { desk = record x.desk { passes = y.desk.passes } }) l.initial.lanes l.lanes
