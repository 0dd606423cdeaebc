-- What a ledger is raised by is what a pass counts.
use Rattle.mt_tree.proofs.Prelude.{◌≡◌, ◌⊎◌, ℕ, ◌+◌, ◌≤◌, inl, inr, ⊎_elim, arith, IfErr, IfOk, IfSome, Option, Some, Result, Pass, Query, Range, Tree, opened, pass_in, steps_made, turn_seat, find_at, place_behind, HasStepped, IsOver, IsOverPlace, LeafWasMarked, MarksKeptLeaf, epoch_or, Cursor, part_of, HasRead}
use Rattle.mt_base.specs.Passes as known
use Rattle.mt_base.specs.declared.outcomes.Read.{Read}
use Rattle.mt_read.specs.Neighbours.{WasLeftMarked, WasMoved}
use Rattle.mt_read.specs.declared.neighbours.Moved.{Moved}
use Rattle.mt_tree.specs.Asks.{HasSought, most_made, unbounded}
use Rattle.mt_tree.specs.Walks.{HasWalked}

-- few steps of the ledger are few of the pass
pub brief : (over other : Type 0) (before after steps steps' most : ℕ) → after + steps ≡ before + steps' → (over → (steps' ≤ steps + most) ⊎ other) → over → (after ≤ before + most) ⊎ other
brief over other before after steps steps' most counted short o = ⊎_elim (λ (low : steps' ≤ steps + most). inl (omega arith)) (λ (x : other). inr x) (short o)

-- so are those of a batch
pub less : (after before steps steps' few : ℕ) → after + steps ≡ before + steps' → steps' ≤ steps + few + 3 → after ≤ before + (few + 3)
less after before steps steps' few counted low = omega arith

-- so a read by a ledger is one of few steps of the pass
pub sought : (t : Tree) (p q : Pass) (query : Query) (r : Result (Read (Option Range)) Moved) (steps steps' : ℕ) → IfOk r (λ a. (k : ℕ) × known.Read (opened t) (pass_in p) a.lo a.hi k query a.value (pass_in q)) → IfOk r (λ a. HasRead a.lo a.hi (pass_in p) (pass_in q))
    → IfErr r (λ m. WasMoved (opened t) (pass_in p) m.lo m.begun (pass_in q)) → IfErr r (λ m. HasRead m.lo m.begun (pass_in p) (pass_in q)) → IfErr r (λ m. WasLeftMarked (unbounded (part_of p).shape.kind query) m.lo m.begun (part_of p) (part_of q))
    → steps_made q + steps ≡ steps_made p + steps' → turn_seat q ≡ turn_seat p → steps' ≤ steps + most_made query → HasSought t p query r q
sought t p q query r steps steps' read section moved given_up left counted turn few =
    record { read = read; section = section; moved = moved; given_up = given_up; left = left; takes = record { steps = omega (arith, counted, few); turn = turn } }

-- and so is a step of a walk
pub walked : (t : Tree) (p q : Pass) (w w' : Cursor) (r : Read (Option Range)) (steps steps' : ℕ) → ((k : ℕ) × known.Read (opened t) (pass_in p) r.lo r.hi k (find_at w.at w.max) r.value (pass_in q)) → HasStepped r.lo r.hi w.epoch (pass_in p) (pass_in q)
    → w'.at ≡ place_behind r.value w.max → w'.max ≡ w.max → w'.epoch ≡ Some (epoch_or w.epoch r.lo) → IfSome r.value (λ range. IsOver w'.leaf range.last) → (w'.leaf ≡ w.leaf) ⊎ IfSome w'.leaf (λ kept. kept.lo ≡ r.lo) → MarksKeptLeaf w.leaf w.at r.hi (part_of p) (part_of q)
    → (IsOverPlace w.leaf w.at → (steps' ≤ steps + 40) ⊎ LeafWasMarked w.leaf w.at r.hi (part_of p) (part_of q)) → steps_made q + steps ≡ steps_made p + steps' → turn_seat q ≡ turn_seat p → steps' ≤ steps + 220 → HasWalked t p w r q w'
walked t p q w w' r steps steps' read section at max epoch leaf lo marks short counted turn few =
    record { read = read; section = section; at = at; max = max; epoch = epoch; leaf = leaf; lo = lo; marks = marks; short = brief _ _ _ _ _ _ 40 counted short; takes = record { steps = omega (arith, counted, few); turn = turn } }
