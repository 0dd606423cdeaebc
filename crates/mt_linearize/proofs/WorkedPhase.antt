-- A worked phase of two lanes.
use Rattle.mt_linearize.proofs.Prelude.{◌≡◌, ℕ, zero, suc, List, [], ◌∷◌, ◌++◌, Some, length, slice_get, arith, refl, sym, ne_eqb, All-from_recursion, Range, Record, History, Pass, IsSettled, Saw, Settled, begins_none, Asked, Called, Looked, Counted, Step, AreDone, HaveGone, CountsRanges, IsPhaseGone, Leads, outcomes_of, IsNext, informed, known_to_all, step_of_line, Tracked, IsPhase, asked_of_lane, AreDoneEach, answers_joined, most_rows}
use Rattle.mt_base.specs.declared.calls.Call.TheVariants as calls
use Rattle.mt_base.specs.declared.calls.Query.TheVariants as queries
use Rattle.mt_base.specs.declared.kinds.Kind.TheVariants as kinds
use Rattle.mt_base.specs.declared.replies.Reply.TheVariants as replies
use Rattle.mt_log.specs.declared.lines.Item.TheVariants as items
use Rattle.mt_log.specs.declared.transcripts.Said.TheVariants as said
use Rattle.mt_linearize.proofs.Answered.{done_is_next}
use Rattle.mt_linearize.proofs.Informed.{informed_are_settled, informed_reads, informed_saw, informed_wrote, settled_next}
use Rattle.mt_linearize.proofs.LanesPhase.{lanes_phase}
use Rattle.mt_linearize.proofs.Leading.{leads_one}
use Rattle.mt_linearize.proofs.Lists.{same_some}

abbrev one_range : List Range
one_range = record { first = 0; last = 9; entry = 1 } ∷ []

abbrev three_ranges : List Range
three_ranges = record { first = 0; last = 4; entry = 1 } ∷ record { first = 5; last = 5; entry = 3 } ∷ record { first = 6; last = 9; entry = 1 } ∷ []

abbrev earlier : Record
earlier = record { pass = 0; call = calls.Store 0 9 1; reply = replies.Ok }

abbrev later : Record
later = record { pass = 1; call = calls.Store 5 5 3; reply = replies.Over 1 }

abbrev tree_after : List Record → History
tree_after records = record { kind = kinds.Range; rows = most_rows; opening = []; records = records }

abbrev tree_before : History
tree_before = tree_after (earlier ∷ [])

abbrev tree_behind : History
tree_behind = tree_after (earlier ∷ later ∷ [])

abbrev checked : Step
checked = step_of_line 1 0 5 0 (Counted said.Lawful one_range)

abbrev stored : Step
stored = step_of_line 1 1 7 0 (Called 2 (calls.Store 5 5 3) (replies.Over 1))

abbrev loaded : Step
loaded = step_of_line 1 0 9 0 (Looked 1 1 1 (queries.Load 5) (Some (record { first = 0; last = 9; entry = 1 })))

abbrev the_check : List Asked
the_check = record { line = 5; lane = 0; phase = 1; item = items.Check 0 } ∷ []

abbrev the_steps : List Asked
the_steps = record { line = 7; lane = 1; phase = 1; item = items.Write 0 (calls.Store 5 5 3) } ∷ record { line = 9; lane = 0; phase = 1; item = items.Ask 0 (queries.Load 5) } ∷ []

abbrev told : ℕ → List (List Step)
told zero = (loaded ∷ []) ∷ []
told (suc zero) = (stored ∷ []) ∷ []
told (suc (suc lane)) = []

abbrev halfway : List Pass
halfway = informed (earlier ∷ []) 0 ∷ informed (earlier ∷ later ∷ []) 1 ∷ []

first_next : IsNext (tree_after []) earlier one_range
first_next = done_is_next (tree_after []) 0 (calls.Store 0 9 1) one_range replies.Ok refl

next : IsNext tree_before later three_ranges
next = done_is_next tree_before 1 (calls.Store 5 5 3) three_ranges (replies.Over 1) refl

settled_before : IsSettled tree_before (known_to_all 2 tree_before).passes
settled_before = settled_next 2 (tree_after []) earlier one_range (omega arith) (informed_are_settled 2 (tree_after []) (λ k d l. absurd (omega arith)) (λ k d l. absurd (omega arith)) tt) first_next

settled_behind : IsSettled tree_behind (known_to_all 2 tree_behind).passes
settled_behind = settled_next 2 tree_before later three_ranges (omega arith) settled_before next

-- ---- the lanes, and the settling behind them

gone : HaveGone 0 tree_before told (known_to_all 2 tree_before).passes halfway
gone = record { count = refl; leads = leads }
  where
    leads : (lane : ℕ) (p m : Pass) → slice_get (known_to_all 2 tree_before).passes lane ≡ Some p → slice_get halfway lane ≡ Some m → Leads tree_before p (outcomes_of 0 lane (answers_joined (told lane))) m
    leads zero p m was is = rw (same_some p (informed (earlier ∷ []) 0) (sym was), same_some m (informed (earlier ∷ []) 0) (sym is)) (leads_one tree_before (informed (earlier ∷ []) 0) loaded.outcome (informed (earlier ∷ []) 0) (informed_reads tree_before 0 (queries.Load 5) settled_before.legal))
    leads (suc zero) p m was is = rw (same_some p (informed (earlier ∷ []) 1) (sym was), same_some m (informed (earlier ∷ later ∷ []) 1) (sym is)) (leads_one tree_before (informed (earlier ∷ []) 1) stored.outcome (informed (earlier ∷ later ∷ []) 1) (refl, informed_wrote tree_before 1 (calls.Store 5 5 3) (replies.Over 1) three_ranges settled_before.legal next))
    leads (suc (suc lane)) p m was is = cc

settled : Settled tree_behind halfway (known_to_all 2 tree_behind).passes
settled = record { count = refl; each = each; settled = settled_behind }
  where
    learned : Saw tree_before (informed (earlier ∷ []) 0) (informed (earlier ∷ later ∷ []) 0)
    learned = informed_saw tree_before later three_ranges 0 (λ same. absurd (omega arith)) settled_before.legal next

    other : Saw tree_behind (informed (earlier ∷ []) 0) (informed (earlier ∷ later ∷ []) 0)
    other = record { seen = learned.seen; pass = learned.pass; begun = learned.begun; ended = learned.ended; sound = record { own = learned.sound.own; legal = settled_behind.legal } }

    own : Saw tree_behind (informed (earlier ∷ later ∷ []) 1) (informed (earlier ∷ later ∷ []) 1)
    own = record { seen = begins_none (earlier ∷ later ∷ []); pass = refl; begun = omega arith; ended = omega arith; sound = record { own = refl; legal = settled_behind.legal } }

    each : (i : ℕ) (p q : Pass) → slice_get halfway i ≡ Some p → slice_get (known_to_all 2 tree_behind).passes i ≡ Some q → Saw tree_behind p q
    each zero p q was is = rw (same_some p (informed (earlier ∷ []) 0) (sym was), same_some q (informed (earlier ∷ later ∷ []) 0) (sym is)) other
    each (suc zero) p q was is = rw (same_some p (informed (earlier ∷ later ∷ []) 1) (sym was), same_some q (informed (earlier ∷ later ∷ []) 1) (sym is)) own
    each (suc (suc i)) p q was is = cc

-- ---- the phase

answered : (lane : ℕ) → AreDoneEach (asked_of_lane lane the_steps) (told lane)
answered zero = ((1, 1, 1, Some (record { first = 0; last = 9; entry = 1 }), refl), tt)
answered (suc zero) = ((2, replies.Over 1, refl), tt)
answered (suc (suc lane)) = rw (ne_eqb 1 (suc (suc lane)) (λ same. absurd (omega arith)), ne_eqb 0 (suc (suc lane)) (λ same. absurd (omega arith))) tt

of_tree : (tree : ℕ) (b a : Tracked) → slice_get (known_to_all 2 tree_before ∷ []) tree ≡ Some b → slice_get (known_to_all 2 tree_behind ∷ []) tree ≡ Some a → (length b.passes ≡ 2) × IsPhaseGone tree b a told
of_tree zero b a was is = rw (same_some b (known_to_all 2 tree_before) (sym was), same_some a (known_to_all 2 tree_behind) (sym is)) (refl, record { between = halfway; gone = gone; settled = settled; tree = refl })
of_tree (suc tree) b a was is = cc

the_phase : IsPhase 2 1 (checked ∷ stored ∷ loaded ∷ []) (known_to_all 2 tree_before ∷ []) (known_to_all 2 tree_behind ∷ []) × AreDone (the_check ++ the_steps) (checked ∷ stored ∷ loaded ∷ [])
the_phase = lanes_phase 2 1 the_steps the_check (checked ∷ []) told (known_to_all 2 tree_before ∷ []) (known_to_all 2 tree_behind ∷ []) (record {
  placed = ((refl, omega arith), ((refl, omega arith), ((refl, omega arith), tt)));
  named = (omega arith, (omega arith, (omega arith, tt)));
  stepped = (refl, (refl, tt));
  done = (checked ∷ [], [], refl, (one_range, refl), refl);
  counts = All-from_recursion (CountsRanges (known_to_all 2 tree_before ∷ [])) (checked ∷ []) (record { said = said.Lawful; ranges = one_range; tracked = known_to_all 2 tree_before; outcome = refl; is = refl; counts = refl }, tt);
  answered = answered;
  count = refl;
  gone = of_tree;
})

pub worked_phase : IsPhase 2 1 (checked ∷ stored ∷ loaded ∷ []) (known_to_all 2 tree_before ∷ []) (known_to_all 2 tree_behind ∷ [])
worked_phase = the_phase.0
