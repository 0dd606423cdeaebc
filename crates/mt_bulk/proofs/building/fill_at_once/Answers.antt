use Rattle.mt_bulk.proofs.Prelude.{◌∙◌, ℕ, length, subst, arith, zero-add, whole_of, words_room}
use Rattle.mt_bulk.proofs.Laying.{all_made, laid_can_run, took_turns}
use Rattle.mt_bulk.proofs.building.fill_at_once.Goals as goal

pub run_lanes-requires-after_bounds : goal.run_lanes-requires-after_bounds
run_lanes-requires-after_bounds g c κs within = λ k d below.
    let l = c.args.leaves.now in
    laid_can_run (whole_of l) 0 (length l.ends.items) c.args.lanes.now c.requires.laid k d below

pub gather-requires : goal.gather-requires
gather-requires g c =
    (all_made c.args.leaves.now (g.G.Gate.passed c.args.gate.now) c.args.lanes.now c.run_lanes.new.lanes c.requires.leaves c.requires.laid (omega (arith, c.run_lanes.auto.lanes)) c.run_lanes.ensures c.requires.room).fits

pub returns-clause-words : goal.returns-clause-words
returns-clause-words g c =
    c.gather.ensures.words ∙ (all_made c.args.leaves.now (g.G.Gate.passed c.args.gate.now) c.args.lanes.now c.run_lanes.new.lanes c.requires.leaves c.requires.laid (omega (arith, c.run_lanes.auto.lanes)) c.run_lanes.ensures c.requires.room).words

pub returns-clause-heads : goal.returns-clause-heads
returns-clause-heads g c =
    c.gather.ensures.heads ∙ (all_made c.args.leaves.now (g.G.Gate.passed c.args.gate.now) c.args.lanes.now c.run_lanes.new.lanes c.requires.leaves c.requires.laid (omega (arith, c.run_lanes.auto.lanes)) c.run_lanes.ensures c.requires.room).heads

pub returns-clause-room : goal.returns-clause-room
returns-clause-room g c =
    let l = c.args.leaves.now in
    let some = c.requires.some in
    c.gather.ensures.room (words_room l) (length l.ends.items) (omega (arith, c.run_lanes.auto.lanes, some))
    (all_made l (g.G.Gate.passed c.args.gate.now) c.args.lanes.now c.run_lanes.new.lanes c.requires.leaves c.requires.laid (omega (arith, c.run_lanes.auto.lanes)) c.run_lanes.ensures c.requires.room).room

pub returns-clause-turns : goal.returns-clause-turns
returns-clause-turns g c = λ worker turn within two.
    let l = c.args.leaves.now in
    subst (λ (n : ℕ). g.G.Gate.passed c.args.gate.now n turn) (zero-add worker)
    (took_turns (whole_of l) (g.G.Gate.passed c.args.gate.now) 0 0 (length l.ends.items) c.args.lanes.now c.run_lanes.new.lanes c.requires.laid c.requires.numbered c.run_lanes.ensures worker turn within two)
