-- The lanes of a phase make no more calls of a tree than the phase has lines, so no tree is worn.
use Rattle.mt_replay.proofs.Prelude.{◌≡◌, ℕ, ◌+◌, ◌≤◌, List, length, arith, Pass, IsSettled, Line, Asked, Step, IsPhaseGone, sum_below, outcomes_of, Tracked, asked_of_lane, answers_joined, numbers_of, lines_of_lanes, sum_upto, lanes_calls, steps_in, AreAnsweredUnless, IsSomeWorn, SharedTree}
use Rattle.mt_desks.proofs.Calls as calls

pub few_calls : (trees : List SharedTree) (passes : ℕ → List Pass) (number phase : ℕ) (lines : List Line) (answers : ℕ → List (List Step)) (b a : Tracked)
    → ((lane : ℕ) → AreAnsweredUnless (IsSomeWorn trees (passes lane)) (asked_of_lane lane (steps_in 0 phase lines)) (answers lane)) → IsSettled b.history b.passes → IsPhaseGone number b a answers
    → length a.history.records ≤ length b.history.records + length lines
few_calls trees passes number phase lines answers b a answered start gone =
    let asked : List Asked = steps_in 0 phase lines in
    let made : ℕ → ℕ = λ lane. length (numbers_of (outcomes_of number lane (answers_joined (answers lane)))) in
    let own : ℕ → ℕ = λ lane. length (asked_of_lane lane asked) in
    let all : length a.history.records ≡ length b.history.records + sum_below (length b.passes) made = lanes_calls number b.history a.history answers b.passes gone.between a.passes start gone.gone gone.settled gone.tree in
    let each : sum_below (length b.passes) made ≤ sum_below (length b.passes) own = sum_upto (length b.passes) made own (λ lane below. calls.few_calls trees (passes lane) number lane (asked_of_lane lane asked) (answers lane) (answered lane)) in
    omega (arith, all, each, lines_of_lanes (length b.passes) asked, calls.steps_short 0 phase lines)
