use Rattle.mt_verify.proofs.Prelude.{◌+◌, List, Option, IsPermutation, arith, take, sym, subst, Numbered, calls_told, filled_from}
use Rattle.mt_verify.proofs.EachOnce.{call_less, call_more, none_without_place}
use Rattle.mt_verify.proofs.calls.fill.Goals.{in-Some+else-not-put, in_default}
use Rattle.mt_verify.proofs.calls.fill.Goals as goal

pub returns-then-not-put-clause-not : goal.returns-then-not-put-clause-not
returns-then-not-put-clause-not c = λ list long are.
    none_without_place c.args.tree c.args.told.now list are c.loop-one.one-index c.in-Some.number _ c.in-Some.call c.loop-one.places c.loop-one-test.true (sym c.in-Some.ensures) c.loop-one.invariant (omega (arith, long, c.loop-one.auto.places)) c.if-not-put.ensures.not

pub loop-one-preserved : goal.loop-one-preserved
loop-one-preserved c =
    let after = λ (places : List (Option Numbered)). IsPermutation (filled_from 1 places) (calls_told c.args.tree (take (c.loop-one.one-index + 1) c.args.told.now)) in
    elim c.match-numbered_on.branch [
      | in-Some+else-not-put w ↦ subst after (sym w.places-is) (call_more c.args.tree c.args.told.now c.loop-one.one-index _ c.loop-one-test.true w.in-Some.number w.in-Some.call (sym w.in-Some.ensures) (filled_from 1 c.loop-one.places) (filled_from 1 w.put.new.places) w.if-not-put.ensures.put c.loop-one.invariant)
      | in_default w ↦ subst after (sym w.places-is) (call_less c.args.tree c.args.told.now c.loop-one.one-index _ c.loop-one-test.true (sym w.in_default.ensures) (filled_from 1 c.loop-one.places) c.loop-one.invariant)
    ]
