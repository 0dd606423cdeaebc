use Rattle.mt_verify.proofs.Prelude.{sym, ◌∙◌, subst, HasStopped}
use Rattle.mt_verify.proofs.Stopping.{stop_here, pass_more, stopped_all, stopped_wrong}
use Rattle.mt_verify.proofs.stops.Stops.pass.Goals as goal

pub loop-self-preserved : goal.loop-self-preserved
loop-self-preserved c =
    let s = stop_here c.args.number _ (sym c.is_next.ensures ∙ c.loop-self-test.true) in
    pass_more c.args.number c.args.map.now.ranges c.args.self.now c.loop-self.self c.stop.new.self s.0 s.1 s.2
    (subst (HasStopped c.args.map.now.ranges s.0 c.loop-self.self c.stop.new.self) c.if-not-stop.false (c.stop.ensures.stopped s.0 s.1)) c.loop-self.invariant

pub returns-then-not-stop-clause-passed : goal.returns-then-not-stop-clause-passed
returns-then-not-stop-clause-passed c = λ m at on.
    let s = stop_here c.args.number _ (sym c.is_next.ensures ∙ c.loop-self-test.true) in
    stopped_wrong m c.args.number c.loop-self.self c.args.map.now.ranges s.0 s.1 s.2 at c.stop.new.self c.stop.ensures.stops
    (subst (HasStopped c.args.map.now.ranges s.0 c.loop-self.self c.stop.new.self) c.if-not-stop.true (c.stop.ensures.stopped s.0 s.1))

pub returns-clause-passed : goal.returns-clause-passed
returns-clause-passed c = λ m at on.
    stopped_all m c.args.number c.loop-self.self (sym c.is_next.ensures ∙ c.loop-self-test.false) (c.loop-self.invariant.on m at on)
