use Rattle.mt_told.proofs.Prelude.{◌≡◌, subst, sym, Some, None, Query, find_at, range_told, IsStepAt, TellsNotDone, TellsStepAt, Look}
use Rattle.mt_told.proofs.Scanned.{all_told, goes_on_behind, last_told, scan_begins, stops}
use Rattle.mt_told.proofs.scans.read_scan.Goals as goal

pub loop-step-init : goal.loop-step-init
loop-step-init c = rw c.place_within-at.ensures (scan_begins c.args.place.now c.args.scan.now c.args.text.now c.args.told.now.items)

pub returns-in_default-clause-none : goal.returns-in_default-clause-none
returns-in_default-clause-none c =
    let l = c.loop-step in
    let none : TellsNotDone (IsStepAt c.args.place.now (Look (find_at l.at c.args.scan.now.max))) l.rest.now = subst (λ (q : Query). TellsNotDone (IsStepAt c.args.place.now (Look q)) l.rest.now) c.find_at.ensures c.in_default.ensures.none in
    stops c.args.place.now c.args.scan.now c.args.text.now l.rest.now c.args.told.now.items l.told.items l.at l._step l.invariant c.loop-step-test.true none

pub returns-in_default-range_told-clause-some : goal.returns-in_default-range_told-clause-some
returns-in_default-range_told-clause-some c =
    let l = c.loop-step in
    let step : TellsStepAt c.args.place.now (Look (find_at l.at c.args.scan.now.max)) l.rest.now c.in-Some.step c.in-Some.behind.now = subst (λ (q : Query). TellsStepAt c.args.place.now (Look q) l.rest.now c.in-Some.step c.in-Some.behind.now) c.find_at.ensures c.in-Some.ensures.some in
    let none : range_told c.in-Some.step.what ≡ None = sym c.in_default-range_told.ensures in
    rw c.in_ok-push.ensures.items (last_told c.args.place.now c.args.scan.now c.args.text.now l.rest.now c.args.told.now.items l.told.items l.at l._step l.invariant c.loop-step-test.true c.in-Some.step c.in-Some.behind.now step none)

pub loop-step-preserved : goal.loop-step-preserved
loop-step-preserved c =
    let l = c.loop-step in
    let step : TellsStepAt c.args.place.now (Look (find_at l.at c.args.scan.now.max)) l.rest.now c.in-Some.step c.in-Some.behind.now = subst (λ (q : Query). TellsStepAt c.args.place.now (Look q) l.rest.now c.in-Some.step c.in-Some.behind.now) c.find_at.ensures c.in-Some.ensures.some in
    let found : range_told c.in-Some.step.what ≡ Some c.in-Some-range_told.range = sym c.in-Some-range_told.ensures in
    rw (c.in_ok-push.ensures.items, c.place_after-at.ensures) (goes_on_behind c.args.place.now c.args.scan.now c.args.text.now l.rest.now c.args.told.now.items l.told.items l.at l._step l.invariant c.loop-step-test.true c.in-Some.step c.in-Some.behind.now step c.in-Some-range_told.range found)

pub returns-clause-some : goal.returns-clause-some
returns-clause-some c =
    let l = c.loop-step in
    all_told c.args.place.now c.args.scan.now c.args.text.now l.rest.now c.args.told.now.items l.told.items l.at l._step l.invariant c.loop-step-test.false
