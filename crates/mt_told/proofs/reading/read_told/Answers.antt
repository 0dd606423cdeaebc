use Rattle.mt_told.proofs.Prelude.{arith, ◌≡◌, ◌<◌, ℕ, List, Bor, length, get_or, ap, subst, ◌∙◌, IfNone, IfSome, Option, Line, IsLaneLineDone, IsPlacedBy, AddsTold, TellsNotDone}
use Rattle.mt_told.proofs.LineByLine.{line_goes_on, line_stops, lines_begin, told_by, told_none}
use Rattle.mt_told.proofs.reading.read_told.Goals as goal

pub loop-line-init : goal.loop-line-init
loop-line-init c = rw c.new-told.ensures.items (lines_begin c.args.log.now.lines c.args.text.now)

pub returns-in_default-clause-none : goal.returns-in_default-clause-none
returns-in_default-clause-none c =
    let l = c.loop-line in
    let lines : List Line = c.args.log.now.lines in
    let line : Line = c.line-item.result in
    let within : l.line-index < length lines = omega (arith, c.loop-line-test.true, ap length c.as_slice-line-items.ensures) in
    let is : line ≡ get_or lines l.line-index line = c.line-item.is ∙ ap (λ (ls : List Line). get_or ls l.line-index line) c.as_slice-line-items.ensures in
    let none : TellsNotDone (IsLaneLineDone l.stand.lane l.stand.phase line) l.rest.now =
    subst (λ (o : Option (Bor (List ℕ))). IfNone o (TellsNotDone (IsLaneLineDone l.stand.lane l.stand.phase line) l.rest.now)) c.in_default.is c.in_ok-behind.ensures.none in
    told_none c.args.log.now c.args.text.now (line_stops lines c.args.text.now l.rest.now l.told.items l.stand.lane l.stand.phase l.line-index l.invariant line within is none)

pub loop-line-preserved : goal.loop-line-preserved
loop-line-preserved c =
    let l = c.loop-line in
    let lines : List Line = c.args.log.now.lines in
    let line : Line = c.line-item.result in
    let within : l.line-index < length lines = omega (arith, c.loop-line-test.true, ap length c.as_slice-line-items.ensures) in
    let is : line ≡ get_or lines l.line-index line = c.line-item.is ∙ ap (λ (ls : List Line). get_or ls l.line-index line) c.as_slice-line-items.ensures in
    let added : AddsTold (IsLaneLineDone l.stand.lane l.stand.phase line) (IsPlacedBy l.stand.lane l.stand.phase line) l.rest.now l.told.items c.read_line.new.told.items c.in-Some.behind.now =
    subst (λ (o : Option (Bor (List ℕ))). IfSome o (λ rest. AddsTold (IsLaneLineDone l.stand.lane l.stand.phase line) (IsPlacedBy l.stand.lane l.stand.phase line) l.rest.now l.told.items c.read_line.new.told.items rest.now)) c.in-Some.is c.in_ok-behind.ensures.some in
    rw (c.behind-stand.ensures.lane, c.behind-stand.ensures.phase)
    (line_goes_on lines c.args.text.now l.rest.now l.told.items l.stand.lane l.stand.phase l.line-index l.invariant line within is c.requires c.read_line.new.told.items c.in-Some.behind.now added)

pub returns-clause-some : goal.returns-clause-some
returns-clause-some c =
    let l = c.loop-line in
    told_by c.args.log.now c.args.text.now l.rest.now l.told.items l.stand.lane l.stand.phase l.line-index l.invariant (omega (arith, c.loop-line-test.false, ap length c.as_slice-line-items.ensures))
