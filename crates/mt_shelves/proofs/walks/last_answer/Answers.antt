use Rattle.mt_shelves.proofs.Prelude.{◌≡◌, ◌+◌, ◌-◌, ◌<◌, ℕ, List, length, sym, ap, ◌∙◌, get_or, subst, arith, Range, answer, begins_above}
use Rattle.mt_shelves.proofs.Answering.{IsBefore, ends_down, found_down, more_down, none_found, some_found, start_down}
use Rattle.mt_shelves.proofs.walks.last_answer.Goals as goal
use Rattle.mt_shelves.proofs.walks.last_answer.Goals.{After-answered-found, then-is_some-via-then-is_some, then-is_some-via-else-is_some+then-not-begins_above}

-- what is found on this shelf, and that it is not on one above
found_is : (c : After-answered-found) → c.answered-found.result ≡ answer (get_or c.args.shelves.now (c.loop-end.end - 1) c.index-shelves-end.result) c.args.query.now
found_is c = c.answered-found.ensures ∙ ap (λ (m : List Range). answer m c.args.query.now) (c.ranges-in-loop-end.ensures.ranges ∙ c.index-shelves-end.is)

before : (c : After-answered-found) → IsBefore c.args.shelves.now c.args.query.now c.args.from c.args.to c.requires.rising (c.loop-end.end - 1 + 1)
before c =
    let next : c.loop-end.end ≡ c.loop-end.end - 1 + 1 = omega (arith, c.loop-end-test.true) in
    subst (IsBefore c.args.shelves.now c.args.query.now c.args.from c.args.to c.requires.rising) next c.loop-end.invariant.1

pub loop-end-init : goal.loop-end-init
loop-end-init c = (c.place_above-end.ensures.bound, start_down c.args.shelves.now c.args.query.now c.args.from c.args.to c.requires.rising c.requires.down c.place_above-end.result c.place_above-end.ensures.back)

pub returns-then-is_some : goal.returns-then-is_some
returns-then-is_some c =
    let at : ℕ = c.loop-end.end - 1 in
    let s : List Range = get_or c.args.shelves.now at c.index-shelves-end.result in
    let place = (goal.at.returns-then-is_some c).After-answered-found in
    let found = found_is place in
    let within : at < length c.args.shelves.now = omega (arith, c.loop-end-test.true, c.loop-end.invariant.0) in
    elim c.then-is_some.branch [
      | then-is_some-via-then-is_some w ↦
          found ∙ found_down c.args.shelves.now c.args.query.now c.args.from c.args.to c.requires.rising c.requires.down at c.index-shelves-end.result within (before place)
          (some_found c.answered-found.result (answer s c.args.query.now) (sym c.is_some.ensures ∙ w.if-is_some.true) found)
      | then-is_some-via-else-is_some+then-not-begins_above w ↦
          found ∙ ends_down c.args.shelves.now c.args.query.now c.args.from c.args.to c.requires.rising c.requires.down at c.index-shelves-end.result within (before place)
          (ap (begins_above c.args.to) (sym c.index-shelves-end.is) ∙ (sym w.begins_above.ensures ∙ w.if-not-begins_above.true))
    ]

pub loop-end-preserved : goal.loop-end-preserved
loop-end-preserved c =
    let at : ℕ = c.loop-end.end - 1 in
    let place = (goal.at.loop-end-preserved c).After-answered-found in
    let within : at < length c.args.shelves.now = omega (arith, c.loop-end-test.true, c.loop-end.invariant.0) in (
      omega (arith, c.loop-end.invariant.0),
      more_down c.args.shelves.now c.args.query.now c.args.from c.args.to c.requires.rising c.requires.down at c.index-shelves-end.result within (before place)
          (none_found c.answered-found.result (answer (get_or c.args.shelves.now at c.index-shelves-end.result) c.args.query.now) (sym c.is_some.ensures ∙ c.if-is_some.false) (found_is place)),
    )
