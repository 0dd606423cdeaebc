use Rattle.mt_shelves.proofs.Prelude.{◌≡◌, List, refl, sym, ap, ◌∙◌, get_or, Range, answer, ends_below}
use Rattle.mt_shelves.proofs.Answering.{ends_up, found_up, more_up, none_found, some_found, start_up}
use Rattle.mt_shelves.proofs.walks.first_answer.Goals as goal
use Rattle.mt_shelves.proofs.walks.first_answer.Goals.{then-is_some-via-then-is_some, then-is_some-via-else-is_some+then-not-ends_below}

pub loop-at-init : goal.loop-at-init
loop-at-init c = (refl, start_up c.args.shelves.now c.args.query.now c.args.from c.args.to c.requires.rising c.requires.up c.place_below-at.result c.place_below-at.ensures.front)

pub returns-then-is_some : goal.returns-then-is_some
returns-then-is_some c =
    let s : List Range = get_or c.args.shelves.now c.loop-at.at c.index-shelves-at.result in
    let found : c.answered-found.result ≡ answer s c.args.query.now = c.answered-found.ensures ∙ ap (λ (m : List Range). answer m c.args.query.now) (c.ranges-in-loop-at.ensures.ranges ∙ c.index-shelves-at.is) in
    elim c.then-is_some.branch [
      | then-is_some-via-then-is_some w ↦
          found ∙ found_up c.args.shelves.now c.args.query.now c.args.from c.args.to c.requires.rising c.requires.up c.loop-at.at c.index-shelves-at.result c.loop-at-test.true c.loop-at.invariant.1
          (some_found c.answered-found.result (answer s c.args.query.now) (sym c.is_some.ensures ∙ w.if-is_some.true) found)
      | then-is_some-via-else-is_some+then-not-ends_below w ↦
          found ∙ ends_up c.args.shelves.now c.args.query.now c.args.from c.args.to c.requires.rising c.requires.up c.loop-at.at c.index-shelves-at.result c.loop-at-test.true c.loop-at.invariant.1
          (ap (ends_below c.args.to) (sym c.index-shelves-at.is) ∙ (sym w.ends_below.ensures ∙ w.if-not-ends_below.true))
    ]

pub loop-at-preserved : goal.loop-at-preserved
loop-at-preserved c =
    let s : List Range = get_or c.args.shelves.now c.loop-at.at c.index-shelves-at.result in
    let found : c.answered-found.result ≡ answer s c.args.query.now = c.answered-found.ensures ∙ ap (λ (m : List Range). answer m c.args.query.now) (c.ranges-in-loop-at.ensures.ranges ∙ c.index-shelves-at.is) in (
      refl,
      more_up c.args.shelves.now c.args.query.now c.args.from c.args.to c.requires.rising c.requires.up c.loop-at.at c.index-shelves-at.result c.loop-at-test.true c.loop-at.invariant.1
          (none_found c.answered-found.result (answer s c.args.query.now) (sym c.is_some.ensures ∙ c.if-is_some.false) found),
    )
