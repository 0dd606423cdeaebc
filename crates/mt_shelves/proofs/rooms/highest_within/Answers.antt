use Rattle.mt_shelves.proofs.Prelude.{◌≡◌, ◌+◌, ◌-◌, ◌∙◌, sym, subst, arith, highest_in, hole_between, kept, IsMapFrom, IsMapFrom-front, none_found}
use Rattle.mt_shelves.proofs.HolesOnShelves.{begins_behind, found_last, sought_last}
use Rattle.mt_shelves.proofs.rooms.highest_within.Goals as goal

pub overflow_sub-range : goal.overflow_sub-range
overflow_sub-range c =
    omega (arith, begins_behind c.args.window.size c.args.window.min c.args.window.max c.loop-range.rest.now c.in-Some.below.now c.in-Some.range.now c.in-Some.ensures.cases.0 c.in_ok-before.ensures.0 c.loop-range.invariant.rise)

pub returns-in-Some-highest_above : goal.returns-in-Some-highest_above
returns-in-Some-highest_above c =
    let behind = begins_behind c.args.window.size c.args.window.min c.args.window.max c.loop-range.rest.now c.in-Some.below.now c.in-Some.range.now c.in-Some.ensures.cases.0 c.in_ok-before.ensures.0 c.loop-range.invariant.rise in
    let first : c.in-Some.range.now.first - 1 + 1 ≡ c.in-Some.range.now.first = omega (arith, behind) in
    found_last c.args.window.size c.args.window.min c.args.window.max c.loop-range.rest.now c.in-Some.below.now c.in-Some.range.now c.in-Some.ensures.cases.0 c.in_ok-before.ensures.0 c.in-Some-highest_above.start
    (sym c.in-Some-highest_above.is ∙ (c.highest_above.ensures ∙ (λ k. highest_in c.args.window.size (kept c.args.window.size c.args.window.min c.args.window.max (hole_between (c.in_ok-before.ensures.1 k + 1) (first k)))))) ∙ c.loop-range.invariant.answer

pub loop-range-preserved : goal.loop-range-preserved
loop-range-preserved c =
    let behind = begins_behind c.args.window.size c.args.window.min c.args.window.max c.loop-range.rest.now c.in-Some.below.now c.in-Some.range.now c.in-Some.ensures.cases.0 c.in_ok-before.ensures.0 c.loop-range.invariant.rise in
    let first : c.in-Some.range.now.first - 1 + 1 ≡ c.in-Some.range.now.first = omega (arith, behind) in
    record {
      rise = IsMapFrom-front 0 c.in-Some.below.now _ (subst (IsMapFrom 0) c.in-Some.ensures.cases.0 c.loop-range.invariant.rise);
      answer = sought_last c.args.window.size c.args.window.min c.args.window.max c.loop-range.rest.now c.in-Some.below.now c.in-Some.range.now c.in-Some.ensures.cases.0 c.in_ok-before.ensures.0
          (none_found c.highest_above.result c.in_default-highest_above.not-Some ∙ (c.highest_above.ensures ∙ (λ k. highest_in c.args.window.size (kept c.args.window.size c.args.window.min c.args.window.max (hole_between (c.in_ok-before.ensures.1 k + 1) (first k)))))) ∙ c.loop-range.invariant.answer;
    }
