use Rattle.mt_shelves.proofs.Prelude.{◌≡◌, ◌+◌, ◌-◌, ◌<◌, ℕ, ◌++◌, List, length, take, get_or, ap, ◌∙◌, subst, arith, Range, high, highest_in, hole_between, holes_from, kept, none_found, shelf_end, holes_in, joined, shelf_start}
use Rattle.mt_shelves.proofs.HolesOnShelves.{found_high, none_high, sought_high}
use Rattle.mt_shelves.proofs.rooms.highest.Goals.{After-extent, After-highest_on}
use Rattle.mt_shelves.proofs.rooms.highest.Goals as goal

-- what is sought up to this shelf is what is sought in all
sought : (c : After-highest_on) → highest_in c.args.window.size (kept c.args.window.size c.args.window.min c.args.window.max (holes_from 0 (c.loop-end.last + 1) (joined (take (c.loop-end.end - 1 + 1) c.args.shelves.now)))) ≡ high c.args.kind (joined c.args.shelves.now) c.args.window.size c.args.window.min c.args.window.max
sought c =
    let next : c.loop-end.end ≡ c.loop-end.end - 1 + 1 = omega (arith, c.loop-end-test.true) in
    subst (λ n. highest_in c.args.window.size (kept c.args.window.size c.args.window.min c.args.window.max (holes_from 0 (c.loop-end.last + 1) (joined (take n c.args.shelves.now)))) ≡ high c.args.kind (joined c.args.shelves.now) c.args.window.size c.args.window.min c.args.window.max) next c.loop-end.invariant.answer

-- where this shelf begins
begins : (c : After-extent) → c.extent.result.start ≡ shelf_start (get_or c.args.shelves.now (c.loop-end.end - 1) c.index-shelves-end.result)
begins c = c.extent.ensures.start ∙ ap shelf_start c.index-shelves-end.is

pub returns-in-Some : goal.returns-in-Some
returns-in-Some c =
    let at : ℕ = c.loop-end.end - 1 in
    let within : at < length c.args.shelves.now = omega (arith, c.loop-end-test.true, c.loop-end.invariant.bound) in
    found_high c.args.kind c.args.shelves.now c.args.window.size c.args.window.min c.args.window.max c.loop-end.last at c.index-shelves-end.result c.requires.are within (sought (goal.at.returns-in-Some c).After-highest_on) c.in-Some.start
    (c.in-Some.ensures ∙ ap (λ (m : List Range). highest_in c.args.window.size (kept c.args.window.size c.args.window.min c.args.window.max (holes_in m ++ hole_between (shelf_end m + 1) (c.loop-end.last + 1)))) c.index-shelves-end.is)

pub returns-in_err-last : goal.returns-in_err-last
returns-in_err-last c =
    let at : ℕ = c.loop-end.end - 1 in
    let within : at < length c.args.shelves.now = omega (arith, c.loop-end-test.true, c.loop-end.invariant.bound) in
    let none = none_found c.highest_on.result c.in_default.not-Some ∙ (c.highest_on.ensures ∙ ap (λ (m : List Range). highest_in c.args.window.size (kept c.args.window.size c.args.window.min c.args.window.max (holes_in m ++ hole_between (shelf_end m + 1) (c.loop-end.last + 1)))) c.index-shelves-end.is) in
    c.from_residual.ensures ∙ none_high c.args.kind c.args.shelves.now c.args.window.size c.args.window.min c.args.window.max c.loop-end.last at c.index-shelves-end.result c.requires.are within (sought (goal.at.returns-in_err-last c).After-highest_on) (omega (arith, c.in_err-last.ensures, begins (goal.at.returns-in_err-last c).After-extent)) none

pub loop-end-preserved : goal.loop-end-preserved
loop-end-preserved c =
    let at : ℕ = c.loop-end.end - 1 in
    let within : at < length c.args.shelves.now = omega (arith, c.loop-end-test.true, c.loop-end.invariant.bound) in
    let none = none_found c.highest_on.result c.in_default.not-Some ∙ (c.highest_on.ensures ∙ ap (λ (m : List Range). highest_in c.args.window.size (kept c.args.window.size c.args.window.min c.args.window.max (holes_in m ++ hole_between (shelf_end m + 1) (c.loop-end.last + 1)))) c.index-shelves-end.is) in
    let first : shelf_start (get_or c.args.shelves.now at c.index-shelves-end.result) ≡ c.in_ok-last.last + 1 = omega (arith, c.in_ok-last.ensures.0, c.in_ok-last.ensures.1, begins (goal.at.loop-end-preserved c).After-extent) in
    record {
      bound = omega (arith, within);
      answer = subst (λ n. highest_in c.args.window.size (kept c.args.window.size c.args.window.min c.args.window.max (holes_from 0 n (joined (take at c.args.shelves.now)))) ≡ high c.args.kind (joined c.args.shelves.now) c.args.window.size c.args.window.min c.args.window.max) first
          (sought_high c.args.kind c.args.shelves.now c.args.window.size c.args.window.min c.args.window.max c.loop-end.last at c.index-shelves-end.result c.requires.are within (sought (goal.at.loop-end-preserved c).After-highest_on) none);
    }
