use Rattle.mt_splice.proofs.Prelude.{◌+◌, ◌-◌, ◌++◌, List, length, refl, sym, ap, ◌∙◌, arith, Window, windows_over, Before}
use Rattle.mt_splice.proofs.Clearing.{tree_to_clear, tree_still, path_still}
use Rattle.mt_splice.proofs.ClearOpens.{clear_answer, clear_deep, clear_high, clear_noted}
use Rattle.mt_splice.proofs.clears.clear_as.Goals as goal

pub walk-left-requires-clause-tree : goal.walk-left-requires-clause-tree
walk-left-requires-clause-tree g c = tree_to_clear c.requires.may

pub walk_on-requires-clause-tree : goal.walk_on-requires-clause-tree
walk_on-requires-clause-tree g c = tree_still c.requires.may c.walk-left.ensures.reads.rest

pub walk_on-requires-clause-path : goal.walk_on-requires-clause-path
walk_on-requires-clause-path g c =
    path_still c.requires.may c.walk-left.ensures.reads.rest c.copy_into-2.ensures c.walk-left.ensures.path

pub overflow_sub-depth : goal.overflow_sub-depth
overflow_sub-depth g c =
    let left = c.copy_into.ensures ∙ c.walk-left.ensures.path in
    let deep = clear_deep c.requires.may c.walk-left.ensures.reads.rest left c.width.ensures c.top-last.ensures c.walk_on.ensures.path in
    let same = c.len.ensures.value in omega (arith, deep.1)

pub push_above-requires-clause-left : goal.push_above-requires-clause-left
push_above-requires-clause-left g c =
    let left = c.copy_into.ensures ∙ c.walk-left.ensures.path in
    let deep = clear_deep c.requires.may c.walk-left.ensures.reads.rest left c.width.ensures c.top-last.ensures c.walk_on.ensures.path in
    let same = c.len.ensures.value in omega (arith, deep.1)

pub push_above-requires-clause-right : goal.push_above-requires-clause-right
push_above-requires-clause-right g c =
    let left = c.copy_into.ensures ∙ c.walk-left.ensures.path in
    let deep = clear_deep c.requires.may c.walk-left.ensures.reads.rest left c.width.ensures c.top-last.ensures c.walk_on.ensures.path in
    let same = c.len.ensures.value in omega (arith, deep.0, deep.1)

pub push_above-requires-clause-room : goal.push_above-requires-clause-room
push_above-requires-clause-room g c =
    let left = c.copy_into.ensures ∙ c.walk-left.ensures.path in
    let deep = clear_deep c.requires.may c.walk-left.ensures.reads.rest left c.width.ensures c.top-last.ensures c.walk_on.ensures.path in
    let same = c.len.ensures.value in let none = ap length c.new_climb-climb.ensures.windows in omega (arith, deep.1, deep.2)

pub publish_climbed-requires-clause-climbed : goal.publish_climbed-requires-clause-climbed
publish_climbed-requires-clause-climbed g c =
    let left = c.copy_into.ensures ∙ c.walk-left.ensures.path in
    let deep = clear_deep c.requires.may c.walk-left.ensures.reads.rest left c.width.ensures c.top-last.ensures c.walk_on.ensures.path in
    let same = c.len.ensures.value in
    let windows = c.push_above.ensures ∙ ap (λ (l : List Window). l ++ windows_over c.copy_into.new.copy.items c.walk_on.new.path.items (c.len.result - 1 + 1)) c.new_climb-climb.ensures.windows in
    clear_noted c.requires.begun c.requires.may (g.met.R.Rows.whole c.args.rows.now) (c.len.result - 1) c.walk-left.ensures.reads.rest c.walk_on.ensures.reads.rest left c.width.ensures c.top-last.ensures c.walk_on.ensures.path (omega (arith, deep.1)) windows c.new_climb-climb.ensures.made
    (c.new_climb-climb.ensures.inner ∙ c.inner_kind.ensures) refl refl refl refl

pub publish_climbed-requires-clause-leaves : goal.publish_climbed-requires-clause-leaves
publish_climbed-requires-clause-leaves g c =
    let left = c.copy_into.ensures ∙ c.walk-left.ensures.path in
    let deep = clear_deep c.requires.may c.walk-left.ensures.reads.rest left c.width.ensures c.top-last.ensures c.walk_on.ensures.path in
    let same = c.len.ensures.value in
    clear_high c.requires.begun c.requires.may (g.met.R.Rows.whole c.args.rows.now) left (omega (arith, deep.1))

pub publish_climbed-requires-clause-number : goal.publish_climbed-requires-clause-number
publish_climbed-requires-clause-number g c = sym (ap (λ (b : Before). b.number) c.requires.begun.before)

pub publish_climbed-requires-clause-answer : goal.publish_climbed-requires-clause-answer
publish_climbed-requires-clause-answer g c = clear_answer c.requires.begun c.requires.may (g.met.R.Rows.whole c.args.rows.now)

pub returns-clause-spliced : goal.returns-clause-spliced
returns-clause-spliced g c = rw c.publish_climbed.ensures.place at c.publish_climbed.ensures.spliced
