use Rattle.mt_bulk.proofs.Prelude.{sym, ◌∙◌, arith}
use Rattle.mt_bulk.proofs.Leveling.{pushed_top, then_pushed}
use Rattle.mt_bulk.proofs.levels.+push_levels.Goals as goal

pub returns-then-rows-eq1 : goal.returns-then-rows-eq1
returns-then-rows-eq1 t c =
    let level = c.in_ok-level.level in
    pushed_top c.args.tree c.args.number c.args.count c.args.levels.now.items c.push.new.self.items level c.in_ok-level.ensures.level (sym (c.len-rows.ensures ∙ level.ends.ok.0) ∙ c.if-rows-eq1.true) c.in_ok-push.ensures.items

pub overflow_cast-rows : goal.overflow_cast-rows
overflow_cast-rows t c =
    let half = c.in_ok-level.ensures.half in
    let room = c.requires.room in
    omega (arith, c.len-rows.ensures, c.in_ok-level.level.ends.ok.0, half, room)

pub overflow_add-number : goal.overflow_add-number
overflow_add-number t c =
    let half = c.in_ok-level.ensures.half in
    let room = c.requires.room in
    omega (arith, c.len-rows.ensures, c.in_ok-level.level.ends.ok.0, half, room)

pub push_levels-requires : goal.push_levels-requires
push_levels-requires t c =
    let rows = c.len-rows.ensures ∙ c.in_ok-level.level.ends.ok.0 in
    let some = c.in_ok-level.ensures.some in
    let half = c.in_ok-level.ensures.half in
    let two = c.requires.two in
    let room = c.requires.room in
    let falls = c.decreases in
    let other = c.if-rows-eq1.false in
    (omega (arith, rows, some, half, two, falls), (omega (arith, rows, some, other), omega (arith, rows, half, room)))

pub returns : goal.returns
returns t c =
    let level = c.in_ok-level.level in
    then_pushed c.push_levels.result c.args.tree c.args.number c.args.count c.len-rows.result c.args.levels.now.items c.push.new.self.items c.push_levels.new.levels.items level c.in_ok-level.ensures.level (c.len-rows.ensures ∙ level.ends.ok.0) c.in_ok-push.ensures.items c.push_levels.ensures
