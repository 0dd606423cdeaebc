use Rattle.mt_splice.proofs.Prelude.{inl, inr, ◌∙◌, refl, same_tree}
use Rattle.mt_splice.proofs.Looks.{is_less, is_more, left_deep, right_deep, low_end, row_behind, row_before, room_if_wanted, room_if_short, wanted, short, path_before, all_behind, all_before}
use Rattle.mt_splice.proofs.widening.widen.Goals as goal

pub step_right-requires-clause-level : goal.step_right-requires-clause-level
step_right-requires-clause-level g c = right_deep c.requires

pub step_on-step-requires : goal.step_on-step-requires
step_on-step-requires g c = (row_behind c.requires (is_less (low_end c.requires) c.step_right.ensures.none c.if-step_right.true) c.if-step_right.ensures.some).0

pub take_behind-requires-clause-row : goal.take_behind-requires-clause-row
take_behind-requires-clause-row g c =
    rw (c.step_on-step.ensures, same_tree (g.R.Rows.sheet c.args.rows.now) (g.R.Rows.sheet c.step_right.new.rows) c.step_right.ensures.rest)
    (row_behind c.requires (is_less (low_end c.requires) c.step_right.ensures.none c.if-step_right.true) c.if-step_right.ensures.some).1

pub step_left-requires-clause-level : goal.step_left-requires-clause-level
step_left-requires-clause-level g c = left_deep c.requires

pub take_behind-requires-clause-room : goal.take_behind-requires-clause-room
take_behind-requires-clause-room g c =
    rw (same_tree (g.R.Rows.sheet c.args.rows.now) (g.R.Rows.sheet c.step_right.new.rows) c.step_right.ensures.rest)
    (room_if_wanted c.requires (wanted c.requires c.width-width.ensures c.wants.ensures c.if-not-wants.false) (is_less (low_end c.requires) c.step_right.ensures.none c.if-step_right.true))

pub returns-then-step_right-clause-widened : goal.returns-then-step_right-clause-widened
returns-then-step_right-clause-widened g c =
    let same = same_tree (g.R.Rows.sheet c.args.rows.now) (g.R.Rows.sheet c.step_right.new.rows) c.step_right.ensures.rest in
    inr (inl (record {
      wanted = wanted c.requires c.width-width.ensures c.wants.ensures c.if-not-wants.false;
      some = is_less (low_end c.requires) c.step_right.ensures.none c.if-step_right.true;
      is_left = refl;
      is_right = c.if-step_right.ensures.some;
      all = all_behind c.requires same c.step_on-step.ensures c.take_behind.ensures.run;
    }))

pub step_on-step-requires-2 : goal.step_on-step-requires-2
step_on-step-requires-2 g c =
    let same = same_tree (g.R.Rows.sheet c.args.rows.now) (g.R.Rows.sheet c.step_right.new.rows) c.step_right.ensures.rest in
    (row_before c.requires (is_more c.step_left.ensures.none c.if-not-step_left.false) (path_before c.requires same c.if-not-step_left.ensures.some)).0

pub take_before-requires-clause-row : goal.take_before-requires-clause-row
take_before-requires-clause-row g c =
    let same = same_tree (g.R.Rows.sheet c.args.rows.now) (g.R.Rows.sheet c.step_right.new.rows) c.step_right.ensures.rest in
    let then = same_tree (g.R.Rows.sheet c.step_right.new.rows) (g.R.Rows.sheet c.step_left.new.rows) c.step_left.ensures.rest in
    rw (c.step_on-step-2.ensures, then, same) (row_before c.requires (is_more c.step_left.ensures.none c.if-not-step_left.false) (path_before c.requires same c.if-not-step_left.ensures.some)).1

pub take_before-requires-clause-room : goal.take_before-requires-clause-room
take_before-requires-clause-room g c =
    let same = same_tree (g.R.Rows.sheet c.args.rows.now) (g.R.Rows.sheet c.step_right.new.rows) c.step_right.ensures.rest in
    let then = same_tree (g.R.Rows.sheet c.step_right.new.rows) (g.R.Rows.sheet c.step_left.new.rows) c.step_left.ensures.rest in
    rw (then, same) (room_if_short c.requires (short c.requires c.width-width.ensures c.is_short.ensures c.if-not-is_short.false))

pub returns-clause-widened : goal.returns-clause-widened
returns-clause-widened g c =
    let same = same_tree (g.R.Rows.sheet c.args.rows.now) (g.R.Rows.sheet c.step_right.new.rows) c.step_right.ensures.rest in
    let then = same_tree (g.R.Rows.sheet c.step_right.new.rows) (g.R.Rows.sheet c.step_left.new.rows) c.step_left.ensures.rest in
    inr (inr (record {
      short = short c.requires c.width-width.ensures c.is_short.ensures c.if-not-is_short.false;
      last = c.step_right.ensures.none.0 c.if-step_right.false;
      some = is_more c.step_left.ensures.none c.if-not-step_left.false;
      is_left = path_before c.requires same c.if-not-step_left.ensures.some;
      is_right = λ i. (c.if-step_right.ensures.stays i).items;
      all = all_before c.requires (then ∙ same) c.step_on-step-2.ensures c.take_before.ensures.run;
    }))
