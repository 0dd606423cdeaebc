use Rattle.mt_splice.proofs.Prelude.{◌<◌, length, ap, arith}
use Rattle.mt_splice.proofs.DraftedRows.{none_so_far, next_fits, rise_now, entry_now, one_so_far, all_drafted}
use Rattle.mt_splice.proofs.drafting.draft_rows.Goals as goal

pub loop-end-init : goal.loop-end-init
loop-end-init g c = rw (c.new-numbers.ensures, c.new-new.ensures) (none_so_far c.requires.rows)

pub first_in-begin-requires-clause-within : goal.first_in-begin-requires-clause-within
first_in-begin-requires-clause-within g c =
    let inside : c.loop-end.end-index < length c.args.pieces.now.ends.items = (let long = ap length c.as_slice-end-items.ensures.value in let test = c.loop-end-test.true in omega arith) in
    next_fits c.loop-end.invariant inside

pub draft_piece-head-requires-clause-rise : goal.draft_piece-head-requires-clause-rise
draft_piece-head-requires-clause-rise g c =
    let inside : c.loop-end.end-index < length c.args.pieces.now.ends.items = (let long = ap length c.as_slice-end-items.ensures.value in let test = c.loop-end-test.true in omega arith) in
    rw c.as_slice-end-items.ensures.value (rise_now c.loop-end.invariant inside c.first_in-begin.ensures)

pub draft_piece-head-requires-clause-entry : goal.draft_piece-head-requires-clause-entry
draft_piece-head-requires-clause-entry g c =
    let inside : c.loop-end.end-index < length c.args.pieces.now.ends.items = (let long = ap length c.as_slice-end-items.ensures.value in let test = c.loop-end-test.true in omega arith) in
    rw c.as_slice-end-items.ensures.value (entry_now c.loop-end.invariant inside)

pub loop-end-preserved : goal.loop-end-preserved
loop-end-preserved g c =
    let inside : c.loop-end.end-index < length c.args.pieces.now.ends.items = (let long = ap length c.as_slice-end-items.ensures.value in let test = c.loop-end-test.true in omega arith) in
    rw (c.as_slice-end-items.ensures.value, c.push.ensures.items, c.push-in-loop-end.ensures.items)
    (one_so_far c.loop-end.invariant inside (g.met.R.Rows.whole c.loop-end.rows) c.first_in-begin.ensures (rw c.as_slice-end-items.ensures.value at c.draft_piece-head.ensures.piece) c.draft_piece-head.ensures.few)

pub returns-clause-rows : goal.returns-clause-rows
returns-clause-rows g c =
    let long = ap length c.as_slice-end-items.ensures.value in let all = c.loop-end-test.false in let within = c.loop-end.auto.end-index-end in
    all_drafted c.loop-end.invariant (omega arith) (omega arith)
