use Rattle.mt_splice.proofs.Prelude.{same_true, same_false, rules, ◌∙◌, ◌≤◌, length, refl, sym, ap, subst, arith, All, Sheet, IsFree, life_of, PathStep, Empty}
use Rattle.mt_splice.specs.contracts.decisions.Next.{the_type}
use Rattle.mt_splice.proofs.Climbed.{look_of, some_items, few_items, apart_items, left_deep, right_deep, drafts, nothing_left, level_drafted}
use Rattle.mt_splice.proofs.Decided.{some_left, drafted_is_done}
use Rattle.mt_splice.proofs.DraftedRows.{drafts_bury_none}
use Rattle.mt_splice.proofs.Rooms.{free_room, note_room, window_room, rows_same, still_free}
use Rattle.mt_splice.proofs.climbing.draft_level.Goals as goal

pub widen-requires : goal.widen-requires
widen-requires g c = look_of c.requires

pub window_on-window-requires-clause-left : goal.window_on-window-requires-clause-left
window_on-window-requires-clause-left g c = left_deep (look_of c.requires) c.widen.ensures.widened

pub window_on-window-requires-clause-right : goal.window_on-window-requires-clause-right
window_on-window-requires-clause-right g c = right_deep (look_of c.requires) c.widen.ensures.widened

pub ends_of-ends-requires-clause-few : goal.ends_of-ends-requires-clause-few
ends_of-ends-requires-clause-few g c = few_items (look_of c.requires) c.widen.ensures.widened (c.width-width.ensures ∙ ap (λ (s : Sheet). s.tree.table.width) c.widen.ensures.rest)

pub ends_of-ends-requires-clause-some : goal.ends_of-ends-requires-clause-some
ends_of-ends-requires-clause-some g c = some_items (look_of c.requires) c.widen.ensures.widened

pub ends_of-ends-requires-clause-apart : goal.ends_of-ends-requires-clause-apart
ends_of-ends-requires-clause-apart g c = apart_items (look_of c.requires) c.widen.ensures.widened

pub push-requires : goal.push-requires
push-requires g c = let room = window_room c.requires in omega arith

pub next_of-next-requires-clause-left : goal.next_of-next-requires-clause-left
next_of-next-requires-clause-left g c = left_deep (look_of c.requires) c.widen.ensures.widened

pub next_of-next-requires-clause-right : goal.next_of-next-requires-clause-right
next_of-next-requires-clause-right g c = right_deep (look_of c.requires) c.widen.ensures.widened

pub returns-then-eq-clause-level : goal.returns-then-eq-clause-level
returns-then-eq-clause-level g c =
    let none = same_true the_type (search rules) c.next_of-next.result Empty (sym c.if-eq.ensures) in
    let width = c.width-width.ensures ∙ ap (λ (s : Sheet). s.tree.table.width) c.widen.ensures.rest in
    rw none
    (nothing_left c.requires c.widen.ensures.widened width (rw none at c.next_of-next.ensures) c.widen.ensures.rest refl refl c.window_on-window.ensures.first c.window_on-window.ensures.last c.push.ensures.items refl refl)

pub draft_rows-heads-requires-clause-room : goal.draft_rows-heads-requires-clause-room
draft_rows-heads-requires-clause-room g c = note_room c.requires

pub draft_rows-heads-requires-clause-rows : goal.draft_rows-heads-requires-clause-rows
draft_rows-heads-requires-clause-rows g c =
    let some = same_false the_type c.next_of-next.result Empty (sym c.if-eq.ensures) in
    let width = c.width-width.ensures ∙ ap (λ (s : Sheet). s.tree.table.width) c.widen.ensures.rest in
    let free : length c.ends_of-ends.result.items ≤ length c.args.book.now.free = (let few = c.ends_of-ends.ensures.few in let room = free_room c.requires in omega arith) in
    let rows = rows_same c.requires.case.was c.requires.ledger ∙ sym (ap (λ (s : Sheet). s.tree.rows) c.widen.ensures.rest) in
    let spare = subst (λ (s : Sheet). All (λ row. IsFree s.cleared (life_of s.lives row)) c.args.book.now.free) (sym c.widen.ensures.rest) (still_free c.requires.case.was c.requires.ledger) in
    rw c.as_slice-items.ensures.value
    (drafts (look_of c.requires) c.widen.ensures.widened width (some_left c.len.result c.next_of-next.result some c.next_of-next.ensures) c.ends_of-ends.ensures.cut (ap (λ (s : Sheet). s.tree.table.width) c.widen.ensures.rest)
    (ap (λ (z : PathStep). z.min) c.window_on-window.ensures.first) c.ends_of-ends.ensures.few free rows spare)

pub returns-clause-level : goal.returns-clause-level
returns-clause-level g c =
    let some = same_false the_type c.next_of-next.result Empty (sym c.if-eq.ensures) in
    let width = c.width-width.ensures ∙ ap (λ (s : Sheet). s.tree.table.width) c.widen.ensures.rest in
    let done = rw c.as_slice-items.ensures.value at c.draft_rows-heads.ensures.rows in
    let goes = rw c.len.ensures.value at c.next_of-next.ensures in
    drafted_is_done c.next_of-next.result some
    (level_drafted c.requires c.widen.ensures.widened width (some_left c.len.result c.next_of-next.result some c.next_of-next.ensures) c.ends_of-ends.ensures.cut c.ends_of-ends.ensures.few c.widen.ensures.rest c.requires.inner
    (ap (λ (z : PathStep). z.min) c.window_on-window.ensures.first) done refl refl c.window_on-window.ensures.first c.window_on-window.ensures.last c.push.ensures.items refl refl goes)

pub returns-clause-none_buried : goal.returns-clause-none_buried
returns-clause-none_buried g c =
    (drafts_bury_none c.args.kind c.as_slice-items.result.now 0 c.ends_of-ends.result.items c.draft_rows-heads.result.rows.items (g.R.Rows.sheet c.widen.new.rows) (g.R.Rows.sheet c.draft_rows-heads.new.rows) c.args.book.now c.draft_rows-heads.new.book c.draft_rows-heads.ensures.rows.taken).0
    ∙ ap (λ (s : Sheet). s.buried) c.widen.ensures.rest

pub returns-clause-none_retired : goal.returns-clause-none_retired
returns-clause-none_retired g c =
    (drafts_bury_none c.args.kind c.as_slice-items.result.now 0 c.ends_of-ends.result.items c.draft_rows-heads.result.rows.items (g.R.Rows.sheet c.widen.new.rows) (g.R.Rows.sheet c.draft_rows-heads.new.rows) c.args.book.now c.draft_rows-heads.new.book c.draft_rows-heads.ensures.rows.taken).1
