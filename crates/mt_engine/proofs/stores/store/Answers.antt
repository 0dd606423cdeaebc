use Rattle.mt_engine.proofs.Prelude.{◌≡◌, true, sym, ap, ◌∙◌, subst, err_from_is_err_and, Wants, is_exact_store, Book, map_by, Rooted, Sheet, height_in, ChangesEntry, Replaces, IsStorePlan, HasRoom, IsDoneByStore}
use Rattle.mt_engine.proofs.Answering.{not_both, at_once, after_scan}
use Rattle.mt_engine.proofs.Leaving.{refuses}
use Rattle.mt_engine.proofs.Moments.{tree_in_call}
use Rattle.mt_engine.proofs.Storing.{path_height, store_wants, store_wants_none, store_replaces_none}
use Rattle.mt_engine.proofs.stores.store.Goals.{then-wants_by+in_ok-make_room, else-wants_by}
use Rattle.mt_engine.proofs.stores.store.Goals as goal

pub make_room-requires-clause-height : goal.make_room-requires-clause-height
make_room-requires-clause-height g c =
    let s = g.R.Rows.sheet c.args.rows.now in
    let tree = tree_in_call c.args.kind s c.args.book.now c.requires.in_call in
    c.len.ensures.value ∙ path_height tree c.requires.plan

pub returns-in_err-make_room-clause-short : goal.returns-in_err-make_room-clause-short
returns-in_err-make_room-clause-short g c =
    let s = g.R.Rows.sheet c.args.rows.now in
    let tree = tree_in_call c.args.kind s c.args.book.now c.requires.in_call in
    let wants = store_wants tree c.requires.plan (sym c.wants_by.ensures ∙ c.if-wants_by.true) in
    let exit = err_from_is_err_and c.from_residual.result c.from_residual.ensures.1 in
    rw (exit.1, exit.2)
    (refuses c.args.kind s (g.R.Rows.sheet c.make_room.new.rows) c.args.book.now c.make_room.new.book c.args.event.now.call.now c.in_err-make_room.field-0.0 c.requires.unscanned c.requires.in_call (c.make_room.ensures.scanned c.args.kind c.requires.in_call.state)
    c.in_err-make_room.ensures.short wants)

pub store_at_hand-requires-clause-room : goal.store_at_hand-requires-clause-room
store_at_hand-requires-clause-room g c =
    let s = g.R.Rows.sheet c.args.rows.now in
    let s₁ = g.R.Rows.sheet c.if-wants_by.rows in
    let tree = tree_in_call c.args.kind s c.args.book.now c.requires.in_call in
    elim c.if-wants_by.branch [
      | then-wants_by+in_ok-make_room w ↦
          (λ replaces. subst (λ (b : Book). HasRoom s₁.tree b) (sym w.book-is)
          (subst (λ (x : Sheet). HasRoom x.tree w.make_room.new.book) (sym (ap g.R.Rows.sheet w.rows-is)) w.in_ok-make_room.ensures.room))
      | else-wants_by w ↦
          (λ replaces. absurd (store_replaces_none tree c.requires.plan (sym c.wants_by.ensures ∙ w.if-wants_by.false)
          (subst (λ (x : Sheet). Replaces c.args.kind (map_by x.tree) c.args.event.now.call.now) (ap g.R.Rows.sheet w.rows-is) replaces)))
    ]

pub store_at_hand-requires-clause-plan : goal.store_at_hand-requires-clause-plan
store_at_hand-requires-clause-plan g c =
    let s = g.R.Rows.sheet c.args.rows.now in
    let same : (g.R.Rows.sheet c.if-wants_by.rows).tree ≡ s.tree = elim c.if-wants_by.branch [
      | then-wants_by+in_ok-make_room w ↦ ap (λ (x : Sheet). x.tree) (ap g.R.Rows.sheet w.rows-is) ∙ ap (λ (x : Sheet). x.tree) (w.make_room.ensures.scanned c.args.kind c.requires.in_call.state).rest
      | else-wants_by w ↦ ap (λ (x : Sheet). x.tree) (ap g.R.Rows.sheet w.rows-is)
    ] in
    subst (λ (t : Rooted). IsStorePlan c.args.kind t c.args.event.now.call.now c.args.path.now.items c.args.write.now c.args.event.now.reply.now) (sym same) c.requires.plan

pub returns-clause-done : goal.returns-clause-done
returns-clause-done g c =
    let s = g.R.Rows.sheet c.args.rows.now in
    let s' = g.R.Rows.sheet c.store_at_hand.new.rows in
    let book' = c.store_at_hand.new.book in
    let tree = tree_in_call c.args.kind s c.args.book.now c.requires.in_call in
    elim c.if-wants_by.branch [
      | then-wants_by+in_ok-make_room w ↦
          (let wants = store_wants tree c.requires.plan (sym c.wants_by.ensures ∙ w.if-wants_by.true) in
          after_scan c.args.kind s (g.R.Rows.sheet w.make_room.new.rows) s' c.args.book.now w.make_room.new.book book' c.args.event.now.call.now c.args.event.now.reply.now c.requires.unscanned (w.make_room.ensures.scanned c.args.kind c.requires.in_call.state) w.in_ok-make_room.ensures.room wants c.requires.plan.success
          (subst (λ (b : Book). IsDoneByStore c.args.kind (g.R.Rows.sheet w.make_room.new.rows) s' b book' c.args.event.now.call.now c.args.event.now.reply.now) w.book-is
          (subst (λ (x : Sheet). IsDoneByStore c.args.kind x s' c.if-wants_by.book book' c.args.event.now.call.now c.args.event.now.reply.now) (ap g.R.Rows.sheet w.rows-is) c.store_at_hand.ensures.stored)))
      | else-wants_by w ↦
          (let not = sym c.wants_by.ensures ∙ w.if-wants_by.false in
          let calm = store_wants_none tree c.requires.plan not in
          let none = store_replaces_none tree c.requires.plan not in
          at_once c.args.kind s s' c.args.book.now book' c.args.event.now.call.now c.args.event.now.reply.now c.requires.unscanned c.requires.plan.success calm none
          (subst (λ (b : Book). IsDoneByStore c.args.kind s s' b book' c.args.event.now.call.now c.args.event.now.reply.now) w.book-is
          (subst (λ (x : Sheet). IsDoneByStore c.args.kind x s' c.if-wants_by.book book' c.args.event.now.call.now c.args.event.now.reply.now) (ap g.R.Rows.sheet w.rows-is) c.store_at_hand.ensures.stored)))
    ]

pub returns-clause-exact : goal.returns-clause-exact
returns-clause-exact g c =
    let s = g.R.Rows.sheet c.args.rows.now in
    let s' = g.R.Rows.sheet c.store_at_hand.new.rows in
    let book' = c.store_at_hand.new.book in
    let first = c.args.write.now.edit.first in
    let last = c.args.write.now.edit.last in
    let entry = c.args.write.now.edit.entry in
    let tree = tree_in_call c.args.kind s c.args.book.now c.requires.in_call in
    λ is exact.
    elim c.if-wants_by.branch [
      | then-wants_by+in_ok-make_room w ↦
          (let wants = store_wants tree c.requires.plan (sym c.wants_by.ensures ∙ w.if-wants_by.true) in
          let inexact = (subst (Wants c.args.kind (map_by s.tree)) is wants).1 in
          absurd (not_both (is_exact_store (map_by s.tree) first last entry) exact inexact))
      | else-wants_by w ↦
          (subst (λ (b : Book). ChangesEntry s.tree s'.tree s.lives s'.lives b book' first entry) w.book-is
          (subst (λ (x : Sheet). is_exact_store (map_by x.tree) first last entry ≡ true → ChangesEntry x.tree s'.tree x.lives s'.lives c.if-wants_by.book book' first entry) (ap g.R.Rows.sheet w.rows-is) c.store_at_hand.ensures.exact exact))
    ]

pub returns-clause-height : goal.returns-clause-height
returns-clause-height g c =
    let s = g.R.Rows.sheet c.args.rows.now in
    λ old.
    c.store_at_hand.ensures.height old
    ∙ elim c.if-wants_by.branch [
      | then-wants_by+in_ok-make_room w ↦
          ap (λ (x : Sheet). height_in x.tree.table x.tree.root) (ap g.R.Rows.sheet w.rows-is)
          ∙ ap (λ (x : Sheet). height_in x.tree.table x.tree.root) (w.make_room.ensures.scanned c.args.kind c.requires.in_call.state).rest
      | else-wants_by w ↦ ap (λ (x : Sheet). height_in x.tree.table x.tree.root) (ap g.R.Rows.sheet w.rows-is)
    ]
