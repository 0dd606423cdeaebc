use Rattle.mt_engine.proofs.Prelude.{sym, ap, ◌∙◌, subst, StorePre, Rooted, height_in, Nothing, IsPlan, IsStorePlan, HasRoom, same_tree}
use Rattle.mt_engine.proofs.Leaving.{stays_stored}
use Rattle.mt_engine.proofs.Moments.{tree_in_call, in_call_if_read, tree_if_lawful}
use Rattle.mt_engine.proofs.ReadAfter.{high_then, stored_after_reads, stored_before_reads}
use Rattle.mt_engine.proofs.prepared.perform_prepared.Goals as goal

pub plan_store-requires-clause-tree : goal.plan_store-requires-clause-tree
plan_store-requires-clause-tree g c = tree_in_call c.args.kind (g.R.Rows.sheet c.args.rows.now) c.args.book.now c.requires.in_call

pub store_at_hand-is_new_root-requires-clause-in_call : goal.store_at_hand-is_new_root-requires-clause-in_call
store_at_hand-is_new_root-requires-clause-in_call g c = in_call_if_read c.args.kind (g.R.Rows.sheet c.args.rows.now) (g.R.Rows.sheet c.plan_store.new.rows) c.args.book.now c.plan_store.ensures.rest c.requires.in_call

pub store_at_hand-is_new_root-requires-clause-plan : goal.store_at_hand-is_new_root-requires-clause-plan
store_at_hand-is_new_root-requires-clause-plan g c =
    let s = g.R.Rows.sheet c.args.rows.now in
    subst (λ (t : Rooted). IsStorePlan c.args.kind t (StorePre c.args.edit.first c.args.edit.last c.args.edit.entry) c.plan_store.new.path.items c.in-Store.write c.in-Store.reply) (sym (same_tree s (g.R.Rows.sheet c.plan_store.new.rows) c.plan_store.ensures.rest))
    (subst (IsPlan c.args.kind s.tree (StorePre c.args.edit.first c.args.edit.last c.args.edit.entry) c.plan_store.new.path.items) c.in-Store.is c.plan_store.ensures.at_hand)

pub store_at_hand-is_new_root-requires-clause-room : goal.store_at_hand-is_new_root-requires-clause-room
store_at_hand-is_new_root-requires-clause-room g c =
    λ _. subst (λ (t : Rooted). HasRoom t c.args.book.now) (sym (same_tree (g.R.Rows.sheet c.args.rows.now) (g.R.Rows.sheet c.plan_store.new.rows) c.plan_store.ensures.rest)) c.requires.room

pub height_after-requires-clause-tree : goal.height_after-requires-clause-tree
height_after-requires-clause-tree g c =
    (c.args.kind, tree_if_lawful (g.R.Rows.sheet c.store_at_hand-is_new_root.new.rows).tree c.args.kind c.store_at_hand-is_new_root.ensures.stored.ended.idle.state.kept.lawful)

pub height_after-requires-clause-stays : goal.height_after-requires-clause-stays
height_after-requires-clause-stays g c =
    λ old. high_then (g.R.Rows.sheet c.args.rows.now) (g.R.Rows.sheet c.plan_store.new.rows) (g.R.Rows.sheet c.store_at_hand-is_new_root.new.rows) _ c.requires.height c.plan_store.ensures.rest (c.store_at_hand-is_new_root.ensures.height old)

pub returns-in-Store-clause-stored : goal.returns-in-Store-clause-stored
returns-in-Store-clause-stored g c =
    let s = g.R.Rows.sheet c.args.rows.now in
    let s₁ = g.R.Rows.sheet c.plan_store.new.rows in
    let s₂ = g.R.Rows.sheet c.store_at_hand-is_new_root.new.rows in
    let s' = g.R.Rows.sheet c.height_after.new.rows in
    let call = StorePre c.args.edit.first c.args.edit.last c.args.edit.entry in
    stored_after_reads c.args.kind s s₁ s' c.args.book.now c.store_at_hand-is_new_root.new.book call c.in-Store.reply c.plan_store.ensures.rest
    (stored_before_reads c.args.kind s₁ s₂ s' c.args.book.now c.store_at_hand-is_new_root.new.book call c.in-Store.reply c.height_after.ensures.rest c.store_at_hand-is_new_root.ensures.stored)

pub returns-in-Store-clause-height : goal.returns-in-Store-clause-height
returns-in-Store-clause-height g c =
    c.height_after.ensures.height
    ∙ sym (ap (λ (t : Rooted). height_in t.table t.root) (same_tree (g.R.Rows.sheet c.store_at_hand-is_new_root.new.rows) (g.R.Rows.sheet c.height_after.new.rows) c.height_after.ensures.rest))

pub returns-in-Nothing-clause-stored : goal.returns-in-Nothing-clause-stored
returns-in-Nothing-clause-stored g c =
    let s = g.R.Rows.sheet c.args.rows.now in
    let s₁ = g.R.Rows.sheet c.plan_store.new.rows in
    let call = StorePre c.args.edit.first c.args.edit.last c.args.edit.entry in
    let plan = subst (IsPlan c.args.kind s.tree call c.plan_store.new.path.items) c.in-Nothing.is c.plan_store.ensures.at_hand in
    stored_after_reads c.args.kind s s₁ s₁ c.args.book.now c.args.book.now call c.in-Nothing.reply c.plan_store.ensures.rest
    (stays_stored c.args.kind s₁ c.args.book.now call c.in-Nothing.reply (in_call_if_read c.args.kind s s₁ c.args.book.now c.plan_store.ensures.rest c.requires.in_call)
    (subst (λ (t : Rooted). IsPlan c.args.kind t call c.plan_store.new.path.items (Nothing c.in-Nothing.reply)) (sym (same_tree s s₁ c.plan_store.ensures.rest)) plan).0)

pub returns-in-Nothing-clause-height : goal.returns-in-Nothing-clause-height
returns-in-Nothing-clause-height g c =
    c.requires.height ∙ sym (ap (λ (t : Rooted). height_in t.table t.root) (same_tree (g.R.Rows.sheet c.args.rows.now) (g.R.Rows.sheet c.plan_store.new.rows) c.plan_store.ensures.rest))
