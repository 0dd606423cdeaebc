use Rattle.mt_engine.proofs.Prelude.{◌≡◌, true, refl, sym, ap, ◌∙◌, subst, Call, Store, Clear, NoNodes, map_by, Rooted, height_in, Nothing, OnlySearches, is_refusal, HasHeight, IsPlan, IsSearched, IsStorePlan, same_tree}
use Rattle.mt_base.specs.declared.replies.Reply.TheVariants as reply
use Rattle.mt_engine.proofs.Answering.{not_both, may_clear_now, cleared_now}
use Rattle.mt_engine.proofs.Finding.{store_is_no_search, success_is_not_busy, shortage_is_not_busy}
use Rattle.mt_engine.proofs.Leaving.{leaves}
use Rattle.mt_engine.proofs.Measured.{empty_height}
use Rattle.mt_engine.proofs.Moments.{in_call_if_read, unscanned_if_read, answered_after_reads, tree_if_lawful}
use Rattle.mt_engine.proofs.ReadAfter.{answered_before_reads, high_then, refusal_stays, stores_exactly}
use Rattle.mt_engine.proofs.calls.perform.Goals as goal

pub plan_of-requires-clause-tree : goal.plan_of-requires-clause-tree
plan_of-requires-clause-tree g c = c.requires.in_call.state.kept.lawful

pub clear-requires : goal.clear-requires
clear-requires g c =
    let s = g.R.Rows.sheet c.args.rows.now in
    may_clear_now c.args.kind s (g.R.Rows.sheet c.plan_of.new.rows) c.args.book.now c.args.number c.args.call.now c.requires.in_call c.plan_of.ensures.rest c.requires.number
    (subst (IsPlan c.args.kind s.tree c.args.call.now c.plan_of.new.path.items) c.in-Empty.is c.plan_of.ensures.plan)

pub store-requires-clause-in_call : goal.store-requires-clause-in_call
store-requires-clause-in_call g c = in_call_if_read c.args.kind (g.R.Rows.sheet c.args.rows.now) (g.R.Rows.sheet c.plan_of.new.rows) c.args.book.now c.plan_of.ensures.rest c.requires.in_call

pub store-requires-clause-unscanned : goal.store-requires-clause-unscanned
store-requires-clause-unscanned g c = unscanned_if_read (g.R.Rows.sheet c.args.rows.now) (g.R.Rows.sheet c.plan_of.new.rows) c.plan_of.ensures.rest c.requires.unscanned

pub store-requires-clause-plan : goal.store-requires-clause-plan
store-requires-clause-plan g c =
    let s = g.R.Rows.sheet c.args.rows.now in
    subst (λ (t : Rooted). IsStorePlan c.args.kind t c.args.call.now c.plan_of.new.path.items c.in-Store.write c.in-Store.reply) (sym (same_tree s (g.R.Rows.sheet c.plan_of.new.rows) c.plan_of.ensures.rest))
    (subst (IsPlan c.args.kind s.tree c.args.call.now c.plan_of.new.path.items) c.in-Store.is c.plan_of.ensures.plan)

pub returns-in-Nothing : goal.returns-in-Nothing
returns-in-Nothing g c =
    let s = g.R.Rows.sheet c.args.rows.now in
    let s₁ = g.R.Rows.sheet c.plan_of.new.rows in
    let plan = subst (IsPlan c.args.kind s.tree c.args.call.now c.plan_of.new.path.items) c.in-Nothing.is c.plan_of.ensures.plan in
    let plan₁ = subst (λ (t : Rooted). IsPlan c.args.kind t c.args.call.now c.plan_of.new.path.items (Nothing c.in-Nothing.reply)) (sym (same_tree s s₁ c.plan_of.ensures.rest)) plan in
    record {
      height = subst (λ (t : Rooted). HasHeight t c.args.height.now) (sym (same_tree s s₁ c.plan_of.ensures.rest)) c.requires.height;
      answered =
          answered_after_reads c.args.kind s s₁ s₁ c.args.book.now c.args.book.now c.args.call.now c.in-Nothing.reply c.plan_of.ensures.rest
          (leaves c.args.kind s₁ c.args.book.now c.args.call.now c.in-Nothing.reply (in_call_if_read c.args.kind s s₁ c.args.book.now c.plan_of.ensures.rest c.requires.in_call) (unscanned_if_read s s₁ c.plan_of.ensures.rest c.requires.unscanned) plan₁.0 plan₁.1);
      search = λ only. record { tree = same_tree s s₁ c.plan_of.ensures.rest; same_book = refl; reads = (subst (IsSearched s s₁ c.args.call.now) c.in-Nothing.is c.plan_of.ensures.search) only };
      exact = λ first last entry is over success. absurd (not_both (is_refusal c.in-Nothing.reply) (c.plan_of.ensures.refused first last entry c.in-Nothing.reply is c.in-Nothing.is) success);
    }

pub returns-in-Empty : goal.returns-in-Empty
returns-in-Empty g c =
    let s = g.R.Rows.sheet c.args.rows.now in
    let plan = subst (IsPlan c.args.kind s.tree c.args.call.now c.plan_of.new.path.items) c.in-Empty.is c.plan_of.ensures.plan in
    record {
      height = empty_height (g.R.Rows.sheet c.clear.new.rows).tree c.clear.ensures.root;
      answered = cleared_now c.args.kind s (g.R.Rows.sheet c.plan_of.new.rows) c.args.book.now c.args.number c.args.call.now c.requires.in_call c.plan_of.ensures.rest c.requires.number plan (g.R.Rows.sheet c.clear.new.rows) c.clear.new.book c.requires.unscanned c.clear.ensures.spliced c.clear.ensures.none_taken c.clear.ensures.root;
      search = λ only. absurd (subst (λ (x : Call). OnlySearches x reply.Ok) plan.0 only);
      exact = λ first last entry is over success. (let clash : Clear ≡ Store first last entry = sym plan.0 ∙ is in absurd (cc));
    }

pub returns-in-Ok : goal.returns-in-Ok
returns-in-Ok g c =
    let s = g.R.Rows.sheet c.args.rows.now in
    let plan = subst (IsPlan c.args.kind s.tree c.args.call.now c.plan_of.new.path.items) c.in-Store.is c.plan_of.ensures.plan in
    record {
      height =
          c.height_after.ensures.height
          ∙ sym (ap (λ (t : Rooted). height_in t.table t.root) (same_tree (g.R.Rows.sheet c.store.new.rows) (g.R.Rows.sheet c.height_after.new.rows) c.height_after.ensures.rest));
      answered =
          answered_after_reads c.args.kind s (g.R.Rows.sheet c.plan_of.new.rows) (g.R.Rows.sheet c.height_after.new.rows) c.args.book.now c.store.new.book c.args.call.now c.in-Store.reply c.plan_of.ensures.rest
          (answered_before_reads c.args.kind (g.R.Rows.sheet c.plan_of.new.rows) (g.R.Rows.sheet c.store.new.rows) (g.R.Rows.sheet c.height_after.new.rows) c.args.book.now c.store.new.book c.args.call.now c.in-Store.reply c.height_after.ensures.rest c.in-Ok.ensures.done);
      search = λ only. absurd (store_is_no_search (map_by s.tree) c.args.call.now c.in-Store.write.edit.first c.in-Store.write.edit.last c.in-Store.write.edit.entry c.in-Store.reply plan.own (success_is_not_busy c.in-Store.reply plan.success) only);
      exact =
          stores_exactly s (g.R.Rows.sheet c.plan_of.new.rows) (g.R.Rows.sheet c.store.new.rows) (g.R.Rows.sheet c.height_after.new.rows) c.args.book.now c.store.new.book c.args.call.now c.in-Store.reply c.in-Store.write.edit.first c.in-Store.write.edit.last c.in-Store.write.edit.entry
          c.plan_of.ensures.rest c.height_after.ensures.rest plan.own c.in-Ok.ensures.exact;
    }

pub returns-in-Err : goal.returns-in-Err
returns-in-Err g c =
    let s = g.R.Rows.sheet c.args.rows.now in
    record {
      height =
          subst (λ (t : Rooted). HasHeight t c.args.height.now)
          (sym (refusal_stays c.args.kind (g.R.Rows.sheet c.plan_of.new.rows) (g.R.Rows.sheet c.store.new.rows) c.args.book.now c.store.new.book c.args.call.now (NoNodes c.in-Err.shortage) refl c.in-Err.ensures.short.answer ∙ same_tree s (g.R.Rows.sheet c.plan_of.new.rows) c.plan_of.ensures.rest)) c.requires.height;
      answered = answered_after_reads c.args.kind s (g.R.Rows.sheet c.plan_of.new.rows) (g.R.Rows.sheet c.store.new.rows) c.args.book.now c.store.new.book c.args.call.now (NoNodes c.in-Err.shortage) c.plan_of.ensures.rest c.in-Err.ensures.short;
      search = λ only. absurd (store_is_no_search (map_by s.tree) c.args.call.now c.in-Store.write.edit.first c.in-Store.write.edit.last c.in-Store.write.edit.entry (NoNodes c.in-Err.shortage) (subst (IsPlan c.args.kind s.tree c.args.call.now c.plan_of.new.path.items) c.in-Store.is c.plan_of.ensures.plan).own (shortage_is_not_busy c.in-Err.shortage) only);
      exact = λ first last entry is over success. absurd (not_both true refl success);
    }

-- ---- the height behind a store

pub height_after-requires-clause-tree : goal.height_after-requires-clause-tree
height_after-requires-clause-tree g c = (c.args.kind, tree_if_lawful (g.R.Rows.sheet c.store.new.rows).tree c.args.kind c.in-Ok.ensures.done.ended.idle.state.kept.lawful)

pub height_after-requires-clause-stays : goal.height_after-requires-clause-stays
height_after-requires-clause-stays g c =
    λ old. high_then (g.R.Rows.sheet c.args.rows.now) (g.R.Rows.sheet c.plan_of.new.rows) (g.R.Rows.sheet c.store.new.rows) _ c.requires.height c.plan_of.ensures.rest (c.in-Ok.ensures.height old)
