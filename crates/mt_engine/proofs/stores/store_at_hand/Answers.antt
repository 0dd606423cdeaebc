use Rattle.mt_engine.proofs.Prelude.{List, sym, ap, ◌∙◌, subst, Range, Reply, is_exact_store, Place, MayPublish, Published, map_by, ChangesEntry, IsDoneByStore, SameHeight}
use Rattle.mt_engine.proofs.Answering.{not_both, may_mend, was_way, rows_stored}
use Rattle.mt_engine.proofs.Leaving.{stays_stored}
use Rattle.mt_engine.proofs.Moments.{tree_in_call}
use Rattle.mt_engine.proofs.OneWord.{may_publish_entry, entry_stored, entry_height, changes_entry}
use Rattle.mt_engine.proofs.SameHeight.{height_stays}
use Rattle.mt_engine.proofs.Storing.{no_word_acts, no_word_inexact, new_rows_inexact, one_stands, one_exact, one_handle, one_store, new_rows_replace, may_replace_now}
use Rattle.mt_engine.proofs.stores.store_at_hand.Given.{Over}
use Rattle.mt_engine.proofs.stores.store_at_hand.Goals.{After-publish}
use Rattle.mt_engine.proofs.stores.store_at_hand.Goals as goal

-- ---- by no word

pub returns-in-NoWord-clause-stored : goal.returns-in-NoWord-clause-stored
returns-in-NoWord-clause-stored g c =
    let s = g.R.Rows.sheet c.args.rows.now in
    let tree = tree_in_call c.args.kind s c.args.book.now c.requires.in_call in
    stays_stored c.args.kind s c.args.book.now c.args.event.now.call.now c.args.event.now.reply.now c.requires.in_call (no_word_acts tree c.requires.plan c.in-NoWord.is)

pub returns-in-NoWord-clause-exact : goal.returns-in-NoWord-clause-exact
returns-in-NoWord-clause-exact g c =
    let tree = tree_in_call c.args.kind (g.R.Rows.sheet c.args.rows.now) c.args.book.now c.requires.in_call in
    λ exact. absurd (not_both (is_exact_store (map_by (g.R.Rows.sheet c.args.rows.now).tree) c.args.write.now.edit.first c.args.write.now.edit.last c.args.write.now.edit.entry) exact (no_word_inexact tree c.requires.plan c.in-NoWord.is))

-- ---- by one word

pub place_of-place-requires-clause-at : goal.place_of-place-requires-clause-at
place_of-place-requires-clause-at g c =
    let s = g.R.Rows.sheet c.args.rows.now in
    let tree = tree_in_call c.args.kind s c.args.book.now c.requires.in_call in
    one_handle tree c.requires.plan c.in-OneWord.is

pub publish-requires : goal.publish-requires
publish-requires g c =
    let s = g.R.Rows.sheet c.args.rows.now in
    let tree = tree_in_call c.args.kind s c.args.book.now c.requires.in_call in
    let exact = one_exact tree c.requires.plan c.in-OneWord.is in (
      c.args.kind,
      subst (λ (p : Place). MayPublish c.args.kind s p c.args.write.now.edit.entry c.args.event.now.call.now c.args.event.now.reply.now) (sym c.place_of-place.ensures)
          (may_publish_entry c.args.kind s c.args.book.now c.in-OneWord.at c.args.write.now.edit.entry c.args.event.now.call.now c.args.event.now.reply.now (g.met.R.Rows.whole c.args.rows.now) c.requires.in_call (one_handle tree c.requires.plan c.in-OneWord.is) exact.range exact.some_entry (one_store tree c.requires.plan c.in-OneWord.is)),
    )

-- what the word that was stored did
by_one_word : (g : Over) (c : After-publish g) → let s = g.R.Rows.sheet c.args.rows.now in let s' = g.R.Rows.sheet c.publish.new.self in
    IsDoneByStore c.args.kind s s' c.args.book.now c.args.book.now c.args.event.now.call.now c.args.event.now.reply.now × SameHeight s.tree s'.tree
    × ChangesEntry s.tree s'.tree s.lives s'.lives c.args.book.now c.args.book.now c.args.write.now.edit.first c.args.write.now.edit.entry
by_one_word g c =
    let s = g.R.Rows.sheet c.args.rows.now in
    let s' = g.R.Rows.sheet c.publish.new.self in
    let e = c.args.event.now in
    let entry = c.args.write.now.edit.entry in
    let tree = tree_in_call c.args.kind s c.args.book.now c.requires.in_call in
    let exact = one_exact tree c.requires.plan c.in-OneWord.is in
    let whole = g.met.R.Rows.whole c.args.rows.now in
    let of = one_handle tree c.requires.plan c.in-OneWord.is in
    let store = one_store tree c.requires.plan c.in-OneWord.is in
    let done = subst (λ (p : Place). Published s s' p entry e.call.now e.reply.now) c.place_of-place.ensures c.publish.ensures in (
      entry_stored c.args.kind s c.args.book.now c.in-OneWord.at entry e.call.now e.reply.now whole c.requires.in_call of exact.range exact.some_entry store s' done,
      entry_height c.args.kind s c.args.book.now c.in-OneWord.at entry e.call.now e.reply.now whole c.requires.in_call of exact.range exact.some_entry store s' done,
      changes_entry c.args.kind s c.args.book.now c.in-OneWord.at entry e.call.now e.reply.now whole c.requires.in_call of exact.range exact.some_entry store s' c.args.write.now.edit.first (one_stands tree c.requires.plan c.in-OneWord.is).some done,
    )

pub returns-in-OneWord-clause-stored : goal.returns-in-OneWord-clause-stored
returns-in-OneWord-clause-stored g c = (by_one_word g (goal.at.returns-in-OneWord-clause-stored g c).After-publish).0

pub returns-in-OneWord-clause-exact : goal.returns-in-OneWord-clause-exact
returns-in-OneWord-clause-exact g c = λ _. (by_one_word g (goal.at.returns-in-OneWord-clause-exact g c).After-publish).2

pub returns-in-OneWord-clause-height : goal.returns-in-OneWord-clause-height
returns-in-OneWord-clause-height g c = λ _. (by_one_word g (goal.at.returns-in-OneWord-clause-height g c).After-publish).1

-- ---- by new rows

pub replace_range-spliced-requires : goal.replace_range-spliced-requires
replace_range-spliced-requires g c =
    let s = g.R.Rows.sheet c.args.rows.now in
    let tree = tree_in_call c.args.kind s c.args.book.now c.requires.in_call in
    let replaces = new_rows_replace tree c.requires.plan c.in-NewRows.is in
    may_replace_now c.requires.in_call c.requires.plan c.in-NewRows.is (c.requires.room replaces) c.requires.number

pub mend_at-requires-clause-may : goal.mend_at-requires-clause-may
mend_at-requires-clause-may g c =
    may_mend c.args.kind (g.R.Rows.sheet c.args.rows.now) (g.R.Rows.sheet c.replace_range-spliced.new.rows) c.args.book.now c.replace_range-spliced.new.book c.args.event.now.number c.args.event.now.call.now c.args.event.now.reply.now c.replace_range-spliced.result.place c.args.write.now.edit.first c.args.write.now.edit.last c.requires.in_call c.requires.plan.store.order c.requires.plan.store.within c.replace_range-spliced.ensures.spliced

pub mend_at-requires-clause-was : goal.mend_at-requires-clause-was
mend_at-requires-clause-was g c =
    let s = g.R.Rows.sheet c.args.rows.now in (
      s.tree,
      was_way c.args.kind s (g.R.Rows.sheet c.replace_range-spliced.new.rows) c.args.book.now c.replace_range-spliced.new.book c.args.event.now.number c.args.event.now.call.now c.args.event.now.reply.now c.replace_range-spliced.result.place c.args.write.now.edit.first c.args.write.now.edit.last c.args.path.now.items
          (tree_in_call c.args.kind s c.args.book.now c.requires.in_call) c.requires.plan.way c.replace_range-spliced.ensures.spliced,
    )

pub returns-in-NewRows-clause-stored : goal.returns-in-NewRows-clause-stored
returns-in-NewRows-clause-stored g c =
    let s = g.R.Rows.sheet c.args.rows.now in
    let tree = tree_in_call c.args.kind s c.args.book.now c.requires.in_call in
    let replaces = new_rows_replace tree c.requires.plan c.in-NewRows.is in
    rows_stored c.args.kind s (g.R.Rows.sheet c.replace_range-spliced.new.rows) (g.R.Rows.sheet c.mend_at.new.rows) c.args.book.now c.replace_range-spliced.new.book c.args.event.now.number c.args.event.now.call.now c.args.event.now.reply.now c.replace_range-spliced.result.place c.args.write.now.edit.first c.args.write.now.edit.last
    c.requires.in_call c.requires.number replaces (ap (λ (was : List Range × Reply). was.1) c.requires.plan.store.acts) c.replace_range-spliced.ensures.spliced c.mend_at.ensures

pub returns-in-NewRows-clause-exact : goal.returns-in-NewRows-clause-exact
returns-in-NewRows-clause-exact g c =
    let tree = tree_in_call c.args.kind (g.R.Rows.sheet c.args.rows.now) c.args.book.now c.requires.in_call in
    λ exact. absurd (not_both (is_exact_store (map_by (g.R.Rows.sheet c.args.rows.now).tree) c.args.write.now.edit.first c.args.write.now.edit.last c.args.write.now.edit.entry) exact (new_rows_inexact tree c.requires.plan c.in-NewRows.is))

pub returns-in-NewRows-clause-height : goal.returns-in-NewRows-clause-height
returns-in-NewRows-clause-height g c =
    let s = g.R.Rows.sheet c.args.rows.now in
    λ old.
    c.mend_at.ensures.height
    ∙ height_stays c.args.kind s (g.R.Rows.sheet c.replace_range-spliced.new.rows) c.args.book.now c.replace_range-spliced.new.book c.args.event.now.number c.args.event.now.call.now c.args.event.now.reply.now c.replace_range-spliced.result.place c.args.write.now.edit.first c.args.write.now.edit.last (tree_in_call c.args.kind s c.args.book.now c.requires.in_call) c.replace_range-spliced.ensures.spliced
    (sym c.is_root.ensures ∙ old)
