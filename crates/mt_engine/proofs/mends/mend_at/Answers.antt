use Rattle.mt_engine.proofs.Prelude.{◌≡◌, ◌-◌, ◌<◌, length, true, false, refl, sym, ◌∙◌, subst, Width, finds_room, Gapped, slots_of, step_at, IsPlaceOfLeaf, IsToldWay}
use Rattle.mt_engine.proofs.LeafReplaced.{above_slot}
use Rattle.mt_engine.proofs.LeafTold.{told_way}
use Rattle.mt_engine.proofs.Mended.{none_to_mend, mended}
use Rattle.mt_engine.proofs.mends.mend_at.Given.{Over}
use Rattle.mt_engine.proofs.mends.mend_at.Goals.{After-width, Then-is_of_leaf}
use Rattle.mt_engine.proofs.mends.mend_at.Goals as goal

-- the tree has gaps
has_gaps : (g : Over) (c : After-width g) → finds_room c.args.kind ≡ true
has_gaps g c = sym c.finds_room.ensures ∙ c.if-not-finds_room.false

-- the way that the path leads, where its leaf alone was replaced
told : (g : Over) (c : Then-is_of_leaf g) → IsToldWay (finds_room c.args.kind) (g.R.Rows.sheet c.args.rows.now) c.args.path.now.items c.args.spliced.now.gap
told g c =
    let room : finds_room c.args.kind ≡ true = sym c.finds_room.ensures ∙ c.if-not-finds_room.false in
    let of_leaf = subst (λ (w : Width). IsPlaceOfLeaf w c.args.spliced.now.place c.args.path.now.items) c.width.ensures (c.is_of_leaf.ensures c.if-is_of_leaf.true) in
    told_way c.args.kind room c.requires.was.0 (g.R.Rows.sheet c.args.rows.now) c.args.spliced.now.place c.args.path.now.items c.args.index c.args.spliced.now.gap c.requires.was.1 c.requires.may of_leaf c.requires.told

pub returns-then-not-finds_room : goal.returns-then-not-finds_room
returns-then-not-finds_room g c =
    let plain : finds_room c.args.kind ≡ false = sym c.finds_room.ensures ∙ c.if-not-finds_room.true in
    none_to_mend c.args.kind (g.R.Rows.sheet c.args.rows.now) c.args.index plain c.requires.may

pub is_of_leaf-requires : goal.is_of_leaf-requires
is_of_leaf-requires g c =
    let room = has_gaps g (goal.at.is_of_leaf-requires g c).After-width in
    record {
      slot = λ many. subst (λ (w : Width). (step_at c.args.path.now.items (length c.args.path.now.items - 2)).slot < slots_of w Gapped) (sym c.width.ensures)
          (above_slot c.args.kind room c.requires.was.0 (g.R.Rows.sheet c.args.rows.now).tree c.args.spliced.now.place c.args.path.now.items c.args.index c.requires.was.1 c.requires.may.tree c.requires.may.within many);
    }

pub mend_along-requires : goal.mend_along-requires
mend_along-requires g c = record { way = (finds_room c.args.kind, told g (goal.at.mend_along-requires g c).Then-is_of_leaf) }

pub returns-then-is_of_leaf : goal.returns-then-is_of_leaf
returns-then-is_of_leaf g c =
    let s = g.R.Rows.sheet c.args.rows.now in
    let s' = g.R.Rows.sheet c.mend_along.new.rows in
    let way = told g (goal.at.returns-then-is_of_leaf g c).Then-is_of_leaf in
    mended c.args.kind s s s' c.args.path.now.items c.args.index c.requires.may refl c.mend_along.ensures.rest (c.mend_along.ensures.gaps (finds_room c.args.kind) way) c.mend_along.ensures.words (λ h stands. c.mend_along.ensures.spans (finds_room c.args.kind) h stands)

pub mend_walked-requires : goal.mend_walked-requires
mend_walked-requires g c = (c.args.kind, c.requires.may)

pub returns-else-is_of_leaf : goal.returns-else-is_of_leaf
returns-else-is_of_leaf g c = c.mend_walked.ensures c.args.kind c.requires.may
