use Rattle.mt_gap.proofs.Prelude.{◌≡◌, ◌≢◌, ◌<◌, None, List, length, sym, ap, ◌∙◌, subst, arith, slice_index_or, PathStep, step_at, Gapped, named_kind, IsPlace, row_spans, Child, MayMend, IsMended}
use Rattle.mt_gap.proofs.ChildLists.{no_child}
use Rattle.mt_gap.proofs.MendGaps.{above, above_place, still_mended, children_are, child_named, may_mend_child, child_mended, children_stay, children_mended, step_to}
use Rattle.mt_gap.proofs.mends.mend_row.Given.{Over}
use Rattle.mt_gap.proofs.mends.mend_row.Goals.{In-loop-slot, After-step_into}
use Rattle.mt_gap.proofs.mends.mend_row.Goals as goal

pub bounds-deref-level : goal.bounds-deref-level
bounds-deref-level g c =
    let low = above c.requires.mends.0 (g.R.Rows.sheet c.args.rows.now) c.args.path.now.items c.args.kind c.args.level 0 c.requires.mends.1 (g.met.R.Rows.whole c.args.rows.now) in
    subst (λ (l : List PathStep). c.args.level < length l) (sym c.deref.ensures.0) (omega arith)

pub load_children-children-requires : goal.load_children-children-requires
load_children-children-requires g c = record {
  row = subst (λ (l : List PathStep). IsPlace (g.R.Rows.sheet c.args.rows.now).tree (step_at l c.args.level).row 0) (sym c.deref.ensures.0)
      (above_place c.requires.mends.0 (g.R.Rows.sheet c.args.rows.now) c.args.path.now.items c.args.kind c.args.level 0 c.requires.mends.1 (g.met.R.Rows.whole c.args.rows.now));
}

pub loop-slot-init : goal.loop-slot-init
loop-slot-init g c = (
  (λ before m. still_mended before (g.R.Rows.sheet c.args.rows.now) (g.R.Rows.sheet c.load_children-children.new.rows) c.args.path.now.items c.args.kind _ 0 c.load_children-children.ensures.reads.rest m),
  children_are (g.R.Rows.sheet c.args.rows.now) (g.R.Rows.sheet c.load_children-children.new.rows) (step_at c.deref.result.now c.args.level) c.load_children-children.result.items
      c.load_children-children.ensures.reads.rest c.load_children-children.ensures.items,
)

-- there is a child in this slot
more_slots : (g : Over) (c : In-loop-slot g) → c.loop-slot.slot < length c.load_children-children.result.items
more_slots g c = omega (arith, c.loop-slot-test.true, c.len-slot-end.ensures.value)

-- the step into it
below_is : (g : Over) (c : After-step_into g) → c.step_into.result ≡ step_to (slice_index_or c.load_children-children.result.items c.loop-slot.slot no_child).span
below_is g c = c.step_into.ensures ∙ ap (λ (ys : List Child). step_to (slice_index_or ys c.loop-slot.slot no_child).span) c.deref-in-loop-slot.ensures.0

pub step_into-requires : goal.step_into-requires
step_into-requires g c =
    let s = g.R.Rows.sheet c.loop-slot.rows in
    let xs = c.load_children-children.result.items in
    let is = c.loop-slot.invariant.1 ∙ ap (λ (l : List PathStep). row_spans s.tree.table (step_at l c.args.level).row Gapped (step_at l c.args.level).min (step_at l c.args.level).max) c.deref.ensures.0 in
    record {
      named = subst (λ (ys : List Child). named_kind (slice_index_or ys c.loop-slot.slot no_child).span.word ≢ None) (sym c.deref-in-loop-slot.ensures.0)
          (child_named c.requires.mends.0 s c.args.path.now.items c.args.kind c.args.level c.loop-slot.slot (c.loop-slot.invariant.0 c.requires.mends.0 c.requires.mends.1) (g.met.R.Rows.whole c.loop-slot.rows) xs is (more_slots g (goal.at.step_into-requires g c).In-loop-slot));
    }

pub mend_slot-requires : goal.mend_slot-requires
mend_slot-requires g c =
    let s = g.R.Rows.sheet c.loop-slot.rows in
    let xs = c.load_children-children.result.items in
    let is = c.loop-slot.invariant.1 ∙ ap (λ (l : List PathStep). row_spans s.tree.table (step_at l c.args.level).row Gapped (step_at l c.args.level).min (step_at l c.args.level).max) c.deref.ensures.0 in
    let below = below_is g (goal.at.mend_slot-requires g c).After-step_into in
    subst (λ (p : List PathStep × PathStep). MayMend s c.args.kind (record { row = (step_at p.0 c.args.level).row; slot = c.loop-slot.slot; min = (step_at p.0 c.args.level).min; max = (step_at p.0 c.args.level).max }) p.1)
    (λ i. (sym c.deref.ensures.0 i, sym below i))
    (may_mend_child c.requires.mends.0 s c.args.path.now.items c.args.kind c.args.level c.loop-slot.slot (c.loop-slot.invariant.0 c.requires.mends.0 c.requires.mends.1) (g.met.R.Rows.whole c.loop-slot.rows) xs is (more_slots g (goal.at.mend_slot-requires g c).In-loop-slot))

pub loop-slot-preserved : goal.loop-slot-preserved
loop-slot-preserved g c =
    let s = g.R.Rows.sheet c.loop-slot.rows in
    let s' = g.R.Rows.sheet c.mend_slot.new.rows in
    let xs = c.load_children-children.result.items in
    let is = c.loop-slot.invariant.1 ∙ ap (λ (l : List PathStep). row_spans s.tree.table (step_at l c.args.level).row Gapped (step_at l c.args.level).min (step_at l c.args.level).max) c.deref.ensures.0 in
    let more = more_slots g (goal.at.loop-slot-preserved g c).In-loop-slot in
    let below = below_is g (goal.at.loop-slot-preserved g c).After-step_into in
    let mended =
    subst (λ (p : List PathStep × PathStep). IsMended s s' c.args.kind (record { row = (step_at p.0 c.args.level).row; slot = c.loop-slot.slot; min = (step_at p.0 c.args.level).min; max = (step_at p.0 c.args.level).max }) p.1)
    (λ i. (c.deref.ensures.0 i, below i)) c.mend_slot.ensures in (
      (λ before m. child_mended before s c.args.path.now.items c.args.kind c.args.level c.loop-slot.slot (c.loop-slot.invariant.0 before m) (g.met.R.Rows.whole c.loop-slot.rows) xs is more s' mended),
      children_stay c.requires.mends.0 s c.args.path.now.items c.args.kind c.args.level c.loop-slot.slot (c.loop-slot.invariant.0 c.requires.mends.0 c.requires.mends.1) (g.met.R.Rows.whole c.loop-slot.rows) xs is more s' mended
          ∙ sym (ap (λ (l : List PathStep). row_spans s'.tree.table (step_at l c.args.level).row Gapped (step_at l c.args.level).min (step_at l c.args.level).max) c.deref.ensures.0),
    )

pub returns : goal.returns
returns g c =
    let s = g.R.Rows.sheet c.loop-slot.rows in
    let xs = c.load_children-children.result.items in
    let is = c.loop-slot.invariant.1 ∙ ap (λ (l : List PathStep). row_spans s.tree.table (step_at l c.args.level).row Gapped (step_at l c.args.level).min (step_at l c.args.level).max) c.deref.ensures.0 in
    let test = c.loop-slot-test.false in
    let many = c.len-slot-end.ensures.value in
    record { mends = λ before m. children_mended before s c.args.path.now.items c.args.kind c.args.level c.loop-slot.slot (c.loop-slot.invariant.0 before m) (g.met.R.Rows.whole c.loop-slot.rows) xs is (omega arith) }
