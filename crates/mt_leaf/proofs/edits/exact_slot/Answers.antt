use Rattle.mt_leaf.proofs.Prelude.{sym, ◌∙◌, RiseFrom}
use Rattle.mt_leaf.proofs.ExactSlot.{none_reaches, exact, not_exact}
use Rattle.mt_leaf.proofs.edits.exact_slot.Goals as goal
use Rattle.mt_leaf.proofs.edits.exact_slot.Goals.{After-as_slice-items, else-begin-first-via-then-begin-first+then-item-last+else-item-ne0, else-begin-first-via-then-begin-first+else-item-last, else-begin-first-via-else-begin-first}

rise : (c : After-as_slice-items) → RiseFrom c.args.min c.as_slice-items.result.now
rise c = rw c.as_slice-items.ensures.value c.requires

pub returns-in_err-item : goal.returns-in_err-item
returns-in_err-item c =
    let at = (goal.at.returns-in_err-item c).After-as_slice-items in
    c.from_residual.ensures ∙ rw (sym c.as_slice-items.ensures.value) (sym (none_reaches _ _ _ _ _ (rise at) c.slot_and_first-slot.ensures.slot c.in_err-item.ensures.lookup.3))

pub returns-then-item-ne0 : goal.returns-then-item-ne0
returns-then-item-ne0 c =
    let at = (goal.at.returns-then-item-ne0 c).After-as_slice-items in
    let got = c.in_ok-item.ensures.lookup in
    rw (sym c.as_slice-items.ensures.value)
    (sym (exact _ _ _ _ _ _ _ (rise at) c.slot_and_first-slot.ensures.slot c.slot_and_first-slot.ensures.first got.3.0 got.1 c.if-begin-first.true c.if-item-last.true c.if-item-ne0.true))

pub returns-else-begin-first : goal.returns-else-begin-first
returns-else-begin-first c =
    let at = (goal.at.returns-else-begin-first c).After-as_slice-items in
    let got = c.in_ok-item.ensures.lookup in
    rw (sym c.as_slice-items.ensures.value)
    (sym (not_exact _ _ _ _ _ _ _ (rise at) c.slot_and_first-slot.ensures.slot c.slot_and_first-slot.ensures.first got.3.0 got.1
    (λ from to entry. elim c.else-begin-first.branch [
      | else-begin-first-via-then-begin-first+then-item-last+else-item-ne0 w ↦ entry w.if-item-ne0.false
      | else-begin-first-via-then-begin-first+else-item-last w ↦ w.if-item-last.false to
      | else-begin-first-via-else-begin-first w ↦ w.if-begin-first.false from
    ])))
