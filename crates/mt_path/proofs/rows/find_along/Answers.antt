use Rattle.mt_path.proofs.Prelude.{◌≡◌, ℕ, ◌+◌, ◌-◌, ◌<◌, ap, ◌∙◌, arith, Width, slots_of, some_slots_of}
use Rattle.mt_path.proofs.Kept.{word_kept}
use Rattle.mt_path.proofs.Loads.{no_reads, reads_next}
use Rattle.mt_path.proofs.Searches.{found_of, found_at_pivot, found_at_last, none_passed, pass}
use Rattle.mt_path.proofs.rows.find_along.Goals as goal

pub loop-slot-init : goal.loop-slot-init
loop-slot-init g c = let sheet = g.R.Rows.sheet c.args.rows.now in (no_reads sheet, none_passed sheet.tree.table c.args.row c.args.index)

pub returns-then-index-pivot-clause-found : goal.returns-then-index-pivot-clause-found
returns-then-index-pivot-clause-found g c =
    let sheet = g.R.Rows.sheet c.args.rows.now in
    let slot = c.loop-slot.slot in
    let count = c.slots-last_slot.ensures ∙ ap (λ (w : Width). slots_of w c.args.row.kind) c.width.ensures in
    let inner : slot + 1 < slots_of sheet.tree.table.width c.args.row.kind = omega arith in
    found_at_pivot sheet.tree.table c.args.row c.args.index slot c.loop-slot.first c.load-pivot.result c.found_in.result inner
    (word_kept slot sheet (g.R.Rows.sheet c.loop-slot.rows) c.args.row.number (1 + slot) c.load-pivot.result c.loop-slot.invariant.0 c.load-pivot.ensures.word) c.if-index-pivot.true c.loop-slot.invariant.1 c.found_in.ensures

pub loop-slot-preserved : goal.loop-slot-preserved
loop-slot-preserved g c =
    let sheet = g.R.Rows.sheet c.args.rows.now in
    let slot = c.loop-slot.slot in
    let count = c.slots-last_slot.ensures ∙ ap (λ (w : Width). slots_of w c.args.row.kind) c.width.ensures in
    let inner : slot + 1 < slots_of sheet.tree.table.width c.args.row.kind = omega arith in (
      reads_next slot sheet (g.R.Rows.sheet c.loop-slot.rows) (g.R.Rows.sheet c.load-pivot.new.self) c.loop-slot.invariant.0 c.load-pivot.ensures.rest,
      pass sheet.tree.table c.args.row c.args.index slot c.loop-slot.first c.load-pivot.result inner
          (word_kept slot sheet (g.R.Rows.sheet c.loop-slot.rows) c.args.row.number (1 + slot) c.load-pivot.result c.loop-slot.invariant.0 c.load-pivot.ensures.word) c.if-index-pivot.false c.requires.index c.loop-slot.invariant.1,
    )

pub returns-clause-found : goal.returns-clause-found
returns-clause-found g c =
    let sheet = g.R.Rows.sheet c.args.rows.now in
    let count = c.slots-last_slot.ensures ∙ ap (λ (w : Width). slots_of w c.args.row.kind) c.width.ensures in
    let some = some_slots_of sheet.tree.table.width c.args.row.kind in
    let end : c.slots-last_slot.result - 1 ≡ c.loop-slot.slot = omega arith in
    let last : c.loop-slot.slot + 1 ≡ slots_of sheet.tree.table.width c.args.row.kind = omega arith in
    found_at_last sheet.tree.table c.args.row c.args.index c.loop-slot.slot c.loop-slot.first c.found_in-2.result last c.requires.index c.loop-slot.invariant.1
    (c.found_in-2.ensures ∙ ap (λ (slot : ℕ). found_of c.args.row slot c.loop-slot.first c.args.row.max) end)
