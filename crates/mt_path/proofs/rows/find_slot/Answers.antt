use Rattle.mt_path.proofs.Prelude.{◌+◌, ◌<◌, length, ap, ◌∙◌, sym, subst, arith, le-max_left, Rooted, loads_at, span_at, spans_of}
use Rattle.mt_path.proofs.Kept.{tree_kept, width_kept}
use Rattle.mt_path.proofs.Loads.{reads_more, reads_up}
use Rattle.mt_path.proofs.Groups.{sought, here_used, found_here}
use Rattle.mt_path.proofs.rows.find_slot.Goals as goal

pub first_in-first-requires-clause-slot : goal.first_in-first-requires-clause-slot
first_in-first-requires-clause-slot g c =
    let s = g.R.Rows.sheet c.args.rows.now in
    let s₁ = g.R.Rows.sheet c.seek-slot.new.rows in
    let used = here_used s.tree.table c.args.row (sought s.tree.table c.args.row c.requires.lawful) c.args.index c.requires.reaches in
    let slot = c.seek-slot.ensures.slot in
    subst (λ (t : Rooted). c.seek-slot.result < length (spans_of t.table c.args.row)) (sym (tree_kept 11 s s₁ c.seek-slot.ensures.reads)) (omega arith)

pub last_in-last-requires-clause-width : goal.last_in-last-requires-clause-width
last_in-last-requires-clause-width g c =
    let s = g.R.Rows.sheet c.args.rows.now in
    let s₁ = g.R.Rows.sheet c.seek-slot.new.rows in
    let s₂ = g.R.Rows.sheet c.first_in-first.new.rows in
    width_kept 12 s s₂ c.args.width (reads_more 11 1 s s₁ s₂ c.seek-slot.ensures.reads c.first_in-first.ensures.reads) c.requires.wide

pub last_in-last-requires-clause-slot : goal.last_in-last-requires-clause-slot
last_in-last-requires-clause-slot g c =
    let s = g.R.Rows.sheet c.args.rows.now in
    let s₁ = g.R.Rows.sheet c.seek-slot.new.rows in
    let s₂ = g.R.Rows.sheet c.first_in-first.new.rows in
    let used = here_used s.tree.table c.args.row (sought s.tree.table c.args.row c.requires.lawful) c.args.index c.requires.reaches in
    let slot = c.seek-slot.ensures.slot in
    subst (λ (t : Rooted). c.seek-slot.result < length (spans_of t.table c.args.row)) (sym (tree_kept 12 s s₂ (reads_more 11 1 s s₁ s₂ c.seek-slot.ensures.reads c.first_in-first.ensures.reads))) (omega arith)

pub returns-clause-found : goal.returns-clause-found
returns-clause-found g c =
    let s = g.R.Rows.sheet c.args.rows.now in
    let s₁ = g.R.Rows.sheet c.seek-slot.new.rows in
    let s₂ = g.R.Rows.sheet c.first_in-first.new.rows in
    let k₁ = tree_kept 11 s s₁ c.seek-slot.ensures.reads in
    let k₂ = tree_kept 12 s s₂ (reads_more 11 1 s s₁ s₂ c.seek-slot.ensures.reads c.first_in-first.ensures.reads) in
    let slot = c.seek-slot.result in
    found_here s.tree.table c.args.row (sought s.tree.table c.args.row c.requires.lawful) c.args.index c.requires.reaches slot c.first_in-first.result c.last_in-last.result c.found_in.result c.seek-slot.ensures.slot
    (c.first_in-first.ensures.first ∙ ap (λ (t : Rooted). (span_at (spans_of t.table c.args.row) slot).first) k₁)
    (c.last_in-last.ensures.last ∙ ap (λ (t : Rooted). (span_at (spans_of t.table c.args.row) slot).last) k₂)
    c.found_in.ensures

pub returns-clause-reads : goal.returns-clause-reads
returns-clause-reads g c =
    let s = g.R.Rows.sheet c.args.rows.now in
    let s₁ = g.R.Rows.sheet c.seek-slot.new.rows in
    let s₂ = g.R.Rows.sheet c.first_in-first.new.rows in
    let s₃ = g.R.Rows.sheet c.last_in-last.new.rows in
    reads_up 13 (loads_at c.found_in.result.step) s s₃ (le-max_left 13 (c.found_in.result.step.slot + 1))
    (reads_more 12 1 s s₂ s₃ (reads_more 11 1 s s₁ s₂ c.seek-slot.ensures.reads c.first_in-first.ensures.reads) c.last_in-last.ensures.reads)
