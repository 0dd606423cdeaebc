use Rattle.mt_path.proofs.Prelude.{◌<◌, ◌∙◌, ℕ, ap, subst, sym, IsPlace, Names-named_kind, Rooted, column, named_kind, row_in, slot_column, slots_of}
use Rattle.mt_path.proofs.Kept.{tree_kept, width_kept}
use Rattle.mt_path.proofs.SideBySide.{name_there, next_word, place_there, slot_is, slot_low}
use Rattle.mt_path.proofs.batches.word_below.Goals as goal

pub number_of-number-requires : goal.number_of-number-requires
number_of-number-requires g c =
    let t = (g.R.Rows.sheet c.args.rows.now).tree in
    (Names-named_kind c.args.name c.args.kind (ap named_kind c.requires.name ∙ name_there t c.requires.over.tree.0 c.requires.over.tree.1 c.args.depth c.args.kind c.requires.level c.args.index c.requires.index)).0

pub seek_groups-slot-requires-clause-row : goal.seek_groups-slot-requires-clause-row
seek_groups-slot-requires-clause-row g c =
    let t = (g.R.Rows.sheet c.args.rows.now).tree in
    let same = c.number_of-number.ensures ∙ ap row_in c.requires.name in
    subst (λ (n : ℕ). IsPlace t n 0) (sym same) (place_there t c.requires.over.tree.0 c.requires.over.tree.1 c.args.depth c.args.kind c.requires.level c.args.index c.requires.index)

pub word_in-requires-clause-width : goal.word_in-requires-clause-width
word_in-requires-clause-width g c = width_kept 7 _ _ c.args.width c.seek_groups-slot.ensures.reads c.requires.over.wide

pub word_in-requires-clause-row : goal.word_in-requires-clause-row
word_in-requires-clause-row g c =
    let s = g.R.Rows.sheet c.args.rows.now in
    let same = c.number_of-number.ensures ∙ ap row_in c.requires.name in
    let here = subst (λ (n : ℕ). IsPlace s.tree n 0) (sym same) (place_there s.tree c.requires.over.tree.0 c.requires.over.tree.1 c.args.depth c.args.kind c.requires.level c.args.index c.requires.index) in
    subst (λ (t : Rooted). IsPlace t c.number_of-number.result 0) (sym (tree_kept 7 s (g.R.Rows.sheet c.seek_groups-slot.new.rows) c.seek_groups-slot.ensures.reads)) here

pub word_in-requires-clause-slot : goal.word_in-requires-clause-slot
word_in-requires-clause-slot g c =
    let s = g.R.Rows.sheet c.args.rows.now in
    let same = c.number_of-number.ensures ∙ ap row_in c.requires.name in
    let slot = slot_is s.tree c.requires.over.tree.0 c.requires.over.tree.1 c.args.depth c.args.kind c.requires.level c.args.index c.requires.index c.number_of-number.result c.seek_groups-slot.result same c.seek_groups-slot.ensures.slot in
    let low = slot_low s.tree c.requires.over.tree.0 c.requires.over.tree.1 c.args.depth c.args.kind c.requires.level c.args.index c.requires.index c.seek_groups-slot.result slot in
    subst (λ (t : Rooted). c.seek_groups-slot.result < slots_of t.table.width c.args.kind) (sym (tree_kept 7 s (g.R.Rows.sheet c.seek_groups-slot.new.rows) c.seek_groups-slot.ensures.reads)) low

pub returns-clause-word : goal.returns-clause-word
returns-clause-word g c =
    let s = g.R.Rows.sheet c.args.rows.now in
    let kind = c.args.kind in
    let same = c.number_of-number.ensures ∙ ap row_in c.requires.name in
    let slot = slot_is s.tree c.requires.over.tree.0 c.requires.over.tree.1 c.args.depth kind c.requires.level c.args.index c.requires.index c.number_of-number.result c.seek_groups-slot.result same c.seek_groups-slot.ensures.slot in
    c.word_in.ensures.word
    ∙ (ap (λ (t : Rooted). column t.table c.number_of-number.result (slot_column (slots_of t.table.width kind) c.seek_groups-slot.result)) (tree_kept 7 s (g.R.Rows.sheet c.seek_groups-slot.new.rows) c.seek_groups-slot.ensures.reads)
    ∙ (ap (λ (n : ℕ). column s.tree.table n (slot_column (slots_of s.tree.table.width kind) c.seek_groups-slot.result)) same
    ∙ next_word s.tree c.requires.over.tree.0 c.requires.over.tree.1 c.args.depth kind c.requires.level c.args.index c.requires.index c.seek_groups-slot.result slot))
