use Rattle.mt_dup.proofs.Prelude.{◌≡◌, ◌≢◌, ◌+◌, ◌-◌, ◌<◌, ◌≤◌, None, length, refl, sym, ap, ◌∙◌, subst, rules, arith, Leaf, named_kind, row_named, sheet_in, rows_whole, Rooted, Pair, next_row, HasTaken, IsWrittenAt, names_from, names_below, MayCopy, LeavesCopy, LeavesChildren, same_tree}
use Rattle.mt_dup.proofs.Names.{names_none}
use Rattle.mt_dup.proofs.WrittenRows.{written_width}
use Rattle.mt_dup.proofs.Going.{Begins, Going, going_loaded, slots_in, none_taken, taken_more, loaded_is, may_child, open_child, room_child, wide_child, going_next}
use Rattle.mt_dup.proofs.RowCopies.{none_copied, length_is, row_place, children_asked, row_copied}
use Rattle.mt_dup.proofs.walks.+walk.Goals as goal

pub copy_children-copy_row-name-requires : goal.copy_children-copy_row-name-requires
copy_children-copy_row-name-requires g t c κs within =
    let s = g.R.Rows.sheet c.args.src.now in
    let s₁ = g.R.Rows.sheet c.loop-slot.src in
    let s₂ = g.R.Rows.sheet c.load.new.self in
    let d = sheet_in c.args.dst.now in
    let d₁ = sheet_in c.loop-slot.dst in
    let b = c.args.book.now in
    let b₁ = c.loop-slot.book in
    let pair = c.args.pair in
    let depth = c.args.depth in
    let slot = c.loop-slot.slot in
    let inner : pair.kind ≢ Leaf = search rules in
    let size : c.slots-slots.result ≡ slots_in s pair = search rules in
    let inside : slot < slots_in s pair = subst (λ n. slot < n) size (search rules) in
    let begins : Begins s d b pair depth = record { whole = g.met.R.Rows.whole c.args.src.now; new_whole = rows_whole c.args.dst.now; inner = inner; may = c.requires.may; unused = c.requires.open; room = c.requires.room; to = c.requires.to; first = c.requires.first; draft = c.requires.draft; width = c.requires.width } in
    let going : Going s s₂ d d₁ b b₁ pair depth slot c.args.steps.now c.loop-slot.steps = going_loaded s s₁ s₂ d d₁ b b₁ pair depth slot c.args.steps.now c.loop-slot.steps c.loop-slot.invariant c.load.ensures.rest in
    let word = loaded_is s d b pair depth begins s₁ d₁ b₁ slot c.args.steps.now c.loop-slot.steps c.loop-slot.invariant inside s₂ c.load.result c.slots-slots.result c.load.ensures.rest size c.load.ensures.word in
    let deep = c.requires.may.deep in
    let falls = c.decreases in (
      omega arith,
      (
        within.0,
        (
          within.1,
          (
            subst (MayCopy s₂.tree (depth - 1)) (sym word) (may_child s d b pair depth begins s₂ d₁ b₁ slot c.args.steps.now c.loop-slot.steps going inside),
            (
              open_child s d b pair depth begins s₂ d₁ b₁ slot c.args.steps.now c.loop-slot.steps going inside,
              (
                subst (λ n. length (names_from s₂.tree.table (depth - 1) n) ≤ length b₁.free) (sym word) (room_child s d b pair depth begins s₂ d₁ b₁ slot c.args.steps.now c.loop-slot.steps going inside),
                wide_child s d b pair depth begins s₂ d₁ b₁ slot c.args.steps.now c.loop-slot.steps going inside,
              ),
            ),
          ),
        ),
      ),
    )

pub copy_children-loop-slot-preserved : goal.copy_children-loop-slot-preserved
copy_children-loop-slot-preserved g t c =
    let s = g.R.Rows.sheet c.args.src.now in
    let s₁ = g.R.Rows.sheet c.loop-slot.src in
    let s₂ = g.R.Rows.sheet c.load.new.self in
    let d = sheet_in c.args.dst.now in
    let d₁ = sheet_in c.loop-slot.dst in
    let d₂ = sheet_in c.copy_row-name.new.dst in
    let d₃ = sheet_in c.write.new.rows in
    let b = c.args.book.now in
    let b₁ = c.loop-slot.book in
    let pair = c.args.pair in
    let depth = c.args.depth in
    let slot = c.loop-slot.slot in
    let inner : pair.kind ≢ Leaf = search rules in
    let size : c.slots-slots.result ≡ slots_in s pair = search rules in
    let inside : slot < slots_in s pair = subst (λ n. slot < n) size (search rules) in
    let begins : Begins s d b pair depth = record { whole = g.met.R.Rows.whole c.args.src.now; new_whole = rows_whole c.args.dst.now; inner = inner; may = c.requires.may; unused = c.requires.open; room = c.requires.room; to = c.requires.to; first = c.requires.first; draft = c.requires.draft; width = c.requires.width } in
    let going : Going s s₂ d d₁ b b₁ pair depth slot c.args.steps.now c.loop-slot.steps = going_loaded s s₁ s₂ d d₁ b b₁ pair depth slot c.args.steps.now c.loop-slot.steps c.loop-slot.invariant c.load.ensures.rest in
    let word = loaded_is s d b pair depth begins s₁ d₁ b₁ slot c.args.steps.now c.loop-slot.steps c.loop-slot.invariant inside s₂ c.load.result c.slots-slots.result c.load.ensures.rest size c.load.ensures.word in
    let here : IsWrittenAt pair.to (slots_in s pair + slot) c.copy_row-name.result d₂.tree.table d₃.tree.table = subst (λ n. IsWrittenAt pair.to (n + slot) c.copy_row-name.result d₂.tree.table d₃.tree.table) size c.write.ensures.column in
    going_next s d b pair depth begins s₂ d₁ b₁ slot c.args.steps.now c.loop-slot.steps going inside (g.R.Rows.sheet c.copy_row-name.new.src) d₂ c.copy_row-name.new.book c.copy_row-name.new.steps c.load.result c.parent_word.result c.copy_row-name.result word c.parent_word.ensures
    c.copy_row-name.ensures.rest c.copy_row-name.ensures.copy c.copy_row-name.ensures.taken c.copy_row-name.ensures.written c.copy_row-name.ensures.steps d₃ c.write.ensures.written here

pub copy_row-returns-in_default-clause-copy : goal.copy_row-returns-in_default-clause-copy
copy_row-returns-in_default-clause-copy g t c =
    let none : named_kind c.args.way.word ≡ None = search rules in
    none_copied (g.R.Rows.sheet c.args.src.now).tree.table (sheet_in c.args.dst.now).tree.table (next_row c.args.book.now) c.args.way (g.R.Rows.sheet c.args.src.now).tree none c.requires.may

pub copy_row-returns-in_default-clause-taken : goal.copy_row-returns-in_default-clause-taken
copy_row-returns-in_default-clause-taken g t c =
    let none : named_kind c.args.way.word ≡ None = search rules in
    let empty = names_none (g.R.Rows.sheet c.args.src.now).tree.table c.args.way.depth c.args.way.word none in
    rw empty (none_taken c.args.book.now c.requires.open.filling)

pub copy_row-returns-in_default-clause-steps : goal.copy_row-returns-in_default-clause-steps
copy_row-returns-in_default-clause-steps g t c =
    let none : named_kind c.args.way.word ≡ None = search rules in
    let empty = names_none (g.R.Rows.sheet c.args.src.now).tree.table c.args.way.depth c.args.way.word none in
    rw empty (omega arith)

pub copy_row-take_next-requires-clause-some : goal.copy_row-take_next-requires-clause-some
copy_row-take_next-requires-clause-some g t c =
    let s = g.R.Rows.sheet c.args.src.now in
    let pair : Pair = record { kind = c.in-Some.kind; row = c.in-Some-row_of.row; to = next_row c.args.book.now } in
    let row = row_named c.args.way.word c.in-Some-row_of.row c.in-Some.kind c.in-Some-row_of.ensures.row c.in-Some.ensures.kind in
    let room = c.requires.room in
    omega (arith, length_is s c.args.book.now c.args.way pair (g.met.R.Rows.whole c.args.src.now) (sym c.in-Some.ensures.kind) row refl c.requires.may)

pub copy_row-copy_own-requires-clause-row : goal.copy_row-copy_own-requires-clause-row
copy_row-copy_own-requires-clause-row g t c =
    let s = g.R.Rows.sheet c.args.src.now in
    let pair : Pair = record { kind = c.in-Some.kind; row = c.in-Some-row_of.row; to = c.take_next.result } in
    let row = row_named c.args.way.word c.in-Some-row_of.row c.in-Some.kind c.in-Some-row_of.ensures.row c.in-Some.ensures.kind in
    row_place s c.args.book.now c.args.way pair (g.met.R.Rows.whole c.args.src.now) (sym c.in-Some.ensures.kind) row c.take_next.ensures.row c.requires.may

pub copy_row-copy_children-requires : goal.copy_row-copy_children-requires
copy_row-copy_children-requires g t c κs within =
    let s = g.R.Rows.sheet c.args.src.now in
    let pair : Pair = record { kind = c.in-Some.kind; row = c.in-Some-row_of.row; to = c.take_next.result } in
    let row = row_named c.args.way.word c.in-Some-row_of.row c.in-Some.kind c.in-Some-row_of.ensures.row c.in-Some.ensures.kind in
    let falls = c.decreases in (
      omega arith,
      (
        within.0,
        (
          within.1,
          children_asked s c.args.book.now c.args.way pair (g.met.R.Rows.whole c.args.src.now) (sym c.in-Some.ensures.kind) row c.take_next.ensures.row c.requires.may
              (g.R.Rows.sheet c.copy_own.new.src) (sheet_in c.args.dst.now) (sheet_in c.copy_own.new.dst) c.take_next.new.book c.copy_own.ensures.rest c.requires.open c.take_next.ensures.taken c.copy_own.ensures.written c.requires.room c.requires.width,
        ),
      ),
    )

pub copy_row-returns-clause-copy : goal.copy_row-returns-clause-copy
copy_row-returns-clause-copy g t c =
    let s = g.R.Rows.sheet c.args.src.now in
    let s₁ = g.R.Rows.sheet c.copy_own.new.src in
    let d₂ = sheet_in c.copy_children.new.dst in
    let pair : Pair = record { kind = c.in-Some.kind; row = c.in-Some-row_of.row; to = c.take_next.result } in
    let row = row_named c.args.way.word c.in-Some-row_of.row c.in-Some.kind c.in-Some-row_of.ensures.row c.in-Some.ensures.kind in
    let children : LeavesChildren s.tree.table d₂.tree.table (next_row c.take_next.new.book) c.args.way.depth pair =
    subst (λ (r : Rooted). LeavesChildren r.table d₂.tree.table (next_row c.take_next.new.book) c.args.way.depth pair) (same_tree s s₁ c.copy_own.ensures.rest) c.copy_children.ensures.children in
    let d₁ = sheet_in c.copy_own.new.dst in
    let wide₁ : d₁.tree.table.width ≡ s.tree.table.width = written_width pair.to (pair.to + 1) (sheet_in c.args.dst.now) d₁ c.copy_own.ensures.written ∙ c.requires.width in
    let wide₂ : d₂.tree.table.width ≡ s.tree.table.width = written_width pair.to (next_row c.copy_children.new.book) d₁ d₂ c.copy_children.ensures.written ∙ wide₁ in
    subst (LeavesCopy s.tree.table d₂.tree.table (next_row c.args.book.now) c.args.way) (sym (c.word.ensures.word ∙ c.name_of.ensures))
    (row_copied s c.args.book.now c.args.way pair (g.met.R.Rows.whole c.args.src.now) (sym c.in-Some.ensures.kind) row c.take_next.ensures.row c.requires.may
    (sheet_in c.args.dst.now) (sheet_in c.copy_own.new.dst) d₂ c.take_next.new.book c.copy_children.new.book c.requires.open c.take_next.ensures.taken c.copy_own.ensures.own children c.copy_children.ensures.own wide₁ wide₂)

pub copy_row-returns-clause-taken : goal.copy_row-returns-clause-taken
copy_row-returns-clause-taken g t c =
    let s = g.R.Rows.sheet c.args.src.now in
    let s₁ = g.R.Rows.sheet c.copy_own.new.src in
    let pair : Pair = record { kind = c.in-Some.kind; row = c.in-Some-row_of.row; to = c.take_next.result } in
    let row = row_named c.args.way.word c.in-Some-row_of.row c.in-Some.kind c.in-Some-row_of.ensures.row c.in-Some.ensures.kind in
    let below : HasTaken (length (names_below s.tree.table c.args.way.depth pair)) c.take_next.new.book c.copy_children.new.book =
    subst (λ (r : Rooted). HasTaken (length (names_below r.table c.args.way.depth pair)) c.take_next.new.book c.copy_children.new.book) (same_tree s s₁ c.copy_own.ensures.rest) c.copy_children.ensures.taken in
    taken_more 1 (length (names_below s.tree.table c.args.way.depth pair)) (length (names_from s.tree.table c.args.way.depth c.args.way.word)) c.args.book.now c.take_next.new.book c.copy_children.new.book
    (length_is s c.args.book.now c.args.way pair (g.met.R.Rows.whole c.args.src.now) (sym c.in-Some.ensures.kind) row c.take_next.ensures.row c.requires.may) c.take_next.ensures.taken below

pub copy_row-returns-clause-steps : goal.copy_row-returns-clause-steps
copy_row-returns-clause-steps g t c =
    let s = g.R.Rows.sheet c.args.src.now in
    let s₁ = g.R.Rows.sheet c.copy_own.new.src in
    let pair : Pair = record { kind = c.in-Some.kind; row = c.in-Some-row_of.row; to = c.take_next.result } in
    let row = row_named c.args.way.word c.in-Some-row_of.row c.in-Some.kind c.in-Some-row_of.ensures.row c.in-Some.ensures.kind in
    let below = ap (λ (r : Rooted). c.tick.new.self + length (names_below r.table c.args.way.depth pair)) (same_tree s s₁ c.copy_own.ensures.rest) in
    omega (arith, c.copy_children.ensures.steps, below, c.tick.ensures, length_is s c.args.book.now c.args.way pair (g.met.R.Rows.whole c.args.src.now) (sym c.in-Some.ensures.kind) row c.take_next.ensures.row c.requires.may)
