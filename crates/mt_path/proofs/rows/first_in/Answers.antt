use Rattle.mt_path.proofs.Prelude.{ℕ, ◌+◌, ◌<◌, ◌^◌, ap, ◌∙◌, rules, arith, slots_of-columns}
use Rattle.mt_path.proofs.Kept.{column_place}
use Rattle.mt_path.proofs.Groups.{sought, first_of, first_behind, ends_within, slot_fits}
use Rattle.mt_path.proofs.rows.first_in.Goals as goal

pub returns-then-slot-eq0-clause-first : goal.returns-then-slot-eq0-clause-first
returns-then-slot-eq0-clause-first g c = first_of (g.R.Rows.sheet c.args.rows.now).tree.table c.args.row (sought (g.R.Rows.sheet c.args.rows.now).tree.table c.args.row c.requires.lawful) c.args.slot c.requires.slot (let none = c.if-slot-eq0.true in omega arith)

pub load-before-requires : goal.load-before-requires
load-before-requires g c =
    let t = (g.R.Rows.sheet c.args.rows.now).tree in
    let fits = slot_fits t.table c.args.row (sought t.table c.args.row c.requires.lawful) c.args.slot c.requires.slot in
    column_place t c.args.row.number c.args.slot c.requires.row (omega (arith, slots_of-columns t.table.width c.args.row.kind))

pub overflow_add-result : goal.overflow_add-result
overflow_add-result g c =
    let t = (g.R.Rows.sheet c.args.rows.now).tree.table in
    let some = c.if-slot-eq0.false in
    let is = ap (λ (n : ℕ). n + 1) c.load-before.ensures.word ∙ first_behind t c.args.row (sought t c.args.row c.requires.lawful) c.args.slot c.requires.slot (omega arith) in
    let within = ends_within t c.args.row (sought t c.args.row c.requires.lawful) c.args.slot c.requires.slot in
    let most : c.args.row.max < 2 ^ 64 = search rules in
    omega arith

pub returns-else-slot-eq0-clause-first : goal.returns-else-slot-eq0-clause-first
returns-else-slot-eq0-clause-first g c =
    let t = (g.R.Rows.sheet c.args.rows.now).tree.table in
    let some = c.if-slot-eq0.false in
    ap (λ (n : ℕ). n + 1) c.load-before.ensures.word ∙ first_behind t c.args.row (sought t c.args.row c.requires.lawful) c.args.slot c.requires.slot (omega arith)
