use Rattle.mt_read.proofs.Prelude.{◌≡◌, ℕ, ◌+◌, ◌∙◌, ap, refl, arith, kind_width, greatest_fits, slots_of, least-below-slots, copy_of, row_at, first_behind, ends_within, slot_fits, column, here, kind_of, part_of, row_here}
use Rattle.mt_read.proofs.Finding.{is_sought, count_is}
use Rattle.mt_read.proofs.seeks.first_in.Goals as goal

pub load_in-before-requires-clause-pivot : goal.load_in-before-requires-clause-pivot
load_in-before-requires-clause-pivot g c =
    let q = part_of c.args.pass.now in
    let x = here q in
    let on = c.requires.on in
    let row = row_here q c.args.spot in
    let fits = slot_fits (copy_of x) (row_at x.row (kind_of q x) x.extent.first x.extent.last) (is_sought q row on) c.args.slot c.requires.slot in
    let count = count_is q row on (slots_of c.args.spot.width c.args.spot.kind) refl in
    let most = c.max.ensures in
    omega (arith, least-below-slots c.args.spot.width c.args.spot.kind)

pub overflow_add-result : goal.overflow_add-result
overflow_add-result g c =
    let q = part_of c.args.pass.now in
    let x = here q in
    let on = c.requires.on in
    let t = copy_of x in
    let row = row_at x.row (kind_of q x) x.extent.first x.extent.last in
    let law = is_sought q (row_here q c.args.spot) on in
    let some = c.if-slot-eq0.false in let most = c.max.ensures in
    let same : c.max.result ≡ c.args.slot = omega arith in
    let is = ap (λ (n : ℕ). n + 1) (c.load_in-before.ensures.word ∙ ap (column t x.row) same) ∙ first_behind t row law c.args.slot c.requires.slot (omega arith) in
    let within = ends_within t row law c.args.slot c.requires.slot in
    let top = on.within in
    omega (arith, greatest_fits (kind_width q.shape.kind))

pub returns-else-slot-eq0-clause-first : goal.returns-else-slot-eq0-clause-first
returns-else-slot-eq0-clause-first g c =
    let q = part_of c.args.pass.now in
    let x = here q in
    let some = c.if-slot-eq0.false in let most = c.max.ensures in
    let same : c.max.result ≡ c.args.slot = omega arith in
    ap (λ (n : ℕ). n + 1) (c.load_in-before.ensures.word ∙ ap (column (copy_of x) x.row) same)
    ∙ first_behind (copy_of x) (row_at x.row (kind_of q x) x.extent.first x.extent.last) (is_sought q (row_here q c.args.spot) c.requires.on) c.args.slot c.requires.slot (omega arith)
