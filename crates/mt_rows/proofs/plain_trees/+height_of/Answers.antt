use Rattle.mt_rows.proofs.Prelude.{◌≡◌, ◌+◌, ◌-◌, ◌<◌, ℕ, ap, ◌∙◌, sym, arith, Table, spans_in, height_of, of_first}
use Rattle.mt_rows.proofs.Deeper.{height_of_inner, of_first_at}
use Rattle.mt_rows.proofs.plain_trees.+height_of.Goals as goal

pub returns-in-Some-first : goal.returns-in-Some-first
returns-in-Some-first t c =
    let table : Table = record { width = c.args.width; words = c.args.words.now } in
    let deep : 0 < c.args.depth = omega arith in
    let spans = c.as_slice.ensures.value ∙ c.spans_in-spans.ensures in
    let first = of_first_at (height_of table (c.args.depth - 1)) c.as_slice.result.now c.in-Some-first.child.now c.in-Some-first.ensures.value in
    let below : of_first (height_of table (c.args.depth - 1)) (spans_in table c.args.span.now) ≡ c.height_of.result = ap (of_first (height_of table (c.args.depth - 1))) (sym spans) ∙ (first ∙ sym c.height_of.ensures.height) in
    record {
      height = ap (λ (n : ℕ). 1 + n) (sym below) ∙ sym (height_of_inner table c.args.depth c.args.span.now c.in-Some.kind deep (sym c.in-Some.ensures.kind) c.in_default-kind.not-Leaf);
      low = omega (arith, c.height_of.ensures.low);
    }
