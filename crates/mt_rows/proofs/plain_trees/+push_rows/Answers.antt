use Rattle.mt_rows.proofs.Prelude.{◌≡◌, ◌++◌, ◌∷◌, [], ℕ, List, ap, ◌∙◌, sym, take, ◌-◌, ◌<◌, arith, append_assoc, flat_map, take_all, row_in, Table, rows_of}
use Rattle.mt_rows.proofs.Deeper.{rows_of_inner, row_named}
use Rattle.mt_rows.proofs.plain_trees.+push_rows.Goals as goal

pub returns-after-loop-child : goal.returns-after-loop-child
returns-after-loop-child t c =
    let table : Table = record { width = c.args.width; words = c.args.words.now } in
    let all = take_all c.loop-child.child-index c.as_slice-child-items.result.now c.loop-child-test.false ∙ (c.as_slice-child-items.ensures.value ∙ c.spans_in-spans.ensures) in
    let deep : 0 < c.args.depth = omega arith in
    let below : List ℕ = flat_map (rows_of table (c.args.depth - 1)) (take c.loop-child.child-index c.as_slice-child-items.result.now) in
    let row : c.in-Some-Some.row ≡ row_in c.args.span.now.word = row_named c.args.span.now.word c.in-Some-Some.row c.in-Some-Some.kind c.in-Some-Some.ensures.row (c.in-Some-Some.ensures'.kind) in
    c.loop-child.invariant
    ∙ (ap (λ (l : List ℕ). l ++ below) c.in_ok-push.ensures.items
    ∙ (append_assoc c.args.rows.now.items (c.in-Some-Some.row ∷ []) below
    ∙ ap (λ (l : List ℕ). c.args.rows.now.items ++ l)
    ((λ i. row i ∷ flat_map (rows_of table (c.args.depth - 1)) (all i))
    ∙ sym (rows_of_inner table c.args.depth c.args.span.now c.in-Some-Some.kind deep (sym c.in-Some-Some.ensures'.kind) c.in_default-kind.not-Leaf))))
