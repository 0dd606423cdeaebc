use Rattle.mt_draw.proofs.Prelude.{◌≡◌, ◌++◌, ◌∷◌, [], List, ap, ◌∙◌, sym, take, ◌-◌, ◌+◌, ◌<◌, arith, append_assoc, flat_map, take_all, row_in, Table, row_named, Node, nodes_of}
use Rattle.mt_draw.proofs.Walks.{nodes_of_inner}
use Rattle.mt_draw.proofs.trees.+push_nodes.Goals as goal

pub returns-after-loop-child : goal.returns-after-loop-child
returns-after-loop-child t c =
    let table : Table = record { width = c.args.width; words = c.args.words.now } in
    let all = take_all c.loop-child.child-index c.as_slice-child-items.result.now c.loop-child-test.false ∙ (c.as_slice-child-items.ensures.value ∙ c.spans_in-spans.ensures) in
    let deep : 0 < c.args.levels = omega arith in
    let node : Node = record { span = c.args.span.now; row = c.in-Some-Some.row; kind = c.in-Some-Some.kind; depth = c.args.depth } in
    let below : List Node = flat_map (nodes_of table (c.args.levels - 1) (c.args.depth + 1)) (take c.loop-child.child-index c.as_slice-child-items.result.now) in
    let row : c.in-Some-Some.row ≡ row_in c.args.span.now.word = row_named c.args.span.now.word c.in-Some-Some.row c.in-Some-Some.kind c.in-Some-Some.ensures.row (c.in-Some-Some.ensures'.kind) in
    c.loop-child.invariant
    ∙ (ap (λ (l : List Node). l ++ below) c.in_ok-push.ensures.items
    ∙ (append_assoc c.args.nodes.now.items (node ∷ []) below
    ∙ ap (λ (l : List Node). c.args.nodes.now.items ++ l)
    ((λ i. record { span = c.args.span.now; row = row i; kind = c.in-Some-Some.kind; depth = c.args.depth } ∷ flat_map (nodes_of table (c.args.levels - 1) (c.args.depth + 1)) (all i))
    ∙ sym (nodes_of_inner table c.args.levels c.args.depth c.args.span.now c.in-Some-Some.kind deep (sym c.in-Some-Some.ensures'.kind) c.in_default-kind.not-Leaf))))
