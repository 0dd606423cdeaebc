use Rattle.mt_draw.proofs.Prelude.{◌≡◌, ◌*◌, ◌<◌, ◌≤◌, ◌++◌, length, ap, sym, subst, ◌∙◌, columns, deepest, first_row, greatest, kind_width, slice_index, sheet_in, Sheet, Rooted, height_in, nodes_of}
use Rattle.mt_draw.proofs.Tables.{words_are}
use Rattle.mt_draw.proofs.trees.DrawnTree.of.Goals as goal

pub returns-clause-height : goal.returns-clause-height
returns-clause-height c =
    c.height_in-height.ensures
    ∙ (λ i. height_in (record { width = c.width_of-width.ensures i; words = c.deref.ensures.value i }) c.root-root.result)

pub returns-clause-nodes : goal.returns-clause-nodes
returns-clause-nodes c =
    let last : c.top.result ≡ greatest (kind_width c.args.kind) = c.top.ensures ∙ ap greatest c.width_of-width.ensures in
    c.in_ok-push_nodes.ensures
    ∙ (λ i. c.new-nodes.ensures.items i ++ nodes_of (record { width = c.width_of-width.ensures i; words = c.deref-2.ensures.value i }) deepest 0 (record { first = 0; last = last i; word = c.root-root.result }))

pub returns-clause-table : goal.returns-clause-table
returns-clause-table c =
    let t : Rooted = (sheet_in c.args.rows).tree in
    let same : (sheet_in c.root-root.new.self).tree ≡ t = ap (λ (s : Sheet). s.tree) c.root-root.ensures.rest in
    let words : c.into_words-words.result.items ≡ t.table.words =
    words_are t c.into_words-words.result.items c.requires.good.whole
    (c.into_words-words.ensures.size ∙ ap (λ (x : Rooted). length x.table.words) same)
    (λ at low. c.into_words-words.ensures.before at (subst (λ (x : Rooted). at < columns x.table.width * first_row) (sym same) low))
    (λ at high. c.into_words-words.ensures.rows at (subst (λ (x : Rooted). columns x.table.width * first_row ≤ at) (sym same) high) ∙ ap (λ (x : Rooted). slice_index x.table.words at) same) in
    (λ i. record { width = sym c.requires.good.lawful.width i; words = words i })
