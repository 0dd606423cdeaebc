use Rattle.mt_path.proofs.Prelude.{None, Some, false, is_some, refl, true, ◌≡◌, ◌≢◌, ◌≤◌, ◌+◌, ◌∙◌, ℕ, rules, ap, subst, sym, arith, length, slice_index, greatest, Leaf, Rooted, named_kind, reads_on, same_tree, same_true, IsLevel, word_on, words_on, length-map, All}
use Rattle.mt_layout.specs.contracts.names.RowKind.{the_type}
use Rattle.mt_path.proofs.Kept.{tree_over}
use Rattle.mt_path.proofs.SideBySide.{begins_low, first_word, goes_on, is_level, is_name, shallow, words_end}
use Rattle.mt_path.proofs.batches.words_by.Goals as goal

pub words_below-requires-clause-over : goal.words_below-requires-clause-over
words_below-requires-clause-over g c = tree_over (g.R.Rows.sheet c.args.rows.now) (g.R.Rows.sheet c.loop-depth.rows) c.args.width c.loop-depth.invariant.held.reads c.requires.over

pub words_below-requires-clause-indexes : goal.words_below-requires-clause-indexes
words_below-requires-clause-indexes g c =
    subst (λ (t : Rooted). All (λ (index : ℕ). index ≤ greatest t.table.width) c.args.indexes.now) (sym (same_tree (g.R.Rows.sheet c.args.rows.now) (g.R.Rows.sheet c.loop-depth.rows) c.loop-depth.invariant.held.reads)) c.requires.indexes

pub words_below-requires-clause-names : goal.words_below-requires-clause-names
words_below-requires-clause-names g c =
    c.loop-depth.invariant.words ∙ ap (λ (t : Rooted). words_on t c.loop-depth.depth c.args.indexes.now) (sym (same_tree (g.R.Rows.sheet c.args.rows.now) (g.R.Rows.sheet c.loop-depth.rows) c.loop-depth.invariant.held.reads))

pub loop-depth-init : goal.loop-depth-init
loop-depth-init g c =
    let t = (g.R.Rows.sheet c.args.rows.now).tree in
    record {
      held = record { reads = refl; size = ap length c.requires.names ∙ length-map c.args.indexes.now (λ (index : ℕ). word_on t 0 index) };
      low = begins_low t c.requires.over.tree.0 c.requires.over.tree.1 c.requires.root;
      words = c.requires.names;
    }

pub unreachable-requires : goal.unreachable-requires
unreachable-requires g c =
    let t = (g.R.Rows.sheet c.args.rows.now).tree in
    let first = slice_index c.args.indexes.now 0 in
    let none : None ≡ named_kind (slice_index c.loop-depth.words 0) = (let a = c.in_default.ensures.kind in let b = c.in_default.is in cc) in
    let word = first_word t c.loop-depth.depth c.args.indexes.now c.loop-depth.words c.requires.some c.loop-depth.invariant.words in
    let some : is_some (named_kind (word_on t c.loop-depth.depth first)) ≡ true = is_name t c.requires.over.tree.0 c.requires.over.tree.1 c.requires.root c.loop-depth.depth first c.loop-depth.invariant.low (c.requires.indexes 0 0 c.requires.some) in
    let clash : false ≡ true = ap is_some (none ∙ ap named_kind word) ∙ some in
    absurd (cc)

pub words_below-requires-clause-level : goal.words_below-requires-clause-level
words_below-requires-clause-level g c =
    let s = g.R.Rows.sheet c.args.rows.now in
    let first = slice_index c.args.indexes.now 0 in
    let is : named_kind (slice_index c.loop-depth.words 0) ≡ Some c.in-Some.kind = (let a = c.in-Some.ensures.kind in let b = c.in-Some.is in cc) in
    let word = first_word s.tree c.loop-depth.depth c.args.indexes.now c.loop-depth.words c.requires.some c.loop-depth.invariant.words in
    subst (λ (t : Rooted). IsLevel t c.loop-depth.depth c.in-Some.kind) (sym (same_tree s (g.R.Rows.sheet c.loop-depth.rows) c.loop-depth.invariant.held.reads))
    (is_level s.tree c.requires.over.tree.0 c.requires.over.tree.1 c.requires.root c.loop-depth.depth first c.in-Some.kind c.loop-depth.invariant.low (c.requires.indexes 0 0 c.requires.some) (ap named_kind (sym word) ∙ is))

pub returns-then-eq-clause-words : goal.returns-then-eq-clause-words
returns-then-eq-clause-words g c =
    let s = g.R.Rows.sheet c.args.rows.now in
    let first = slice_index c.args.indexes.now 0 in
    let is : named_kind (slice_index c.loop-depth.words 0) ≡ Some c.in-Some.kind = (let a = c.in-Some.ensures.kind in let b = c.in-Some.is in cc) in
    let word = first_word s.tree c.loop-depth.depth c.args.indexes.now c.loop-depth.words c.requires.some c.loop-depth.invariant.words in
    let level = is_level s.tree c.requires.over.tree.0 c.requires.over.tree.1 c.requires.root c.loop-depth.depth first c.in-Some.kind c.loop-depth.invariant.low (c.requires.indexes 0 0 c.requires.some) (ap named_kind (sym word) ∙ is) in
    let leaf : c.in-Some.kind ≡ Leaf = same_true the_type (search rules) c.in-Some.kind Leaf (sym c.if-eq.ensures) in
    c.words_below.ensures.words
    ∙ (ap (λ (t : Rooted). words_on t (c.loop-depth.depth + 1) c.args.indexes.now) (same_tree s (g.R.Rows.sheet c.loop-depth.rows) c.loop-depth.invariant.held.reads)
    ∙ words_end s.tree c.requires.over.tree.0 c.requires.over.tree.1 c.loop-depth.depth (subst (IsLevel s.tree c.loop-depth.depth) leaf level) c.args.indexes.now c.requires.indexes)

pub loop-depth-preserved : goal.loop-depth-preserved
loop-depth-preserved g c =
    let s = g.R.Rows.sheet c.args.rows.now in
    let s' = g.R.Rows.sheet c.loop-depth.rows in
    let first = slice_index c.args.indexes.now 0 in
    let is : named_kind (slice_index c.loop-depth.words 0) ≡ Some c.in-Some.kind = (let a = c.in-Some.ensures.kind in let b = c.in-Some.is in cc) in
    let word = first_word s.tree c.loop-depth.depth c.args.indexes.now c.loop-depth.words c.requires.some c.loop-depth.invariant.words in
    let within = c.requires.indexes 0 0 c.requires.some in
    let level = is_level s.tree c.requires.over.tree.0 c.requires.over.tree.1 c.requires.root c.loop-depth.depth first c.in-Some.kind c.loop-depth.invariant.low within (ap named_kind (sym word) ∙ is) in
    let other : c.in-Some.kind ≢ Leaf = search rules in
    let words = c.words_below.ensures.words ∙ ap (λ (t : Rooted). words_on t (c.loop-depth.depth + 1) c.args.indexes.now) (same_tree s s' c.loop-depth.invariant.held.reads) in
    record {
      held = record { reads = reads_on s s' (g.R.Rows.sheet c.words_below.new.rows) c.loop-depth.invariant.held.reads c.words_below.ensures.rest; size = ap length words ∙ length-map c.args.indexes.now (λ (index : ℕ). word_on s.tree (c.loop-depth.depth + 1) index) };
      low = goes_on s.tree c.requires.over.tree.0 c.requires.over.tree.1 c.loop-depth.depth c.in-Some.kind level first within other;
      words = words;
    }

pub unreachable-requires-2 : goal.unreachable-requires-2
unreachable-requires-2 g c =
    let t = (g.R.Rows.sheet c.args.rows.now).tree in
    let low = shallow t c.requires.over.tree.0 c.requires.over.tree.1 c.requires.root c.loop-depth.depth c.loop-depth.invariant.low in
    omega (arith, low, c.loop-depth-test.false)
