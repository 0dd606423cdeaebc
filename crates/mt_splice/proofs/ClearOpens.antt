-- A tree is to be emptied: no row is drafted, and the windows are those of all its levels.
use Rattle.mt_splice.proofs.Prelude.{◌≡◌, ℕ, suc, ◌+◌, ◌-◌, ◌≤◌, List, [], length, refl, sym, ap, ◌∙◌, subst, inl, arith, Call, Kind, Range, Reply, Width, acted, deepest, greatest, Book, PathStep, path_in, at_within, levels, place, Root, Tree, Stands, top_of, map_by, tree_as, IsWhole, OnlyReads, Rooted, Sheet, inner_kind, reads_on, same_tree, Climb, Top, MayClear, HasClimbed, windows_over, IsBegunBy, before_of, start_for, Before, IsAnswer, high_of, low_of, row_at, Start, rows_at, row_in}
use Rattle.mt_splice.proofs.Clearing as clearing
use Rattle.mt_splice.proofs.Clearing.{left_levels}
use Rattle.mt_splice.proofs.Steps.{ledger_reads}
use Rattle.mt_splice.proofs.SpliceBegins.{case_of, nothing_done, stands_at_start}
use Rattle.mt_splice.proofs.Topped.{whole_above, windows_over_are}

module _ {kind : Kind} {s : Sheet} {book : Book} {number : ℕ} {call : Call} {reply : Reply} (may : MayClear kind s book number call reply) (whole : IsWhole s) where
  abbrev t : Tree
  t = tree_as kind s.tree

  abbrev start : Start
  start = start_for kind s call 0 (greatest s.tree.table.width)

  stands : Stands t start.height
  stands = clearing.stands may

  begin : low_of t start.height 0 ≡ 0
  begin = let from = (place t start.height stands 0 start.height (omega arith) (omega arith)).from in omega arith

  end : high_of t start.height (top_of t) ≡ top_of t + 1
  end =
      let at = place t start.height stands (top_of t) start.height (omega arith) (omega arith) in
      let to = at.to in let within = (at_within 0 (top_of t + 1) (rows_at t start.height) (top_of t) (row_at t start.height (top_of t)) at).1 in
      omega arith

  all_noted : {s' : Sheet} {c : Climb} {top : Top} → OnlyReads s s' → c.ways.left.items ≡ path_in s.tree.table s.tree.root 0 → c.ways.right.items ≡ path_in s.tree.table s.tree.root (top_of t) → c.windows.items ≡ windows_over c.ways.left.items c.ways.right.items (suc start.height) → c.made.items ≡ []
      → c.inner ≡ inner_kind kind → top.place ≡ Root → top.word ≡ 0 → top.gap ≡ 0 → top.row ≡ 0 → HasClimbed (before_of kind s book number) start s' book c top
  all_noted {s'} {c} {top} reads left right windows made inner place word gap row = record {
    layers = [];
    root = [];
    from = 0;
    to = top_of t;
    over = suc start.height;
    case = case_of whole may.kept start refl may.told may.unpublished;
    stands = stands;
    planned = tt;
    told = tt;
    held = tt;
    ledger = ledger_reads reads (nothing_done whole may.kept);
    made = made;
    few = omega arith;
    order = omega arith;
    within = omega arith;
    windows = windows ∙ windows_over_are start stands 0 (top_of t) (omega arith) (omega arith) c.ways.left.items c.ways.right.items left right (suc start.height) (omega arith);
    whole = λ e less. whole_above start stands 0 (top_of t) (omega arith) (omega arith) start.height (omega arith) begin end e (omega arith);
    joined = λ some. omega arith;
    names = row ∙ ap row_in (sym word);
    inner = inner;
    ends = inl (record { no_layers = refl; no_root = refl; all = refl; none = ap (λ (a : List Range × Reply). a.0) may.answer; place = place; word = word; gap = gap });
  }

-- the paths are as long as the tree is high
pub clear_deep : {kind : Kind} {s s₁ : Sheet} {book : Book} {number : ℕ} {call : Call} {reply : Reply} {left right : List PathStep} {width : Width} {index : ℕ} → MayClear kind s book number call reply → OnlyReads s s₁ → left ≡ path_in s.tree.table s.tree.root 0 → width ≡ s₁.tree.table.width
    → index ≡ greatest width → right ≡ path_in s₁.tree.table s₁.tree.root index → (length left ≡ length right) × (1 ≤ length left) × (length left ≤ deepest)
clear_deep {kind} {s} {s₁} {call = call} {left} {right} {width} {index} may reads is_left is_width is_top is_right =
    let t = tree_as kind s.tree in
    let same = same_tree s s₁ reads in
    let stands = stands_at_start t may.kept.lawful.words may.some in
    let last : index ≡ greatest s.tree.table.width = is_top ∙ ap greatest (is_width ∙ ap (λ (t : Rooted). t.table.width) same) in
    let right_now : right ≡ path_in s.tree.table s.tree.root (greatest s.tree.table.width) = is_right ∙ (ap (λ (t : Rooted). path_in t.table t.root index) same ∙ ap (path_in s.tree.table s.tree.root) last) in
    let one = left_levels may is_left in let other = ap length right_now ∙ levels t (length (path_in s.tree.table s.tree.root 0) - 1) stands (top_of t) (omega arith) in let low = stands.low in
    (omega arith, omega arith, omega arith)

-- the same, as it was walked, where what it begins with has a name
module _ {b : Before} {start : Start} {kind : Kind} {s : Sheet} {book : Book} {number : ℕ} {call : Call} {reply : Reply} (begun : IsBegunBy b start kind s book number call 0 (greatest s.tree.table.width)) (may : MayClear kind s book number call reply) (whole : IsWhole s) where
  pub clear_high : {left : List PathStep} {depth : ℕ} → left ≡ path_in s.tree.table s.tree.root 0 → depth + 1 ≡ length left → depth ≡ start.height
  clear_high {left} {depth} is_left deep =
      let high : depth ≡ (start_for kind s call 0 (greatest s.tree.table.width)).height = (let long = left_levels may is_left in omega arith) in
      high ∙ ap (λ (x : Start). x.height) (sym begun.start)

  pub clear_noted : (depth : ℕ) {s₁ s₂ : Sheet} {width : Width} {index : ℕ} {c : Climb} {top : Top} → OnlyReads s s₁ → OnlyReads s₁ s₂ → c.ways.left.items ≡ path_in s.tree.table s.tree.root 0 → width ≡ s₁.tree.table.width → index ≡ greatest width
      → c.ways.right.items ≡ path_in s₁.tree.table s₁.tree.root index → depth + 1 ≡ length c.ways.left.items → c.windows.items ≡ windows_over c.ways.left.items c.ways.right.items (depth + 1) → c.made.items ≡ [] → c.inner ≡ inner_kind kind → top.place ≡ Root → top.word ≡ 0 → top.gap ≡ 0 → top.row ≡ 0
      → HasClimbed b start s₂ book c top
  clear_noted depth {s₁} {s₂} {width} {index} {c} {top} reads₁ reads₂ left is_width is_top right deep windows made inner place word gap row =
      let same = same_tree s s₁ reads₁ in
      let last : index ≡ greatest s.tree.table.width = is_top ∙ ap greatest (is_width ∙ ap (λ (t : Rooted). t.table.width) same) in
      let right_now : c.ways.right.items ≡ path_in s.tree.table s.tree.root (greatest s.tree.table.width) = right ∙ (ap (λ (t : Rooted). path_in t.table t.root index) same ∙ ap (path_in s.tree.table s.tree.root) last) in
      let up : depth + 1 ≡ suc (start_for kind s call 0 (greatest s.tree.table.width)).height = (let long = left_levels may left in omega arith) in
      subst (λ (x : Before × Start). HasClimbed x.0 x.1 s₂ book c top) (λ i. (sym begun.before i, sym begun.start i))
      (all_noted may whole (reads_on s s₁ s₂ reads₁ reads₂) left right_now (windows ∙ ap (windows_over c.ways.left.items c.ways.right.items) up) made inner place word gap row)

  pub clear_answer : IsAnswer b start call reply
  clear_answer = subst (λ (x : Before × Start). IsAnswer x.0 x.1 call reply) (λ i. (sym begun.before i, sym begun.start i)) (ap (λ (r : Reply). ((acted kind (map_by s.tree) call).0, r)) (ap (λ (a : List Range × Reply). a.1) may.answer))
