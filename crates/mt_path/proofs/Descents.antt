-- What is known in a walk before it enters a row, and what it leaves: its steps so far, and how many words were loaded.
use Rattle.mt_path.proofs.Prelude.{◌≡◌, ◌≢◌, ℕ, ◌+◌, ◌-◌, ◌<◌, ◌≤◌, List, [], ◌∷◌, ◌++◌, Some, length, take, refl, sym, ap, ◌∙◌, subst, arith, IsSome, length_push, take_more, take_all, Kind, greatest, deepest, RowKind, Leaf, Span, named_kind, IsTreeOf, Rooted, Sheet, IsPlace, loaded, ReadsUpTo, PathStep, Row, Found, handle_in, IsLawfulRow, path_in, step_at, no_step, loads_at, loads_in, loads_on, row_for, found_span, IsFoundSlot, IsOnWay, IsAtEnd}
use Rattle.mt_path.proofs.Kept.{tree_kept}
use Rattle.mt_path.proofs.Loads.{one_read, reads_more, reads_up, reads_next, loads_in-push, loads_in-some}
use Rattle.mt_path.proofs.Middles.{lawful_row}
use Rattle.mt_path.proofs.Ways as ways

-- the steps so far are the front of the path, and the row is the next on it
pub record Descends (s s' : Sheet) (index entered : ℕ) (begun steps : List PathStep) (row : Row) : Type 0 where
  pub front : steps ≡ take (length steps) (path_in s.tree.table s.tree.root index)
  pub way : IsOnWay s.tree index (length steps) row
  pub deep : entered ≤ length steps
  pub more : loads_in begun ≤ loads_in steps
  pub reads : ReadsUpTo (loads_in steps - loads_in begun) s s'

-- the same where no steps are kept
pub record Passes (s s' : Sheet) (index entered : ℕ) (row : Row) : Type 0 where
  pub way : IsOnWay s.tree index entered row
  pub reads : ReadsUpTo (loads_on (take entered (path_in s.tree.table s.tree.root index))) s s'

-- ---- one row

module _ (s s' : Sheet) (kind : Kind) (tree : IsTreeOf s.tree kind) (index : ℕ) (within : index ≤ greatest s.tree.table.width) (n : ℕ) (reads : ReadsUpTo n s s')
    (depth : ℕ) (row : Row) (way : IsOnWay s.tree index depth row) where
  same : s'.tree ≡ s.tree
  same = tree_kept n s s' reads

  pub may_find : IsPlace s'.tree row.number 0
  may_find = subst (λ (t : Rooted). IsPlace t row.number 0) (sym same) (ways.place s.tree kind tree index within depth row way)

  pub reaches : index ≤ row.max
  reaches = ways.covers s.tree kind tree index within depth row way

  pub may_seek : IsLawfulRow s'.tree.table row
  may_seek = subst (λ (t : Rooted). IsLawfulRow t.table row) (sym same) (lawful_row s.tree kind tree index within depth row way)

  module _ (found : Found) (at : IsFoundSlot s'.tree.table row index found) (s₁ : Sheet) (reads₁ : ReadsUpTo (loads_at found.step) s' s₁) where
    there : IsFoundSlot s.tree.table row index found
    there = subst (λ (t : Rooted). IsFoundSlot t.table row index found) same at

    pub reads_row : ReadsUpTo (n + loads_at found.step) s s₁
    reads_row = reads_more n (loads_at found.step) s s' s₁ reads reads₁

    same₁ : s₁.tree ≡ s.tree
    same₁ = tree_kept (n + loads_at found.step) s s₁ reads_row

    pub step_here : found.step ≡ step_at (path_in s.tree.table s.tree.root index) depth
    step_here = ways.step_is s.tree kind tree index within depth row way found there

    pub may_load : IsPlace s₁.tree found.step.row 0
    may_load =
        let number : row.number ≡ found.step.row = sym (ap (λ (p : PathStep). p.row) there.step) in
        let at_row : IsPlace s.tree found.step.row 0 = subst (λ (r : ℕ). IsPlace s.tree r 0) number (ways.place s.tree kind tree index within depth row way) in
        subst (λ (t : Rooted). IsPlace t found.step.row 0) (sym same₁) at_row

    -- the steps with the row's own
    pub steps_more : (steps : List PathStep) → length steps ≡ depth → steps ≡ take (length steps) (path_in s.tree.table s.tree.root index)
        → steps ++ (found.step ∷ []) ≡ take (depth + 1) (path_in s.tree.table s.tree.root index)
    steps_more steps long front =
        let path = path_in s.tree.table s.tree.root index in
        let low = way.low in
        let more : take (depth + 1) path ≡ take depth path ++ (step_at path depth ∷ []) = take_more path depth no_step low in
        (λ i. front i ++ (step_here i ∷ [])) ∙ (ap (λ (k : ℕ). take k path ++ (step_at path depth ∷ [])) long ∙ sym more)

    pub loads_more : loads_in (take (depth + 1) (path_in s.tree.table s.tree.root index)) ≡ loads_in (take depth (path_in s.tree.table s.tree.root index)) + (loads_at found.step + 1)
    loads_more =
        let path = path_in s.tree.table s.tree.root index in
        let low = way.low in
        let more : take (depth + 1) path ≡ take depth path ++ (step_at path depth ∷ []) = take_more path depth no_step low in
        ap loads_in more ∙ (loads_in-push (take depth path) (step_at path depth) ∙ ap (λ (p : PathStep). loads_in (take depth path) + (loads_at p + 1)) (sym step_here))

    pub ends_here : row.kind ≡ Leaf → IsAtEnd s.tree index found
    ends_here = ways.at_end s.tree kind tree index within depth row way found there

    pub path_ends : row.kind ≡ Leaf → take (depth + 1) (path_in s.tree.table s.tree.root index) ≡ path_in s.tree.table s.tree.root index
    path_ends leaf =
        let long = ways.ends s.tree kind tree index within depth row way leaf in
        take_all (depth + 1) (path_in s.tree.table s.tree.root index) (omega arith)

    module _ (span : Span) (is : span ≡ found_span s₁.tree.table row.kind found) (s₂ : Sheet) (loads : s₂ ≡ loaded s₁) where
      span_is : span ≡ found_span s.tree.table row.kind found
      span_is = is ∙ ap (λ (t : Rooted). found_span t.table row.kind found) same₁

      pub reads_span : ReadsUpTo (n + (loads_at found.step + 1)) s s₂
      reads_span =
          let all = reads_next (n + loads_at found.step) s s₁ s₂ reads_row loads in
          reads_up (n + loads_at found.step + 1) (n + (loads_at found.step + 1)) s s₂ (omega arith) all

      pub has_child : row.kind ≢ Leaf → IsSome (named_kind span.word)
      has_child other = subst (λ (x : Span). IsSome (named_kind x.word)) (sym span_is) (ways.child_named s.tree kind tree index within depth row way found there other)

      pub goes_on : row.kind ≢ Leaf → (child : Row) → Some child ≡ row_for span → IsOnWay s.tree index (depth + 1) child
      goes_on other child named = ways.child_way s.tree kind tree index within depth row way found there other child (named ∙ ap row_for span_is)

      -- what stands at the end
      pub handle_here : row.kind ≡ Leaf → record { leaf = found.step; span = span } ≡ handle_in s.tree index
      handle_here leaf =
          let span_at_leaf : span ≡ found_span s.tree.table Leaf found = span_is ∙ ap (λ (k : RowKind). found_span s.tree.table k found) leaf in
          (λ i. record { leaf = found.step; span = span_at_leaf i }) ∙ (ends_here leaf).handle

-- ---- a walk that keeps its steps

module _ (s s' : Sheet) (kind : Kind) (tree : IsTreeOf s.tree kind) (index : ℕ) (within : index ≤ greatest s.tree.table.width)
    (entered : ℕ) (begun steps : List PathStep) (row : Row) (descends : Descends s s' index entered begun steps row) where
  abbrev so_far : ℕ
  so_far = loads_in steps - loads_in begun

  pub shallow : length steps < deepest
  shallow = ways.shallow s.tree kind tree index within (length steps) row descends.way

  module _ (found : Found) (at : IsFoundSlot s'.tree.table row index found) (s₁ : Sheet) (reads₁ : ReadsUpTo (loads_at found.step) s' s₁) (steps' : List PathStep) (pushed : steps' ≡ steps ++ (found.step ∷ [])) where
    abbrev path : List PathStep
    path = path_in s.tree.table s.tree.root index

    front' : steps' ≡ take (length steps + 1) path
    front' = pushed ∙ steps_more s s' kind tree index within so_far descends.reads (length steps) row descends.way found at s₁ reads₁ steps refl descends.front

    long : length steps' ≡ length steps + 1
    long = ap length pushed ∙ length_push steps found.step

    loads' : loads_in steps' ≡ loads_in steps + (loads_at found.step + 1)
    loads' = ap loads_in pushed ∙ loads_in-push steps found.step

    pub descent_ends : row.kind ≡ Leaf → steps' ≡ path
    descent_ends leaf = front' ∙ path_ends s s' kind tree index within so_far descends.reads (length steps) row descends.way found at s₁ reads₁ leaf

    pub descent_reads : ReadsUpTo (loads_in steps' - loads_in begun - 1) s s₁
    descent_reads =
        let all = loads' in
        let more = descends.more in
        reads_up (so_far + loads_at found.step) (loads_in steps' - loads_in begun - 1) s s₁ (omega arith) (reads_row s s' kind tree index within so_far descends.reads (length steps) row descends.way found at s₁ reads₁)

    pub descent_goes_on : row.kind ≢ Leaf → (span : Span) → span ≡ found_span s₁.tree.table row.kind found → (s₂ : Sheet) → s₂ ≡ loaded s₁ → (child : Row) → Some child ≡ row_for span
        → Descends s s₂ index (entered + 1) begun steps' child
    descent_goes_on other span is s₂ loads child named =
        let all = loads' in
        let more = descends.more in
        let deep = descends.deep in
        let count = long in
        record {
          front = front' ∙ ap (λ (k : ℕ). take k path) (sym long);
          way = subst (λ (d : ℕ). IsOnWay s.tree index d child) (sym long)
              (goes_on s s' kind tree index within so_far descends.reads (length steps) row descends.way found at s₁ reads₁ span is s₂ loads other child named);
          deep = omega arith;
          more = omega arith;
          reads = reads_up (so_far + (loads_at found.step + 1)) (loads_in steps' - loads_in begun) s s₂ (omega arith)
              (reads_span s s' kind tree index within so_far descends.reads (length steps) row descends.way found at s₁ reads₁ span is s₂ loads);
        }

-- from the root, with the root word and the slot at the end
pub walk_reads : (s s₁ s₂ s₃ : Sheet) (index : ℕ) (row : Row) (begun steps : List PathStep) → IsOnWay s.tree index 0 row → begun ≡ [] → s₁ ≡ loaded s → steps ≡ path_in s₁.tree.table s₁.tree.root index
    → ReadsUpTo (loads_in steps - loads_in begun - 1) s₁ s₂ → s₃ ≡ loaded s₂ → ReadsUpTo (loads_on steps) s s₃
walk_reads s s₁ s₂ s₃ index row begun steps way none root path reads end =
    let whole : steps ≡ path_in s.tree.table s.tree.root index = path ∙ ap (λ (r : Sheet). path_in r.tree.table r.tree.root index) root in
    let some = loads_in-some steps (subst (λ (l : List PathStep). 0 < length l) (sym whole) way.low) in
    let first : loads_in begun ≡ 0 = ap loads_in none in
    let all = reads_next (1 + (loads_in steps - loads_in begun - 1)) s s₂ s₃ (reads_more 1 (loads_in steps - loads_in begun - 1) s s₁ s₂ (one_read s s₁ root) reads) end in
    reads_up (1 + (loads_in steps - loads_in begun - 1) + 1) (loads_on steps) s s₃ (omega arith) all

-- ---- a walk that keeps none

module _ (s s' : Sheet) (kind : Kind) (tree : IsTreeOf s.tree kind) (index : ℕ) (within : index ≤ greatest s.tree.table.width)
    (entered : ℕ) (row : Row) (passes : Passes s s' index entered row) where
  abbrev loads_before : ℕ
  loads_before = loads_on (take entered (path_in s.tree.table s.tree.root index))

  pub not_deepest : entered < deepest
  not_deepest = ways.shallow s.tree kind tree index within entered row passes.way

  module _ (found : Found) (at : IsFoundSlot s'.tree.table row index found) (s₁ : Sheet) (reads₁ : ReadsUpTo (loads_at found.step) s' s₁)
      (span : Span) (is : span ≡ found_span s₁.tree.table row.kind found) (s₂ : Sheet) (loads : s₂ ≡ loaded s₁) where
    reads₂ : ReadsUpTo (loads_on (take (entered + 1) (path_in s.tree.table s.tree.root index))) s s₂
    reads₂ =
        let more = loads_more s s' kind tree index within loads_before passes.reads entered row passes.way found at s₁ reads₁ in
        reads_up (loads_before + (loads_at found.step + 1)) (loads_on (take (entered + 1) (path_in s.tree.table s.tree.root index))) s s₂ (omega arith)
        (reads_span s s' kind tree index within loads_before passes.reads entered row passes.way found at s₁ reads₁ span is s₂ loads)

    pub passage_ends : row.kind ≡ Leaf → ReadsUpTo (loads_on (path_in s.tree.table s.tree.root index)) s s₂
    passage_ends leaf =
        let all = path_ends s s' kind tree index within loads_before passes.reads entered row passes.way found at s₁ reads₁ leaf in
        subst (λ (l : List PathStep). ReadsUpTo (loads_on l) s s₂) all reads₂

    pub passage_goes_on : row.kind ≢ Leaf → (child : Row) → Some child ≡ row_for span → Passes s s₂ index (entered + 1) child
    passage_goes_on other child named = record {
      way = goes_on s s' kind tree index within loads_before passes.reads entered row passes.way found at s₁ reads₁ span is s₂ loads other child named;
      reads = reads₂;
    }
