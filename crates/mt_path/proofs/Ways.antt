-- The rows on the way to an index: the root, the row below each, and the leaf at the end. For the proofs of the crates above, too.
use Rattle.mt_path.proofs.Prelude.{◌≡◌, ◌≢◌, ℕ, zero, suc, ◌+◌, ◌-◌, ◌<◌, ◌≤◌, List, [], Option, Some, None, true, false, length, refl, sym, ap, ◌∙◌, subst, inl, inr, arith, ◌↔◌, IsSome, IsNone, IfSome, is_some, option_map, Kind, greatest, deepest, RowKind, Leaf, Span, row_in, named_kind, slots_of, Names-named_kind, some_columns, IsTreeOf, tree_as, Rooted, IsPlace, Table, row_spans, spans_by, spans_in, root_span, leaf_low, PathStep, Row, Found, leaf_spans, leaf_in, slot_for, span_at, step_in, below, path_in, step_at, row_on, row_as, row_for, spans_of, found_span, IsFoundSlot, IsOnWay, IsAtEnd}
use Rattle.mt_rows.specs.Laws as laws
use Rattle.mt_path.proofs.Steps.{path_of_none, row_next}
use Rattle.mt_path.proofs.TreePaths.{rooted, top_row, row_of, levels, step, place as place_of_row, lawful}

-- ---- the row that a span names

map_some : {A B : Type 0} (f : A → B) (o : Option A) (b : B) → Some b ≡ option_map f o → (a : A) × (o ≡ Some a) × (b ≡ f a)
map_some f None b is = absurd (cc)
map_some f (Some a) b is = (a, refl, (let same : b ≡ f a = cc in same))

pub named : (x : Span) (row : Row) → Some row ≡ row_for x → (named_kind x.word ≡ Some row.kind) × (row ≡ row_as x row.kind)
named x row is =
    let some = map_some (row_as x) (named_kind x.word) row is in
    let kind : row.kind ≡ some.0 = ap (λ (r : Row). r.kind) some.2 in
    (some.1 ∙ ap Some (sym kind), some.2 ∙ ap (row_as x) (sym kind))

pub row_named : (x : Span) (kind : RowKind) → named_kind x.word ≡ Some kind → Some (row_as x kind) ≡ row_for x
row_named x kind is = ap (option_map (row_as x)) (sym is)

pub spans_same : (t : Table) (x : Span) (row : Row) → Some row ≡ row_for x → spans_of t row ≡ spans_in t x
spans_same t x row is =
    let facts = named x row is in
    ap (spans_of t) facts.1 ∙ ap (λ (k : Option RowKind). spans_by t k x) (sym facts.0)

step_same : (t : Table) (x : Span) (index : ℕ) (row : Row) (found : Found) → Some row ≡ row_for x → IsFoundSlot t row index found → found.step ≡ step_in t x index
step_same t x index row found is at =
    let facts = named x row is in
    let spans = spans_same t x row is in
    at.step ∙ (λ i. record { row = (facts.1 i).number; slot = slot_for (spans i) index; min = (facts.1 i).min; max = (facts.1 i).max })

-- what stands where the index was found is what the path goes on with
pub span_same : (t : Table) (x : Span) (index : ℕ) (row : Row) (found : Found) → Some row ≡ row_for x → IsFoundSlot t row index found → found_span t row.kind found ≡ below t x index
span_same t x index row found is at =
    let slot : found.step.slot ≡ slot_for (spans_of t row) index = ap (λ (s : PathStep). s.slot) at.step in
    at.span ∙ (ap (span_at (spans_of t row)) slot ∙ ap (λ (l : List Span). span_at l (slot_for l index)) (spans_same t x row is))

-- ---- the root

pub row_on_top : (t : Table) (x : Span) (index : ℕ) → row_on t 0 x index ≡ x
unfolding row_on
row_on_top t x index = refl

-- a tree that has a path to an index is not empty
pub some_root : (t : Rooted) (index depth : ℕ) → depth < length (path_in t.table t.root index) → t.root ≢ 0
some_root t index depth low = λ empty.
    let none = ap length (path_of_none t.table deepest (root_span t.table t.root) index (ap named_kind empty)) in
    omega arith

pub some_tree : (t : laws.Tree) → laws.IsTree t → t.root ≢ 0 → (h : ℕ) × laws.Stands t h
some_tree t (inl empty) some = absurd (some empty)
some_tree t (inr stands) some = stands

-- of a tree that is not empty the root word is the name of a row
pub root_named : (t : laws.Tree) (h : ℕ) → laws.Stands t h → named_kind t.root ≡ Some (laws.kind_on t.gapped h)
root_named t h stands = subst (λ (x : Span). named_kind x.word ≡ Some (laws.kind_on t.gapped h)) (row_on_top t.table (top_row t) 0) (lawful t h stands 0 0 h (omega arith) (omega arith)).name.named

no_row_by : (t : laws.Tree) (o : Option Row) → laws.IsTree t → o ≡ row_for (top_row t) → IsNone o ↔ (t.root ≡ 0)
no_row_by t o (inl empty) is =
    let none : row_for (top_row t) ≡ None = ap (λ (k : Option RowKind). option_map (row_as (top_row t)) k) (ap named_kind empty) in
    ((λ _. empty), (λ _. ap is_some (is ∙ none)))
no_row_by t o (inr (h, stands)) is =
    let some : row_for (top_row t) ≡ Some (row_as (top_row t) (laws.kind_on t.gapped h)) = sym (row_named (top_row t) (laws.kind_on t.gapped h) (root_named t h stands)) in
    let test : is_some o ≡ true = ap is_some (is ∙ some) in (
      (λ none. let clash : true ≡ false = sym test ∙ none in absurd (cc)),
      (λ empty. let clash : Some (laws.kind_on t.gapped h) ≡ None = sym (root_named t h stands) ∙ ap named_kind empty in absurd (cc)),
    )

-- a walk enters no row where the tree is empty
pub no_row : (t : Rooted) (kind : Kind) → IsTreeOf t kind → (o : Option Row) → o ≡ row_for (root_span t.table t.root) → IsNone o ↔ (t.root ≡ 0)
no_row t kind tree o is = no_row_by (tree_as kind t) o tree.words is

pub empty_path : (t : Rooted) (index : ℕ) → t.root ≡ 0 → path_in t.table t.root index ≡ []
empty_path t index empty = path_of_none t.table deepest (root_span t.table t.root) index (ap named_kind empty)

begins_by : (t : laws.Tree) (row : Row) → laws.IsTree t → Some row ≡ row_for (top_row t) → (index : ℕ) → index ≤ laws.top_of t → IsOnWay (rooted t) index 0 row
begins_by t row (inl empty) is index within =
    let none : row_for (top_row t) ≡ None = ap (λ (k : Option RowKind). option_map (row_as (top_row t)) k) (ap named_kind empty) in
    let clash : Some row ≡ None = is ∙ none in
    absurd (cc)
begins_by t row (inr (h, stands)) is index within = record {
  low = (let many = levels t h stands index within in omega arith);
  named = is ∙ ap row_for (sym (row_on_top t.table (top_row t) index));
}

-- every way begins at the root
pub begins : (t : Rooted) (kind : Kind) → IsTreeOf t kind → (row : Row) → Some row ≡ row_for (root_span t.table t.root) → (index : ℕ) → index ≤ greatest t.table.width → IsOnWay t index 0 row
begins t kind tree row is index within = begins_by (tree_as kind t) row tree.words is index within

pub begins_if : (t : Rooted) (kind : Kind) → IsTreeOf t kind → (o : Option Row) → o ≡ row_for (root_span t.table t.root) → IfSome o (λ (row : Row). (index : ℕ) → index ≤ greatest t.table.width → IsOnWay t index 0 row)
begins_if t kind tree None is = tt
begins_if t kind tree (Some row) is = λ index within. begins t kind tree row is index within

-- ---- a row on the way

module _ (t : laws.Tree) (h : ℕ) (stands : laws.Stands t h) (index : ℕ) (within : index ≤ laws.top_of t) (depth : ℕ) (row : Row) (way : IsOnWay (rooted t) index depth row) where
  abbrev x : Span
  x = row_of t depth index

  many : length (path_in t.table t.root index) ≡ h + 1
  many = levels t h stands index within

  low : depth ≤ h
  low = let all = many in let some = way.low in omega arith

  law : laws.IsRow t (h - depth) x
  law = let few = low in lawful t h stands index depth (h - depth) within (omega arith)

  names : (named_kind x.word ≡ Some row.kind) × (row ≡ row_as x row.kind)
  names = named x row way.named

  is_kind : row.kind ≡ laws.kind_on t.gapped (h - depth)
  is_kind = let one = names.0 in let other = law.name.named in let same : Some row.kind ≡ Some (laws.kind_on t.gapped (h - depth)) = sym one ∙ other in cc

  place_by : IsPlace (rooted t) row.number 0
  place_by =
      let number : row.number ≡ row_in x.word = ap (λ (r : Row). r.number) names.1 in
      let first = (Names-named_kind x.word row.kind names.0).0.0 in
      let last = law.name.in_table in
      record { first = omega arith; last = omega arith; column = some_columns t.table.width }

  covers_by : index ≤ row.max
  covers_by =
      let max : row.max ≡ x.last = ap (λ (r : Row). r.max) names.1 in
      let to = (place_of_row t h stands index depth within low).to in
      omega arith

  -- a leaf stands at the end
  leaf_last : row.kind ≡ Leaf → h ≡ depth
  leaf_last leaf = let none = leaf_low t.gapped (h - depth) (sym is_kind ∙ leaf) in let few = low in omega arith

  inner_by : (k : ℕ) → h - depth ≡ k → row.kind ≢ Leaf → depth < h
  inner_by zero is other = absurd (other (is_kind ∙ ap (laws.kind_on t.gapped) is))
  inner_by (suc k) is other = omega arith

  -- and no other row does
  pub inner_above : row.kind ≢ Leaf → depth < h
  inner_above other = inner_by (h - depth) refl other

  module _ (found : Found) (at : IsFoundSlot t.table row index found) where
    step_by : found.step ≡ step_at (path_in t.table t.root index) depth
    step_by = step_same t.table x index row found way.named at ∙ sym (step t h stands index depth within low)

    child_span : found_span t.table row.kind found ≡ row_of t (suc depth) index
    child_span = span_same t.table x index row found way.named at ∙ sym (row_next t depth (top_row t) index)

    child_named_by : row.kind ≢ Leaf → IsSome (named_kind (found_span t.table row.kind found).word)
    child_named_by other =
        let above = inner_above other in
        let name = (lawful t h stands index (suc depth) (h - suc depth) within (omega arith)).name.named in
        ap is_some (ap (λ (y : Span). named_kind y.word) child_span ∙ name)

    child_way_by : row.kind ≢ Leaf → (child : Row) → Some child ≡ row_for (found_span t.table row.kind found) → IsOnWay (rooted t) index (depth + 1) child
    child_way_by other child is =
        let above = inner_above other in
        let all = many in
        let next : suc depth ≡ depth + 1 = omega arith in
        record {
          low = omega arith;
          named = is ∙ (ap row_for child_span ∙ ap (λ (d : ℕ). row_for (row_of t d index)) next);
        }

    end_by : row.kind ≡ Leaf → IsAtEnd (rooted t) index found
    end_by leaf =
        let last = leaf_last leaf in
        let all = many in
        let number : found.step.row ≡ row.number = ap (λ (s : PathStep). s.row) at.step in
        let place = place_by in
        let level : depth ≡ length (path_in t.table t.root index) - 1 = omega arith in
        let here : found.step ≡ leaf_in (rooted t) index = step_by ∙ ap (step_at (path_in t.table t.root index)) level in
        let spans : spans_of t.table row ≡ leaf_spans t.table found.step = (λ i. row_spans t.table row.number (leaf i) row.min row.max) ∙ ap (leaf_spans t.table) (sym at.step) in
        let span : found_span t.table Leaf found ≡ span_at (leaf_spans t.table found.step) found.step.slot =
        ap (λ (k : RowKind). found_span t.table k found) (sym leaf) ∙ (at.span ∙ ap (λ (l : List Span). span_at l found.step.slot) spans) in
        record {
          place = subst (λ (n : ℕ). IsPlace (rooted t) n 0) (sym number) place;
          used = subst (λ (k : RowKind). found.step.slot < slots_of t.table.width k) leaf at.used;
          handle = λ i. record { leaf = here i; span = (span ∙ ap (λ (s : PathStep). span_at (leaf_spans t.table s) s.slot) here) i };
        }

-- ---- as the tree is told

module _ (t : Rooted) (kind : Kind) (tree : IsTreeOf t kind) (index : ℕ) (within : index ≤ greatest t.table.width) (depth : ℕ) (row : Row) (way : IsOnWay t index depth row) where
  stands : (h : ℕ) × laws.Stands (tree_as kind t) h
  stands = some_tree (tree_as kind t) tree.words (some_root t index depth way.low)

  pub place : IsPlace t row.number 0
  place = place_by (tree_as kind t) stands.0 stands.1 index within depth row way

  pub covers : index ≤ row.max
  covers = covers_by (tree_as kind t) stands.0 stands.1 index within depth row way

  pub shallow : depth < deepest
  shallow =
      let few = low (tree_as kind t) stands.0 stands.1 index within depth row way in
      let least = stands.1.low in
      omega arith

  pub ends : row.kind ≡ Leaf → length (path_in t.table t.root index) ≡ depth + 1
  ends leaf =
      let all = many (tree_as kind t) stands.0 stands.1 index within depth row way in
      let last = leaf_last (tree_as kind t) stands.0 stands.1 index within depth row way leaf in
      omega arith

  module _ (found : Found) (at : IsFoundSlot t.table row index found) where
    pub step_is : found.step ≡ step_at (path_in t.table t.root index) depth
    step_is = step_by (tree_as kind t) stands.0 stands.1 index within depth row way found at

    pub child_named : row.kind ≢ Leaf → IsSome (named_kind (found_span t.table row.kind found).word)
    child_named = child_named_by (tree_as kind t) stands.0 stands.1 index within depth row way found at

    pub child_way : row.kind ≢ Leaf → (child : Row) → Some child ≡ row_for (found_span t.table row.kind found) → IsOnWay t index (depth + 1) child
    child_way = child_way_by (tree_as kind t) stands.0 stands.1 index within depth row way found at

    pub at_end : row.kind ≡ Leaf → IsAtEnd t index found
    at_end = end_by (tree_as kind t) stands.0 stands.1 index within depth row way found at
