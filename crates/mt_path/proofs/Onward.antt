-- A path that goes on to another index from a row which covers both.
use Rattle.mt_path.proofs.Prelude.{◌≡◌, ◌≢◌, ◌==◌, ℕ, zero, suc, ◌+◌, ◌-◌, ◌<◌, ◌≤◌, List, [], ◌∷◌, ◌++◌, Some, Bool, true, false, length, take, drop, get_or, refl, sym, ap, ◌∙◌, subst, inl, inr, arith, length-append, eq-eqb, ne_eqb, IsSome, is_some, AllByRecursion, cases_lt, ext_get_or, get_or-take, get_or_append_left, get_or-append_right, get_or_at, length-take-le, take-take, Kind, greatest, RowKind, Leaf, Span, Fills, named_kind, IsTreeOf, tree_as, Rooted, Sheet, ReadsUpTo, PathStep, step_in, slot_for, span_at, spans_in, spans_of, path_in, step_at, no_step, loads_in, loads_on, Covers, IsDeepestOver, ReadsBelow, row_as, row_for, Row, IsOnWay, all_at, last_step, BeginsAt}
use Rattle.mt_rows.specs.Laws as laws
use Rattle.mt_path.proofs.Kept.{tree_kept}
use Rattle.mt_path.proofs.Loads.{reads_more, reads_up, loads_in-parts, loads_in-take}
use Rattle.mt_path.proofs.Places.{At, at_within}
use Rattle.mt_path.proofs.LeafSlots.{fills_more, fills_next}
use Rattle.mt_path.proofs.Steps.{row_next}
use Rattle.mt_path.proofs.TreePaths.{rooted, top_row, rows_at, row_of, step_of, levels, step, place, child, slot_used, lawful, inside_agree}
use Rattle.mt_path.proofs.Ways.{row_on_top, row_named, some_root, some_tree, root_named, empty_path, spans_same}

-- ---- steps taken off the end

-- steps were taken off, and no row of theirs covers the index
pub record IsPopped (old now : List PathStep) (index : ℕ) : Type 0 where
  pub behind : List PathStep
  pub parts : old ≡ now ++ behind
  pub none : AllByRecursion (λ (p : PathStep). Covers p index → ⊥) behind

-- no deeper step than the deepest that covers the index does
no_deeper : (old above : List PathStep) (index : ℕ) (s : PathStep) → IsDeepestOver old above index s → (level : ℕ) → level < length old → Covers (step_at old level) index → level ≤ length above
no_deeper old above index s deepest level low over = elim (cases_lt (length above) level) [
  | inl deeper ↦
      let all : length old ≡ length above + suc (length deepest.behind) = ap length deepest.parts ∙ length-append above (s ∷ deepest.behind) in
      let k : level - length above ≡ suc (level - length above - 1) = omega arith in
      let there : step_at old level ≡ get_or deepest.behind (level - length above - 1) no_step =
      ap (λ (l : List PathStep). step_at l level) deepest.parts
      ∙ (get_or-append_right above (s ∷ deepest.behind) (length above) level no_step refl (omega arith)
      ∙ ap (λ (n : ℕ). get_or (s ∷ deepest.behind) n no_step) k) in
      absurd (all_at (λ (p : PathStep). Covers p index → ⊥) deepest.behind (level - length above - 1) no_step deepest.none_deeper (omega arith)
      (subst (λ (p : PathStep). Covers p index) there over))
  | inr within ↦ within
]

-- so the loads from there on are those from any other row that covered the index
pub reads_below : (s s' : Sheet) (index : ℕ) (old above new : List PathStep) (at : PathStep) → IsDeepestOver old above index at → above ≡ take (length above) new
    → ReadsUpTo (1 + (loads_in new - loads_in above)) s s' → ReadsBelow old new index s s'
reads_below s s' index old above new at deepest front reads level low over =
    let below = no_deeper old above index at deepest level low over in
    let parts = loads_in-parts level new in
    let shorter : take level new ≡ take level above = sym (take-take level (length above) new below) ∙ ap (take level) (sym front) in
    let less : loads_in (take level new) ≤ loads_in above = subst (λ (n : ℕ). n ≤ loads_in above) (sym (ap loads_in shorter)) (loads_in-take level above) in
    reads_up (1 + (loads_in new - loads_in above)) (loads_on (drop level new)) s s' (omega arith) reads

pub onward_near : (s s₁ s₂ : Sheet) (index : ℕ) (old above new : List PathStep) (at : PathStep) → IsDeepestOver old above index at → above ≡ take (length above) (path_in s.tree.table s.tree.root index)
    → new ≡ path_in s₁.tree.table s₁.tree.root index → ReadsUpTo 1 s s₁ → ReadsUpTo (loads_in new - loads_in above - 1) s₁ s₂ → ReadsBelow old new index s s₂
onward_near s s₁ s₂ index old above new at deepest front path kind_read reads =
    let whole : new ≡ path_in s.tree.table s.tree.root index = path ∙ ap (λ (t : Rooted). path_in t.table t.root index) (tree_kept 1 s s₁ kind_read) in
    reads_below s s₂ index old above new at deepest (front ∙ ap (take (length above)) (sym whole))
    (reads_up (1 + (loads_in new - loads_in above - 1)) (1 + (loads_in new - loads_in above)) s s₂ (omega arith)
    (reads_more 1 (loads_in new - loads_in above - 1) s s₁ s₂ kind_read reads))

-- ---- the leaf lies in each row of its path

ends_above : (t : laws.Tree) (h : ℕ) (stands : laws.Stands t h) (i e : ℕ) → i ≤ laws.top_of t → e ≤ h → (row_of t h i).last ≤ (row_of t e i).last
ends_above t h stands i e within low = elim (cases_lt e h) [
  | inr same ↦ (let is : e ≡ h = omega (arith, low, same) in subst (λ (d : ℕ). (row_of t h i).last ≤ (row_of t d i).last) (sym is) (omega arith))
  | inl above ↦
      (let leaf = place t h stands i h within (omega arith) in
      let from = leaf.from in let to = leaf.to in
      let j = (row_of t h i).last in
      let end = (at_within 0 (laws.top_of t + 1) (rows_at t h) i (row_of t h i) leaf).1 in
      let inside : j ≤ laws.top_of t = omega (arith, end) in
      let one = (inside_agree t h stands i j h within (omega arith) (omega (arith, from, to)) (omega arith)).1 e above in
      let max : (row_of t e j).last ≡ (row_of t e i).last =
      ap (λ (p : PathStep). p.max) (sym (step t h stands j e inside low) ∙ (one ∙ step t h stands i e within low)) in
      let ends = (place t h stands j e inside low).to in
      omega (arith, max, ends))
]

-- ---- the row that covers both indexes

module _ (t : laws.Tree) (h : ℕ) (stands : laws.Stands t h) (i index : ℕ) (old : i ≤ laws.top_of t) (within : index ≤ laws.top_of t)
    (above behind : List PathStep) (at : PathStep) (parts : path_in t.table t.root i ≡ above ++ (at ∷ behind)) (over : Covers at index) where
  abbrev d : ℕ
  d = length above

  many : length above + suc (length behind) ≡ h + 1
  many = sym (ap length parts ∙ length-append above (at ∷ behind)) ∙ levels t h stands i old

  low : d ≤ h
  low = let all = many in omega arith

  at_is : at ≡ step_in t.table (row_of t d i) i
  at_is = sym (ap (λ (l : List PathStep). step_at l d) parts ∙ get_or_at above at behind no_step d refl) ∙ step t h stands i d old low

  agree : (row_of t d index ≡ row_of t d i) × ((e : ℕ) → e < d → step_of t e index ≡ step_of t e i)
  agree =
      let min : at.min ≡ (row_of t d i).first = ap (λ (p : PathStep). p.min) at_is in
      let max : at.max ≡ (row_of t d i).last = ap (λ (p : PathStep). p.max) at_is in
      let from = over.0 in let to = over.1 in
      inside_agree t h stands i index d old low (omega arith) (omega arith)

  front_by : above ≡ take d (path_in t.table t.root index)
  front_by =
      let all = levels t h stands index within in
      let few = low in
      let long = length-take-le d (path_in t.table t.root index) (omega arith) in
      ext_get_or no_step above (take d (path_in t.table t.root index)) (sym long)
      (λ e below.
      sym (get_or_append_left above (at ∷ behind) no_step e below)
      ∙ (ap (λ (l : List PathStep). step_at l e) (sym parts)
      ∙ (sym (agree.1 e below)
      ∙ sym (get_or-take d (path_in t.table t.root index) e no_step below))))

  row_by : (k : RowKind) → k ≡ laws.kind_on t.gapped (h - d) → Some (record { number = at.row; kind = k; min = at.min; max = at.max }) ≡ row_for (row_of t d i)
  row_by k is =
      let few = low in
      let name = (lawful t h stands i d (h - d) old (omega arith)).name.named in
      let row : record { number = at.row; kind = k; min = at.min; max = at.max } ≡ row_as (row_of t d i) k = λ j. record { number = (at_is j).row; kind = k; min = (at_is j).min; max = (at_is j).max } in
      ap Some row ∙ row_named (row_of t d i) k (name ∙ ap Some (sym is))

  way_by : (k : RowKind) → k ≡ laws.kind_on t.gapped (h - d) → IsOnWay (rooted t) index d (record { number = at.row; kind = k; min = at.min; max = at.max })
  way_by k is =
      let few = low in
      let all = levels t h stands index within in
      record {
        low = omega arith;
        named = row_by k is ∙ ap row_for (sym agree.0);
      }

  -- the last row is a leaf, and all above are of the root's kind
  kind_by : (j : ℕ) → h - d ≡ j → (k : RowKind) → (length above + 1 ≡ length (path_in t.table t.root i) → k ≡ Leaf) → (length above + 1 ≢ length (path_in t.table t.root i) → Some k ≡ named_kind t.root) → k ≡ laws.kind_on t.gapped (h - d)
  kind_by zero is k leaf inner =
      let all = levels t h stands i old in
      let few = low in
      leaf (omega arith) ∙ ap (laws.kind_on t.gapped) (sym is)
  kind_by (suc j) is k leaf inner =
      let all = levels t h stands i old in
      let one : length above + 1 ≢ length (path_in t.table t.root i) = λ same. omega arith in
      let some : h ≡ suc (h - 1) = omega arith in
      let root : Some k ≡ Some (laws.kind_on t.gapped (suc j)) = inner one ∙ (root_named t h stands ∙ ap (λ (n : ℕ). Some (laws.kind_on t.gapped n)) some) in
      let same : k ≡ laws.kind_on t.gapped (suc j) = cc in
      same ∙ ap (laws.kind_on t.gapped) (sym is)

  -- ---- of the index behind the leaf

  module _ (none : AllByRecursion (λ (p : PathStep). Covers p index → ⊥) behind) (next : index ≡ (row_of t h i).last + 1) where
    abbrev x : Span
    x = row_of t d i

    abbrev spans : List Span
    spans = spans_in t.table x

    max_is : at.max ≡ x.last
    max_is = ap (λ (p : PathStep). p.max) at_is

    -- the row is not the leaf
    deep : d < h
    deep = elim (cases_lt d h) [
      | inl less ↦ less
      | inr past ↦
          (let few = low in
          let same : d ≡ h = omega (arith, few, past) in
          let ends : x.last ≡ (row_of t h i).last = ap (λ (e : ℕ). (row_of t e i).last) same in
          let to = over.1 in let max = max_is in
          absurd (omega (arith, ends, to, max, next)))
    ]

    abbrev y : Span
    y = row_of t (suc d) i

    step_below : step_of t (suc d) i ≡ step_in t.table y i
    step_below = step t h stands i (suc d) old (let less = deep in omega (arith, less))

    -- the row below is one of those that do not cover the index
    not_below : Covers (step_in t.table y i) index → ⊥
    not_below =
        let one : suc d - d ≡ suc 0 = omega arith in
        let some : 0 < length behind = (let all = many in let less = deep in omega (arith, all, less)) in
        let there : step_of t (suc d) i ≡ get_or behind 0 no_step =
        ap (λ (l : List PathStep). step_at l (suc d)) parts
        ∙ (get_or-append_right above (at ∷ behind) (length above) (suc d) no_step refl (omega arith)
        ∙ ap (λ (n : ℕ). get_or (at ∷ behind) n no_step) one) in
        subst (λ (p : PathStep). Covers p index → ⊥) (sym there ∙ step_below) (all_at (λ (p : PathStep). Covers p index → ⊥) behind 0 no_step none some)

    -- so it ends with the leaf
    below_ends : y.last ≡ (row_of t h i).last
    below_ends =
        let less = deep in
        let high = ends_above t h stands i (suc d) old (omega (arith, less)) in
        let leaf = (place t h stands i h old (omega arith)).to in
        let from = (place t h stands i (suc d) old (omega (arith, less))).from in
        elim (cases_lt y.last index) [
          | inl short ↦ omega (arith, high, short, next)
          | inr long ↦ absurd (not_below (omega (arith, from, leaf, next), long))
        ]

    child_at : At x.first (x.last + 1) spans i y
    child_at = child t h stands i d old deep

    y_is : span_at spans (slot_for spans i) ≡ y
    y_is = sym (row_next t d (top_row t) i)

    slot_is : at.slot ≡ slot_for spans i
    slot_is = ap (λ (p : PathStep). p.slot) at_is

    used : slot_for spans i < length spans
    used =
        let few = low in
        let slot = slot_used t h stands i d old few in
        let same = ap (λ (p : PathStep). p.slot) (step t h stands i d old few) in
        omega (arith, slot, same)

    ends : (span_at spans (slot_for spans i)).last ≡ y.last
    ends = ap (λ (z : Span). z.last) y_is

    fills : Fills x.first (x.last + 1) spans
    fills = (lawful t h stands i d (h - d) old (let few = low in omega (arith, few))).pivots.fills

    one_more : suc (slot_for spans i) < length spans
    one_more =
        fills_more x.first (x.last + 1) spans (slot_for spans i) fills used
        (λ whole. let to = over.1 in let max = max_is in let end = ends in let below = below_ends in omega (arith, whole, to, max, end, below, next))

    begins : (span_at spans (suc (slot_for spans i))).first ≡ index
    begins =
        fills_next x.first (x.last + 1) spans (slot_for spans i) fills one_more
        ∙ (ap (λ (n : ℕ). n + 1) (ends ∙ below_ends) ∙ sym next)

    pub slot_begins : (k : RowKind) → k ≡ laws.kind_on t.gapped (h - d) → BeginsAt t.table (record { number = at.row; kind = k; min = at.min; max = at.max }) (at.slot + 1) index
    slot_begins k is =
        let row : Row = record { number = at.row; kind = k; min = at.min; max = at.max } in
        let same : spans_of t.table row ≡ spans = spans_same t.table x row (row_by k is) in
        let slot : suc (slot_for spans i) ≡ at.slot + 1 = (let at_slot = slot_is in omega (arith, at_slot)) in
        subst (λ (n : ℕ). BeginsAt t.table row n index) slot
        (record {
          used = subst (λ (l : List Span). suc (slot_for spans i) < length l) (sym same) one_more;
          first = ap (λ (l : List Span). (span_at l (suc (slot_for spans i))).first) same ∙ begins;
        })

-- the last step of a path ends with the leaf
end_max : (t : laws.Tree) (h : ℕ) (stands : laws.Stands t h) (i : ℕ) → i ≤ laws.top_of t → (last_step (path_in t.table t.root i)).max ≡ (row_of t h i).last
end_max t h stands i within =
    let long = levels t h stands i within in
    let last : length (path_in t.table t.root i) - 1 ≡ h = omega (arith, long) in
    ap (λ (n : ℕ). (step_at (path_in t.table t.root i) n).max) last ∙ ap (λ (p : PathStep). p.max) (step t h stands i h within (omega arith))

-- ---- as the tree is told

module _ (t : Rooted) (kind : Kind) (tree : IsTreeOf t kind) (i index : ℕ) (old : i ≤ greatest t.table.width) (within : index ≤ greatest t.table.width) (steps : List PathStep) (path : steps ≡ path_in t.table t.root i) where
  abbrev lawful_tree : laws.Tree
  lawful_tree = tree_as kind t

  -- where no row covers the index there is none
  pub no_rows : AllByRecursion (λ (p : PathStep). Covers p index → ⊥) steps → [] ≡ path_in t.table t.root index
  no_rows none = by tree.words
    where
      by : laws.IsTree lawful_tree → [] ≡ path_in t.table t.root index
      by (inl empty) = sym (empty_path t index empty)
      by (inr (h, stands)) =
          let all = ap length path ∙ levels lawful_tree h stands i old in
          let root : step_at steps 0 ≡ step_in t.table (row_of lawful_tree 0 i) i = ap (λ (l : List PathStep). step_at l 0) path ∙ step lawful_tree h stands i 0 old (omega arith) in
          let top : step_at steps 0 ≡ step_in t.table (top_row lawful_tree) i = root ∙ ap (λ (x : Span). step_in t.table x i) (row_on_top t.table (top_row lawful_tree) i) in
          let over : Covers (step_in t.table (top_row lawful_tree) i) index = (omega arith, within) in
          absurd (all_at (λ (p : PathStep). Covers p index → ⊥) steps 0 no_step none (omega arith) (subst (λ (p : PathStep). Covers p index) (sym top) over))

  -- which is not so where the tree has rows
  pub some_row : 0 < length steps → AllByRecursion (λ (p : PathStep). Covers p index → ⊥) steps → ⊥
  some_row few none =
      let root = some_root t i 0 (subst (λ (l : List PathStep). 0 < length l) path few) in
      let standing = some_tree lawful_tree tree.words root in
      let long = levels lawful_tree standing.0 standing.1 index within in
      let empty = ap length (no_rows none) in
      omega (arith, long, empty)

  module _ (above : List PathStep) (at : PathStep) (deepest : IsDeepestOver steps above index at) where
    parts : path_in t.table t.root i ≡ above ++ (at ∷ deepest.behind)
    parts = sym path ∙ deepest.parts

    some : t.root ≢ 0
    some =
        let all = ap length parts ∙ length-append above (at ∷ deepest.behind) in
        some_root t i 0 (omega arith)

    stands : (h : ℕ) × laws.Stands lawful_tree h
    stands = some_tree lawful_tree tree.words some

    pub onward_front : above ≡ take (length above) (path_in t.table t.root index)
    onward_front = front_by lawful_tree stands.0 stands.1 i index old within above deepest.behind at parts deepest.over

    pub named_root : IsSome (named_kind t.root)
    named_root = ap is_some (root_named lawful_tree stands.0 stands.1)

    pub onward_way : (is_last : Bool) → is_last ≡ (length above + 1 == length steps) → (k : RowKind) → (is_last ≡ true → k ≡ Leaf) → (is_last ≡ false → Some k ≡ named_kind t.root)
        → IsOnWay t index (length above) (record { number = at.row; kind = k; min = at.min; max = at.max })
    onward_way is_last test k leaf inner =
        let long = ap length path in
        way_by lawful_tree stands.0 stands.1 i index old within above deepest.behind at parts deepest.over k
        (kind_by lawful_tree stands.0 stands.1 i index old within above deepest.behind at parts deepest.over (stands.0 - length above) refl k
        (λ same. leaf (test ∙ eq-eqb (length above + 1) (length steps) (same ∙ sym long)))
        (λ other. inner (test ∙ ne_eqb (length above + 1) (length steps) (λ same. other (same ∙ long)))))

    -- the next slot of that row begins at the index behind the leaf
    pub onward_begins : index ≡ (last_step steps).max + 1 → (is_last : Bool) → is_last ≡ (length above + 1 == length steps) → (k : RowKind) → (is_last ≡ true → k ≡ Leaf) → (is_last ≡ false → Some k ≡ named_kind t.root)
        → BeginsAt t.table (record { number = at.row; kind = k; min = at.min; max = at.max }) (at.slot + 1) index
    onward_begins next is_last test k leaf inner =
        let long = ap length path in
        let end : index ≡ (row_of lawful_tree stands.0 i).last + 1 = next ∙ ap (λ (n : ℕ). n + 1) (ap (λ (l : List PathStep). (last_step l).max) path ∙ end_max lawful_tree stands.0 stands.1 i old) in
        slot_begins lawful_tree stands.0 stands.1 i index old within above deepest.behind at parts deepest.over deepest.none_deeper end k
        (kind_by lawful_tree stands.0 stands.1 i index old within above deepest.behind at parts deepest.over (stands.0 - length above) refl k
        (λ same. leaf (test ∙ eq-eqb (length above + 1) (length steps) (same ∙ sym long)))
        (λ other. inner (test ∙ ne_eqb (length above + 1) (length steps) (λ same. other (same ∙ long)))))
