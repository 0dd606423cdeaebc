-- What the code asks where it looks at the rows of a window and at those beside it.
use Rattle.mt_splice.proofs.Prelude.{◌≡◌, ℕ, suc, ◌+◌, ◌-◌, ◌<◌, ◌≤◌, List, Bool, true, false, length, sym, ap, ◌∙◌, subst, ⊎_elim, arith, ◌↔◌, cases_lt, Width, greatest, first_row, Item, RowKind, slots_of, run_room, sizes, top_of, kind_on, Rooted, PathStep, step_at, path_in, MayLook, MayGather, short_run, beside_items, wants_row, MayWiden, IsWindow, Start, items_of_row}
use Rattle.mt_splice.proofs.Besides.{begin_within, low_enough}
use Rattle.mt_splice.proofs.Raised.{deep, number, left_slot, more_right, none_right}
use Rattle.mt_splice.proofs.ReadsNow.{items_of_path}
use Rattle.mt_splice.proofs.Widened.{first_step, last_step, last_within, few_if_short, few_if_wanted}
use Rattle.mt_splice.proofs.Windows.{ahead_within}

-- a row stands behind, or before
pub is_less : {b : Bool} {n top : ℕ} → n ≤ top → (b ≡ false) ↔ (n ≡ top) → b ≡ true → n < top
is_less {b} {n} {top} low none goes = ⊎_elim (λ (less : n < top). less) (λ (past : top ≤ n). let stays : b ≡ false = none.1 (omega arith) in let clash : true ≡ false = sym goes ∙ stays in absurd (cc)) (cases_lt n top)

pub is_more : {b : Bool} {n : ℕ} → (b ≡ false) ↔ (n ≡ 0) → b ≡ true → 0 < n
is_more {b} {n} none goes = ⊎_elim (λ (some : 0 < n). some) (λ (first : n ≤ 0). let stays : b ≡ false = none.1 (omega arith) in let clash : true ≡ false = sym goes ∙ stays in absurd (cc)) (cases_lt 0 n)

module _ {start : Start} {t : Rooted} {kind : RowKind} {left right : List PathStep} {depth : ℕ} {items : List Item} (m : MayLook start t kind left right depth items) where
  abbrev w : MayWiden start m.below left right depth m.height items
  w = m.may

  pub left_deep : depth < length left
  left_deep = deep start.tree start.height w.window.gathered.stands left w.window.from depth (begin_within w.window.gathered) (low_enough w.window.gathered) w.window.is_left

  pub right_deep : depth < length right
  right_deep = deep start.tree start.height w.window.gathered.stands right w.window.to depth w.window.gathered.within (low_enough w.window.gathered) w.window.is_right

  by_width : (P : Width → Type 0) → P start.tree.table.width → P t.table.width
  by_width P here = subst P (sym m.is_now.width) here

  pub low_end : (step_at right depth).max ≤ greatest t.table.width
  low_end = by_width (λ v. (step_at right depth).max ≤ greatest v) (last_within w)

  -- any other path
  leads : {path : List PathStep} (i : ℕ) → i ≤ top_of start.tree → path ≡ path_in t.table t.root i → (depth < length path) × ((first_row ≤ (step_at path depth).row) × ((step_at path depth).row < first_row + t.rows))
  leads {path} i within is =
      let there = is ∙ m.is_now.paths i within in
      let at = number start.tree start.height w.window.gathered.stands path i depth within (low_enough w.window.gathered) there in
      (deep start.tree start.height w.window.gathered.stands path i depth within (low_enough w.window.gathered) there, (at.0, subst (λ (n : ℕ). (step_at path depth).row < first_row + n) (sym m.is_now.rows) at.1))

  pub row_behind : {path : List PathStep} → (step_at right depth).max < greatest t.table.width → path ≡ path_in t.table t.root ((step_at right depth).max + 1)
      → (depth < length path) × ((first_row ≤ (step_at path depth).row) × ((step_at path depth).row < first_row + t.rows))
  row_behind more is = leads ((step_at right depth).max + 1) (let less = subst (λ (v : Width). (step_at right depth).max < greatest v) m.is_now.width more in omega arith) is

  pub row_before : {path : List PathStep} → 0 < (step_at left depth).min → path ≡ path_in t.table t.root ((step_at left depth).min - 1)
      → (depth < length path) × ((first_row ≤ (step_at path depth).row) × ((step_at path depth).row < first_row + t.rows))
  row_before some is =
      leads ((step_at left depth).min - 1)
      (let first = first_step w in let low = ahead_within start.tree start.height w.window.gathered.stands w.window.from depth (begin_within w.window.gathered) (low_enough w.window.gathered) (omega arith) in omega arith) is

  same_kind : (P : RowKind → Width → Type 0) → P (kind_on start.tree.gapped m.height) start.tree.table.width → P kind t.table.width
  same_kind P here = subst (λ (p : RowKind × Width). P p.0 p.1) (λ i. (sym m.of_kind i, sym m.is_now.width i)) here

  pub room_if_wanted : wants_row t.table.width kind items ≡ true → (step_at right depth).max < greatest t.table.width → length items + slots_of t.table.width kind ≤ run_room
  room_if_wanted = same_kind (λ k v. wants_row v k items ≡ true → (step_at right depth).max < greatest v → length items + slots_of v k ≤ run_room)
      (λ wanting more.
      let behind = last_step w in let few = few_if_wanted w wanting (omega arith) in
      let enough = sizes start.tree.table.width (kind_on start.tree.gapped m.height) in omega arith)

  pub room_if_short : short_run t.table.width kind items ≡ true → length items + slots_of t.table.width kind ≤ run_room
  room_if_short = same_kind (λ k v. short_run v k items ≡ true → length items + slots_of v k ≤ run_room)
      (λ short. let few = few_if_short w short in let enough = sizes start.tree.table.width (kind_on start.tree.gapped m.height) in omega arith)

  -- ---- as the code tells it

  pub wanted : {width : Width} {b : Bool} → width ≡ t.table.width → b ≡ wants_row width kind items → b ≡ true → wants_row t.table.width kind items ≡ true
  wanted same is goes = ap (λ (w : Width). wants_row w kind items) (sym same) ∙ (sym is ∙ goes)

  pub short : {width : Width} {b : Bool} → width ≡ t.table.width → b ≡ short_run width kind items → b ≡ true → short_run t.table.width kind items ≡ true
  short same is goes = ap (λ (w : Width). short_run w kind items) (sym same) ∙ (sym is ∙ goes)

  module _ {t' : Rooted} (same : t' ≡ t) where
    pub path_before : {path : List PathStep} → path ≡ path_in t'.table t'.root ((step_at left depth).min - 1) → path ≡ path_in t.table t.root ((step_at left depth).min - 1)
    path_before is = is ∙ ap (λ (x : Rooted). path_in x.table x.root ((step_at left depth).min - 1)) same

    module _ {s s' : PathStep} (step : s ≡ s') {items' : List Item} where
      pub all_behind : items' ≡ beside_items kind items (items_of_row t'.table kind s.row s.max) → items' ≡ beside_items kind items (items_of_row t.table kind s'.row s'.max)
      all_behind is = is ∙ (λ j. beside_items kind items (items_of_row (same j).table kind (step j).row (step j).max))

      pub all_before : items' ≡ beside_items kind (items_of_row t'.table kind s.row s.max) items → items' ≡ beside_items kind (items_of_row t.table kind s'.row s'.max) items
      all_before is = is ∙ (λ j. beside_items kind (items_of_row (same j).table kind (step j).row (step j).max) items)

-- ---- what is asked where a level is gathered

module _ {start : Start} {t : Rooted} {kind : RowKind} {left right : List PathStep} {depth : ℕ} {new : List Item} (m : MayGather start t kind left right depth new) where
  abbrev v : IsWindow start m.below left right (suc depth) m.height m.items
  v = m.window

  low_here : depth ≤ start.height
  low_here = let levels = v.gathered.levels in omega arith

  pub left_goes : depth < length left
  left_goes = deep start.tree start.height v.gathered.stands left v.from depth (begin_within v.gathered) low_here v.is_left

  next : suc depth ≡ depth + 1
  next = omega arith

  pub right_goes : depth + 1 < length right
  right_goes = let deeper = deep start.tree start.height v.gathered.stands right v.to (suc depth) v.gathered.within (let levels = v.gathered.levels in omega arith) v.is_right in omega arith

  pub right_above : depth < length right
  right_above = let goes = right_goes in omega arith

  in_table : (path : List PathStep) → (first_row ≤ (step_at path depth).row) × ((step_at path depth).row < first_row + start.tree.rows) → (first_row ≤ (step_at path depth).row) × ((step_at path depth).row < first_row + t.rows)
  in_table path at = (at.0, subst (λ (n : ℕ). (step_at path depth).row < first_row + n) (sym m.is_now.rows) at.1)

  pub left_number : (first_row ≤ (step_at left depth).row) × ((step_at left depth).row < first_row + t.rows)
  left_number = in_table left (number start.tree start.height v.gathered.stands left v.from depth (begin_within v.gathered) low_here v.is_left)

  pub right_number : (first_row ≤ (step_at right depth).row) × ((step_at right depth).row < first_row + t.rows)
  right_number = in_table right (number start.tree start.height v.gathered.stands right v.to depth v.gathered.within low_here v.is_right)

  pub left_slot_low : (step_at left depth).slot ≤ slots_of t.table.width kind
  left_slot_low = subst (λ (p : RowKind × Width). (step_at left depth).slot ≤ slots_of p.1 p.0) (λ i. (sym m.of_kind i, sym m.is_now.width i)) (left_slot v new)

  many_right : length (items_of_row start.tree.table (kind_on start.tree.gapped (suc m.height)) (step_at right depth).row (step_at right depth).max) ≡ length (items_of_row t.table kind (step_at right depth).row (step_at right depth).max)
  many_right =
      ap (λ (k : RowKind). length (items_of_row start.tree.table k (step_at right depth).row (step_at right depth).max)) (sym m.of_kind)
      ∙ sym (ap length (items_of_path m.is_now v.gathered.stands kind right v.to depth (suc m.height) v.gathered.within (let levels = v.gathered.levels in omega arith) v.is_right))

  pub more_behind : (step_at right (depth + 1)).max < (step_at right depth).max → (step_at right depth).slot + 1 < length (items_of_row t.table kind (step_at right depth).row (step_at right depth).max)
  more_behind = subst (λ (p : ℕ × ℕ). (step_at right p.1).max < (step_at right depth).max → (step_at right depth).slot + 1 < p.0) (λ i. (many_right i, next i)) (more_right v new)

  pub none_behind : (step_at right depth).max ≤ (step_at right (depth + 1)).max → length (items_of_row t.table kind (step_at right depth).row (step_at right depth).max) ≤ (step_at right depth).slot + 1
  none_behind = subst (λ (p : ℕ × ℕ). (step_at right depth).max ≤ (step_at right p.1).max → p.0 ≤ (step_at right depth).slot + 1) (λ i. (many_right i, next i)) (none_right v new)
