-- While new rows are written beside the tree's rows, what is read is what stood in the tree as it was.
use Rattle.mt_splice.proofs.Prelude.{◌≡◌, ◌⊎◌, ℕ, suc, ◌+◌, ◌-◌, ◌<◌, ◌≤◌, List, ◌++◌, take, drop, true, false, sym, ap, ◌∙◌, subst, inl, inr, arith, Width, columns, greatest, Item, RowKind, Span, slots_of, gaps_of, layout_of, same_items, Table, base_of, SameColumns, Stands, top_of, Rooted, PathStep, path_in, step_at, short_run, beside_items, Start, table_with, IsNowOf, items_above, items_of_row, wants_row, IsWidened, MayWiden, IsWindow}
use Rattle.mt_splice.proofs.Windows.{ahead_within}
use Rattle.mt_splice.proofs.Besides.{begin_within, low_enough}
use Rattle.mt_splice.proofs.Widened.{step_is, first_step}
use Rattle.mt_splice.proofs.StoredWords.{words_of}

-- the items of a row that keeps its words
pub items_now : (t : Table) (words : List ℕ) (kind : RowKind) (row max : ℕ) → SameColumns t (table_with t words) (columns t.width) row → items_of_row (table_with t words) kind row max ≡ items_of_row t kind row max
items_now t words kind row max same =
    same_items (columns t.width) (slots_of t.width kind) (gaps_of t.width kind) (base_of t row) (base_of t row) words t.words (layout_of t.width kind) (λ c some within. same c some within) max

-- the items of a path's row
pub items_of_path : {start : Start} {t : Rooted} → IsNowOf start t → Stands start.tree start.height → (kind : RowKind) (path : List PathStep) (i d h : ℕ) → i ≤ top_of start.tree → start.height ≡ d + h → path ≡ path_in start.tree.table start.tree.root i
    → items_of_row t.table kind (step_at path d).row (step_at path d).max ≡ items_of_row start.tree.table kind (step_at path d).row (step_at path d).max
items_of_path {start} {t} now stands kind path i d h within levels is =
    let step = step_is start.tree start.height stands path i d within (omega arith) is in
    subst (λ (row : ℕ). items_of_row t.table kind row (step_at path d).max ≡ items_of_row start.tree.table kind row (step_at path d).max) (sym (ap (λ (z : PathStep). z.row) step)) (now.items i d h within levels kind (step_at path d).max)

module _ {start : Start} {t : Rooted} (now : IsNowOf start t) {below : List Span} {left right : List PathStep} {d h : ℕ} {items : List Item} (m : MayWiden start below left right d h items) where
  by_width : (P : Width → Type 0) → P t.table.width → P start.tree.table.width
  by_width P here = subst P now.width here

  row_items : (kind : RowKind) (path : List PathStep) (i : ℕ) → i ≤ top_of start.tree → path ≡ path_in start.tree.table start.tree.root i → items_of_row t.table kind (step_at path d).row (step_at path d).max ≡ items_of_row start.tree.table kind (step_at path d).row (step_at path d).max
  row_items kind path i within is = items_of_path now m.window.gathered.stands kind path i d h within m.window.gathered.levels is

  pub widened_now : {kind : RowKind} {left' right' : List PathStep} {items' : List Item} → IsWidened t kind d left right items left' right' items' → IsWidened (words_of start.tree) kind d left right items left' right' items'
  widened_now {kind} {left'} {right'} {items'} (inl is) = inl (record {
    enough = by_width (λ w. (wants_row w kind items ≡ false) ⊎ (((step_at right d).max ≡ greatest w) × ((short_run w kind items ≡ false) ⊎ ((step_at left d).min ≡ 0)))) is.enough;
    same = is.same;
  })
  widened_now {kind} {left'} {right'} {items'} (inr (inl is)) =
      let some = by_width (λ w. (step_at right d).max < greatest w) is.some in
      let path = is.is_right ∙ now.paths ((step_at right d).max + 1) (omega arith) in
      inr (inl (record {
        wanted = by_width (λ w. wants_row w kind items ≡ true) is.wanted;
        some = some;
        is_left = is.is_left;
        is_right = path;
        all = is.all ∙ ap (beside_items kind items) (row_items kind right' ((step_at right d).max + 1) (omega arith) path);
      }))
  widened_now {kind} {left'} {right'} {items'} (inr (inr is)) =
      let some = is.some in let first = first_step m in
      let low = ahead_within start.tree start.height m.window.gathered.stands m.window.from d (begin_within m.window.gathered) (low_enough m.window.gathered) (omega arith) in
      let path = is.is_left ∙ now.paths ((step_at left d).min - 1) (omega arith) in
      inr (inr (record {
        short = by_width (λ w. short_run w kind items ≡ true) is.short;
        last = by_width (λ w. (step_at right d).max ≡ greatest w) is.last;
        some = some;
        is_left = path;
        is_right = is.is_right;
        all = is.all ∙ ap (λ (row : List Item). beside_items kind row items) (row_items kind left' ((step_at left d).min - 1) (omega arith) path);
      }))

-- and what is gathered one level up
pub above_now : {start : Start} {t : Rooted} (now : IsNowOf start t) {below : List Span} {left right : List PathStep} {d h : ℕ} {items : List Item} (w : IsWindow start below left right (suc d) h items) (kind : RowKind) (new : List Item)
    → items_above t kind d left right new ≡ items_above (words_of start.tree) kind d left right new
above_now {start} {t} now {below} {left} {right} {d} {h} {items} w kind new =
    let levels = w.gathered.levels in
    let l = items_of_path now w.gathered.stands kind left w.from d (suc h) (begin_within w.gathered) (omega arith) w.is_left in
    let r = items_of_path now w.gathered.stands kind right w.to d (suc h) w.gathered.within (omega arith) w.is_right in
    λ i. take (step_at left d).slot (l i) ++ (new ++ drop ((step_at right d).slot + 1) (r i))
