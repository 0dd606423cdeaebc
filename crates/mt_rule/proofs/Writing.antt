-- The pen's loads, and its stores that publish nothing, keep the rule and tell what they are said to tell.
use Rattle.mt_rule.proofs.Prelude.{◌≡◌, ℕ, ◌+◌, ◌<◌, ◌≤◌, List, set, refl, sym, ap, ◌∙◌, subst, arith, some, none, get_elem?, set-get_or, slice_index, slice_set, Me, step, keeps, Allows, Width, kind_width, first_row, word_behind, place_within, words_in_all, IsPlace, TableStart, View, PenPart, Shape, MtTable, Pen, root_at, first_row_column, section_at, table_size, column_at, HasPen, pen_of, rooted_in, shape_told, Identity, identity_of, IsPenOf, pen_in, IsKept, ViewFits, looks, looks_at_root, most_passes}
use Rattle.mt_rule.proofs.Carrying.{St, recast, reseated}
use Rattle.mt_rule.proofs.Viewing.{each_set}

abbrev pub M : Type 0
M = Me (Unit {0}) View

-- ---- where words stand

pub root_inside : (t : MtTable) → root_at < t.table.shared.table_id.words
root_inside t = let words = t.words in let all = words_in_all (kind_width t.table.shared.key.kind) (shape_told t.table.shared.key).rows in omega arith

section_low : (w : Width) (pass rows : ℕ) → pass < most_passes → section_at pass < table_size w rows
section_low w pass rows few = let all = words_in_all w rows in omega arith

pub section_inside : (t : MtTable) (pen : Pen) (pass : ℕ) → IsPenOf (identity_of t) pen → pass < (pen_in pen).shape.passes → section_at pass < t.table.shared.table_id.words
section_inside t pen pass of few =
    let passes : (pen_in pen).shape.passes ≡ t.table.shared.key.passes = ap (λ (d : Identity). d.shape.passes) of in
    let most = t.few_passes in
    subst (λ (n : ℕ). section_at pass < n) (sym t.words) (section_low (kind_width t.table.shared.key.kind) pass (shape_told t.table.shared.key).rows (omega arith))

-- the index of a column of the pen's rows
pub record IsColumn (t : MtTable) (p : PenPart) (row col i : ℕ) : Type 0 where
  pub is : i ≡ column_at (kind_width p.shape.kind) row col
  pub above : first_row_column (kind_width p.shape.kind) ≤ column_at (kind_width p.shape.kind) row col
  pub below : column_at (kind_width p.shape.kind) row col < table_size (kind_width p.shape.kind) p.shape.rows
  pub inside : i < t.table.shared.table_id.words

pub column_of : (t : MtTable) (pen : Pen) (row col i : ℕ) → IsPenOf (identity_of t) pen → IsPlace (rooted_in (pen_in pen)) row col → i ≡ column_at t.width row col → IsColumn t (pen_in pen) row col i
column_of t pen row col i of place at =
    let p = pen_in pen in
    let shape : p.shape ≡ shape_told t.table.shared.key = ap (λ (d : Identity). d.shape) of in
    let kind : p.shape.kind ≡ t.table.shared.key.kind = ap (λ (d : Shape). d.kind) shape in
    let is : i ≡ column_at (kind_width p.shape.kind) row col = at ∙ ap (λ (w : Width). column_at w row col) (t.wide ∙ ap kind_width (sym kind)) in
    let low = place_within (kind_width p.shape.kind) row (first_row + p.shape.rows) col place.last place.column in
    record {
      is = is;
      above = word_behind (kind_width p.shape.kind) row first_row col place.first;
      below = low;
      inside = subst (λ (n : ℕ × ℕ). n.0 < n.1) (λ j. (sym is j, (ap (λ (d : Shape). table_size (kind_width d.kind) d.rows) shape ∙ sym t.words) j)) low;
    }

-- ---- loads that change nothing

-- a word is as it was, and so is a view
pub unchanged : (told : TableStart) (s : St) (r : IsKept told s) (by : ℕ) (v : View) → get_elem? s.views by ≡ some v → (i : ℕ)
    → IsKept told record { words = slice_set s.words i (slice_index s.words i); homes = s.homes; views = set s.views by v }
unchanged told s r by v at i = subst (λ (words : List ℕ). IsKept told record { words = words; homes = s.homes; views = set s.views by v }) (sym (set-get_or s.words i 0))
    (reseated s r r.owner r.words (each_set (ViewFits r.pen r.owner r.extents r.part s.words) s.views by v (λ j u _ e. r.each j u e) (r.each by v at)))

pub looking : (told : TableStart) (slots by : ℕ) (me : M) (word : ℕ) → HasPen me.0 → first_row_column (kind_width (pen_of me.0).shape.kind) ≤ word → Allows (IsKept told) slots by me word (λ n. n) (looks (step slots word 0 0 none) me)
looking told slots by me word has high s r₀ _ at _ =
    let v = me.0 in let p = pen_of v in
    let r = recast told s r₀ p (sym ((r₀.each by v at).keeper p has).1) in
    (v, keeps, tt, unchanged told s r by v at word, record { view = refl; found_is = r.words.columns word high })

pub looking_at_root : (told : TableStart) (slots by : ℕ) (me : M) → HasPen me.0 → Allows (IsKept told) slots by me root_at (λ n. n) (looks_at_root (step slots root_at 0 0 none) me)
looking_at_root told slots by me has s r₀ _ at _ =
    let v = me.0 in let p = pen_of v in
    let r = recast told s r₀ p (sym ((r₀.each by v at).keeper p has).1) in
    (v, keeps, tt, unchanged told s r by v at root_at, record { view = refl; found_is = r.words.root })
