-- The items that new rows are one level up stand for what these hold.
use Rattle.mt_splice.proofs.Prelude.{◌≡◌, ℕ, suc, ◌+◌, ◌-◌, ◌<◌, ◌≤◌, List, [], ◌∷◌, ◌++◌, length, drop, refl, sym, ap, ◌∙◌, subst, arith, take-append-drop, drop-drop, Item, RowKind, end_of, spans_from, Fills, after, after-append, after_some, fills_le, fills_after, Tree, kind_on, IsCutOf, MayBeCut, part_of, heads}
use Rattle.mt_splice.proofs.LevelRuns.{AreParts, length-part, cut_makes_parts}
use Rattle.mt_splice.proofs.Gathering.{none_behind}

pub drop_part : (items : List Item) (from to : ℕ) → from ≤ to → drop from items ≡ part_of items from to ++ drop to items
drop_part items from to order =
    let whole : from + (to - from) ≡ to = omega arith in
    sym (take-append-drop (to - from) (drop from items)) ∙ ap (λ (l : List Item). part_of items from to ++ l) (drop-drop (to - from) from items ∙ ap (λ (n : ℕ). drop n items) whole)

-- items fill some indexes
some_indexes : (lo hi : ℕ) (items : List Item) → 1 ≤ length items → Fills lo hi (spans_from lo items) → lo < hi
some_indexes lo hi [] some fills = absurd (omega arith)
some_indexes lo hi (x ∷ items) some fills = let first = fills.1 in let rest = fills_le (x.last + 1) hi (spans_from (x.last + 1) items) fills.2 in omega arith

module _ (t : Tree) (height : ℕ) (above kind : RowKind) (items : List Item) where
  parts_fill : (at from : ℕ) (ends rows : List ℕ) → AreParts t height at items from ends → length rows ≡ length ends → Fills at (after at (drop from items)) (spans_from at (heads above kind at items from ends rows))
  parts_fill at from [] rows parts many = sym (ap (after at) (none_behind from items (omega arith)))
  parts_fill at from (to ∷ ends) [] parts many = absurd (omega arith)
  parts_fill at from (to ∷ ends) (row ∷ rows) parts many =
      let part = part_of items from to in
      let order = parts.0.some in
      let long = length-part items from to parts.0.within in
      let behind = after_some at 0 part (omega arith) in
      let some = some_indexes at (after at part) part (omega arith) parts.0.run.fills in
      let rest = parts_fill (after at part) to ends rows parts.1 (omega arith) in
      let end : after (after at part) (drop to items) ≡ after at (drop from items) = sym (ap (after at) (drop_part items from to (omega arith)) ∙ after-append at part (drop to items)) in (
        refl,
        omega arith,
        subst (λ (p : ℕ × ℕ). Fills p.0 p.1 (spans_from p.0 (heads above kind p.0 items to ends rows))) (λ i. (behind i, end i)) rest,
      )

  pub heads_fill : {lo hi : ℕ} {ends : List ℕ} (rows : List ℕ) → MayBeCut t height lo hi (spans_from lo items) → IsCutOf t.table.width (kind_on t.gapped height) items ends → length rows ≡ length ends → Fills lo hi (spans_from lo (heads above kind lo items 0 ends rows))
  heads_fill {lo} {hi} {ends} rows run cut many =
      subst (λ (n : ℕ). Fills lo n (spans_from lo (heads above kind lo items 0 ends rows))) (sym (fills_after lo hi items run.fills)) (parts_fill lo 0 ends rows (cut_makes_parts items run cut) many)

pub length-heads : (above kind : RowKind) (at : ℕ) (items : List Item) (from : ℕ) (ends rows : List ℕ) → length rows ≡ length ends → length (heads above kind at items from ends rows) ≡ length ends
length-heads above kind at items from [] rows many = refl
length-heads above kind at items from (to ∷ ends) [] many = absurd (omega arith)
length-heads above kind at items from (to ∷ ends) (row ∷ rows) many = ap suc (length-heads above kind (end_of 0 (part_of items from to) + 1) items to ends rows (omega arith))
