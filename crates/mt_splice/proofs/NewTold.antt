-- A row that was written keeps the law of gaps, and the item that it is one level up tells its gap.
use Rattle.mt_splice.proofs.Prelude.{◌≡◌, ℕ, zero, suc, List, ◌∷◌, refl, sym, subst, ◌≢◌, Item, RowKind, Leaf, Inner, Gapped, Span, gaps_of, spans_from, some_gaps_of, Table, spans_in, TellGaps, told_gap, []}
use Rattle.mt_splice.proofs.GapRows.{leaf_longest, inner_longest}
use Rattle.mt_splice.proofs.WrittenRows.{as_held}

-- ---- what it tells

abbrev pub item_up : RowKind → RowKind → Span → List Item → Item
item_up above kind x items = record { last = x.last; word = x.word; gap = told_gap above kind x.first items }

pub tells_leaf : (above : RowKind) (t : Table) (x : Span) (items : List Item) → spans_in t x ≡ spans_from x.first items → TellGaps above t 0 x.first (item_up above Leaf x items ∷ [])
tells_leaf Leaf t x items spans = tt
tells_leaf Inner t x items spans = tt
tells_leaf Gapped t x items spans = let longest = leaf_longest t x x.first items spans in λ i. longest i ∷ []

pub tells_inner : (above : RowKind) (t : Table) (h : ℕ) (x : Span) (items : List Item) → spans_in t x ≡ spans_from x.first items → TellGaps above t h x.first items → TellGaps above t (suc h) x.first (item_up above above x items ∷ [])
tells_inner Leaf t h x items spans told = tt
tells_inner Inner t h x items spans told = tt
tells_inner Gapped t h x items spans told = let longest = inner_longest t h x x.first items spans told in λ i. longest i ∷ []

-- ---- the law of gaps

held_some : (gaps : ℕ) (items : List Item) → gaps ≢ 0 → as_held gaps items ≡ items
held_some zero items some = absurd (some refl)
held_some (suc gaps) items some = refl

pub tells_held : (kind : RowKind) (t : Table) (h first : ℕ) (items : List Item) → TellGaps kind t h first items → TellGaps kind t h first (as_held (gaps_of t.width kind) items)
tells_held Leaf t h first items told = tt
tells_held Inner t h first items told = tt
tells_held Gapped t h first items told = subst (TellGaps Gapped t h first) (sym (held_some (gaps_of t.width Gapped) items (some_gaps_of t.width))) told
