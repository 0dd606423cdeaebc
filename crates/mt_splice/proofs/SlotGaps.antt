-- The law of gaps after one store in a slot: above it holds but in the slots that cover what was replaced.
use Rattle.mt_splice.proofs.Prelude.{◌≡◌, ◌⊎◌, ℕ, zero, suc, ◌+◌, ◌<◌, ◌≤◌, List, [], ◌∷◌, ◌++◌, Bool, true, false, Option, Some, refl, sym, ◌∙◌, subst, inl, inr, ⊎_elim, arith, nat_le, AllByRecursion, slice_get, cases_Bool, eqb-true, eqb-false, leb-false, lt-leb, all_front, all_back, all_join, Item, RowKind, Leaf, Inner, Gapped, Span, row_in, named_kind, slots_of, gaps_of, spans_from, Fills, fills_le, fills_split, Table, base_of, inner_of, spans_by, spans_in, expand, level, Levels, Tree, HasWords, IsRow, Stands, GapLaw, GapLawBy, GapsFrom, items_in, longest_below, covers, GapsFromBut, GapLawBut, GapLawButBy, KeepsGaps, root_of, IsSlotAt, with_slot, Shared, levels_front, levels_back, levels_map, level_next, level_rows, levels_both, levels_lower, levels_upper, upper_both, upper_more, upper_shared, all_both, levels_from, IsOneOf, OnLevel, all_one_of, one_of_expand, one_of_parts, on_level_law, one_place, all_of_each, row_most, others_keep, slot_fits, put_item, items_at-put, AreGapsAt, gaps_read, covers_it, longest_shared, TellGaps}
use Rattle.mt_rows.proofs.SlotStore as store
use Rattle.mt_splice.proofs.GapRows.{row_tells, items_same}

-- ---- spans that cover an index, and those that do not

abbrev Off : ℕ → Span → Type 0
Off index x = covers index x ≡ false

off_where : (index : ℕ) (x : Span) → Off index x → (index < x.first) ⊎ (x.last < index)
off_where index x off = elim (cases_Bool (nat_le x.first index)) [
  | inl from ↦ let to : nat_le index x.last ≡ false = rw from at off in inr (leb-false index x.last to)
  | inr not ↦ inl (leb-false x.first index not)
]

off_below : (index : ℕ) (x : Span) → index < x.first → Off index x
off_below index x below = rw (lt-leb x.first index below) refl

off_above : (index : ℕ) (x : Span) → x.last < index → Off index x
off_above index x above = elim (cases_Bool (nat_le x.first index)) [ inl from ↦ rw (from, lt-leb index x.last above) refl | inr not ↦ rw not refl ]

-- what fills indexes beside an index does not cover it
all_off : (index lo hi : ℕ) (xs : List Span) → Fills lo hi xs → (index < lo) ⊎ (hi ≤ index) → AllByRecursion (Off index) xs
all_off index lo hi [] fills beside = tt
all_off index lo hi (x ∷ xs) fills (inl below) = (off_below index x (let begins = fills.0 in omega arith), all_off index (x.last + 1) hi xs fills.2 (inl (let order = fills.1 in omega arith)))
all_off index lo hi (x ∷ xs) fills (inr above) = (off_above index x (let behind = fills_le (x.last + 1) hi xs fills.2 in omega arith), all_off index (x.last + 1) hi xs fills.2 (inr above))

-- ---- items that tell their gaps but where they cover an index

abbrev TellBut : ℕ → Table → ℕ → ℕ → List Item → Type 0
TellBut index t h first [] = Unit {0}
TellBut index t h first (x ∷ items) =
    (Off index (record { first = first; last = x.last; word = x.word }) → x.gap ≡ longest_below t h (record { first = first; last = x.last; word = x.word } ∷ [])) × TellBut index t h (x.last + 1) items

-- what stands below the spans beside an index is the same
abbrev SameBeside : ℕ → Table → Table → ℕ → Span → Type 0
SameBeside index t t' h x = Off index x → Levels (Shared t t') t h (x ∷ [])

tell_but : (index : ℕ) (t t' : Table) (h first : ℕ) (items : List Item) → AllByRecursion (SameBeside index t t' h) (spans_from first items) → TellGaps Gapped t h first items → TellBut index t' h first items
tell_but index t t' h first [] same told = tt
tell_but index t t' h first (x ∷ items) same told =
    let at : Span = record { first = first; last = x.last; word = x.word } in
    let here : x.gap ≡ longest_below t h (at ∷ []) = cc in
    let behind : TellGaps Gapped t h (x.last + 1) items = cc in
    (λ off. here ∙ sym (longest_shared t t' h (at ∷ []) (same.0 off)), tell_but index t t' h (x.last + 1) items same.1 behind)

-- another word in the slot that covers the index does not count
tell_put : (index : ℕ) (t : Table) (h first n word : ℕ) (items : List Item) (x : Span) → slice_get (spans_from first items) n ≡ Some x → covers index x ≡ true → TellBut index t h first items → TellBut index t h first (put_item n word items)
tell_put index t h first n word [] x at on told = tt
tell_put index t h first zero word (y ∷ items) x at on told =
    let same : record { first = first; last = y.last; word = y.word } ≡ x = cc in
    let here : covers index (record { first = first; last = y.last; word = y.word }) ≡ true = subst (λ (z : Span). covers index z ≡ true) (sym same) on in
    ((λ off. let clash : true ≡ false = sym here ∙ off in absurd (cc)), told.1)
tell_put index t h first (suc n) word (y ∷ items) x at on told = (told.0, tell_put index t h (y.last + 1) n word items x at on told.1)

law_but : (index : ℕ) (t : Table) (h row slot first : ℕ) (items : List Item) → AreGapsAt t row slot items → TellBut index t h first items → GapsFromBut index t h row slot (spans_from first items)
law_but index t h row slot first [] at told = tt
law_but index t h row slot first (x ∷ items) at told = ((λ off. sym at.0 ∙ told.0 off), law_but index t h row (slot + 1) (x.last + 1) items at.1 told.1)

-- a row of a kind whose items tell their gaps so
abbrev TellButBy : RowKind → ℕ → Table → ℕ → ℕ → List Item → Type 0
TellButBy Leaf index t h first items = Unit {0}
TellButBy Inner index t h first items = Unit {0}
TellButBy Gapped index t h first items = TellBut index t h first items

row_but : (kind : RowKind) (index : ℕ) (t : Table) (h : ℕ) (x : Span) → named_kind x.word ≡ Some kind → TellButBy kind index t h x.first (items_in t kind x) → GapLawButBy index kind t h x
row_but Leaf index t h x named told = tt
row_but Inner index t h x named told = tt
row_but Gapped index t h x named told =
    subst (λ (k : Option RowKind). GapsFromBut index t h (row_in x.word) 0 (spans_by t k x)) (sym named)
    (law_but index t h (row_in x.word) 0 x.first (items_in t Gapped x) (gaps_read t.width t.words (row_in x.word) x.last (slots_of t.width Gapped) 0) told)

but_of : (kind : RowKind) (index : ℕ) (t t' : Table) (h first : ℕ) (items : List Item) → AllByRecursion (SameBeside index t t' h) (spans_from first items) → TellGaps kind t h first items → TellButBy kind index t' h first items
but_of Leaf index t t' h first items same told = tt
but_of Inner index t t' h first items same told = tt
but_of Gapped index t t' h first items same told = tell_but index t t' h first items same told

put_of : (kind : RowKind) (index : ℕ) (t : Table) (h first n word : ℕ) (items : List Item) (x : Span) → slice_get (spans_from first items) n ≡ Some x → covers index x ≡ true → TellButBy kind index t h first items
    → TellButBy kind index t h first (put_item n word items)
put_of Leaf index t h first n word items x at on told = tt
put_of Inner index t h first n word items x at on told = tt
put_of Gapped index t h first n word items x at on told = tell_put index t h first n word items x at on told

-- the law but for a slot follows from the law
pub weaker : (index : ℕ) (t : Tree) (h : ℕ) (x : Span) → GapLaw t h x → GapLawBut index t h x
weaker index t zero x law = tt
weaker index t (suc h) x law = by_kind (inner_of t.gapped) law
  where
    from : (row slot : ℕ) (xs : List Span) → GapsFrom t.table h row slot xs → GapsFromBut index t.table h row slot xs
    from row slot [] law = tt
    from row slot (y ∷ ys) law = ((λ off. law.0), from row (slot + 1) ys law.1)

    by_kind : (kind : RowKind) → GapLawBy kind t.table h x → GapLawButBy index kind t.table h x
    by_kind Leaf law = tt
    by_kind Inner law = tt
    by_kind Gapped law = from (row_in x.word) 0 (spans_in t.table x) law

-- ---- each of a list

pub one_alone : (P : ℕ → Span → Type 0) (t : Table) (h : ℕ) (xs : List Span) (x : Span) → IsOneOf x xs → Levels P t h xs → Levels P t h (x ∷ [])
one_alone P t h [] x one rows = absurd one
one_alone P t h (y ∷ ys) x (inl same) rows = subst (λ (z : Span). Levels P t h (z ∷ [])) (sym same) (levels_front P t h (y ∷ []) ys rows)
one_alone P t h (y ∷ ys) x (inr behind) rows = one_alone P t h ys x behind (levels_back P t h (y ∷ []) ys rows)

-- ---- the tree after the store

module _ (t : Tree) (h k depth slot word index : ℕ) (row child : Span) (has : HasWords t) (stands : Stands t h) (height : h ≡ depth + suc k) (at : IsSlotAt t depth row slot child)
    (from : child.first ≤ index) (to : index ≤ child.last) where
  abbrev s : store.Store
  s = record { tree = t; height = h; low = suc k; depth = depth; slot = slot; word = word; row = row; child = child; has = has; stands = stands; levels = height; at = at }

  abbrev t' : Tree
  t' = with_slot t (suc k) row slot word

  abbrev kind : RowKind
  kind = inner_of t.gapped

  row_law : IsRow t (suc k) row
  row_law = store.row_law s

  on_row : OnLevel t.table h (root_of t) (suc k) row
  on_row = record { depth = depth; height = height; one = one_of_parts (level t.table depth (root_of t)) at.front at.back row at.stands }

  row_covers : covers index row ≡ true
  row_covers =
      let parts = store.parts s in
      let fills = fills_split row.first (row.last + 1) parts.0 child parts.1 (subst (Fills row.first (row.last + 1)) (store.row_before s) row_law.pivots.fills) in
      let ahead = fills_le row.first child.first parts.0 fills.0 in
      let behind = fills_le (child.last + 1) (row.last + 1) parts.1 fills.2 in
      covers_it index row (omega arith) (omega arith)

  -- the row that is written stands where the index is
  abbrev OnlyThere : ℕ → Span → Type 0
  OnlyThere j x = store.is_written s j x ≡ true → covers index x ≡ true

  only_there : Levels OnlyThere t.table h (root_of t)
  only_there = levels_from OnlyThere t.table h (root_of t) h 0 (omega arith) (λ m x _ on is. there m x on is)
    where
      there : (m : ℕ) (x : Span) → OnLevel t.table h (root_of t) m x → store.is_written s m x ≡ true → covers index x ≡ true
      there m x on is =
          let same = (one_place t h stands m (suc k) x row on on_row (eqb-true (row_in x.word) (row_in row.word) is)).1 in
          subst (λ (y : Span). covers index y ≡ true) (sym same) row_covers

  other : (j : ℕ) (x : Span) → Off index x → OnlyThere j x → store.IsOther s j x
  other j x off only = elim (cases_Bool (store.is_written s j x)) [
    | inl is ↦ let clash : true ≡ false = sym (only is) ∙ off in absurd (cc)
    | inr not ↦ not
  ]

  -- so below what does not cover the index no row is written
  away : (j : ℕ) (xs : List Span) → AllByRecursion (Off index) xs → Levels (IsRow t) t.table j xs → Levels OnlyThere t.table j xs → Levels (store.IsOther s) t.table j xs
  away zero xs off rows only = all_both (Off index) (OnlyThere zero) (store.IsOther s zero) (other zero) xs off only
  away (suc j) xs off rows only = (all_both (Off index) (OnlyThere (suc j)) (store.IsOther s (suc j)) (other (suc j)) xs off only.0, away j (expand t.table xs) (below xs off rows.0) rows.1 only.1)
    where
      below : (ys : List Span) → AllByRecursion (Off index) ys → AllByRecursion (IsRow t (suc j)) ys → AllByRecursion (Off index) (expand t.table ys)
      below [] off rows = tt
      below (y ∷ ys) off rows =
          all_join (Off index) (spans_in t.table y) (expand t.table ys)
          (all_off index y.first (y.last + 1) (spans_in t.table y) rows.0.pivots.fills (⊎_elim (λ (lt : index < y.first). inl lt) (λ (gt : y.last < index). inr (omega arith)) (off_where index y off.0)))
          (below ys off.1 rows.1)

  -- ---- the rows above

  beside : (j : ℕ) (x : Span) → OnLevel t.table h (root_of t) (suc j) x → AllByRecursion (SameBeside index t.table t'.table j) (spans_in t.table x)
  beside j x on = all_of_each (SameBeside index t.table t'.table j) (spans_in t.table x) (λ c one. same c one)
    where
      deeper : h ≡ suc on.depth + j
      deeper = let high = on.height in omega arith

      on_child : (c : Span) → IsOneOf c (spans_in t.table x) → IsOneOf c (level t.table (suc on.depth) (root_of t))
      on_child c one = subst (IsOneOf c) (sym (level_next t.table on.depth (root_of t))) (one_of_expand t.table (level t.table on.depth (root_of t)) x c on.one one)

      below : (P : ℕ → Span → Type 0) → Levels P t.table h (root_of t) → (c : Span) → IsOneOf c (spans_in t.table x) → Levels P t.table j (c ∷ [])
      below P all c one = one_alone P t.table j (level t.table (suc on.depth) (root_of t)) c (on_child c one) (levels_lower P t.table (suc on.depth) j h (root_of t) deeper all)

      same : (c : Span) → IsOneOf c (spans_in t.table x) → SameBeside index t.table t'.table j c
      same c one off =
          levels_map (store.IsOther s) (Shared t.table t'.table) t.table (store.others_same s) j (c ∷ [])
          (away j (c ∷ []) (off, tt) (below (IsRow t) stands.rows c one) (below OnlyThere only_there c one))

  -- what its items told they tell still, but in the slot that covers the index
  items_but : (j : ℕ) (x : Span) → OnLevel t.table h (root_of t) (suc j) x → GapLaw t (suc j) x → TellButBy kind index t'.table j x.first (items_in t.table kind x)
  items_but j x on law =
      let named = (on_level_law t h stands (suc j) x on).name.named in
      but_of kind index t.table t'.table j x.first (items_in t.table kind x)
      (subst (λ (n : Option RowKind). AllByRecursion (SameBeside index t.table t'.table j) (spans_by t.table n x)) named (beside j x on))
      (row_tells kind t.table j x named law)

  other_but : (j : ℕ) (x : Span) → OnLevel t.table h (root_of t) (suc j) x → store.IsOther s (suc j) x → GapLaw t (suc j) x → GapLawBut index t' (suc j) x
  other_but j x on differs law =
      row_but kind index t'.table j x (on_level_law t h stands (suc j) x on).name.named
      (subst (TellButBy kind index t'.table j x.first)
      (sym (items_same t.table.width t.table.words t'.table.words kind x (others_keep t (suc k) slot word row has row_law (store.used s) x (eqb-false (row_in x.word) (row_in row.word) differs))))
      (items_but j x on law))

  items_put : items_in t'.table kind row ≡ put_item slot word (items_in t.table kind row)
  items_put =
      let inside : slot < slots_of t.table.width kind = (let used = store.used s in let most = row_most row_law.name in omega arith) in
      items_at-put (slots_of t.table.width kind) (gaps_of t.table.width kind) (base_of t.table (row_in row.word)) slot word t.table.words inside
      (let fits = slot_fits t.table.width kind (row_in row.word) t.rows slot inside row_law.name.in_table in omega (arith, has)) row.last

  written_but : GapLaw t (suc k) row → GapLawBut index t' (suc k) row
  written_but law =
      row_but kind index t'.table k row row_law.name.named
      (subst (TellButBy kind index t'.table k row.first) (sym items_put)
      (put_of kind index t'.table k row.first slot word (items_in t.table kind row) child
      (subst (λ (n : Option RowKind). slice_get (spans_by t.table n row) slot ≡ Some child) row_law.name.named at.holds) (covers_it index child from to) (items_but k row on_row law)))

  -- ---- all rows

  module _ (is_new : ℕ → Bool) (laws : Levels (GapLaw t) t.table h (root_of t)) (olds : Levels (λ (_ : ℕ) (x : Span). is_new (row_in x.word) ≡ false) t.table h (root_of t)) where
    abbrev Keeps : ℕ → Span → Type 0
    Keeps = KeepsGaps is_new index t'

    -- a row of the tree before the store
    pub record WasRow (j : ℕ) (x : Span) : Type 0 where
      pub on : OnLevel t.table h (root_of t) j x
      pub law : GapLaw t j x
      pub old : is_new (row_in x.word) ≡ false

    were : Levels WasRow t.table h (root_of t)
    were = levels_from WasRow t.table h (root_of t) h 0 (omega arith) (λ m x _ on. record {
      on = on;
      law = all_one_of (GapLaw t m) (level t.table on.depth (root_of t)) x (level_rows (GapLaw t) t.table on.depth m h (root_of t) on.height laws) on.one;
      old = all_one_of (λ (y : Span). is_new (row_in y.word) ≡ false) (level t.table on.depth (root_of t)) x (level_rows (λ (_ : ℕ) (y : Span). is_new (row_in y.word) ≡ false) t.table on.depth m h (root_of t) on.height olds) on.one;
    })

    not_new : (x : Span) → is_new (row_in x.word) ≡ false → (j : ℕ) → is_new (row_in x.word) ≡ true → GapLaw t' j x
    not_new x old j new = let clash : true ≡ false = sym new ∙ old in absurd (cc)

    other_keeps : (j : ℕ) (x : Span) → store.IsOther s j x → WasRow j x → Keeps j x
    other_keeps zero x differs was = record { beside = tt; new = not_new x was.old zero }
    other_keeps (suc j) x differs was = record { beside = other_but j x was.on differs was.law; new = not_new x was.old (suc j) }

    written_keeps : WasRow (suc k) row → Keeps (suc k) row
    written_keeps was = record { beside = written_but was.law; new = not_new row was.old (suc k) }

    level_here : AllByRecursion (WasRow (suc k)) (at.front ++ (row ∷ at.back))
    level_here = subst (AllByRecursion (WasRow (suc k))) at.stands (level_rows WasRow t.table depth (suc k) h (root_of t) height were)

    pub gaps_after : Levels (GapLaw t') t'.table k (level t'.table (suc depth) (root_of t')) → Levels Keeps t'.table h (root_of t')
    gaps_after lower =
        levels_both Keeps t'.table (suc depth) k h (root_of t') (omega arith)
        (upper_more Keeps t'.table depth k (root_of t')
        (upper_shared Keeps t.table t'.table depth (suc k) (root_of t) (store.upper_same s)
        (upper_both (store.IsOther s) WasRow Keeps t.table other_keeps depth (suc k) (root_of t) (store.upper_other s) (levels_upper WasRow t.table depth (suc k) h (root_of t) height were)))
        (subst (AllByRecursion (Keeps (suc k))) (sym (store.level_same s ∙ at.stands))
        (all_join (Keeps (suc k)) at.front (row ∷ at.back)
        (all_both (store.IsOther s (suc k)) (WasRow (suc k)) (Keeps (suc k)) (other_keeps (suc k)) at.front (store.front_other s) (all_front (WasRow (suc k)) at.front (row ∷ at.back) level_here)) (
          written_keeps (all_back (WasRow (suc k)) at.front (row ∷ at.back) level_here).0,
          all_both (store.IsOther s (suc k)) (WasRow (suc k)) (Keeps (suc k)) (other_keeps (suc k)) at.back (store.back_other s) (all_back (WasRow (suc k)) at.front (row ∷ at.back) level_here).1,
        ))))
        (levels_map (GapLaw t') Keeps t'.table (λ j x law. record { beside = weaker index t' j x law; new = λ _. law }) k (level t'.table (suc depth) (root_of t')) lower)
