-- A row that passes all tests of its own words, and the laws that it keeps.
use Rattle.mt_check.proofs.Prelude.{◌≡◌, ◌≢◌, ℕ, zero, suc, ◌+◌, ◌<◌, ◌≤◌, ◌==◌, List, [], ◌∷◌, ◌++◌, Option, Some, None, Bool, true, false, not, length, refl, sym, ap, ◌∙◌, subst, arith, nat_eq, nat_le, nat_lt, if◌then◌else◌, AllByRecursion, list_any, flat_map, pointwise, and_parts, and_from, leb-true, le-leb, leb-false, lt-leb, ltb-true, lt-ltb, eqb-true, eq-eqb, reserved, first_row, RowKind, Leaf, Inner, Gapped, Item, Span, row_in, named_kind, least_items, spans_from, leaf_range, Fills, EndsFull, length-spans_from, column, inner_of, spans_in, height_in, Tree, top_of, kind_on, PivotLaw, CountLaw, EntryLaw, HoleLaw, IsRow, covers_all, least_of, least_of_root, items_in, words_in, inner_no_leaf, Law, may_stand, may_be_named, names_row, depth_at, has_depth, rise_to, words_of, has_pivots, least_at, least_in_root, has_entries, are_apart, has_holes, Way, unless, broken_in, broken_by, at_row, own_faults}
use Rattle.mt_check.specs.declared.faults.Law.TheVariants as law
use Rattle.mt_check.proofs.Lists.{append_none, both_none, map_none, held, holds}
use Rattle.mt_check.proofs.OneRow.{EndsOr, spans_are, some_in, rising_fills, fills_rising, same_unused, unused_same, entries_all, all_entries, Parted, apart_parted, parted_apart, any_ranges, ranges_any}

-- the tests of a row's own words, passed
pub record Passes (t : Tree) (left : ℕ) (way : Way) (x : Span) : Type 0 where
  pub kind : RowKind
  pub named : named_kind x.word ≡ Some kind
  pub stands : may_stand t.gapped kind ≡ true
  pub in_table : row_in x.word < first_row + t.rows
  pub depth : has_depth (height_in t.table t.root) left kind ≡ true
  pub parent : column t.table (row_in x.word) 0 ≡ way.parent
  pub pivots : has_pivots t.table kind x ≡ true
  pub count : least_at t.table.width left kind ≤ length (items_in t.table kind x)
  pub entries : has_entries kind (items_in t.table kind x) ≡ true
  pub holes : has_holes (nat_le (top_of t) x.last) kind (items_in t.table kind x) ≡ true

-- of tests in order, none fails just where all pass
record AllFive (a b c d e : Bool) : Type 0 where
  parent : a ≡ true
  pivots : b ≡ true
  count : c ≡ true
  entries : d ≡ true
  holes : e ≡ true

abbrev five_broken : Bool → Bool → Bool → Bool → Bool → List Law
five_broken a b c d e = unless a law.Parent ++ (unless b law.Pivots ++ (unless c law.Count ++ (unless d law.Entries ++ unless e law.Holes)))

none_of_five : (a b c d e : Bool) → five_broken a b c d e ≡ [] → AllFive a b c d e
none_of_five true true true true true none = record { parent = refl; pivots = refl; count = refl; entries = refl; holes = refl }
none_of_five false b c d e none = absurd (cc)
none_of_five true false c d e none = absurd (cc)
none_of_five true true false d e none = absurd (cc)
none_of_five true true true false e none = absurd (cc)
none_of_five true true true true false none = absurd (cc)

five_none : (a b c d e : Bool) → AllFive a b c d e → five_broken a b c d e ≡ []
five_none a b c d e all = rw (all.parent, all.pivots, all.count, all.entries, all.holes) refl

module _ (t : Tree) (left : ℕ) (way : Way) (x : Span) where
  abbrev height : ℕ
  height = height_in t.table t.root

  abbrev name : Bool
  name = names_row t.gapped t.rows x.word

  abbrev deep : RowKind → Bool
  deep kind = has_depth height left kind

  abbrev parent : Bool
  parent = column t.table (row_in x.word) 0 == way.parent

  abbrev count : RowKind → Bool
  count kind = nat_le (least_at t.table.width left kind) (length (items_in t.table kind x))

  abbrev entries : RowKind → Bool
  entries kind = has_entries kind (items_in t.table kind x)

  abbrev holes : RowKind → Bool
  holes kind = has_holes (nat_le (top_of t) x.last) kind (items_in t.table kind x)

  abbrev broken : Option RowKind → List Law
  broken kind = broken_by t left way.parent x kind

  pub none_passes : own_faults t left way x ≡ [] → Passes t left way x
  none_passes none =
      let parts = append_none (at_row way.from (unless name law.Name)) (at_row (row_in x.word) (broken (named_kind x.word))) none in
      let named = and_parts (may_be_named t.gapped (named_kind x.word)) (nat_lt (row_in x.word) (first_row + t.rows)) (held name law.Name (map_none _ (unless name law.Name) parts.0)) in
      by (named_kind x.word) refl named.0 (ltb-true (row_in x.word) (first_row + t.rows) named.1) (map_none _ (broken (named_kind x.word)) parts.1)
    where
      by : (k : Option RowKind) → named_kind x.word ≡ k → may_be_named t.gapped k ≡ true → row_in x.word < first_row + t.rows → broken k ≡ [] → Passes t left way x
      by None is stands in_table none = absurd (cc)
      by (Some kind) is stands in_table none =
          let all = append_none (unless (deep kind) law.Depth) (broken_in t left way.parent x kind) none in
          let five = none_of_five parent (has_pivots t.table kind x) (count kind) (entries kind) (holes kind) all.1 in
          record {
            kind = kind;
            named = is;
            stands = stands;
            in_table = in_table;
            depth = held (deep kind) law.Depth all.0;
            parent = eqb-true (column t.table (row_in x.word) 0) way.parent five.parent;
            pivots = five.pivots;
            count = leb-true (least_at t.table.width left kind) (length (items_in t.table kind x)) five.count;
            entries = five.entries;
            holes = five.holes;
          }

  pub passes_none : Passes t left way x → own_faults t left way x ≡ []
  passes_none p =
      let names : name ≡ true = and_from (may_be_named t.gapped (named_kind x.word)) (nat_lt (row_in x.word) (first_row + t.rows)) (ap (may_be_named t.gapped) p.named ∙ p.stands) (lt-ltb (row_in x.word) (first_row + t.rows) p.in_table) in
      let five = five_none parent (has_pivots t.table p.kind x) (count p.kind) (entries p.kind) (holes p.kind) (record {
        parent = eq-eqb (column t.table (row_in x.word) 0) way.parent p.parent;
        pivots = p.pivots;
        count = le-leb (least_at t.table.width left p.kind) (length (items_in t.table p.kind x)) p.count;
        entries = p.entries;
        holes = p.holes;
      }) in
      let own = both_none (unless (deep p.kind) law.Depth) (broken_in t left way.parent x p.kind) (holds (deep p.kind) law.Depth p.depth) five in
      both_none (at_row way.from (unless name law.Name)) (at_row (row_in x.word) (broken (named_kind x.word))) (ap (at_row way.from) (holds name law.Name names)) (ap (at_row (row_in x.word)) (ap broken p.named ∙ own))

-- ---- the laws of a row that passes

-- the row is the root just where it covers every index
abbrev pub RootCovers : Tree → ℕ → Span → Type 0
RootCovers t left x = covers_all t x ≡ (depth_at left == 1)

root_least : (gapped : Bool) (h : ℕ) → least_in_root (kind_on gapped h) ≡ least_of_root h
root_least gapped zero = refl
root_least false (suc h) = refl
root_least true (suc h) = refl

least_same : (t : Tree) (left h : ℕ) (x : Span) → RootCovers t left x → least_of t h x ≡ least_at t.table.width left (kind_on t.gapped h)
least_same t left h x root =
    ap (λ (b : Bool). if b then least_of_root h else least_items t.table.width (kind_on t.gapped h)) root
    ∙ ap (λ (n : ℕ). if depth_at left == 1 then n else least_items t.table.width (kind_on t.gapped h)) (sym (root_least t.gapped h))

module _ (t : Tree) (left h : ℕ) (way : Way) (x : Span) (root : RootCovers t left x) where
  abbrev kind : RowKind
  kind = kind_on t.gapped h

  abbrev items : List Item
  items = items_in t.table kind x

  pivots_kept : named_kind x.word ≡ Some kind → has_pivots t.table kind x ≡ true → PivotLaw t h x
  pivots_kept named has =
      let parts = and_parts (rise_to x.first x.last items) (pointwise nat_eq (words_of t.table (row_in x.word)) (words_in t.table kind x)) has in
      record {
        fills = subst (Fills x.first (x.last + 1)) (sym (spans_are t.table kind x named)) (rising_fills x.first x.last items parts.0);
        unused = same_unused t.table kind (row_in x.word) x.last parts.1;
      }

  kept_pivots : named_kind x.word ≡ Some kind → PivotLaw t h x → has_pivots t.table kind x ≡ true
  kept_pivots named law =
      and_from (rise_to x.first x.last items) (pointwise nat_eq (words_of t.table (row_in x.word)) (words_in t.table kind x))
      (fills_rising x.first x.last items (some_in t.table kind x) (subst (Fills x.first (x.last + 1)) (spans_are t.table kind x named) law.fills))
      (unused_same t.table kind (row_in x.word) x.last law.unused)

  long : named_kind x.word ≡ Some kind → length (spans_in t.table x) ≡ length items
  long named = ap length (spans_are t.table kind x named) ∙ length-spans_from x.first items

  count_kept : named_kind x.word ≡ Some kind → least_at t.table.width left kind ≤ length items → CountLaw t h x
  count_kept named count = record { least = let same = least_same t left h x root in let many = long named in omega arith }

  kept_count : named_kind x.word ≡ Some kind → CountLaw t h x → least_at t.table.width left kind ≤ length items
  kept_count named law = let same = least_same t left h x root in let many = long named in let least = law.least in omega arith

-- in a leaf
module _ (t : Tree) (x : Span) (named : named_kind x.word ≡ Some Leaf) where
  abbrev leaf_items : List Item
  leaf_items = items_in t.table Leaf x

  abbrev may_end : Bool
  may_end = nat_le (top_of t) x.last

  abbrev here : spans_in t.table x ≡ spans_from x.first leaf_items
  here = spans_are t.table Leaf x named

  leaf_entries : has_entries Leaf leaf_items ≡ true → EntryLaw t zero x
  leaf_entries has = subst (λ (xs : List Span). AllByRecursion (λ (y : Span). reserved y.word ≡ false) xs) (sym here) (entries_all x.first leaf_items has)

  entries_leaf : EntryLaw t zero x → has_entries Leaf leaf_items ≡ true
  entries_leaf law = all_entries x.first leaf_items (subst (λ (xs : List Span). AllByRecursion (λ (y : Span). reserved y.word ≡ false) xs) here law)

  ends_full : (xs : List Span) → EndsOr false xs → EndsFull xs
  ends_full [] ends = tt
  ends_full (y ∷ ys) ends = ends

  full_ends : (xs : List Span) → EndsFull xs → EndsOr false xs
  full_ends [] full = refl
  full_ends (y ∷ ys) full = full

  leaf_holes : has_holes may_end Leaf leaf_items ≡ true → HoleLaw t zero x
  leaf_holes has =
      let parts = and_parts (are_apart false may_end leaf_items) (list_any (λ (i : Item). not (i.word == 0)) leaf_items) has in
      let parted = subst (Parted false may_end) (sym here) (apart_parted false may_end x.first leaf_items parts.0) in
      record {
        apart = parted.apart;
        ends = λ below. ends_full (spans_in t.table x) (parted.ends (lt-leb (top_of t) x.last below));
        some = subst (λ (xs : List Span). flat_map leaf_range xs ≢ []) (sym here) (any_ranges x.first leaf_items parts.1);
      }

  holes_leaf : HoleLaw t zero x → has_holes may_end Leaf leaf_items ≡ true
  holes_leaf law =
      and_from (are_apart false may_end leaf_items) (list_any (λ (i : Item). not (i.word == 0)) leaf_items)
      (parted_apart false may_end x.first leaf_items (subst (Parted false may_end) here (record {
        begins = λ none. absurd (cc);
        apart = law.apart;
        ends = λ below. full_ends (spans_in t.table x) (law.ends (leb-false (top_of t) x.last below));
      })))
      (ranges_any x.first leaf_items (subst (λ (xs : List Span). flat_map leaf_range xs ≢ []) here law.some))

-- what is asked of a leaf alone
inner_entries : (kind : RowKind) (xs : List Item) → kind ≢ Leaf → has_entries kind xs ≡ true
inner_entries Leaf xs other = absurd (other refl)
inner_entries Inner xs other = refl
inner_entries Gapped xs other = refl

inner_holes : (bare : Bool) (kind : RowKind) (xs : List Item) → kind ≢ Leaf → has_holes bare kind xs ≡ true
inner_holes bare Leaf xs other = absurd (other refl)
inner_holes bare Inner xs other = refl
inner_holes bare Gapped xs other = refl

-- a row that may stand in the tree and is no leaf has gaps where the tree has them
pub stands_inner : (gapped : Bool) (kind : RowKind) → may_stand gapped kind ≡ true → kind ≢ Leaf → kind ≡ inner_of gapped
stands_inner gapped Leaf stands other = absurd (other refl)
stands_inner false Inner stands other = refl
stands_inner false Gapped stands other = absurd (cc)
stands_inner true Inner stands other = absurd (cc)
stands_inner true Gapped stands other = refl

kind_stands : (gapped : Bool) (h : ℕ) → may_stand gapped (kind_on gapped h) ≡ true
kind_stands gapped zero = refl
kind_stands false (suc h) = refl
kind_stands true (suc h) = refl

-- ---- a row of a height

module _ (t : Tree) (left h : ℕ) (way : Way) (x : Span) (root : RootCovers t left x) where
  -- the row passes, and has the kind of its height: so it keeps the laws
  pub passes_row : (p : Passes t left way x) → p.kind ≡ kind_on t.gapped h → IsRow t h x
  passes_row p is = record {
    name = record { named = named; in_table = p.in_table };
    pivots = pivots_kept t left h way x root named (subst (λ (k : RowKind). has_pivots t.table k x ≡ true) is p.pivots);
    count = count_kept t left h way x root named (subst (λ (k : RowKind). least_at t.table.width left k ≤ length (items_in t.table k x)) is p.count);
    entries = entries_of h named (subst (λ (k : RowKind). has_entries k (items_in t.table k x) ≡ true) is p.entries);
    holes = holes_of h named (subst (λ (k : RowKind). has_holes (nat_le (top_of t) x.last) k (items_in t.table k x) ≡ true) is p.holes);
  }
    where
      named : named_kind x.word ≡ Some (kind_on t.gapped h)
      named = p.named ∙ ap (λ (k : RowKind). Some k) is

      entries_of : (h : ℕ) → named_kind x.word ≡ Some (kind_on t.gapped h) → has_entries (kind_on t.gapped h) (items_in t.table (kind_on t.gapped h) x) ≡ true → EntryLaw t h x
      entries_of zero named has = leaf_entries t x named has
      entries_of (suc h) named has = tt

      holes_of : (h : ℕ) → named_kind x.word ≡ Some (kind_on t.gapped h) → has_holes (nat_le (top_of t) x.last) (kind_on t.gapped h) (items_in t.table (kind_on t.gapped h) x) ≡ true → HoleLaw t h x
      holes_of zero named has = leaf_holes t x named has
      holes_of (suc h) named has = tt

  -- a row that keeps the laws passes, where it has its depth and its parent word
  pub row_passes : IsRow t h x → has_depth (height_in t.table t.root) left (kind_on t.gapped h) ≡ true → column t.table (row_in x.word) 0 ≡ way.parent → Passes t left way x
  row_passes row depth parent = record {
    kind = kind_on t.gapped h;
    named = row.name.named;
    stands = kind_stands t.gapped h;
    in_table = row.name.in_table;
    depth = depth;
    parent = parent;
    pivots = kept_pivots t left h way x root row.name.named row.pivots;
    count = kept_count t left h way x root row.name.named row.count;
    entries = of_entries h row.name.named row.entries;
    holes = of_holes h row.name.named row.holes;
  }
    where
      of_entries : (h : ℕ) → named_kind x.word ≡ Some (kind_on t.gapped h) → EntryLaw t h x → has_entries (kind_on t.gapped h) (items_in t.table (kind_on t.gapped h) x) ≡ true
      of_entries zero named law = entries_leaf t x named law
      of_entries (suc h) named law = inner_entries (inner_of t.gapped) (items_in t.table (inner_of t.gapped) x) (inner_no_leaf t.gapped)

      of_holes : (h : ℕ) → named_kind x.word ≡ Some (kind_on t.gapped h) → HoleLaw t h x → has_holes (nat_le (top_of t) x.last) (kind_on t.gapped h) (items_in t.table (kind_on t.gapped h) x) ≡ true
      of_holes zero named law = holes_leaf t x named law
      of_holes (suc h) named law = inner_holes (nat_le (top_of t) x.last) (inner_of t.gapped) (items_in t.table (inner_of t.gapped) x) (inner_no_leaf t.gapped)
