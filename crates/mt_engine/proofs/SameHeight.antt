-- A store in a slot leaves the height: of two slots of a row on the way down, one keeps its word.
use Rattle.mt_engine.proofs.Prelude.{◌≡◌, ◌≢◌, ℕ, zero, suc, ◌+◌, ◌<◌, List, [], ◌∷◌, Bool, Some, false, length, refl, sym, ap, ◌∙◌, subst, inl, inr, arith, cases_eq, Kind, Call, Reply, Width, finds_room, columns, Book, RowKind, Span, row_in, named_kind, slot_column, items_at, slots_of, gaps_of, length-spans_from, Place, Root, Slot, Table, base_of, column, inner_of, spans_by, spans_in, root_span, level, height_in, Tree, IsTree, Stands, Rooted, Sheet, word_at, tree_on, tree_as, IsTreeOf, IsReached, root_of, level_next, inner_not_named, span_at, stands_in, IsSpliced, SameHeight, is_root, two_least}
use Rattle.mt_layout.proofs.RowSizes as sizes
use Rattle.mt_rows.proofs.Reached as reached

-- ---- the first two slots of an inner row

-- a slot's word is that of its column
pub word_in : (t : Table) (x : Span) (kind : RowKind) (slot : ℕ) → named_kind x.word ≡ Some kind → slot < length (spans_in t x) → (span_at (spans_in t x) slot).word ≡ column t (row_in x.word) (slot_column (slots_of t.width kind) slot)
word_in t x kind slot named used =
    let here = ap (λ k. spans_by t k x) named in
    let items = length-spans_from x.first (items_at (slots_of t.width kind) (gaps_of t.width kind) t.words (base_of t (row_in x.word)) x.last) in
    let many = ap (λ (xs : List Span). length xs) here in
    ap (λ (xs : List Span). (span_at xs slot).word) here
    ∙ (stands_in (slots_of t.width kind) (gaps_of t.width kind) t.words (base_of t (row_in x.word)) x.last (slots_of t.width kind) 0 x.first slot slot (omega arith) (omega arith) (omega (arith, used, many, items))).word

one_of_slot : (xs : List Span) (slot : ℕ) → slot < length xs → reached.IsOneOf (span_at xs slot) xs
one_of_slot [] slot used = absurd (omega arith)
one_of_slot (x ∷ xs) zero used = inl refl
one_of_slot (x ∷ xs) (suc slot) used = inr (one_of_slot xs slot (omega arith))

-- one of two columns that stand side by side is not this one
one_kept : (col first : ℕ) → (slot : ℕ) × (slot < 2) × (col ≢ first + slot)
one_kept col first = elim (cases_eq col (first + 0)) [
  | inl same ↦ (1, omega arith, λ e. omega (arith, e, same))
  | inr other ↦ (0, omega arith, other)
]

-- ---- two trees whose rows keep their words but at one place

module _ (gapped : Bool) (t t' : Rooted) (h h' row col : ℕ) (stands : Stands (tree_on gapped t) h) (stands' : Stands (tree_on gapped t') h') (width : t'.table.width ≡ t.table.width) (root : t'.root ≡ t.root)
    (kept : (r c : ℕ) → IsReached t r → 0 < c → c < columns t.table.width → Slot row col ≢ Slot r c → word_at t' r c ≡ word_at t r c) where
  abbrev was : Tree
  was = tree_on gapped t

  abbrev now : Tree
  now = tree_on gapped t'

  abbrev Before : ℕ → Span → Type 0
  Before k x = reached.OnLevel t.table h (root_of was) k x

  abbrev After : ℕ → Span → Type 0
  After k x = reached.OnLevel t'.table h' (root_of now) k x

  abbrev inner : RowKind
  inner = inner_of gapped

  abbrev slots : ℕ
  slots = slots_of t.table.width inner

  child_before : (k : ℕ) (x : Span) (slot : ℕ) → slot < length (spans_in t.table x) → Before (suc k) x → Before k (span_at (spans_in t.table x) slot)
  child_before k x slot used on = record {
    depth = suc on.depth;
    height = let height = on.height in omega arith;
    one = subst (reached.IsOneOf (span_at (spans_in t.table x) slot)) (sym (level_next t.table on.depth (root_of was)))
        (reached.one_of_expand t.table (level t.table on.depth (root_of was)) x (span_at (spans_in t.table x) slot) on.one (one_of_slot (spans_in t.table x) slot used));
  }

  child_after : (k : ℕ) (x : Span) (slot : ℕ) → slot < length (spans_in t'.table x) → After (suc k) x → After k (span_at (spans_in t'.table x) slot)
  child_after k x slot used on = record {
    depth = suc on.depth;
    height = let height = on.height in omega arith;
    one = subst (reached.IsOneOf (span_at (spans_in t'.table x) slot)) (sym (level_next t'.table on.depth (root_of now)))
        (reached.one_of_expand t'.table (level t'.table on.depth (root_of now)) x (span_at (spans_in t'.table x) slot) on.one (one_of_slot (spans_in t'.table x) slot used));
  }

  slots_are : slots_of t'.table.width inner ≡ slots
  slots_are = ap (λ (w : Width). slots_of w inner) width

  child_word : (k k' : ℕ) (x x' : Span) (slot : ℕ) → slot < 2 → col ≢ slots + slot → Before (suc k) x → After (suc k') x' → x'.word ≡ x.word
      → (slot < length (spans_in t.table x)) × (slot < length (spans_in t'.table x')) × ((span_at (spans_in t'.table x') slot).word ≡ (span_at (spans_in t.table x) slot).word)
  child_word k k' x x' slot low other on on' same =
      let law = reached.on_level_law was h stands (suc k) x on in
      let law' = reached.on_level_law now h' stands' (suc k') x' on' in
      let used : slot < length (spans_in t.table x) = omega (arith, low, two_least was k x, law.count.least) in
      let used' : slot < length (spans_in t'.table x') = omega (arith, low, two_least now k' x', law'.count.least) in
      let within = sizes.least-below-slots t.table.width inner in
      let r = row_in x.word in
      let stays = kept r (slot_column slots slot) (reached.times_reached was h stands r (reached.on_level_reached was h stands (suc k) x on)) (omega (arith, within)) (sizes.slot_within t.table.width inner slot (omega (arith, within, low)))
      (λ e. other (let here : col ≡ slots + slot = cc in here)) in (
        used,
        used',
        word_in t'.table x' inner slot law'.name.named used'
            ∙ (ap (λ (n : ℕ). column t'.table (row_in x'.word) (slot_column n slot)) slots_are
            ∙ (ap (λ (w : ℕ). column t'.table (row_in w) (slot_column slots slot)) same
            ∙ (stays ∙ sym (word_in t.table x inner slot law.name.named used)))),
      )

  same_level : (k k' : ℕ) (x x' : Span) → Before k x → After k' x' → x'.word ≡ x.word → k' ≡ k
  same_level zero zero x x' on on' same = refl
  same_level zero (suc k') x x' on on' same =
      absurd (inner_not_named gapped (sym (reached.on_level_law now h' stands' (suc k') x' on').name.named ∙ (ap named_kind same ∙ (reached.on_level_law was h stands zero x on).name.named)))
  same_level (suc k) zero x x' on on' same =
      absurd (inner_not_named gapped (sym (reached.on_level_law was h stands (suc k) x on).name.named ∙ (ap named_kind (sym same) ∙ (reached.on_level_law now h' stands' zero x' on').name.named)))
  same_level (suc k) (suc k') x x' on on' same =
      let slot = one_kept col slots in
      let child = child_word k k' x x' slot.0 slot.1 slot.2 on on' same in
      ap suc (same_level k k' (span_at (spans_in t.table x) slot.0) (span_at (spans_in t'.table x') slot.0) (child_before k x slot.0 child.0 on) (child_after k' x' slot.0 child.1 on') child.2)

  pub levels_same : h' ≡ h
  levels_same = same_level h h' (root_span t.table t.root) (root_span t'.table t'.root) (record { depth = 0; height = omega arith; one = inl refl }) (record { depth = 0; height = omega arith; one = inl refl }) root

  same_height : height_in t'.table t'.root ≡ height_in t.table t.root
  same_height = reached.height_is now h' stands' ∙ (ap (λ (n : ℕ). n + 1) levels_same ∙ sym (reached.height_is was h stands))

-- ---- after a replacement of nodes

module _ (kind : Kind) (s s' : Sheet) (row col : ℕ) (tree : IsTreeOf s.tree kind) (tree' : IsTreeOf s'.tree kind) (root : s'.tree.root ≡ s.tree.root)
    (kept : (r c : ℕ) → IsReached s.tree r → 0 < c → c < columns s.tree.table.width → Slot row col ≢ Slot r c → word_at s'.tree r c ≡ word_at s.tree r c) where
  same_in_slot : IsTree (tree_as kind s.tree) → IsTree (tree_as kind s'.tree) → height_in s'.tree.table s'.tree.root ≡ height_in s.tree.table s.tree.root
  same_in_slot (inl empty) words' = ap (height_in s'.tree.table) (root ∙ empty) ∙ sym (ap (height_in s.tree.table) empty)
  same_in_slot (inr stood) (inl empty) = ap (height_in s'.tree.table) empty ∙ sym (ap (height_in s.tree.table) (sym root ∙ empty))
  same_in_slot (inr (h, stands)) (inr (h', stands')) = same_height (finds_room kind) s.tree s'.tree h h' row col stands stands' (tree'.width ∙ sym tree.width) root kept

pub height_stays : (kind : Kind) (s s' : Sheet) (book book' : Book) (number : ℕ) (call : Call) (reply : Reply) (place : Place) (first last : ℕ) → IsTreeOf s.tree kind → IsSpliced kind s s' book book' number call reply place first last → is_root place ≡ false → SameHeight s.tree s'.tree
height_stays kind s s' book book' number call reply Root first last tree spliced not = absurd (cc)
height_stays kind s s' book book' number call reply (Slot row col) first last tree spliced not =
    same_in_slot kind s s' row col tree spliced.tree spliced.published.0 (λ r c was. spliced.kept r c (λ _. was)) tree.words spliced.tree.words
