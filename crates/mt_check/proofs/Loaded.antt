-- Rows of which words were only read.
use Rattle.mt_check.proofs.Prelude.{◌≡◌, ℕ, suc, ◌+◌, ◌-◌, ◌<◌, ◌≤◌, ◌==◌, ◌&&◌, Bool, true, List, [], ◌∷◌, ◌++◌, length, nat_lt, refl, sym, ap, ◌∙◌, subst, length-append, inl, inr, arith, lt-ltb, and_assoc, cases_Bool, ltb-true, if◌then◌else◌, nat_le, Item, RowKind, item_at, items_from, pivot_column, slots_of, gaps_of, read_last, read_more, read_all, ends, goes_on, some_items, Table, base_of, column, Sheet, Rooted, OnlyReads, row_items, rise_to, reads_on, same_tree}

pub none_read : (s : Sheet) → OnlyReads s s
none_read s = refl

-- ---- the items of a row

-- the items of a row from a slot on
abbrev pub items_behind : Table → RowKind → ℕ → ℕ → ℕ → List Item
items_behind t kind row max slot = items_from (slots_of t.width kind) (gaps_of t.width kind) t.words (base_of t row) max (slots_of t.width kind - slot) slot

-- those of the slots before one were read
pub record AreRead (s s' : Sheet) (kind : RowKind) (row max slot : ℕ) (items : List Item) : Type 0 where
  pub rest : OnlyReads s s'
  pub read : items ++ items_behind s.tree.table kind row max slot ≡ row_items s.tree.table kind row max
  pub count : length items ≡ slot

-- those of the slots before one rise, or do not, and the next is to begin at an index
abbrev pub RiseSoFar : Table → RowKind → ℕ → ℕ → ℕ → ℕ → Bool → ℕ → Type 0
RiseSoFar t kind row first max slot rise begin = (rise && rise_to begin max (items_behind t kind row max slot)) ≡ rise_to first max (row_items t kind row max)

rise_on : (begin max : ℕ) (x : Item) (items : List Item) → 1 ≤ length items → x.last < max → rise_to begin max (x ∷ items) ≡ (nat_le begin x.last && rise_to (x.last + 1) max items)
rise_on begin max x [] some more = absurd (omega arith)
rise_on begin max x (y ∷ items) some more = let test : nat_lt x.last max ≡ true = lt-ltb x.last max more in rw test refl

abbrev IsRead : Table → RowKind → ℕ → ℕ → ℕ → Item → Type 0
IsRead t kind row max slot item =
    (item ≡ item_at (slots_of t.width kind) (gaps_of t.width kind) t.words (base_of t row) slot item.last) × (item.last ≡ (if nat_lt (slot + 1) (slots_of t.width kind) then column t row (pivot_column slot) else max))

module _ (s t u : Sheet) (kind : RowKind) (row max slot : ℕ) (before after : List Item) (item : Item) (done : AreRead s t kind row max slot before) (reads : OnlyReads t u)
    (is : item ≡ item_at (slots_of t.tree.table.width kind) (gaps_of t.tree.table.width kind) t.tree.table.words (base_of t.tree.table row) slot item.last)
    (ends_at : item.last ≡ (if nat_lt (slot + 1) (slots_of t.tree.table.width kind) then column t.tree.table row (pivot_column slot) else max))
    (within : slot < slots_of t.tree.table.width kind) (pushed : after ≡ before ++ item ∷ []) where
  here : IsRead s.tree.table kind row max slot item
  here = subst (λ (x : Rooted). IsRead x.table kind row max slot item) (same_tree s t done.rest) (is, ends_at)

  inside : slot < slots_of s.tree.table.width kind
  inside = subst (λ (x : Rooted). slot < slots_of x.table.width kind) (same_tree s t done.rest) within

  pub one_more_read : item.last < max → AreRead s u kind row max (slot + 1) after
  one_more_read more =
      let count = done.count in
      record {
        rest = reads_on s t u done.rest reads;
        read = subst (λ (l : List Item). l ++ items_behind s.tree.table kind row max (slot + 1) ≡ row_items s.tree.table kind row max) (sym pushed)
            (read_more (slots_of s.tree.table.width kind) (gaps_of s.tree.table.width kind) s.tree.table.words (base_of s.tree.table row) max before (row_items s.tree.table kind row max) slot item done.read inside here more);
        count = ap length pushed ∙ (length-append before (item ∷ []) ∙ ap (λ (n : ℕ). n + 1) count);
      }

  abbrev slots : ℕ
  slots = slots_of s.tree.table.width kind

  abbrev gaps : ℕ
  gaps = gaps_of s.tree.table.width kind

  behind_here : item.last < max → items_behind s.tree.table kind row max slot ≡ item ∷ items_behind s.tree.table kind row max (slot + 1)
  behind_here more =
      let left : slots - slot ≡ suc (slots - (slot + 1)) = omega (arith, inside) in
      ap (λ (n : ℕ). items_from slots gaps s.tree.table.words (base_of s.tree.table row) max n slot) left
      ∙ goes_on slots gaps s.tree.table.words (base_of s.tree.table row) max (slots - (slot + 1)) slot item (omega (arith, inside)) here more

  more_slots : item.last < max → slot + 1 < slots
  more_slots more = elim (cases_Bool (nat_lt (slot + 1) slots)) [
    | inl before ↦ ltb-true (slot + 1) slots before
    | inr past ↦ let at_max : item.last ≡ max = rw past at here.1 in absurd (omega (arith, at_max, more))
  ]

  pub one_more_rises : (first begin : ℕ) (rise : Bool) → RiseSoFar s.tree.table kind row first max slot rise begin → item.last < max
      → RiseSoFar s.tree.table kind row first max (slot + 1) (rise && nat_le begin item.last) (item.last + 1)
  one_more_rises first begin rise told more =
      let some = some_items slots gaps s.tree.table.words (base_of s.tree.table row) max (slots - (slot + 1)) (slot + 1) (omega (arith, more_slots more)) in
      and_assoc rise (nat_le begin item.last) (rise_to (item.last + 1) max (items_behind s.tree.table kind row max (slot + 1)))
      ∙ (ap (λ (b : Bool). rise && b) (sym (rise_on begin max item (items_behind s.tree.table kind row max (slot + 1)) some more))
      ∙ (ap (λ (l : List Item). rise && rise_to begin max l) (sym (behind_here more)) ∙ told))

  pub last_rises : (first begin : ℕ) (rise : Bool) → RiseSoFar s.tree.table kind row first max slot rise begin → max ≤ item.last
      → ((rise && nat_le begin item.last) && (item.last == max)) ≡ rise_to first max (row_items s.tree.table kind row max)
  last_rises first begin rise told last =
      let one : items_behind s.tree.table kind row max slot ≡ item ∷ [] = ends slots gaps s.tree.table.words (base_of s.tree.table row) max (slots - slot) slot item (omega (arith, inside)) (omega (arith, inside)) here last in
      and_assoc rise (nat_le begin item.last) (item.last == max) ∙ (ap (λ (l : List Item). rise && rise_to begin max l) (sym one) ∙ told)

  pub last_read : max ≤ item.last → after ≡ row_items s.tree.table kind row max
  last_read last =
      pushed ∙ read_last (slots_of s.tree.table.width kind) (gaps_of s.tree.table.width kind) s.tree.table.words (base_of s.tree.table row) max before (row_items s.tree.table kind row max) slot item done.read inside here last

pub all_read : (s t : Sheet) (kind : RowKind) (row max slot : ℕ) (items : List Item) → AreRead s t kind row max slot items → slots_of t.tree.table.width kind ≤ slot → items ≡ row_items s.tree.table kind row max
all_read s t kind row max slot items done end =
    let past : slots_of s.tree.table.width kind ≤ slot = subst (λ (x : Rooted). slots_of x.table.width kind ≤ slot) (same_tree s t done.rest) end in
    read_all (slots_of s.tree.table.width kind) (gaps_of s.tree.table.width kind) s.tree.table.words (base_of s.tree.table row) max items (row_items s.tree.table kind row max) slot done.read past
