-- A row's slots read one after another.
use Rattle.mt_gap.proofs.Prelude.{◌≡◌, ℕ, suc, ◌+◌, ◌-◌, ◌*◌, ◌<◌, ◌≤◌, List, [], ◌∷◌, ◌++◌, length, nat_le, refl, sym, ap, ◌∙◌, subst, inl, inr, arith, append_assoc, append-nil, length-append, cases_Bool, leb-true, leb-false, Width, Item, RowKind, Leaf, Inner, Gapped, columns, items_from, slots_of, gaps_of, IsItem, goes_on, ends, one_row_more, sizes, all_gaps_of, few_slots_of, base_of, Rooted, Sheet, ReadsUpTo, Child, children_from, row_children, last_in, child_in, tree_kept, no_reads, reads_more, reads_up}

-- a pivot and a slot, and a gap where there is one
abbrev pub loads_for : RowKind → ℕ
loads_for Leaf = 2
loads_for Inner = 2
loads_for Gapped = 3

-- the children from a slot on
abbrev pub unread : Rooted → RowKind → ℕ → ℕ → ℕ → ℕ → List Child
unread r kind row max slot begin = children_from begin (items_from (slots_of r.table.width kind) (gaps_of r.table.width kind) r.table.words (base_of r.table row) max (slots_of r.table.width kind - slot) slot)

-- the children below a slot were read
pub record AreRead (s t : Sheet) (kind : RowKind) (row first max slot begin : ℕ) (before : List Child) : Type 0 where
  pub reads : ReadsUpTo (loads_for kind * slot) s t
  pub parts : before ++ unread s.tree kind row max slot begin ≡ row_children s.tree.table row kind first max
  pub count : length before ≡ slot
  pub slots : slots_of s.tree.table.width kind ≤ 32

-- the same, and this holds of them
pub record IsReadTo (P : List Child → Type 0) (s t : Sheet) (kind : RowKind) (row first max slot begin : ℕ) : Type 0 where
  pub before : List Child
  pub read : AreRead s t kind row first max slot begin before
  pub holds : P before

few_loads : (width : Width) (kind : RowKind) (n : ℕ) → n ≤ slots_of width kind → loads_for kind * n ≤ columns width
few_loads width Leaf n low = omega (arith, sizes width Leaf)
few_loads width Inner n low = omega (arith, sizes width Inner)
few_loads width Gapped n low = omega (arith, sizes width Gapped, all_gaps_of width)

pub two_loads_of : (kind : RowKind) → 2 ≤ loads_for kind
two_loads_of Leaf = omega arith
two_loads_of Inner = omega arith
two_loads_of Gapped = omega arith

pub read_none : (P : List Child → Type 0) (s t : Sheet) (kind : RowKind) (row first max : ℕ) → t ≡ s → P [] → IsReadTo P s t kind row first max 0 first
read_none P s t kind row first max same holds = record {
  before = [];
  holds = holds;
  read = record {
    reads = subst (λ (r : Sheet). ReadsUpTo (loads_for kind * 0) s r) (sym same) (reads_up 0 (loads_for kind * 0) s s (omega arith) (no_reads s));
    parts = (let all : slots_of s.tree.table.width kind - 0 ≡ slots_of s.tree.table.width kind = omega arith in
        ap (λ (n : ℕ). children_from first (items_from (slots_of s.tree.table.width kind) (gaps_of s.tree.table.width kind) s.tree.table.words (base_of s.tree.table row) max n 0)) all);
    count = refl;
    slots = few_slots_of s.tree.table.width kind;
  };
}

-- the slot that a loop is at: those before it were read, and then its pivot was loaded
pub record AtSlot (s t t' : Sheet) (kind : RowKind) (row first max slot begin last : ℕ) (before : List Child) : Type 0 where
  pub read : AreRead s t kind row first max slot begin before
  pub last_is : last ≡ last_in t.tree.table kind row max slot
  pub pivot : ReadsUpTo 1 t t'
  pub within : slot < slots_of s.tree.table.width kind

module _ {s t t' : Sheet} {kind : RowKind} {row first max slot begin last : ℕ} {before : List Child} (at : AtSlot s t t' kind row first max slot begin last before) where
  abbrev child : Child
  child = child_in s.tree.table kind row slot begin last

  same : t.tree ≡ s.tree
  same = tree_kept (loads_for kind * slot) s t at.read.reads

  abbrev item : Item
  item = record { last = last; word = child.span.word; gap = child.gap }

  is_item : IsItem (slots_of s.tree.table.width kind) (gaps_of s.tree.table.width kind) s.tree.table.words (base_of s.tree.table row) max slot item
  is_item = (refl, subst (λ (r : Rooted). last ≡ last_in r.table kind row max slot) same at.last_is)

  left : slots_of s.tree.table.width kind - slot ≡ suc (slots_of s.tree.table.width kind - (slot + 1))
  left = let low = at.within in omega arith

  here_on : last < max → unread s.tree kind row max slot begin ≡ child ∷ unread s.tree kind row max (slot + 1) (last + 1)
  here_on more =
      (λ i. children_from begin (items_from (slots_of s.tree.table.width kind) (gaps_of s.tree.table.width kind) s.tree.table.words (base_of s.tree.table row) max (left i) slot))
      ∙ ap (children_from begin) (goes_on (slots_of s.tree.table.width kind) (gaps_of s.tree.table.width kind) s.tree.table.words (base_of s.tree.table row) max (slots_of s.tree.table.width kind - (slot + 1)) slot item (let low = at.within in omega arith) is_item more)

  here_last : max ≤ last → unread s.tree kind row max slot begin ≡ child ∷ []
  here_last reaches =
      (λ i. children_from begin (items_from (slots_of s.tree.table.width kind) (gaps_of s.tree.table.width kind) s.tree.table.words (base_of s.tree.table row) max (left i) slot))
      ∙ ap (children_from begin) (ends (slots_of s.tree.table.width kind) (gaps_of s.tree.table.width kind) s.tree.table.words (base_of s.tree.table row) max (suc (slots_of s.tree.table.width kind - (slot + 1))) slot item (let low = at.within in omega arith) (omega arith) is_item reaches)

  -- with its pivot the tree is that of before the loop
  pub tree_is : t'.tree ≡ s.tree
  tree_is = tree_kept 1 t t' at.pivot ∙ same

  -- behind it, if it does not reach the row's end, and after the loads of the rest of it
  pub slot_on : (n : ℕ) (u : Sheet) → 1 + n ≤ loads_for kind → ReadsUpTo n t' u → (Q : List Child → Type 0) → last < max → Q (before ++ (child ∷ [])) → IsReadTo Q s u kind row first max (slot + 1) (last + 1)
  slot_on n u few loads Q more holds = record {
    before = before ++ (child ∷ []);
    holds = holds;
    read = record {
      reads = reads_up (loads_for kind * slot + loads_for kind) (loads_for kind * (slot + 1)) s u (one_row_more (loads_for kind) slot)
          (reads_more (loads_for kind * slot) (loads_for kind) s t u at.read.reads (reads_up (1 + n) (loads_for kind) t u few (reads_more 1 n t t' u at.pivot loads)));
      parts = append_assoc before (child ∷ []) (unread s.tree kind row max (slot + 1) (last + 1)) ∙ (ap (λ (l : List Child). before ++ l) (sym (here_on more)) ∙ at.read.parts);
      count = length-append before (child ∷ []) ∙ ap (λ (k : ℕ). k + 1) at.read.count;
      slots = at.read.slots;
    };
  }

  -- if it does, it is the row's last
  pub slot_last : max ≤ last → before ++ (child ∷ []) ≡ row_children s.tree.table row kind first max
  slot_last reaches = ap (λ (l : List Child). before ++ l) (sym (here_last reaches)) ∙ at.read.parts

  -- what stands in it stands between those before and some others
  pub slot_part : ((rest : List Child) × (before ++ (child ∷ rest) ≡ row_children s.tree.table row kind first max))
  slot_part = elim (cases_Bool (nat_le max last)) [
    | inl reaches ↦ ([], slot_last (leb-true max last reaches))
    | inr more ↦ (unread s.tree kind row max (slot + 1) (last + 1), ap (λ (l : List Child). before ++ l) (sym (here_on (leb-false max last more))) ∙ at.read.parts)
  ]

pub read_all : (s t : Sheet) (kind : RowKind) (row first max slot begin : ℕ) (before : List Child) → AreRead s t kind row first max slot begin before → slot ≡ slots_of s.tree.table.width kind
    → (before ≡ row_children s.tree.table row kind first max) × ReadsUpTo (columns s.tree.table.width) s t
read_all s t kind row first max slot begin before done all =
    let none : slots_of s.tree.table.width kind - slot ≡ 0 = omega arith in (
      sym (append-nil before) ∙ ((λ i. before ++ children_from begin (items_from (slots_of s.tree.table.width kind) (gaps_of s.tree.table.width kind) s.tree.table.words (base_of s.tree.table row) max (sym none i) slot)) ∙ done.parts),
      reads_up (loads_for kind * slot) (columns s.tree.table.width) s t (few_loads s.tree.table.width kind slot (omega arith)) done.reads,
    )
