-- A store within a call: the call begins, rows are only read, then replaced, and the rows are ready once more when it ends.
use Rattle.mt_splice.proofs.Prelude.{◌≡◌, ℕ, ◌+◌, ◌≤◌, List, Option, false, sym, ap, ◌∙◌, subst, inl, inr, Kind, Call, Reply, Book, Item, spans_from, edited, Tree, IsLawful, IsTree, Rooted, Sheet, OnlyReads, tree_as, IsToldKind, IsTreeOf, IsLawfulOf, Place, Root, Slot, reads_on, same_tree, HasGapsBut, is_unreached, PathStep, path_in, last_step, IsSpliced, WasPublishedAt, MaySplice, MayReplace, region_of, IsConsistent, AreEnds}

-- no call is in flight, and the tree is kept
pub record IsBetweenCalls (kind : Kind) (s : Sheet) (book : Book) : Type 0 where
  pub idle : s.in_flight ≡ false
  pub told : IsToldKind s.kind kind
  pub kept : IsConsistent kind s.tree s.lives s.buried s.cleared book (s.ended + 1)

-- ---- laws before and after

tree_if_lawful : (t : Tree) → IsLawful t → IsTree t
tree_if_lawful t (inl empty) = inl empty
tree_if_lawful t (inr (h, stands, parent, tended)) = inr (h, stands)

-- lawful words are a tree
pub lawful_tree : {t : Rooted} {kind : Kind} → IsLawfulOf t kind → IsTreeOf t kind
lawful_tree {t = t} {kind = kind} lawful = record { width = lawful.width; words = tree_if_lawful (tree_as kind t) lawful.words }

-- ---- a store whose leaves are still to be read

module _ {kind : Kind} {s : Sheet} {book : Book} {left : List PathStep} {first last entry number : ℕ} {call : Call} {reply : Reply} (may : MayReplace kind s book left first last entry number call reply) where
  pub tree_to_replace : (k : Kind) × IsTreeOf s.tree k
  tree_to_replace = (kind, lawful_tree may.kept.lawful)

  -- the paths to the ends of the store
  pub ends_are : {s' : Sheet} {left' right' : List PathStep} → OnlyReads s s' → left' ≡ left → right' ≡ path_in s.tree.table s.tree.root last → (k : Kind) × AreEnds k s'.tree left' right' first last
  ends_are {s' = s'} {left' = left'} {right' = right'} reads is_left is_right = (
    kind,
    subst (λ (t : Rooted). AreEnds kind t left' right' first last) (sym (same_tree s s' reads))
        (record { tree = lawful_tree may.kept.lawful; order = may.store.order; within = may.store.within; left_path = is_left ∙ may.left_path; right_path = is_right }),
  )

  -- the leaves were read
  pub may_splice : {s₁ s₂ : Sheet} {left₁ right₁ left₂ right₂ : List PathStep} {items : List Item} → OnlyReads s s₁ → OnlyReads s₁ s₂ → left₁ ≡ left → right₁ ≡ path_in s.tree.table s.tree.root last → left₂ ≡ left₁ → right₂ ≡ right₁
      → spans_from (last_step left₁).min items ≡ edited (region_of s₁.tree.table left₁ right₁) first last entry → MaySplice kind s₂ book left₂ right₂ items number call reply
  may_splice {s₁ = s₁} {s₂ = s₂} {left₁ = left₁} {right₁ = right₁} {left₂ = left₂} {right₂ = right₂} {items = items} reads₁ reads₂ is_left is_right left_same right_same is_edited =
      subst (λ (x : Sheet). MaySplice kind x book left₂ right₂ items number call reply) (sym (reads_on s s₁ s₂ reads₁ reads₂))
      (record { told = may.told; kept = may.kept; unpublished = may.unpublished; room = may.room; first = first; last = last; entry = entry; store = may.store; some = may.some; left_path = left_same ∙ (is_left ∙ may.left_path); right_path = right_same ∙ is_right; edits = (λ i. spans_from (last_step (left_same i)).min items) ∙ (is_edited ∙ (λ i. edited (region_of (table i) (sym left_same i) (sym right_same i)) first last entry)) })
    where
      table : s₁.tree.table ≡ s.tree.table
      table = ap (λ (t : Rooted). t.table) (same_tree s s₁ reads₁)

-- ---- what was read before a replacement

published_with : (s s' : Sheet) (reads : Option ℕ) (place : Place) → WasPublishedAt (record s { reads = reads }) s' place → WasPublishedAt s s' place
published_with s s' reads Root was = was
published_with s s' reads (Slot row col) was = was

-- and over other indexes whose gap words are right
pub spliced_as : {kind : Kind} {s s' : Sheet} {book book' : Book} {number : ℕ} {call : Call} {reply : Reply} {place : Place} {first last first' last' : ℕ} (reads : Option ℕ) → IsSpliced kind (record s { reads = reads }) s' book book' number call reply place first last
    → WasPublishedAt s s' place → ((index : ℕ) → first' ≤ index → index ≤ last' → HasGapsBut (is_unreached s.tree) index (tree_as kind s'.tree)) → IsSpliced kind s s' book book' number call reply place first' last'
spliced_as reads spliced published gaps =
    let m = spliced.moved in
    record { rest = spliced.rest; rows = spliced.rows; tree = spliced.tree; parents = spliced.parents; map = spliced.map; fewest = spliced.fewest; gaps = gaps; published = published; kept = spliced.kept; none_buried = spliced.none_buried; live = spliced.live; dead = spliced.dead; marked = spliced.marked; others = spliced.others; moved = record { taken = m.taken; free = m.free; few = m.few; used = m.used; gone = m.gone; held = m.held; were_reached = m.were_reached; are_not = m.are_not; all = m.all }; booked = spliced.booked }

spliced_with : {kind : Kind} {s s' : Sheet} {book book' : Book} {number : ℕ} {call : Call} {reply : Reply} {place : Place} {first last : ℕ} (reads : Option ℕ)
    → IsSpliced kind (record s { reads = reads }) s' book book' number call reply place first last → IsSpliced kind s s' book book' number call reply place first last
spliced_with {s = s} {s' = s'} {place = place} reads spliced = spliced_as reads spliced (published_with s s' reads place spliced.published) spliced.gaps

-- a replacement of rows that were only read before is one of the rows as they were
pub spliced_after_reads : {kind : Kind} {s s₁ s₂ s' : Sheet} {book book' : Book} {number : ℕ} {call : Call} {reply : Reply} {place : Place} {first last : ℕ} → OnlyReads s s₁ → OnlyReads s₁ s₂
    → IsSpliced kind s₂ s' book book' number call reply place first last → IsSpliced kind s s' book book' number call reply place first last
spliced_after_reads {kind = kind} {s = s} {s₁ = s₁} {s₂ = s₂} {s' = s'} {book = book} {book' = book'} {number = number} {call = call} {reply = reply} {place = place} {first = first} {last = last} reads₁ reads₂ spliced =
    spliced_with {s = s} s₂.reads (subst (λ (x : Sheet). IsSpliced kind x s' book book' number call reply place first last) (reads_on s s₁ s₂ reads₁ reads₂) spliced)
