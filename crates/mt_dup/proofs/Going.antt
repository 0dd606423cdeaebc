-- The loop over the children of a row: what it has done, child by child.
use Rattle.mt_dup.proofs.Prelude.{◌≡◌, ◌≢◌, ℕ, ◌+◌, ◌-◌, ◌<◌, ◌≤◌, List, ◌++◌, length, take, refl, sym, ap, ◌∙◌, subst, inl, inr, arith, length-append, slice_index, flat_map, cases_eq, Width, columns, first_row, all_join, Book, Leaf, slot_column, row_in, parent_at, slots_of, slot_within, few_slots_of, Draft, Table, column, names_of, Rooted, Sheet, OnlyReads, IsWhole, IsPlace, life_of, loaded, Pair, with_new_row, next_row, IsFilling, HasTaken, IsOpenCopy, IsWritten, IsWrittenAt, names_from, names_below, MayCopy, MayCopyBelow, AreNumbered, IsCopied, AreCopied, LeavesCopy, LeavesChildren, IsNoName, KeepsOwn, one_read, reads_on, same_tree, all_at}
use Rattle.mt_dup.proofs.WrittenRows.{written_rows, written_width, nothing_written, written_on, written_in}
use Rattle.mt_dup.proofs.Names.{parents_at, more_done, all_done, done_most, names_long, names_at, numbered_front, numbered_back, renamed_parent, SameFrom, copies_stay}

-- ---- books

pub none_taken : (b : Book) → IsFilling b → HasTaken 0 b b
none_taken b filling = record { filling = filling; rows = refl; taken = omega arith }

pub next_after : (n : ℕ) (b b' : Book) → IsFilling b → HasTaken n b b' → next_row b' ≡ next_row b + n
next_after n b b' filling taken = let fit = filling.fit in let fit' = taken.filling.fit in let rows = taken.rows in let less = taken.taken in omega arith

pub taken_more : (n m k : ℕ) (b b' b'' : Book) → k ≡ n + m → HasTaken n b b' → HasTaken m b' b'' → HasTaken k b b''
taken_more n m k b b' b'' all first second = record {
  filling = second.filling;
  rows = second.rows ∙ first.rows;
  taken = let one = first.taken in let two = second.taken in omega arith;
}

-- rows that were written below the next one leave the table open
pub open_after : (n low high : ℕ) (b b' : Book) (d d' : Sheet) → IsOpenCopy b d → HasTaken n b b' → high ≤ next_row b' → IsWritten low high d d' → IsOpenCopy b' d'
open_after n low high b b' d d' unused taken up written = record {
  filling = taken.filling;
  rows = written_rows low high d d' written ∙ (unused.rows ∙ sym taken.rows);
  new = λ row from to. let next = next_after n b b' unused.filling taken in let rows = taken.rows in written.lives row (inr (omega arith)) ∙ unused.new row (omega arith) (omega arith);
}

-- ---- the loop

abbrev pub slots_in : Sheet → Pair → ℕ
slots_in s pair = slots_of s.tree.table.width pair.kind

abbrev pub names_in : Sheet → Pair → List ℕ
names_in s pair = names_of s.tree.table pair.row pair.kind

-- the names below the first children
abbrev pub done : Sheet → Pair → ℕ → ℕ → List ℕ
done s pair depth slot = flat_map (names_from s.tree.table (depth - 1)) (take slot (names_in s pair))

-- under numbers that serve the first children their names are written, and they are copied
abbrev pub HasFirst : (ℕ → ℕ) → Sheet → Sheet → Pair → ℕ → ℕ → Type 0
HasFirst number s d' pair depth slot =
    ((i : ℕ) → i < slot → column d'.tree.table pair.to (slot_column (slots_in s pair) i) ≡ with_new_row number (column s.tree.table pair.row (slot_column (slots_in s pair) i)))
    × AreCopied number s.tree.table d'.tree.table (done s pair depth slot)

pub record Going (s s' d d' : Sheet) (b b' : Book) (pair : Pair) (depth slot count count' : ℕ) : Type 0 where
  pub reads : OnlyReads s s'
  pub written : IsWritten pair.to (next_row b') d d'
  pub taken : HasTaken (length (done s pair depth slot)) b b'
  pub steps : count' ≡ count + length (done s pair depth slot)
  pub own : KeepsOwn d.tree.table d'.tree.table pair
  pub copied : (number : ℕ → ℕ) → number 0 ≡ 0 → number pair.row ≡ pair.to → AreNumbered number (next_row b) (done s pair depth slot) → HasFirst number s d' pair depth slot

-- what the loop begins with
pub record Begins (s d : Sheet) (b : Book) (pair : Pair) (depth : ℕ) : Type 0 where
  pub whole : IsWhole s
  pub new_whole : IsWhole d
  pub inner : pair.kind ≢ Leaf
  pub may : MayCopyBelow s.tree depth pair
  pub unused : IsOpenCopy b d
  pub room : length (names_below s.tree.table depth pair) ≤ length b.free
  pub to : next_row b ≡ pair.to + 1
  pub first : first_row ≤ pair.to
  pub draft : life_of d.lives pair.to ≡ Draft
  pub width : d.tree.table.width ≡ s.tree.table.width

pub going_none : (s d : Sheet) (b : Book) (pair : Pair) (depth count : ℕ) → Begins s d b pair depth → Going s s d d b b pair depth 0 count count
going_none s d b pair depth count begins = record {
  reads = refl;
  written = subst (λ (n : ℕ). IsWritten pair.to n d d) (sym begins.to) (nothing_written pair.to d begins.draft);
  taken = none_taken b begins.unused.filling;
  steps = omega arith;
  own = λ c within no_slot. refl;
  copied = λ number zero_is to numbered. ((λ i within. absurd (omega arith)), tt);
}

-- loads change nothing
pub going_loaded : (s s₁ s₂ d d₁ : Sheet) (b b₁ : Book) (pair : Pair) (depth slot count count₁ : ℕ) → Going s s₁ d d₁ b b₁ pair depth slot count count₁ → s₂ ≡ loaded s₁ → Going s s₂ d d₁ b b₁ pair depth slot count count₁
going_loaded s s₁ s₂ d d₁ b b₁ pair depth slot count count₁ going one = record {
  reads = reads_on s s₁ s₂ going.reads (one_read s₁ s₂ one);
  written = going.written;
  taken = going.taken;
  steps = going.steps;
  own = going.own;
  copied = going.copied;
}

module _ (s d : Sheet) (b : Book) (pair : Pair) (depth : ℕ) (begins : Begins s d b pair depth) where
  abbrev t : Table
  t = s.tree.table

  abbrev slots : ℕ
  slots = slots_in s pair

  abbrev names : List ℕ
  names = names_in s pair

  abbrev child_names : ℕ → List ℕ
  child_names word = names_from t (depth - 1) word

  long : length names ≡ slots
  long = names_long t pair.kind pair.row s.tree.rows begins.whole.words begins.inner begins.may.inside

  -- the word in a slot
  abbrev pub word_of : ℕ → ℕ
  word_of slot = column t pair.row (slot_column slots slot)

  at : (slot : ℕ) → slot < slots → slice_index names slot ≡ word_of slot
  at slot inside = names_at t pair.kind pair.row s.tree.rows begins.whole.words begins.inner begins.may.inside slot inside

  done_more : (slot : ℕ) → slot < slots → done s pair depth (slot + 1) ≡ done s pair depth slot ++ child_names (word_of slot)
  done_more slot inside = more_done child_names names slot (omega (arith, long)) ∙ ap (λ (word : ℕ). done s pair depth slot ++ child_names word) (at slot inside)

  length_more : (slot : ℕ) → slot < slots → length (done s pair depth (slot + 1)) ≡ length (done s pair depth slot) + length (child_names (word_of slot))
  length_more slot inside = ap length (done_more slot inside) ∙ length-append (done s pair depth slot) (child_names (word_of slot))

  module _ (s₁ d₁ : Sheet) (b₁ : Book) (slot count count₁ : ℕ) (going : Going s s₁ d d₁ b b₁ pair depth slot count count₁) (inside : slot < slots) where
    pub may_load : IsPlace s₁.tree pair.row (slot_column slots slot)
    may_load = subst (λ (r : Rooted). IsPlace r pair.row (slot_column slots slot)) (sym (same_tree s s₁ going.reads))
        (record { first = begins.may.first; last = begins.may.inside; column = slot_within t.width pair.kind slot inside })

    pub loaded_is : (s₂ : Sheet) (word size : ℕ) → s₂ ≡ loaded s₁ → size ≡ slots → word ≡ column s₁.tree.table pair.row (size + slot) → word ≡ word_of slot
    loaded_is s₂ word size reads many is = is ∙ (ap (λ (n : ℕ). column s₁.tree.table pair.row (n + slot)) many ∙ ap (λ (r : Rooted). column r.table pair.row (slot_column slots slot)) (same_tree s s₁ going.reads))

    pub may_child : MayCopy s₁.tree (depth - 1) (word_of slot)
    may_child = subst (λ (r : Rooted). MayCopy r (depth - 1) (word_of slot)) (sym (same_tree s s₁ going.reads))
        (subst (MayCopy s.tree (depth - 1)) (at slot inside) (all_at (MayCopy s.tree (depth - 1)) names slot 0 begins.may.below (omega (arith, long))))

    next_is : next_row b₁ ≡ next_row b + length (done s pair depth slot)
    next_is = next_after (length (done s pair depth slot)) b b₁ begins.unused.filling going.taken

    pub open_child : IsOpenCopy b₁ d₁
    open_child = open_after (length (done s pair depth slot)) pair.to (next_row b₁) b b₁ d d₁ begins.unused going.taken (omega arith) going.written

    pub room_child : length (names_from s₁.tree.table (depth - 1) (word_of slot)) ≤ length b₁.free
    room_child = subst (λ (r : Rooted). length (names_from r.table (depth - 1) (word_of slot)) ≤ length b₁.free) (sym (same_tree s s₁ going.reads)) few
      where
        few : length (child_names (word_of slot)) ≤ length b₁.free
        few =
            let most = done_most child_names names slot (omega (arith, long)) in
            let same = ap (λ (word : ℕ). length (child_names word)) (at slot inside) in
            let room = begins.room in let taken = going.taken.taken in
            omega arith

    -- rows stay as wide as they were
    wide₁ : d₁.tree.table.width ≡ t.width
    wide₁ = written_width pair.to (next_row b₁) d d₁ going.written ∙ begins.width

    pub wide_child : d₁.tree.table.width ≡ s₁.tree.table.width
    wide_child = wide₁ ∙ ap (λ (r : Rooted). r.table.width) (sym (same_tree s s₁ going.reads))

    module _ (s₂ d₂ : Sheet) (b₂ : Book) (count₂ word parent name : ℕ) (is_loaded : word ≡ word_of slot) (parent_of : parent ≡ parent_at pair.to slot) (reads : OnlyReads s₁ s₂)
        (copy : LeavesCopy s₁.tree.table d₂.tree.table (next_row b₁) (record { depth = depth - 1; word = word; parent = parent }) name)
        (taken : HasTaken (length (names_from s₁.tree.table (depth - 1) word)) b₁ b₂) (written : IsWritten (next_row b₁) (next_row b₂) d₁ d₂)
        (steps : count₂ ≡ count₁ + length (names_from s₁.tree.table (depth - 1) word)) where
      -- of the words as they were
      taken' : HasTaken (length (child_names (word_of slot))) b₁ b₂
      taken' = subst (λ (n : ℕ). HasTaken (length (child_names n)) b₁ b₂) is_loaded (subst (λ (r : Rooted). HasTaken (length (names_from r.table (depth - 1) word)) b₁ b₂) (same_tree s s₁ going.reads) taken)

      steps' : count₂ ≡ count₁ + length (child_names (word_of slot))
      steps' = subst (λ (n : ℕ). count₂ ≡ count₁ + length (child_names n)) is_loaded (subst (λ (r : Rooted). count₂ ≡ count₁ + length (names_from r.table (depth - 1) word)) (same_tree s s₁ going.reads) steps)

      copy' : LeavesCopy t d₂.tree.table (next_row b₁) (record { depth = depth - 1; word = word_of slot; parent = parent_at pair.to slot }) name
      copy' = subst (λ (n : ℕ). LeavesCopy t d₂.tree.table (next_row b₁) (record { depth = depth - 1; word = word_of slot; parent = n }) name) parent_of
          (subst (λ (n : ℕ). LeavesCopy t d₂.tree.table (next_row b₁) (record { depth = depth - 1; word = n; parent = parent }) name) is_loaded
          (subst (λ (r : Rooted). LeavesCopy r.table d₂.tree.table (next_row b₁) (record { depth = depth - 1; word = word; parent = parent }) name) (same_tree s s₁ going.reads) copy))

      then_is : next_row b₂ ≡ next_row b₁ + length (child_names (word_of slot))
      then_is = next_after (length (child_names (word_of slot))) b₁ b₂ going.taken.filling taken'

      so_far : IsWritten pair.to (next_row b₂) d d₂
      so_far = let to = begins.to in written_on pair.to (next_row b₁) (next_row b₂) d d₁ d₂ (omega (arith, next_is)) (omega (arith, then_is)) going.written written

      wide₂ : d₂.tree.table.width ≡ t.width
      wide₂ = written_width pair.to (next_row b₂) d d₂ so_far ∙ begins.width

      pub still_draft : life_of d₂.lives pair.to ≡ Draft
      still_draft = let to = begins.to in so_far.drafts pair.to (omega arith) (omega (arith, next_is, then_is))

      pub may_write : IsPlace d₂.tree pair.to (slot_column slots slot)
      may_write =
          let to = begins.to in let rows = written_rows pair.to (next_row b₂) d d₂ so_far in let many = begins.unused.rows in let fit = begins.unused.filling.fit in
          record {
            first = begins.first;
            last = omega (arith, rows, many, to, fit);
            column = subst (λ (v : Width). slot_column slots slot < columns v) (sym wide₂) (slot_within t.width pair.kind slot inside);
          }

      module _ (d₃ : Sheet) (last : IsWritten pair.to (pair.to + 1) d₂ d₃) (here : IsWrittenAt pair.to (slot_column slots slot) name d₂.tree.table d₃.tree.table) where
        wide₃ : d₃.tree.table.width ≡ t.width
        wide₃ = written_width pair.to (pair.to + 1) d₂ d₃ last ∙ wide₂

        wide : (v w : Width) (c : ℕ) → v ≡ w → c < columns v → c < columns w
        wide v w c same within = subst (λ (v : Width). c < columns v) same within

        column_in : (i : ℕ) → i < slots → slot_column slots i < columns t.width
        column_in i within = slot_within t.width pair.kind i within

        own : KeepsOwn d.tree.table d₃.tree.table pair
        own c within no_slot =
            let to = begins.to in
            here.others c (wide d.tree.table.width d₂.tree.table.width c (begins.width ∙ sym wide₂) within) (not_here no_slot)
            ∙ (written.words pair.to c (inl (omega (arith, next_is))) (wide d.tree.table.width d₁.tree.table.width c (begins.width ∙ sym wide₁) within) ∙ going.own c within no_slot)
          where
            not_here : IsNoName pair.kind (slots_of d.tree.table.width pair.kind) c → c ≢ slot_column slots slot
            not_here no_slot = λ e. by (subst (λ (v : Width). IsNoName pair.kind (slots_of v pair.kind) c) begins.width no_slot) e
              where
                by : IsNoName pair.kind slots c → c ≡ slot_column slots slot → ⊥
                by (inl leaf) e = begins.inner leaf
                by (inr (inl below)) e = omega arith
                by (inr (inr above)) e = omega arith

        -- rows that were written before the last word are as they were
        kept_rows : SameFrom d₂.tree.table d₃.tree.table (next_row b) (next_row b₂)
        kept_rows row c above below within = let to = begins.to in last.words row c (inr (omega arith)) within

        first_rows : SameFrom d₁.tree.table d₃.tree.table (next_row b) (next_row b₁)
        first_rows row c above below within =
            kept_rows row c above (omega (arith, then_is)) (wide d₁.tree.table.width d₂.tree.table.width c (wide₁ ∙ sym wide₂) within) ∙ written.words row c (inl below) within

        copied : (number : ℕ → ℕ) → number 0 ≡ 0 → number pair.row ≡ pair.to → AreNumbered number (next_row b) (done s pair depth (slot + 1)) → HasFirst number s d₃ pair depth (slot + 1)
        copied number zero_is to_is numbered = (slots_are, subst (AreCopied number t d₃.tree.table) (sym (done_more slot inside)) (all_join (IsCopied number t d₃.tree.table) (done s pair depth slot) (child_names (word_of slot)) first_copied child_copied))
          where
            numbered' : AreNumbered number (next_row b) (done s pair depth slot ++ child_names (word_of slot))
            numbered' = subst (AreNumbered number (next_row b)) (done_more slot inside) numbered

            first_numbered : AreNumbered number (next_row b) (done s pair depth slot)
            first_numbered = numbered_front number (next_row b) (done s pair depth slot) (child_names (word_of slot)) numbered'

            child_numbered : AreNumbered number (next_row b₁) (child_names (word_of slot))
            child_numbered = numbered_back number (next_row b) (next_row b₁) (done s pair depth slot) (child_names (word_of slot)) next_is numbered'

            before : HasFirst number s d₁ pair depth slot
            before = going.copied number zero_is to_is first_numbered

            parent_is : word_of slot ≢ 0 → parent_at pair.to slot ≡ with_new_row number (column t (row_in (word_of slot)) 0)
            parent_is some =
                let same = at slot inside in
                let plus : 0 + slot ≡ slot = omega arith in
                let here_parent : slice_index names slot ≢ 0 → column t (row_in (slice_index names slot)) 0 ≡ parent_at pair.row slot = subst (λ (n : ℕ). slice_index names slot ≢ 0 → column t (row_in (slice_index names slot)) 0 ≡ parent_at pair.row n) plus (parents_at t pair.row 0 names slot begins.may.parents (omega (arith, long))) in
                let parent : column t (row_in (word_of slot)) 0 ≡ parent_at pair.row slot =
                subst (λ (n : ℕ). n ≢ 0 → column t (row_in n) 0 ≡ parent_at pair.row slot) same here_parent some in
                sym (ap (with_new_row number) parent ∙ (renamed_parent number pair.row slot (omega (arith, few_slots_of t.width pair.kind)) ∙ ap (λ (r : ℕ). parent_at r slot) to_is))

            child : (name ≡ with_new_row number (word_of slot)) × AreCopied number t d₂.tree.table (child_names (word_of slot))
            child = copy' number zero_is child_numbered parent_is

            first_copied : AreCopied number t d₃.tree.table (done s pair depth slot)
            first_copied = copies_stay number t d₁.tree.table d₃.tree.table (done s pair depth slot) (next_row b) (next_row b₁) (wide₃ ∙ sym wide₁) next_is first_numbered first_rows before.1

            child_copied : AreCopied number t d₃.tree.table (child_names (word_of slot))
            child_copied = copies_stay number t d₂.tree.table d₃.tree.table (child_names (word_of slot)) (next_row b₁) (next_row b₂) (wide₃ ∙ sym wide₂) then_is child_numbered
                (λ row c above below within. kept_rows row c (omega (arith, next_is)) below within) child.1

            slots_are : (i : ℕ) → i < slot + 1 → column d₃.tree.table pair.to (slot_column slots i) ≡ with_new_row number (word_of i)
            slots_are i within = elim (cases_eq i slot) [
              | inl same ↦ ap (λ (n : ℕ). column d₃.tree.table pair.to (slot_column slots n)) same ∙ (here.here ∙ (child.0 ∙ ap (λ (n : ℕ). with_new_row number (word_of n)) (sym same)))
              | inr other ↦
                  let to = begins.to in
                  here.others (slot_column slots i) (wide t.width d₂.tree.table.width (slot_column slots i) (sym wide₂) (column_in i (omega arith))) (λ e. other (omega arith))
                  ∙ (written.words pair.to (slot_column slots i) (inl (omega (arith, next_is))) (wide t.width d₁.tree.table.width (slot_column slots i) (sym wide₁) (column_in i (omega arith))) ∙ before.0 i (omega arith))
            ]

        pub going_next : Going s s₂ d d₃ b b₂ pair depth (slot + 1) count count₂
        going_next = record {
          reads = reads_on s s₁ s₂ going.reads reads;
          written = let to = begins.to in written_in pair.to (next_row b₂) pair.to d d₂ d₃ (omega arith) (omega (arith, next_is, then_is)) so_far last;
          taken = taken_more (length (done s pair depth slot)) (length (child_names (word_of slot))) (length (done s pair depth (slot + 1))) b b₁ b₂ (length_more slot inside) going.taken taken';
          steps = let more = length_more slot inside in let before = going.steps in omega (arith, steps');
          own = own;
          copied = copied;
        }

  -- all children are copied
  module _ (s₁ d₁ : Sheet) (b₁ : Book) (count count₁ : ℕ) (going : Going s s₁ d d₁ b b₁ pair depth slots count count₁) where
    all_is : done s pair depth slots ≡ names_below t depth pair
    all_is = all_done child_names names slots (omega (arith, long))

    pub children_copied : LeavesChildren t d₁.tree.table (next_row b) depth pair
    children_copied number zero_is to_is numbered =
        let all = going.copied number zero_is to_is (subst (AreNumbered number (next_row b)) (sym all_is) numbered) in
        ((λ inner. all.0), subst (AreCopied number t d₁.tree.table) all_is all.1)

    pub children_taken : HasTaken (length (names_below t depth pair)) b b₁
    children_taken = subst (λ (l : List ℕ). HasTaken (length l) b b₁) all_is going.taken

    pub children_steps : count₁ ≡ count + length (names_below t depth pair)
    children_steps = going.steps ∙ ap (λ (l : List ℕ). count + length l) all_is
