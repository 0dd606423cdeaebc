-- The items of a row that are still to be read, from a slot on.
use Rattle.mt_splice.proofs.Prelude.{◌≡◌, ℕ, suc, ◌+◌, ◌-◌, ◌<◌, ◌≤◌, List, [], ◌∷◌, ◌++◌, length, take, nat_lt, sym, ap, ◌∙◌, arith, append_assoc, append-nil, length-append, ◌⊎◌, ⊎_elim, if◌then◌else◌, take-nil, Item, RowKind, item_at, items_from, pivot_column, slots_of, gaps_of, run_room, IsItem, ends, goes_on, Table, base_of, column, Sheet, OnlyReads}

abbrev pub unread : ℕ → ℕ → List ℕ → ℕ → ℕ → ℕ → ℕ → List Item
unread slots gaps w base max to i = take (to - i) (items_from slots gaps w base max (slots - i) i)

module _ (slots gaps : ℕ) (w : List ℕ) (base max i : ℕ) (item : Item) (is : IsItem slots gaps w base max i item) where
  pub unread_goes_on : (to : ℕ) → i < to → i < slots → item.last < max → unread slots gaps w base max to i ≡ item ∷ unread slots gaps w base max to (i + 1)
  unread_goes_on to within slot more =
      let n : to - i ≡ suc (to - (i + 1)) = omega arith in
      let left : slots - i ≡ suc (slots - (i + 1)) = omega arith in
      (λ j. take (n j) (items_from slots gaps w base max (left j) i)) ∙ ap (take (suc (to - (i + 1)))) (goes_on slots gaps w base max (slots - (i + 1)) i item (omega arith) is more)

  pub unread_ends : (to : ℕ) → i < to → i < slots → max ≤ item.last → unread slots gaps w base max to i ≡ item ∷ []
  unread_ends to within slot done =
      let n : to - i ≡ suc (to - (i + 1)) = omega arith in
      (λ j. take (n j) (items_from slots gaps w base max (slots - i) i))
      ∙ (ap (take (suc (to - (i + 1)))) (ends slots gaps w base max (slots - i) i item (omega arith) (omega arith) is done) ∙ ap (λ (l : List Item). item ∷ l) (take-nil (to - (i + 1))))

unread_none : (slots gaps : ℕ) (w : List ℕ) (base max to i : ℕ) → to ≤ i → unread slots gaps w base max to i ≡ []
unread_none slots gaps w base max to i past = let n : to - i ≡ 0 = omega arith in ap (λ (k : ℕ). take k (items_from slots gaps w base max (slots - i) i)) n

pub unread_no_slot : (slots gaps : ℕ) (w : List ℕ) (base max to i : ℕ) → slots ≤ i → unread slots gaps w base max to i ≡ []
unread_no_slot slots gaps w base max to i past =
    let n : slots - i ≡ 0 = omega arith in
    ap (λ (k : ℕ). take (to - i) (items_from slots gaps w base max k i)) n ∙ take-nil (to - i)

-- ---- the items of a row of a table

abbrev pub unread_in : Table → RowKind → ℕ → ℕ → ℕ → ℕ → List Item
unread_in t kind row max to i = unread (slots_of t.width kind) (gaps_of t.width kind) t.words (base_of t row) max to i

-- so far the items up to a slot were read
pub record AreReadUpTo (s s' : Sheet) (kind : RowKind) (row max from to slot : ℕ) (run run' : List Item) : Type 0 where
  pub rest : OnlyReads s s'
  pub items : run' ++ unread_in s'.tree.table kind row max to slot ≡ run ++ unread_in s.tree.table kind row max to from
  pub room : length run' + (to - slot) ≤ run_room

module _ (s t u : Sheet) (kind : RowKind) (row max from to slot : ℕ) (run before after : List Item) (item : Item) (done : AreReadUpTo s t kind row max from to slot run before) (reads : OnlyReads t u)
    (is : item ≡ item_at (slots_of t.tree.table.width kind) (gaps_of t.tree.table.width kind) t.tree.table.words (base_of t.tree.table row) slot item.last)
    (ends_at : item.last ≡ (if nat_lt (slot + 1) (slots_of t.tree.table.width kind) then column t.tree.table row (pivot_column slot) else max))
    (within : slot < to) (slots : slot < slots_of t.tree.table.width kind) (pushed : after ≡ before ++ item ∷ []) where
  pub one_more_read : item.last < max → AreReadUpTo s u kind row max from to (slot + 1) run after
  one_more_read more = record {
    rest = reads ∙ ap (λ (x : Sheet). record x { reads = u.reads }) done.rest;
    items =
        let rest = unread_goes_on (slots_of t.tree.table.width kind) (gaps_of t.tree.table.width kind) t.tree.table.words (base_of t.tree.table row) max slot item (is, ends_at) to within slots more in
        let now : unread_in u.tree.table kind row max to (slot + 1) ≡ unread_in t.tree.table kind row max to (slot + 1) = ap (λ (x : Sheet). unread_in x.tree.table kind row max to (slot + 1)) reads in
        (λ j. pushed j ++ now j) ∙ append_assoc before (item ∷ []) (unread_in t.tree.table kind row max to (slot + 1)) ∙ ap (λ (l : List Item). before ++ l) (sym rest) ∙ done.items;
    room = let room = done.room in rw (pushed, length-append before (item ∷ [])) (omega arith);
  }

  pub last_read : max ≤ item.last → after ≡ run ++ unread_in s.tree.table kind row max to from
  last_read last =
      let rest = unread_ends (slots_of t.tree.table.width kind) (gaps_of t.tree.table.width kind) t.tree.table.words (base_of t.tree.table row) max slot item (is, ends_at) to within slots last in
      pushed ∙ ap (λ (l : List Item). before ++ l) (sym rest) ∙ done.items

pub all_read : (s t : Sheet) (kind : RowKind) (row max from to slot : ℕ) (run before : List Item) → AreReadUpTo s t kind row max from to slot run before → (to ≤ slot) ⊎ (slots_of t.tree.table.width kind ≤ slot)
    → before ≡ run ++ unread_in s.tree.table kind row max to from
all_read s t kind row max from to slot run before done end =
    let none : unread_in t.tree.table kind row max to slot ≡ [] =
    ⊎_elim (λ (past : to ≤ slot). unread_none (slots_of t.tree.table.width kind) (gaps_of t.tree.table.width kind) t.tree.table.words (base_of t.tree.table row) max to slot past)
    (λ (past : slots_of t.tree.table.width kind ≤ slot). unread_no_slot (slots_of t.tree.table.width kind) (gaps_of t.tree.table.width kind) t.tree.table.words (base_of t.tree.table row) max to slot past) end in
    sym (append-nil before) ∙ ap (λ (l : List Item). before ++ l) (sym none) ∙ done.items
