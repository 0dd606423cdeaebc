-- The items of a leaf that end above an index are pushed, from the slot on that holds it.
use Rattle.mt_splice.proofs.Prelude.{◌≡◌, ℕ, ◌+◌, ◌-◌, ◌<◌, ◌≤◌, List, [], ◌∷◌, length, nat_lt, drop, fold, sym, ap, ◌∙◌, inl, inr, arith, if◌then◌else◌, cases_Bool, ltb-true, ltb-false, Item, Leaf, item_at, pivot_column, slots_of, gaps_of, run_room, with_joined, PathStep, Table, base_of, column, Rooted, Sheet, OnlyReads, IsLeafStep, leaf_items}
use Rattle.mt_leaf.specs.Places.{slot_above}
use Rattle.mt_splice.proofs.Gathering.{items_behind}
use Rattle.mt_splice.proofs.LeafItems.{ending_above, above_slot, one_above}
use Rattle.mt_splice.proofs.LeafRegions.{leaf_slot, leaf_used, leaf_rise}
use Rattle.mt_splice.proofs.Readings.{unread_in, unread_goes_on, unread_ends, unread_no_slot}

-- the items from a slot on
abbrev pub unread_there : Table → PathStep → ℕ → List Item
unread_there t leaf slot = unread_in t Leaf leaf.row leaf.max (slots_of t.width Leaf) slot

-- so far those up to a slot were pushed
pub record ArePushedUpTo (s s' : Sheet) (leaf : PathStep) (last slot : ℕ) (run run' : List Item) : Type 0 where
  pub rest : OnlyReads s s'
  pub items : fold with_joined run' (ending_above last (unread_there s'.tree.table leaf slot)) ≡ fold with_joined run (ending_above last (unread_there s.tree.table leaf leaf.slot))
  pub room : length run' + (slots_of s'.tree.table.width Leaf - slot) ≤ run_room

-- an item that ends above the index is pushed, and no other
pub one_pushed : (last : ℕ) (run run' : List Item) (item : Item) → (last < item.last → run' ≡ with_joined run item) → (item.last ≤ last → run' ≡ run) → run' ≡ fold with_joined run (ending_above last (item ∷ []))
one_pushed last run run' item above below = elim (cases_Bool (nat_lt last item.last)) [
  | inl t ↦ let is = above (ltb-true last item.last t) in rw t is
  | inr n ↦ let is = below (ltb-false last item.last n) in rw n is
]

module _ {s t u : Sheet} {leaf : PathStep} {last slot : ℕ} {run before pushed : List Item} {item : Item} (done : ArePushedUpTo s t leaf last slot run before) (reads : OnlyReads t u)
    (is : item ≡ item_at (slots_of t.tree.table.width Leaf) (gaps_of t.tree.table.width Leaf) t.tree.table.words (base_of t.tree.table leaf.row) slot item.last)
    (ends : item.last ≡ (if nat_lt (slot + 1) (slots_of t.tree.table.width Leaf) then column t.tree.table leaf.row (pivot_column slot) else leaf.max)) (within : slot < slots_of t.tree.table.width Leaf)
    (one : pushed ≡ fold with_joined before (ending_above last (item ∷ []))) where
  abbrev slots : ℕ
  slots = slots_of t.tree.table.width Leaf

  -- the last item is read
  pub last_pushed : leaf.max ≤ item.last → pushed ≡ fold with_joined run (ending_above last (unread_there s.tree.table leaf leaf.slot))
  last_pushed end =
      let all = unread_ends slots (gaps_of t.tree.table.width Leaf) t.tree.table.words (base_of t.tree.table leaf.row) leaf.max slot item (is, ends) slots within within end in
      one ∙ (ap (λ (xs : List Item). fold with_joined before (ending_above last xs)) (sym all) ∙ done.items)

  pub one_more_pushed : item.last < leaf.max → length pushed ≤ length before + 1 → ArePushedUpTo s u leaf last (slot + 1) run pushed
  one_more_pushed more count =
      let rest = unread_there t.tree.table leaf (slot + 1) in
      let all = unread_goes_on slots (gaps_of t.tree.table.width Leaf) t.tree.table.words (base_of t.tree.table leaf.row) leaf.max slot item (is, ends) slots within within more in
      let still : (λ (x : Sheet). unread_there x.tree.table leaf (slot + 1)) u ≡ rest = ap (λ (x : Sheet). unread_there x.tree.table leaf (slot + 1)) reads in
      record {
        rest = reads ∙ ap (λ (x : Sheet). record x { reads = u.reads }) done.rest;
        items =
            (λ k. fold with_joined (one k) (ending_above last (still k)))
            ∙ (sym (one_above last before rest item) ∙ (ap (λ (xs : List Item). fold with_joined before (ending_above last xs)) (sym all) ∙ done.items));
        room = let same = ap (λ (x : Sheet). slots_of x.tree.table.width Leaf) reads in let room = done.room in omega arith;
      }

-- no slot is left
pub all_pushed_above : {s t : Sheet} {leaf : PathStep} {last slot : ℕ} {run before : List Item} → ArePushedUpTo s t leaf last slot run before → slots_of t.tree.table.width Leaf ≤ slot
    → before ≡ fold with_joined run (ending_above last (unread_there s.tree.table leaf leaf.slot))
all_pushed_above {s} {t} {leaf} {last} {slot} {run} {before} done past =
    let none = unread_no_slot (slots_of t.tree.table.width Leaf) (gaps_of t.tree.table.width Leaf) t.tree.table.words (base_of t.tree.table leaf.row) leaf.max (slots_of t.tree.table.width Leaf) slot past in
    ap (λ (xs : List Item). fold with_joined before (ending_above last xs)) (sym none) ∙ done.items

-- the items from the leaf's slot on that end above the index
pub from_slot : {t : Rooted} {leaf : PathStep} {last : ℕ} → IsLeafStep t leaf last → ending_above last (unread_there t.table leaf leaf.slot) ≡ drop (slot_above (leaf_items t.table leaf) last) (leaf_items t.table leaf)
from_slot {t} {leaf} {last} is =
    let slots = slots_of t.table.width Leaf in
    let all = items_behind slots (gaps_of t.table.width Leaf) t.table.words (base_of t.table leaf.row) leaf.max leaf.slot (slots - leaf.slot) (leaf_used is) (omega arith) in
    ap (ending_above last) (all ∙ ap (λ (k : ℕ). drop k (leaf_items t.table leaf)) (leaf_slot is)) ∙ above_slot leaf.min last (leaf_items t.table leaf) (leaf_rise is)
