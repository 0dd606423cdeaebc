-- What stays where rows were only read. For the proofs of the crates above, too.
use Rattle.mt_path.proofs.Prelude.{◌≡◌, ◌<◌, ℕ, List, sym, ap, ◌∙◌, subst, Kind, Width, columns, Rooted, Sheet, IsPlace, word_at, OnlyReads, ReadsUpTo, IsTreeOf, Handle, PathStep, IsHandleOf, IsStepOfLeaf, path_in, same_tree, IsTreeOfWidth}

pub tree_kept : (n : ℕ) (s s' : Sheet) → ReadsUpTo n s s' → s'.tree ≡ s.tree
tree_kept n s s' reads = same_tree s s' reads.rest

pub width_kept : (n : ℕ) (s s' : Sheet) (width : Width) → ReadsUpTo n s s' → width ≡ s.tree.table.width → width ≡ s'.tree.table.width
width_kept n s s' width reads is = is ∙ ap (λ (t : Rooted). t.table.width) (sym (tree_kept n s s' reads))

-- after two calls that load
pub width_then : (n m : ℕ) (s s' s'' : Sheet) (width : Width) → ReadsUpTo n s s' → ReadsUpTo m s' s'' → width ≡ s.tree.table.width → width ≡ s''.tree.table.width
width_then n m s s' s'' width first second is = width_kept m s' s'' width second (width_kept n s s' width first is)

pub is_tree_kept : (s s' : Sheet) (kind : Kind) → OnlyReads s s' → IsTreeOf s.tree kind → IsTreeOf s'.tree kind
is_tree_kept s s' kind only tree = subst (λ (t : Rooted). IsTreeOf t kind) (sym (same_tree s s' only)) tree

pub path_kept : (s s' : Sheet) (steps : List PathStep) (index : ℕ) → OnlyReads s s' → steps ≡ path_in s.tree.table s.tree.root index → steps ≡ path_in s'.tree.table s'.tree.root index
path_kept s s' steps index only path = path ∙ ap (λ (t : Rooted). path_in t.table t.root index) (sym (same_tree s s' only))

pub handle_kept : (s s' : Sheet) (handle : Handle) → OnlyReads s s' → IsHandleOf s.tree handle → IsHandleOf s'.tree handle
handle_kept s s' handle only is = subst (λ (t : Rooted). IsHandleOf t handle) (sym (same_tree s s' only)) is

pub step_kept : (s s' : Sheet) (leaf : PathStep) → OnlyReads s s' → IsStepOfLeaf s.tree leaf → IsStepOfLeaf s'.tree leaf
step_kept s s' leaf only is = subst (λ (t : Rooted). IsStepOfLeaf t leaf) (sym (same_tree s s' only)) is

pub place_kept : (s s' : Sheet) (row col : ℕ) → OnlyReads s s' → IsPlace s.tree row col → IsPlace s'.tree row col
place_kept s s' row col only place = subst (λ (t : Rooted). IsPlace t row col) (sym (same_tree s s' only)) place

-- another column of a row that stands in the table
pub column_place : (t : Rooted) (row col : ℕ) → IsPlace t row 0 → col < columns t.table.width → IsPlace t row col
column_place t row col place low = record { first = place.first; last = place.last; column = low }

pub word_kept : (n : ℕ) (s s' : Sheet) (row col word : ℕ) → ReadsUpTo n s s' → word ≡ word_at s'.tree row col → word ≡ word_at s.tree row col
word_kept n s s' row col word reads is = is ∙ ap (λ (t : Rooted). word_at t row col) (tree_kept n s s' reads)

-- a tree of a width that was only read is one still
pub tree_over : (s s' : Sheet) (width : Width) → OnlyReads s s' → IsTreeOfWidth s.tree width → IsTreeOfWidth s'.tree width
tree_over s s' width only over = subst (λ (t : Rooted). IsTreeOfWidth t width) (sym (same_tree s s' only)) over
