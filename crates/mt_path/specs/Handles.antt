-- Where an index is in a tree: the leaf that covers it, the slot there, and what the slot holds.
-- Source: the kernel's struct ma_state, whose node, offset, index and last a walk sets.
use Rattle.std.specs.Prelude.{◌≡◌, ◌≢◌, ◌↔◌, ℕ, ◌-◌, ◌≤◌, ◌<◌, List, Option, IsNone, IfSome, length}
use Rattle.mt_path.specs.Prelude.{greatest, Leaf, Span, Table, row_spans, ReadsUpTo, Rooted, Sheet, OnlyReads}
use Rattle.mt_path.specs.declared.paths.PathStep.{PathStep}
use Rattle.mt_path.specs.declared.handles.Handle.{Handle}
use Rattle.mt_path.specs.Paths.{loads_on, path_in, step_at, span_at}

-- the leaf at the end of a path, and what it holds
abbrev pub last_step : List PathStep → PathStep
last_step path = step_at path (length path - 1)

abbrev pub leaf_spans : Table → PathStep → List Span
leaf_spans t s = row_spans t s.row Leaf s.min s.max

-- the leaf at the end of a path, and what its slot holds
abbrev pub handle_of : Table → PathStep → Handle
handle_of t leaf = record { leaf = leaf; span = span_at (leaf_spans t leaf) leaf.slot }

-- the leaf at the end of the path to an index
abbrev pub leaf_in : Rooted → ℕ → PathStep
leaf_in t index = last_step (path_in t.table t.root index)

abbrev pub handle_in : Rooted → ℕ → Handle
handle_in t index = handle_of t.table (leaf_in t index)

-- the handle of some index
pub record IsHandleOf (t : Rooted) (handle : Handle) : Type 0 where
  pub some : t.root ≢ 0
  pub index : ℕ
  pub within : index ≤ greatest t.table.width
  pub is : handle ≡ handle_in t index

-- the leaf of some index, and one of its slots that is in use
pub record IsStepOfLeaf (t : Rooted) (step : PathStep) : Type 0 where
  pub some : t.root ≢ 0
  pub index : ℕ
  pub within : index ≤ greatest t.table.width
  pub leaf : step ≡ record (leaf_in t index) { slot = step.slot }
  pub used : step.slot < length (leaf_spans t.table step)

-- The slot that holds the index was found, and what is there; none in the empty tree. No more words were loaded than there are on
-- the way.
pub record FindsHandle (s s' : Sheet) (index : ℕ) (found : Option Handle) : Type 0 where
  pub none : IsNone found ↔ (s.tree.root ≡ 0)
  pub some : IfSome found (λ handle. handle ≡ handle_in s.tree index)
  pub rest : OnlyReads s s'
  pub reads : ReadsUpTo (loads_on (path_in s.tree.table s.tree.root index)) s s'
