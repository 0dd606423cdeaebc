-- Trees that open with a map, and the form of a tree's words.
-- Source: the kernel's lib/maple_tree.c, mtree_dup and mt_validate; the numbers of nodes are this project's.
use Rattle.std.specs.Prelude.{◌≡◌, ◌⊎◌, ℕ, ◌≤◌, List, Option, Some, None}
use Rattle.mt_c.specs.Prelude.{Kind, Range, most_rows, Form, form_of, IsLawfulOf, map_by, tree_as, Parts, live_rows}
use Rattle.mt_c.specs.declared.forms.OutForm.{OutForm}
use Rattle.mt_c.specs.Calls.{IsAsked}
use Rattle.mt_c.specs.Own.{OwnTree}

-- ---- a tree's form

abbrev pub no_form : OutForm
no_form = record { height = 0; rows = 0; ranges = 0 }

abbrev pub out_form : Form → OutForm
out_form form = record { height = form.height; rows = form.rows; ranges = form.ranges }

-- The words of an open tree are well-formed, and their form is returned.
abbrev pub Checked : Option OwnTree → Option OwnTree → ℕ → OutForm → Type 0
Checked None after status form = (after ≡ None) × (status ≡ 9) × (form ≡ no_form)
Checked (Some t) None status form = ⊥
Checked (Some t) (Some t') status form =
    IsAsked t.engine t'.engine × IsLawfulOf t.engine.sheet.tree t.engine.kind × (status ≡ 0) × (form ≡ out_form (form_of (tree_as t.engine.kind t.engine.sheet.tree)))

-- ---- opening with a map

-- A tree of this kind, with this many nodes, that has this map, and has had no call.
pub record IsOpenedWith (kind : Kind) (rows : ℕ) (m : List Range) (t : Parts) : Type 0 where
  pub kind_is : t.kind ≡ kind
  pub rows_are : t.sheet.tree.rows ≡ rows
  pub map : map_by t.sheet.tree ≡ m
  pub first : t.sheet.ended ≡ 0

-- this many nodes are enough for those in use, and no more than a tree may have
abbrev pub FitsRows : ℕ → ℕ → Type 0
FitsRows used rows = (used ≤ rows) × (rows ≤ most_rows)

-- Why there is no tree: EDOM where the nodes do not fit, and ENOMEM where they do and memory ran out.
abbrev pub LacksTree : ℕ → ℕ → ℕ → Type 0
LacksTree used rows status = ((status ≡ 33) × (FitsRows used rows → ⊥)) ⊎ ((status ≡ 12) × FitsRows used rows)

-- An open of what C keeps: such a tree, or the number that says why there is none. One that is open is EALREADY, and stays as
-- it was.
abbrev pub OpensHandleAs : (Parts → Type 0) → (ℕ → Type 0) → Option OwnTree → ℕ → Type 0
OpensHandleAs is lacks (Some t) status = (status ≡ 0) × is t.engine
OpensHandleAs is lacks None status = lacks status

abbrev pub OpensHandle : (Parts → Type 0) → (ℕ → Type 0) → Option OwnTree → Option OwnTree → ℕ → Type 0
OpensHandle is lacks (Some t) after status = (after ≡ Some t) × (status ≡ 114)
OpensHandle is lacks None after status = OpensHandleAs is lacks after status

-- ---- copies

-- a tree with the map of another, in this many nodes, which are enough for those that the other has in use
abbrev pub IsCopyInRows : ℕ → Parts → Parts → Type 0
IsCopyInRows rows t t' = FitsRows (live_rows t.sheet.tree) rows × IsOpenedWith t.kind rows (map_by t.sheet.tree) t'

-- An open of one tree with the map of another, which is only read. A closed one is EBADF, and the copy is as it was.
abbrev pub Copied : ℕ → Option OwnTree → Option OwnTree → Option OwnTree → Option OwnTree → ℕ → Type 0
Copied rows None after copy copy' status = (after ≡ None) × (copy' ≡ copy) × (status ≡ 9)
Copied rows (Some t) None copy copy' status = ⊥
Copied rows (Some t) (Some t') copy copy' status = IsAsked t.engine t'.engine × OpensHandle (IsCopyInRows rows t.engine) (LacksTree (live_rows t.engine.sheet.tree) rows) copy copy' status
