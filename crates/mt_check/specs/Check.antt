-- The first law that the words of a tree break, in the order of a walk from the root: each node before its children, children
-- from the left; and the form of a tree that breaks none.
-- Source: the kernel's lib/maple_tree.c, mt_validate; the order of the laws is this project's.
use Rattle.std.specs.Prelude.{ℕ, zero, suc, ◌+◌, ◌==◌, nat_le, map, length, List, [], ◌∷◌, ◌++◌, Option, Some, None, Result, Ok, Err, Bool, if◌then◌else◌}
use Rattle.mt_check.specs.Prelude.{deepest, RowKind, Span, row_in, named_kind, parent_at, column, spans_in, root_span, by_kind, map_in, reached_in, height_in, Tree, top_of, items_in}
use Rattle.mt_check.specs.declared.faults.Law.{Law}
use Rattle.mt_check.specs.declared.faults.Law.TheVariants.{Name, Depth, Parent, Pivots, Count, Entries, Holes, Gaps}
use Rattle.mt_check.specs.declared.faults.Fault.{Fault}
use Rattle.mt_check.specs.declared.faults.Form.{Form}
use Rattle.mt_check.specs.RowTests.{names_row, has_depth, has_pivots, least_at, has_entries, has_holes, longest_at, has_gaps}

-- ---- one node

-- how the walk reaches a node: the node whose slot names it, and the parent word of that slot; the root has no such node
pub record Way : Type 0 where
  pub from : ℕ
  pub parent : ℕ

abbrev pub unless : Bool → Law → List Law
unless holds law = if holds then [] else law ∷ []

-- the laws that the node's own words break
abbrev pub broken_in : Tree → ℕ → ℕ → Span → RowKind → List Law
broken_in t left parent x kind =
    unless (column t.table (row_in x.word) 0 == parent) Parent
    ++ (unless (has_pivots t.table kind x) Pivots
    ++ (unless (nat_le (least_at t.table.width left kind) (length (items_in t.table kind x))) Count
    ++ (unless (has_entries kind (items_in t.table kind x)) Entries
    ++ unless (has_holes (nat_le (top_of t) x.last) kind (items_in t.table kind x)) Holes)))

abbrev pub broken_by : Tree → ℕ → ℕ → Span → Option RowKind → List Law
broken_by t left parent x None = []
broken_by t left parent x (Some kind) = unless (has_depth (height_in t.table t.root) left kind) Depth ++ broken_in t left parent x kind

abbrev pub at_row : ℕ → List Law → List Fault
at_row row laws = map (λ law. record { row = row; law = law }) laws

-- the faults of a node, without those of its gaps
abbrev pub own_faults : Tree → ℕ → Way → Span → List Fault
own_faults t left way x = at_row way.from (unless (names_row t.gapped t.rows x.word) Name) ++ at_row (row_in x.word) (broken_by t left way.parent x (named_kind x.word))

abbrev pub gaps_by : (Span → ℕ) → Tree → Span → Option RowKind → List Law
gaps_by longest t x None = []
gaps_by longest t x (Some kind) = unless (has_gaps longest t.table kind x) Gaps

-- ---- the walk

-- the faults below the nodes that a node's slots name, from one slot on
abbrev pub faults_below : (Way → Span → List Fault) → ℕ → ℕ → List Span → List Fault
faults_below faults row slot [] = []
faults_below faults row slot (x ∷ xs) = faults (record { from = row; parent = parent_at row slot }) x ++ faults_below faults row (slot + 1) xs

-- the faults of a node and of those below it
unfoldable pub faults_at : Tree → ℕ → Way → Span → List Fault
faults_at t zero way x = own_faults t zero way x
faults_at t (suc left) way x =
    own_faults t (suc left) way x
    ++ by_kind (named_kind x.word) []
    (faults_below (faults_at t left) (row_in x.word) 0 (spans_in t.table x) ++ at_row (row_in x.word) (gaps_by (longest_at t.table left) t x (named_kind x.word)))

abbrev pub root_way : Way
root_way = record { from = 0; parent = 1 }

-- the faults of the words, in the order of the walk
unfoldable pub faults_in : Tree → List Fault
faults_in t = if t.root == 0 then [] else faults_at t deepest root_way (root_span t.table t.root)

abbrev pub form_of : Tree → Form
form_of t = record { height = height_in t.table t.root; rows = length (reached_in t.table t.root); ranges = length (map_in t.table t.root) }

-- the first fault, or the form if there is none
abbrev pub first_or : List Fault → Form → Result Form Fault
first_or [] form = Ok form
first_or (fault ∷ faults) form = Err fault

abbrev pub checked : Tree → Result Form Fault
checked t = first_or (faults_in t) (form_of t)
