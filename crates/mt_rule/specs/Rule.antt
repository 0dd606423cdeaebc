-- The rule of a tree's table: it holds between any two steps, whoever makes them.
-- Source: this project's own; the kernel's lib/maple_tree.c lets readers walk nodes that a writer replaces, under RCU. No two
-- handles are compared: each view is compared with what the pen (the writer's capability) knows.
use Rattle.std.specs.Prelude.{◌≡◌, ℕ, ◌+◌, ◌<◌, ◌≤◌, List, false, Some, None, IfSome, length, slice_index}
use Rattle.std.specs.List.{AllByRecursion, Contains}
use mathlib.Core.Option.{some}
use lib.ListN.{get_elem?}
use Rattle.atomic_table.specs.Table.{State}
use Rattle.mt_rule.specs.Prelude.{Holder, Record, IsLegal, Begins, places, holder_of, kind_width, first_row, most_rows, Extent, Held, Known, HoldsRow, one_if, IsTreeOf, LiveAreReached, HasDied, life_of, most_calls, most_passes}
use Rattle.mt_rule.specs.declared.views.TableStart.{TableStart}
use Rattle.mt_rule.specs.declared.views.View.{View}
use Rattle.mt_rule.specs.declared.views.PenPart.{PenPart}
use Rattle.mt_rule.specs.declared.views.PassPart.{PassPart}
use Rattle.mt_rule.specs.declared.views.NotePart.{NotePart}
use Rattle.mt_rule.specs.Places.{commits_at, begun_at, root_at, section_at, first_row_column, table_size, section_word, IsSectionWord, IsUnnamed}
use Rattle.mt_rule.specs.Seats.{moment_at, records_of, rooted_in, shape_told, state_in, tree_of}

-- how many calls have begun
abbrev pub begun_by : PenPart → ℕ
begun_by p = p.ended + one_if p.in_flight

-- ---- what the pen knows

-- What the pen knows is one legal history. Each call is of a handle that was dealt. It is in the history from when it is
-- published, or else from its end. Whoever is named as holding nodes back was found with a section open.
pub record IsOneHistory (p : PenPart) : Type 0 where
  pub dealt : p.dealt ≤ p.shape.passes
  pub callers : AllByRecursion (λ r. r.pass < p.dealt) (records_of p.history)
  pub named : AllByRecursion (λ (r : Record). IfSome (holder_of r.reply) (Contains p.loaded)) (records_of p.history)
  pub loaded : (h : Holder) → Contains p.loaded h → h.pass < p.dealt
  pub count : length p.history ≡ p.ended + one_if p.published
  pub calm : p.in_flight ≡ false → p.published ≡ false
  pub few : begun_by p ≤ most_calls
  pub legal : IsLegal (tree_of p.shape p.history)

-- What the pen knows of nodes, at these extents, is all that is known of them at every moment. The words are a tree for the map
-- after all calls of the history, and its nodes are the live ones.
pub record IsSoundPen (extents : ℕ → Extent) (p : PenPart) : Type 0 where
  pub history : IsOneHistory p
  pub known : Known p.shape.kind (state_in p) extents (moment_at p.shape p.history)
  pub tree : IsTreeOf (rooted_in p) p.shape.kind
  pub live : LiveAreReached (rooted_in p) p.lives
  pub rows : p.shape.rows ≤ most_rows
  pub words : length p.words ≡ table_size (kind_width p.shape.kind) p.shape.rows
  pub lives : length p.lives ≡ first_row + p.shape.rows
  pub buried : length p.buried ≡ first_row + p.shape.rows
  pub dead : (row : ℕ) → HasDied p.ended p.in_flight (life_of p.lives row)
  pub some_pass : 1 ≤ p.shape.passes
  pub few_passes : p.shape.passes ≤ most_passes
  pub passes : length p.cleared ≡ p.shape.passes
  pub cleared : (k : ℕ) → k < p.shape.passes → slice_index p.cleared k ≤ p.ended

-- The words of the table are what the pen knows. A section word is 0 or of an epoch that has been reached, and 0 for a handle
-- that was not dealt. A word after the nodes that has no name is 0.
pub record WordsFit (words : List ℕ) (p : PenPart) : Type 0 where
  pub size : length words ≡ table_size (kind_width p.shape.kind) p.shape.rows
  pub commits : slice_index words commits_at ≡ p.ended
  pub begun : slice_index words begun_at ≡ begun_by p
  pub root : slice_index words root_at ≡ p.root
  pub sections : (k : ℕ) → k < p.shape.passes → IsSectionWord p.ended (slice_index words (section_at k))
  pub undealt : (k : ℕ) → p.dealt ≤ k → k < p.shape.passes → slice_index words (section_at k) ≡ 0
  pub unnamed : (i : ℕ) → i < first_row_column (kind_width p.shape.kind) → IsUnnamed p.shape.passes i → slice_index words i ≡ 0
  pub columns : (i : ℕ) → first_row_column (kind_width p.shape.kind) ≤ i → slice_index words i ≡ slice_index p.words i

-- ---- what a pass (handle) knows

-- The section is open at this epoch, which the handle has opened.
pub record IsOpenAt (q : PassPart) (epoch : ℕ) : Type 0 where
  pub seen : epoch ≤ length q.seen
  pub opened : Contains q.opened epoch

-- The section has loaded the root word, first after `floor` calls. No node that died later counts as out of its reach.
pub record HasFloor (p : PenPart) (q : PassPart) (floor : ℕ) : Type 0 where
  pub seen : floor ≤ length q.seen
  pub cleared : slice_index p.cleared q.number ≤ floor
  pub epoch : IfSome q.standing (λ epoch. epoch ≤ floor)

-- A node that the section holds, by a walk from a root that was loaded no earlier than the first.
pub record IsHeldBy (extents : ℕ → Extent) (p : PenPart) (q : PassPart) (x : Held) : Type 0 where
  pub row : HoldsRow p.shape.kind (state_in p) extents (moment_at p.shape p.history) x
  pub met : x.met ≤ length q.seen
  pub floor : ℕ
  pub has : q.floor ≡ Some floor
  pub since : floor ≤ x.since

-- What a handle knows fits what the pen knows. It has seen a beginning of the history, and its own calls are all that the whole
-- history has of its number. Each epoch at which its section was found open is one at which it opened one. The nodes that its
-- section holds are live, or died after the load of the root from which it reached them.
pub record PassFits (extents : ℕ → Extent) (p : PenPart) (q : PassPart) : Type 0 where
  pub shape : q.shape ≡ p.shape
  pub number : q.number < p.dealt
  pub seen : Begins q.seen p.history
  pub mine : q.mine ≡ places q.number (records_of q.seen)
  pub all : places q.number (records_of p.history) ≡ q.mine
  pub ended : q.ended ≤ length q.seen
  pub over : q.ended ≤ p.ended
  pub begun : q.begun ≤ begun_by p
  pub risen : q.risen ≤ begun_by p
  pub epoch : q.epoch ≤ q.ended
  pub loaded : (h : Holder) → Contains p.loaded h → h.pass ≡ q.number → Contains q.opened h.epoch
  pub standing : (epoch : ℕ) → q.standing ≡ Some epoch → IsOpenAt q epoch
  pub closed : q.standing ≡ None → q.floor ≡ None
  pub floor : (floor : ℕ) → q.floor ≡ Some floor → HasFloor p q floor
  pub held : (j : ℕ) (x : Held) → get_elem? q.held j ≡ some x → IsHeldBy extents p q x

-- What the seat `by` knows fits: the pen's part is at one seat, and that of each handle at one.
pub record ViewFits (pen : ℕ) (owner : ℕ → ℕ) (extents : ℕ → Extent) (p : PenPart) (words : List ℕ) (by : ℕ) (v : View) : Type 0 where
  pub keeper : (part : PenPart) → v.pen ≡ Some part → (by ≡ pen) × (part ≡ p)
  pub at : (q : PassPart) → v.pass ≡ Some q → by ≡ owner q.number
  pub section : (q : PassPart) → v.pass ≡ Some q → slice_index words (section_at q.number) ≡ section_word q.standing
  pub passes : (q : PassPart) → v.pass ≡ Some q → PassFits extents p q
  pub notes : (n : NotePart) → v.note ≡ Some n → Begins n.seen p.history

-- ---- the rule

pub record IsKept (told : TableStart) (s : State (Unit {0}) View) : Type 0 where
  pub pen : ℕ
  pub owner : ℕ → ℕ
  pub extents : ℕ → Extent
  pub part : PenPart
  pub shaped : part.shape ≡ shape_told told
  pub sound : IsSoundPen extents part
  pub words : WordsFit s.words part
  pub each : (by : ℕ) (v : View) → get_elem? s.views by ≡ some v → ViewFits pen owner extents part s.words by v
