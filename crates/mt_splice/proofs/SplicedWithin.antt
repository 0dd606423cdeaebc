-- What a replacement says of the indexes of the leaves that it replaces, it says of those that the store changes.
use Rattle.mt_splice.proofs.Prelude.{◌≡◌, ℕ, ◌-◌, ◌≤◌, List, Bool, true, length, ap, ◌∙◌, subst, inl, inr, arith, Kind, Call, Reply, greatest, Book, row_in, Place, KeepsGaps, HasGapsBut, Tree, IsLawful, Stands, top_of, tree_as, IsLawfulOf, root_of, Rooted, Sheet, levels_map, PathStep, last_step, path_in, step_at, MayReplace, IsSpliced, is_unreached}
use Rattle.mt_path.proofs.TreePaths as paths
use Rattle.mt_splice.proofs.BetweenCalls.{spliced_as}
use Rattle.mt_splice.proofs.SlotGaps.{weaker}
use Rattle.mt_splice.proofs.SpliceBegins.{no_path}

-- the leaf at the end of the path to an index covers it
leaf_covers : (t : Tree) (h : ℕ) → Stands t h → (i : ℕ) → i ≤ top_of t → ((last_step (path_in t.table t.root i)).min ≤ i) × (i ≤ (last_step (path_in t.table t.root i)).max)
leaf_covers t h stands i within =
    let long = paths.levels t h stands i within in
    let deep : length (path_in t.table t.root i) - 1 ≡ h = omega arith in
    let step = ap (step_at (path_in t.table t.root i)) deep ∙ paths.step t h stands i h within (omega arith) in
    let at = paths.place t h stands i h within (omega arith) in
    let min = ap (λ (z : PathStep). z.min) step in let max = ap (λ (z : PathStep). z.max) step in
    let from = at.from in let to = at.to in
    (omega arith, omega arith)

-- ---- of the empty tree

all_new : (t : Rooted) (row : ℕ) → t.root ≡ 0 → is_unreached t row ≡ true
all_new t row empty = ap (λ (root : ℕ). is_unreached (record t { root = root }) row) empty

-- where all rows are new, the law holds in every slot
new_everywhere : (is_new : ℕ → Bool) (index other : ℕ) (t : Tree) → ((row : ℕ) → is_new row ≡ true) → HasGapsBut is_new index t → HasGapsBut is_new other t
new_everywhere is_new index other t all (inl empty) = inl empty
new_everywhere is_new index other t all (inr (h, stands, rows)) = inr (
  h,
  stands,
  levels_map (KeepsGaps is_new index t) (KeepsGaps is_new other t) t.table (λ k x keeps. (let law = keeps.new (all (row_in x.word)) in record { beside = weaker other t k x law; new = λ _. law })) h (root_of t) rows,
)

-- ---- narrower

pub spliced_within : {kind : Kind} {s s' : Sheet} {book book' : Book} {number : ℕ} {call : Call} {reply : Reply} {place : Place} {left right : List PathStep} {first last : ℕ} → IsLawfulOf s.tree kind → first ≤ last → last ≤ greatest s.tree.table.width
    → left ≡ path_in s.tree.table s.tree.root first → right ≡ path_in s.tree.table s.tree.root last → IsSpliced kind s s' book book' number call reply place (last_step left).min (last_step right).max
    → IsSpliced kind s s' book book' number call reply place first last
spliced_within {kind} {s} {s'} {book} {book'} {number} {call} {reply} {place} {left} {right} {first} {last} lawful order within is_left is_right spliced = spliced_as s.reads spliced spliced.published (λ index from to. gaps lawful.words index from to)
  where
    gaps : IsLawful (tree_as kind s.tree) → (index : ℕ) → first ≤ index → index ≤ last → HasGapsBut (is_unreached s.tree) index (tree_as kind s'.tree)
    gaps (inl empty) index from to =
        let first_min = ap (λ (path : List PathStep). (last_step path).min) (is_left ∙ no_path s.tree.table s.tree.root first empty) in
        new_everywhere (is_unreached s.tree) 0 index (tree_as kind s'.tree) (λ row. all_new s.tree row empty) (spliced.gaps 0 (omega arith) (omega arith))
    gaps (inr (h, stands, parent, tended)) index from to =
        let first_leaf = leaf_covers (tree_as kind s.tree) h stands first (omega arith) in
        let last_leaf = leaf_covers (tree_as kind s.tree) h stands last within in
        let min = ap (λ (path : List PathStep). (last_step path).min) is_left in
        let max = ap (λ (path : List PathStep). (last_step path).max) is_right in
        spliced.gaps index (omega (arith, first_leaf.0)) (omega (arith, last_leaf.1))

-- a store by the leaves at its ends
pub range_replaced : {kind : Kind} {s s' : Sheet} {book book' : Book} {left left' right : List PathStep} {first last entry number : ℕ} {call : Call} {reply : Reply} {place : Place} → MayReplace kind s book left first last entry number call reply → left' ≡ left
    → right ≡ path_in s.tree.table s.tree.root last → IsSpliced kind s s' book book' number call reply place (last_step left').min (last_step right).max → IsSpliced kind s s' book book' number call reply place first last
range_replaced may is_left is_right spliced = spliced_within may.kept.lawful may.store.order may.store.within (is_left ∙ may.left_path) is_right spliced

-- by copies of the paths
pub spliced_by : {kind : Kind} {s s' : Sheet} {book book' : Book} {left left' right right' : List PathStep} {number : ℕ} {call : Call} {reply : Reply} {place : Place} → left' ≡ left → right' ≡ right
    → IsSpliced kind s s' book book' number call reply place (last_step left').min (last_step right').max → IsSpliced kind s s' book book' number call reply place (last_step left).min (last_step right).max
spliced_by {kind} {s} {s'} {book} {book'} {left} {left'} {right} {right'} {number} {call} {reply} {place} is_left is_right spliced =
    subst (λ (x : List PathStep × List PathStep). IsSpliced kind s s' book book' number call reply place (last_step x.0).min (last_step x.1).max) (λ i. (is_left i, is_right i)) spliced
