-- A tree is to be emptied: nothing was done yet, and the paths lead to its first leaf and to its last.
use Rattle.mt_splice.proofs.Prelude.{[], ◌≡◌, ℕ, ◌+◌, ◌≤◌, List, length, refl, sym, ap, ◌∙◌, subst, inl, inr, arith, Kind, Range, Call, Reply, greatest, Book, Root, Tree, IsTree, Stands, Rooted, Sheet, OnlyReads, tree_as, IsTreeOf, map_by, PathStep, path_in, empty_together, Start, MayClear, IsSpliced, start_for, same_tree}
use Rattle.mt_path.proofs.TreePaths as paths
use Rattle.mt_splice.proofs.BetweenCalls.{lawful_tree}
use Rattle.mt_splice.proofs.SpliceBegins.{stands_at_start}

module _ {kind : Kind} {s : Sheet} {book : Book} {number : ℕ} {call : Call} {reply : Reply} (may : MayClear kind s book number call reply) where
  abbrev t : Tree
  t = tree_as kind s.tree

  abbrev start : Start
  start = start_for kind s call 0 (greatest s.tree.table.width)

  pub stands : Stands t start.height
  stands = stands_at_start t may.kept.lawful.words may.some

  -- ---- the paths to its ends

  pub tree_to_clear : (k : Kind) × IsTreeOf s.tree k
  tree_to_clear = (kind, lawful_tree may.kept.lawful)

  pub tree_still : {s' : Sheet} → OnlyReads s s' → (k : Kind) × IsTreeOf s'.tree k
  tree_still {s' = s'} reads = (kind, subst (λ (t : Rooted). IsTreeOf t kind) (sym (same_tree s s' reads)) (lawful_tree may.kept.lawful))

  pub path_still : {s' : Sheet} {path left : List PathStep} → OnlyReads s s' → path ≡ left → left ≡ path_in s.tree.table s.tree.root 0 → (i : ℕ) × (i ≤ greatest s'.tree.table.width) × (path ≡ path_in s'.tree.table s'.tree.root i)
  path_still {s' = s'} reads same is_left = (0, omega arith, same ∙ (is_left ∙ ap (λ (t : Rooted). path_in t.table t.root 0) (sym (same_tree s s' reads))))

  pub left_levels : {left : List PathStep} → left ≡ path_in s.tree.table s.tree.root 0 → length left ≡ start.height + 1
  left_levels is_left = ap length is_left ∙ paths.levels t start.height stands 0 (omega arith)

  -- ---- nothing was done yet

  -- ---- the tree is empty

  pub map_is_empty : {s' : Sheet} {book' : Book} → {first last : ℕ} → IsSpliced kind s s' book book' number call reply Root first last → map_by s'.tree ≡ []
  map_is_empty spliced = spliced.map ∙ ap (λ (a : List Range × Reply). a.0) may.answer

  pub root_is_0 : {s' : Sheet} {book' : Book} → {first last : ℕ} → IsSpliced kind s s' book book' number call reply Root first last → s'.tree.root ≡ 0
  root_is_0 {s' = s'} spliced = by spliced.tree.words
    where
      by : IsTree (tree_as kind s'.tree) → s'.tree.root ≡ 0
      by (inl empty) = empty
      by (inr (h, stands)) =
          let no_path = (empty_together s'.tree kind 0 (path_in s'.tree.table s'.tree.root 0) spliced.tree (omega arith) refl).1 (map_is_empty spliced) in
          let long = paths.levels (tree_as kind s'.tree) h stands 0 (omega arith) in
          let short = ap length no_path in
          absurd (omega arith)
