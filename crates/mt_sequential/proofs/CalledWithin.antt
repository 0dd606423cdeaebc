-- A line makes one call at the most, and each line of a log that can be read is played behind the lines before it.
use Rattle.mt_sequential.proofs.Prelude.{◌≡◌, ℕ, zero, suc, ◌+◌, ◌<◌, List, [], ◌∷◌, ◌++◌, Some, All, length, get_or, take, drop, refl, arith, ap, sym, ◌∙◌, subst, slice_get, AllByRecursion, take_more, All-push, All-set, All-weaker, recursion_from_All, Item, Tree, Lane, Join, Dup, Check, Write, Ask, Scan, Line, IsReadable, NamesBelow, trees_of, line_named, line_placed, line_lane, TreeState, PlayerState, Does, AreBoth, HasHistory, IsDeclaredSo, IsPlayed, IsCalledWithin}
use Rattle.mt_sequential.proofs.PlayedLines.{both_get, line_played}

-- ---- calls

all_at : {X : Type 0} (P : X → Type 0) (xs : List X) (i : ℕ) (x : X) → slice_get xs i ≡ Some x → AllByRecursion P xs → P x
all_at P [] i x at all = absurd (cc)
all_at P (u ∷ xs) zero x at all = let same : u ≡ x = cc in subst P same all.0
all_at P (u ∷ xs) (suc i) x at all = all_at P xs i x at all.1

uncalled : (count : ℕ) (t : TreeState) → t.map.used ≡ 0 → t.calls ≡ 0 → IsCalledWithin count t
uncalled count t unused none = (omega (arith, unused, none), omega (arith, none))

module _ (rows : ℕ) (lines : List Line) (count : ℕ) (old new : PlayerState) (played : IsPlayed rows lines old) (all : All (IsCalledWithin count) old.trees) where
  within_more : All (IsCalledWithin (count + 1)) old.trees
  within_more = All-weaker (IsCalledWithin count) (IsCalledWithin (count + 1)) (λ t within. (within.0, omega (arith, within.1))) old.trees all

  as_they_were : new.trees ≡ old.trees → All (IsCalledWithin (count + 1)) new.trees
  as_they_were same = subst (All (IsCalledWithin (count + 1))) (sym same) within_more

  one_added : (t : TreeState) → new.trees ≡ old.trees ++ t ∷ [] → t.map.used ≡ 0 → t.calls ≡ 0 → All (IsCalledWithin (count + 1)) new.trees
  one_added t is unused none = subst (All (IsCalledWithin (count + 1))) (sym is) (All-push (IsCalledWithin (count + 1)) old.trees t within_more (uncalled (count + 1) t unused none))

  pub one_call_at_most : (number : ℕ) (item : Item) → Does old.rows old new number item → All (IsCalledWithin (count + 1)) new.trees
  one_call_at_most number (Tree name kind) (t, new_tree, is) = one_added t (ap (λ (p : PlayerState). p.trees) is) new_tree.map.unused new_tree.calls
  one_call_at_most number (Lane lane) is = as_they_were (ap (λ (p : PlayerState). p.trees) is)
  one_call_at_most number Join is = as_they_were (ap (λ (p : PlayerState). p.trees) is)
  one_call_at_most number (Dup from name) does =
      let so_far = played.2 in
      let (h, (at, holds)) = both_get HasHistory old.trees played.1 from does.source so_far.held does.from_is in
      let new_tree = does.declared h holds.limits in
      one_added does.copy does.trees new_tree.map.unused new_tree.calls
  one_call_at_most number (Check tree) does = as_they_were does.trees
  one_call_at_most number (Write tree call) does =
      let before = all_at (IsCalledWithin count) old.trees tree does.before does.tree_is (recursion_from_All (IsCalledWithin count) old.trees all) in
      let after : IsCalledWithin (count + 1) does.after = (omega (arith, before.0, does.called.used, does.called.calls), omega (arith, before.1, does.called.calls)) in
      subst (All (IsCalledWithin (count + 1))) (sym does.trees) (All-set (IsCalledWithin (count + 1)) old.trees tree does.after after within_more)
  one_call_at_most number (Ask tree query) does = as_they_were does.trees
  one_call_at_most number (Scan tree index max steps) does = as_they_were does.trees

-- ---- the line behind the lines before it

split_there : {X : Type 0} (xs : List X) (i : ℕ) (x : X) → i < length xs → x ≡ get_or xs i x → xs ≡ take i xs ++ x ∷ drop (suc i) xs
split_there [] i x within is = absurd (omega arith)
split_there (y ∷ xs) zero x within is = ap (λ z. z ∷ xs) (sym is)
split_there (y ∷ xs) (suc i) x within is = ap (λ l. y ∷ l) (split_there xs i x (omega arith) is)

both_long : {X Y : Type 0} (R : X → Y → Type 0) (xs : List X) (ys : List Y) → AreBoth R xs ys → length xs ≡ length ys
both_long R [] [] both = refl
both_long R [] (y ∷ ys) both = absurd both
both_long R (x ∷ xs) [] both = absurd both
both_long R (x ∷ xs) (y ∷ ys) both = ap suc (both_long R xs ys both.1)

module _ (rows : ℕ) (lines : List Line) (i : ℕ) (line : Line) (readable : IsReadable lines) (within : i < length lines) (is : line ≡ get_or lines i line) where
  parted : IsReadable (take i lines ++ line ∷ drop (suc i) lines)
  parted = subst IsReadable (split_there lines i line within is) readable

  pub names_known : (player : PlayerState) → IsPlayed rows (take i lines) player → NamesBelow (length player.trees) line.item
  names_known player (steps, trees, so_far) =
      subst (λ (n : ℕ). NamesBelow n line.item) (sym (both_long IsDeclaredSo player.trees (trees_of (take i lines)) so_far.declared)) (line_named (take i lines) (drop (suc i) lines) line parted)

  pub one_more_played : (old new : PlayerState) → old.rows ≡ rows → Does old.rows old new line.number line.item → IsPlayed rows (take i lines) old → IsPlayed rows (take (i + 1) lines) new
  one_more_played old new same does played =
      subst (λ (ls : List Line). IsPlayed rows ls new) (sym (take_more lines i line within ∙ ap (λ (z : Line). take i lines ++ z ∷ []) (sym is)))
      (line_played rows (take i lines) line.number line.item old new (line_placed (take i lines) (drop (suc i) lines) line parted) (line_lane (take i lines) (line ∷ drop (suc i) lines) parted)
      (subst (λ (n : ℕ). Does n old new line.number line.item) same does) played)
