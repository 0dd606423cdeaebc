-- What is known of rows tells where each row that is reached stands.
use Rattle.mt_life.proofs.Prelude.{◌≡◌, ◌≢◌, ℕ, zero, suc, ◌≤◌, List, [], ◌∷◌, length, length-append, refl, sym, ap, ◌∙◌, subst, ⊎_elim, arith, ◌*◌, AllByRecursion, Kind, Width, finds_room, kind_width, most_rows, row_in, slots_of, Span, inner_kind, spans_in, expand, level, Levels, Tree, IsRow, IsTree, Stands, tree_as, root_of, all_expand, level_rows, inner_not_named, some_least, few_slots_passed, all_one_of, OnLevel, Extent, Moment, State, spans_at, IsLive, Child, Known}
use Rattle.mt_life.proofs.Alike.{spans_named}

module _ (kind : Kind) (s : State) (e : ℕ → Extent) (m : ℕ → Moment) (known : Known kind s e m) where
  abbrev T : Tree
  T = tree_as kind s.tree

  abbrev pub Fits : ℕ → Span → Type 0
  Fits level x = Child kind s.tree.rows s.lives e IsLive level x

  -- what stands in a live inner row is known
  pub children_known : (level : ℕ) (x : Span) → Fits (suc level) x → AllByRecursion (Fits level) (spans_in s.tree.table x)
  children_known level x fits =
      subst (AllByRecursion (Fits level)) (spans_named kind s.tree.table (suc level) x fits.named)
      (subst (λ (n : Extent). AllByRecursion (Fits level) (spans_at kind s.tree.table (row_in x.word) n)) fits.extent
      (known.live_inner (row_in x.word) level fits.has fits.life (ap (λ (n : Extent). n.level) fits.extent)))

  all_children_known : (level : ℕ) (xs : List Span) → AllByRecursion (Fits (suc level)) xs → AllByRecursion (λ (x : Span). AllByRecursion (Fits level) (spans_in T.table x)) xs
  all_children_known level [] fits = tt
  all_children_known level (x ∷ xs) fits = (children_known level x fits.0, all_children_known level xs fits.1)

  some_children : (h : ℕ) (x : Span) (xs : List Span) → IsRow T h x → 1 ≤ length (expand T.table (x ∷ xs))
  some_children h x xs row = let some = some_least T h x in let least = row.count.least in omega (arith, length-append (spans_in T.table x) (expand T.table xs))

  pub levels_fit : (h level : ℕ) (xs : List Span) → Levels (IsRow T) T.table h xs → AllByRecursion (Fits level) xs → 1 ≤ length xs → (level ≡ h) × Levels Fits T.table h xs
  levels_fit zero zero xs rows fits some = (refl, fits)
  levels_fit zero (suc level) [] rows fits some = absurd (omega arith)
  levels_fit zero (suc level) (x ∷ xs) rows fits some = absurd (inner_not_named (finds_room kind) (sym fits.0.named ∙ rows.0.name.named))
  levels_fit (suc h) level [] rows fits some = absurd (omega arith)
  levels_fit (suc h) zero (x ∷ xs) rows fits some = absurd (inner_not_named (finds_room kind) (sym rows.0.0.name.named ∙ fits.0.named))
  levels_fit (suc h) (suc level) (x ∷ xs) rows fits some =
      let behind = levels_fit h level (expand T.table (x ∷ xs)) rows.1 (all_expand (Fits level) T.table (x ∷ xs) (all_children_known level (x ∷ xs) fits)) (some_children (suc h) x xs rows.0.0) in
      (ap suc behind.0, (subst (λ (k : ℕ). AllByRecursion (Fits k) (x ∷ xs)) (ap suc behind.0) fits, behind.1))

  -- each row that is reached is live, and stands where its extent says
  pub all_fit : (h : ℕ) → Stands T h → s.tree.root ≢ 0 → Levels Fits T.table h (root_of T)
  all_fit h stands some = let root = known.root some in (levels_fit h root.0 (root_of T) stands.rows (root.2, tt) (omega arith)).1

  pub placed : (h : ℕ) → Stands T h → s.tree.root ≢ 0 → (k : ℕ) (x : Span) → OnLevel T.table h (root_of T) k x → Fits k x
  placed h stands some k x on = all_one_of (Fits k) (level T.table on.depth (root_of T)) x (level_rows Fits T.table on.depth k h (root_of T) on.height (all_fit h stands some)) on.one

  -- the inner rows on a way from the root have few slots together
  pub few_slots_below : IsTree T → s.tree.rows ≤ most_rows → s.tree.root ≢ 0 → slots_of (kind_width kind) (inner_kind kind) * (e (row_in s.tree.root)).level ≤ 128
  few_slots_below tree named some = ⊎_elim
      (λ (empty : s.tree.root ≡ 0). absurd (some empty))
      (λ (at : (h : ℕ) × Stands T h).
      let root = known.root some in
      let level : (e (row_in s.tree.root)).level ≡ at.0 = ap (λ (n : Extent). n.level) root.2.extent ∙ (levels_fit at.0 root.0 (root_of T) at.1.rows (root.2, tt) (omega arith)).0 in
      subst (λ (w : Width). slots_of w (inner_kind kind) * (e (row_in s.tree.root)).level ≤ 128) known.width
      (subst (λ (h : ℕ). slots_of s.tree.table.width (inner_kind kind) * h ≤ 128) (sym level) (few_slots_passed T at.0 named at.1.rows)))
      tree
