-- Before the first call all is known of the rows of lawful words.
use Rattle.mt_life.proofs.Prelude.{◌≡◌, ◌≢◌, ℕ, zero, suc, ◌+◌, ◌<◌, ◌≤◌, List, [], ◌∷◌, length, false, sym, ap, ◌∙◌, subst, inl, inr, ⊎_elim, arith, Kind, IsMap, row_in, dead_mark, parent_at, Span, few_slots_of, Live, Dead, Table, column, spans_in, level, Levels, Tree, IsTree, IsLawful, Stands, IsTended, ParentsFrom, kind_on, Rooted, life_of, is_buried, tree_as, is_reached, IsReached, IsLawfulOf, LiveAreReached, NoneBuried, root_of, row_most, level_next, level_rows, IsOneOf, all_one_of, expand_one_of, OnLevel, on_level_law, reached_times, reached_on_level, one_place, Extent, Moment, moment_of, State, HasRow, calls, Known, HasExtentsOf}
use Rattle.mt_life.proofs.Reaching.{PlaceOf, place_of, root_reached, map_here, shape_reached, leaf_reached, inner_reached}
use Rattle.mt_life.proofs.Staying.{true_false, none_reached}
use Rattle.mt_life.proofs.Turning.{later_cases}

-- ---- no row of lawful words carries its dead mark

parents_at : (t : Table) (row slot : ℕ) (xs : List Span) (x : Span) → ParentsFrom t row slot xs → IsOneOf x xs → (i : ℕ) × (slot ≤ i) × (i < slot + length xs) × (column t (row_in x.word) 0 ≡ parent_at row i)
parents_at t row slot [] x parents one = absurd one
parents_at t row slot (y ∷ xs) x parents (inl same) = (slot, omega arith, omega arith, ap (λ (z : Span). column t (row_in z.word) 0) same ∙ parents.0)
parents_at t row slot (y ∷ xs) x parents (inr one) = let behind = parents_at t row (slot + 1) xs x parents.1 one in let low = behind.1 in let high = behind.2 in (behind.0, omega arith, omega arith, behind.3)

module _ (t : Tree) (h : ℕ) (stands : Stands t h) (root : column t.table (row_in t.root) 0 ≡ 1) (tended : Levels (IsTended t) t.table h (root_of t)) where
  unmarked_at : (d k : ℕ) (x : Span) → h ≡ d + k → IsOneOf x (level t.table d (root_of t)) → column t.table (row_in x.word) 0 ≢ dead_mark (row_in x.word)
  unmarked_at zero k x height (inl same) = λ marked.
      let one : column t.table (row_in x.word) 0 ≡ 1 = ap (λ (y : Span). column t.table (row_in y.word) 0) same ∙ root in absurd (omega arith)
  unmarked_at zero k x height (inr none) = absurd none
  unmarked_at (suc d) k x height one = λ marked.
      let above = expand_one_of t.table (level t.table d (root_of t)) x (subst (IsOneOf x) (level_next t.table d (root_of t)) one) in
      let on_above : OnLevel t.table h (root_of t) (suc k) above.0 = record { depth = d; height = omega arith; one = above.1 } in
      let on_here : OnLevel t.table h (root_of t) k x = record { depth = suc d; height = height; one = one } in
      let law = on_level_law t h stands (suc k) above.0 on_above in
      let parents = all_one_of (IsTended t (suc k)) (level t.table d (root_of t)) above.0 (level_rows (IsTended t) t.table d (suc k) h (root_of t) (omega arith) tended) above.1 in
      let place = parents_at t.table (row_in above.0.word) 0 (spans_in t.table above.0) x parents.parent above.2 in
      let most = row_most law.name in let few = few_slots_of t.table.width (kind_on t.gapped (suc k)) in let high = place.2 in let is = place.3 in
      let same : row_in x.word ≡ row_in above.0.word = omega arith in
      let level = (one_place t h stands k (suc k) x above.0 on_here on_above same).0 in
      absurd (omega arith)

lawful_unmarked : (kind : Kind) (t : Rooted) (row : ℕ) → IsLawful (tree_as kind t) → IsReached t row → column t.table row 0 ≢ dead_mark row
lawful_unmarked kind t row (inl empty) reached = absurd (true_false (is_reached t row) reached (none_reached t row empty))
lawful_unmarked kind t row (inr tree) reached =
    let at = reached_on_level (tree_as kind t) tree.0 tree.1 row (reached_times (tree_as kind t) tree.0 tree.1 row reached) in
    subst (λ (r : ℕ). column t.table r 0 ≢ dead_mark r) at.3 (unmarked_at (tree_as kind t) tree.0 tree.1 tree.2 tree.3 at.2.depth at.0 at.1 at.2.height at.2.one)

lawful_tree : (t : Tree) → IsLawful t → IsTree t
lawful_tree t (inl empty) = inl empty
lawful_tree t (inr tree) = inr (tree.0, tree.1)

-- ---- what is known before the first call

pub starts : (kind : Kind) (s : State) (before e : ℕ → Extent) (m : ℕ → Moment) → IsLawfulOf s.tree kind → LiveAreReached s.tree s.lives → NoneBuried s.tree.rows s.buried
    → ((row d : ℕ) → HasRow s.tree.rows row → life_of s.lives row ≢ Dead d) → s.ended ≡ 0 → s.published ≡ false → HasExtentsOf s.tree before e → m 0 ≡ moment_of s.tree → Known kind s e m
starts kind s before e m lawful live none_buried none_dead first calm follows now = record {
  width = lawful.width;
  calm = λ _. calm;
  current = ap (λ (k : Moment). k.ranges) now_is;
  maps = λ k le. let is = none_yet in let same : k ≡ 0 = omega arith in
      subst (λ (n : ℕ). IsMap kind (m n).ranges) (sym same) (subst (λ (k : Moment). IsMap kind k.ranges) (sym now) (map_here kind s.tree lawful.width tree));
  root = root_reached kind s.tree s.lives e tree lives follows.reached;
  shape = λ row has later. shape_reached kind s.tree s.lives e tree lives follows.reached row
      (place row has (⊎_elim (λ (is : life_of s.lives row ≡ Live). is) (λ (dead : (d : ℕ) × (life_of s.lives row ≡ Dead d) × (0 ≤ d)). absurd (none_dead row dead.0 has dead.1)) (later_cases 0 (life_of s.lives row) later)));
  dead = λ row d has dead. absurd (none_dead row d has dead);
  marks = λ row d has dead _. absurd (none_dead row d has dead);
  buried = λ row has is. absurd (true_false (is_buried s.buried row) is (none_buried row has.0 has.1));
  unmarked = λ row has is _. lawful_unmarked kind s.tree row lawful.words ((live row has.0 has.1).0 is);
  live_leaf = λ row has is leaf. leaf_reached kind s.tree s.lives e tree lives follows.reached row (m (calls s)) now_is (place row has is) leaf;
  dead_leaf = λ row d has dead _. absurd (none_dead row d has dead);
  live_inner = λ row level has is inner. inner_reached kind s.tree s.lives e tree lives follows.reached row level (place row has is) inner;
  dead_inner = λ row level d has dead _ _. absurd (none_dead row d has dead);
}
  where
    tree : IsTree (tree_as kind s.tree)
    tree = lawful_tree (tree_as kind s.tree) lawful.words

    lives : (row : ℕ) → HasRow s.tree.rows row → IsReached s.tree row → life_of s.lives row ≡ Live
    lives row has is = (live row has.0 has.1).1 is

    place : (row : ℕ) → HasRow s.tree.rows row → life_of s.lives row ≡ Live → PlaceOf kind s.tree s.lives e tree lives follows.reached row
    place row has is = place_of kind s.tree s.lives e tree lives follows.reached row ((live row has.0 has.1).0 is)

    none_yet : calls s ≡ 0
    none_yet = rw calm (omega arith)

    now_is : m (calls s) ≡ moment_of s.tree
    now_is = ap m none_yet ∙ now
