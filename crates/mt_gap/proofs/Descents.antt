-- A search from level to level: what it asks keeps the answer, and at most two rows of a level are asked.
use Rattle.mt_gap.proofs.Prelude.{◌≡◌, ◌≢◌, ℕ, zero, suc, ◌+◌, ◌-◌, ◌*◌, ◌<◌, ◌≤◌, Bool, true, All, List, [], ◌∷◌, Option, length, take, refl, sym, ap, ◌∙◌, subst, inl, inr, arith, AllByRecursion, flat_map, cases_Bool, All-nil, All-cons, Hole, low_to, high_to, lowest_in, highest_in, holes_to, holes_from, columns, deepest, greatest, Span, Names-named_kind, some_columns, Table, root_span, map_of, Levels, Tree, IsRow, IsTended, IsLawful, Stands, tree_on, map_by, Rooted, Sheet, ReadsUpTo, loaded, map_in, height_in, ranges_by_depth, height_by_depth, inner_not_named, levels_join, levels_front, levels_back, levels_here, levels_none, rows_filled, tree_kept, no_reads, one_read, reads_more, reads_up, Child, Window, leaf_hole, child_hole, children_below, root_child, IsGapped, MayLoad, picked, place_in, LoadedUpTo, Visited, Arrives, AreLeaves, may_have, inside, narrow, narrow_up, Side, HasRoomFor, asked_for, pick_for}
use Rattle.mt_gap.proofs.HolesBelow.{holes_below, holes_are, one_hole}
use Rattle.mt_gap.proofs.ChildLists.{spans, spans_below, gaps_below, holes_of_children}
use Rattle.mt_gap.proofs.Narrowed.{Rising, narrow_keeps, narrow_two, rising_narrow, rising_expand}
use Rattle.mt_gap.proofs.NarrowedUp.{levels_up, rising_up, up_two, up_keeps}
use Rattle.mt_gap.specs.declared.ways.Side.TheVariants as sides

-- The rows that are asked so many levels below the root, and the answer that is found below them.
pub record Asks (t : Tree) (pick : List Hole → Option ℕ) (w : Window) (answer : Option ℕ) (level : ℕ) (asked : List Child) : Type 0 where
  pub left : ℕ
  pub height : level + left + 1 ≡ height_in t.table t.root
  pub low : level + left < deepest
  pub rows : Levels (IsRow t) t.table left (spans asked)
  pub tended : Levels (IsTended t) t.table left (spans asked)
  pub rising : Rising 0 (spans asked)
  pub few : length asked ≤ 2
  pub found : picked pick w (holes_below t.table left (spans asked)) ≡ answer

-- ---- rows of the table

pub row_may_load : (gapped : Bool) (t : Rooted) (h : ℕ) (x : Span) → IsRow (tree_on gapped t) h x → MayLoad t x
row_may_load gapped t h x row = λ k named. record { first = (Names-named_kind x.word k named).0.0; last = row.name.in_table; column = some_columns t.table.width }

rows_may_load : (gapped : Bool) (t : Rooted) (h : ℕ) (xs : List Child) → AllByRecursion (IsRow (tree_on gapped t) h) (spans xs) → All (λ (x : Child). MayLoad t x.span) xs
rows_may_load gapped t h [] rows = All-nil (λ (x : Child). MayLoad t x.span)
rows_may_load gapped t h (x ∷ xs) rows = All-cons (λ (y : Child). MayLoad t y.span) x xs (row_may_load gapped t h x.span rows.0) (rows_may_load gapped t h xs rows.1)

-- ---- one level lower

levels_narrow : (P : ℕ → Span → Type 0) (t : Table) (n lo hi h : ℕ) (xs : List Child) → Levels P t h (spans xs) → Levels P t h (spans (narrow n lo hi xs))
levels_narrow P t n lo hi h [] rows = rows
levels_narrow P t n lo hi h (x ∷ xs) rows =
    let here = levels_front P t h (x.span ∷ []) (spans xs) rows in
    let behind = levels_narrow P t n lo hi h xs (levels_back P t h (x.span ∷ []) (spans xs) rows) in
    elim (cases_Bool (may_have n lo hi x)) [
      | inl may ↦ rw may (elim (cases_Bool (inside lo hi x)) [ inl in_it ↦ rw in_it here | inr over ↦ rw over (levels_join P t h (x.span ∷ []) (spans (narrow n lo hi xs)) here behind) ])
      | inr not ↦ rw not behind
    ]

-- rows that are no leaves stand above others
inner_rows : (t : Tree) (left : ℕ) (xs : List Child) → AllByRecursion (IsRow t left) (spans xs) → (AreLeaves xs → ⊥) → ((k : ℕ) × (left ≡ suc k))
inner_rows t zero [] rows not = absurd (not tt)
inner_rows t zero (x ∷ xs) rows not = absurd (not rows.0.name.named)
inner_rows t (suc k) xs rows not = (k, refl)

record IsInner (t : Tree) (pick : List Hole → Option ℕ) (w : Window) (answer : Option ℕ) (level : ℕ) (xs : List Child) : Type 0 where
  pub k : ℕ
  pub rows : Levels (IsRow t) t.table (suc k) (spans xs)
  pub tended : Levels (IsTended t) t.table (suc k) (spans xs)
  pub height : level + suc k + 1 ≡ height_in t.table t.root
  pub low : level + suc k < deepest
  pub found : picked pick w (holes_below t.table (suc k) (spans xs)) ≡ answer

module _ (t : Tree) (w : Window) (gapped : t.gapped ≡ true) (some : 1 ≤ w.size) (xs : List Child) where
  abbrev children : List Child
  children = children_below t.table xs

  module _ (k : ℕ) (rows : Levels (IsRow t) t.table (suc k) (spans xs)) (tended : Levels (IsTended t) t.table (suc k) (spans xs)) (rising : Rising 0 (spans xs)) where
    rows_there : Levels (IsRow t) t.table k (spans children)
    rows_there = subst (Levels (IsRow t) t.table k) (sym (spans_below t.table xs)) rows.1

    tended_there : Levels (IsTended t) t.table k (spans children)
    tended_there = subst (Levels (IsTended t) t.table k) (sym (spans_below t.table xs)) tended.1

    rising_there : Rising 0 (spans children)
    rising_there = subst (Rising 0) (sym (spans_below t.table xs)) (rising_expand t.table 0 (spans xs) (rows_filled t (suc k) (spans xs) rows.0) rising)

    low_there : picked lowest_in w (holes_below t.table k (spans (narrow w.size w.lo w.hi children))) ≡ picked lowest_in w (holes_below t.table (suc k) (spans xs))
    low_there = narrow_keeps t w.size w.lo w.hi some k 0 children rows_there rising_there (gaps_below t k xs gapped rows.0 tended.0)
        ∙ ap (λ (l : List Span). picked lowest_in w (holes_below t.table k l)) (spans_below t.table xs)

    high_there : picked (highest_in w.size) w (holes_below t.table k (spans (narrow_up w.size w.lo w.hi [] children))) ≡ picked (highest_in w.size) w (holes_below t.table (suc k) (spans xs))
    high_there = up_keeps t w.size w.lo w.hi some k 0 [] children rows_there rising_there (gaps_below t k xs gapped rows.0 tended.0)
        ∙ ap (λ (l : List Span). picked (highest_in w.size) w (holes_below t.table k l)) (spans_below t.table xs)

  module _ (answer : Option ℕ) (level : ℕ) where
    inner : (pick : List Hole → Option ℕ) → Asks t pick w answer level xs → (AreLeaves xs → ⊥) → IsInner t pick w answer level xs
    inner pick asks not =
        let is = inner_rows t asks.left xs (levels_here (IsRow t) t.table asks.left (spans xs) asks.rows) not in
        record {
          k = is.0;
          rows = subst (λ (h : ℕ). Levels (IsRow t) t.table h (spans xs)) is.1 asks.rows;
          tended = subst (λ (h : ℕ). Levels (IsTended t) t.table h (spans xs)) is.1 asks.tended;
          height = subst (λ (h : ℕ). level + h + 1 ≡ height_in t.table t.root) is.1 asks.height;
          low = subst (λ (h : ℕ). level + h < deepest) is.1 asks.low;
          found = subst (λ (h : ℕ). picked pick w (holes_below t.table h (spans xs)) ≡ answer) is.1 asks.found;
        }

    low_next : Asks t lowest_in w answer level xs → (AreLeaves xs → ⊥) → Asks t lowest_in w answer (level + 1) (narrow w.size w.lo w.hi children)
    low_next asks not =
        let is = inner lowest_in asks not in
        let height = is.height in let low = is.low in
        record {
          left = is.k;
          height = omega arith;
          low = omega arith;
          rows = levels_narrow (IsRow t) t.table w.size w.lo w.hi is.k children (rows_there is.k is.rows is.tended asks.rising);
          tended = levels_narrow (IsTended t) t.table w.size w.lo w.hi is.k children (tended_there is.k is.rows is.tended asks.rising);
          rising = rising_narrow w.size w.lo w.hi 0 children (rising_there is.k is.rows is.tended asks.rising);
          few = narrow_two w.size w.lo w.hi 0 children (rising_there is.k is.rows is.tended asks.rising);
          found = low_there is.k is.rows is.tended asks.rising ∙ is.found;
        }

    high_next : Asks t (highest_in w.size) w answer level xs → (AreLeaves xs → ⊥) → Asks t (highest_in w.size) w answer (level + 1) (narrow_up w.size w.lo w.hi [] children)
    high_next asks not =
        let is = inner (highest_in w.size) asks not in
        let height = is.height in let low = is.low in
        record {
          left = is.k;
          height = omega arith;
          low = omega arith;
          rows = levels_up w.size w.lo w.hi (IsRow t) t.table is.k [] children (levels_none (IsRow t) t.table is.k) (rows_there is.k is.rows is.tended asks.rising);
          tended = levels_up w.size w.lo w.hi (IsTended t) t.table is.k [] children (levels_none (IsTended t) t.table is.k) (tended_there is.k is.rows is.tended asks.rising);
          rising = rising_up w.size w.lo w.hi 0 [] children (rising_there is.k is.rows is.tended asks.rising);
          few = up_two w.size w.lo w.hi 0 children (rising_there is.k is.rows is.tended asks.rising);
          found = high_there is.k is.rows is.tended asks.rising ∙ is.found;
        }

    low_few : (pick : List Hole → Option ℕ) → Asks t pick w answer level xs → (AreLeaves xs → ⊥) → length (narrow w.size w.lo w.hi children) ≤ 3
    low_few pick asks not =
        let is = inner pick asks not in
        let few = narrow_two w.size w.lo w.hi 0 children (rising_there is.k is.rows is.tended asks.rising) in omega arith

    high_few : (pick : List Hole → Option ℕ) → Asks t pick w answer level xs → (AreLeaves xs → ⊥) → (k : ℕ) → length (narrow_up w.size w.lo w.hi [] (take k children)) ≤ 3
    high_few pick asks not k =
        let is = inner pick asks not in
        let few = up_two w.size w.lo w.hi 0 (take k children) (rising_take 0 children k (rising_there is.k is.rows is.tended asks.rising)) in omega arith
      where
        rising_take : (a : ℕ) (ys : List Child) (k : ℕ) → Rising a (spans ys) → Rising a (spans (take k ys))
        rising_take a [] zero rising = tt
        rising_take a [] (suc k) rising = tt
        rising_take a (y ∷ ys) zero rising = tt
        rising_take a (y ∷ ys) (suc k) rising = (rising.0, rising.1, rising_take (y.span.last + 1) ys k rising.2)

-- for the lowest place and for the highest
pub next_for : (side : Side) (t : Tree) (w : Window) → t.gapped ≡ true → 1 ≤ w.size → (xs : List Child) (answer : Option ℕ) (level : ℕ) → Asks t (pick_for side w) w answer level xs → (AreLeaves xs → ⊥) → Asks t (pick_for side w) w answer (level + 1) (asked_for side w (children_below t.table xs))
next_for sides.Low t w gapped some xs answer level asks not = low_next t w gapped some xs answer level asks not
next_for sides.High t w gapped some xs answer level asks not = high_next t w gapped some xs answer level asks not

few_for : (side : Side) (t : Tree) (w : Window) → t.gapped ≡ true → 1 ≤ w.size → (xs : List Child) (answer : Option ℕ) (level : ℕ) → Asks t (pick_for side w) w answer level xs → (AreLeaves xs → ⊥) → HasRoomFor side w [] (children_below t.table xs)
few_for sides.Low t w gapped some xs answer level asks not = let few = low_few t w gapped some xs answer level lowest_in asks not in omega arith
few_for sides.High t w gapped some xs answer level asks not = high_few t w gapped some xs answer level (highest_in w.size) asks not

-- ---- at the root

-- all laws of a tree with gaps
pub gapped_words : (t : Rooted) → IsGapped t → IsLawful (tree_on true t)
gapped_words t tree = subst (λ (b : Bool). IsLawful (tree_on b t)) tree.room tree.lawful.words

module _ (s : Rooted) (tree : IsGapped s) (root : s.root ≢ 0) (w : Window) (pick : List Hole → Option ℕ) where
  abbrev whole : Tree
  whole = tree_on true s

  begins : (h : ℕ) → Stands whole h → Levels (IsTended whole) s.table h (root_span s.table s.root ∷ []) → Asks whole pick w (picked pick w (holes_to (greatest s.table.width) (map_by s))) 0 (root_child s.table s.root ∷ [])
  begins h stands tended = record {
    left = h;
    height = (let tall = height_by_depth whole deepest h (root_span s.table s.root) stands.low stands.rows in omega arith);
    low = (let low = stands.low in omega arith);
    rows = stands.rows;
    tended = tended;
    rising = (omega arith, omega arith, tt);
    few = omega arith;
    found = ap (picked pick w) (sym (holes_are whole h 0 (root_span s.table s.root ∷ []) stands.rows (refl, omega arith, refl)) ∙ ap (holes_from 0 (greatest s.table.width + 1)) by_levels);
  }
    where
      by_levels : map_of s.table h (root_span s.table s.root ∷ []) ≡ map_in s.table s.root
      by_levels = sym (ranges_by_depth whole deepest h (root_span s.table s.root) stands.low stands.rows)

  pub asks_root : Asks whole pick w (picked pick w (holes_to (greatest s.table.width) (map_by s))) 0 (root_child s.table s.root ∷ [])
  asks_root = elim (gapped_words s tree) [ inl empty ↦ absurd (root empty) | inr full ↦ begins full.0 full.1 full.3 ]

-- ---- at the leaves

-- where nothing is asked nothing is found on any level
no_holes : (t : Table) (left : ℕ) → holes_below t left [] ≡ []
no_holes t zero = refl
no_holes t (suc left) = no_holes t left

pub leaves_have : (t : Tree) (pick : List Hole → Option ℕ) (w : Window) (answer : Option ℕ) (left : ℕ) (xs : List Child) → AreLeaves xs → Levels (IsRow t) t.table left (spans xs)
    → picked pick w (holes_below t.table left (spans xs)) ≡ answer → picked pick w (flat_map child_hole (children_below t.table xs)) ≡ answer
leaves_have t pick w answer left [] leaves rows found = ap (picked pick w) (sym (no_holes t.table left)) ∙ found
leaves_have t pick w answer zero (x ∷ xs) leaves rows found =
    ap (picked pick w) (holes_of_children (children_below t.table (x ∷ xs)) ∙ ap (flat_map leaf_hole) (spans_below t.table (x ∷ xs))) ∙ found
leaves_have t pick w answer (suc left) (x ∷ xs) leaves rows found = absurd (inner_not_named t.gapped (sym rows.0.0.name.named ∙ leaves))

-- ---- the whole way

-- the rows that a search has come to
pub record HasCome (s s' : Sheet) (pick : List Hole → Option ℕ) (w : Window) (answer : Option ℕ) (old new level : ℕ) (asked : List Child) : Type 0 where
  pub asks : Asks (tree_on true s.tree) pick w answer level asked
  pub visited : Visited s s' old new level asked

module _ (s s' : Sheet) (pick : List Hole → Option ℕ) (w : Window) (answer : Option ℕ) (old new level : ℕ) (asked : List Child) (come : HasCome s s' pick w answer old new level asked) where
  pub same_there : s'.tree ≡ s.tree
  same_there = tree_kept (columns s.tree.table.width * come.visited.count) s s' come.visited.reads

  pub all_may_load : All (λ (x : Child). MayLoad s'.tree x.span) asked
  all_may_load = subst (λ (t : Rooted). All (λ (x : Child). MayLoad t x.span) asked) (sym same_there)
      (rows_may_load true s.tree come.asks.left asked (levels_here (IsRow (tree_on true s.tree)) s.tree.table come.asks.left (spans asked) come.asks.rows))

  pub not_so_deep : level < deepest
  not_so_deep = let low = come.asks.low in omega arith

  pub arrives : AreLeaves asked → Arrives s s' pick w answer old new asked
  arrives leaves = record {
    rows = rows_may_load true s.tree come.asks.left asked (levels_here (IsRow (tree_on true s.tree)) s.tree.table come.asks.left (spans asked) come.asks.rows);
    found = leaves_have (tree_on true s.tree) pick w answer come.asks.left asked leaves come.asks.rows come.asks.found;
    level = level;
    height = (let height = come.asks.height in omega arith);
    visited = come.visited;
  }

  visited_next : (s'' : Sheet) (newer : ℕ) (next : List Child) → LoadedUpTo (length asked) s' s'' new newer → length next ≤ 2 → Visited s s'' old newer (level + 1) next
  visited_next s'' newer next more few =
      let before = come.visited.few in
      let taken = come.visited.steps in
      let low = more.few in
      let steps = more.steps in
      record {
        count = come.visited.count + more.count;
        few = omega arith;
        steps = omega arith;
        reads = reads_up (columns s.tree.table.width * come.visited.count + columns s.tree.table.width * more.count) (columns s.tree.table.width * (come.visited.count + more.count)) s s''
            (sums (columns s.tree.table.width) come.visited.count more.count)
            (reads_more (columns s.tree.table.width * come.visited.count) (columns s.tree.table.width * more.count) s s' s'' come.visited.reads
            (subst (λ (t : Rooted). ReadsUpTo (columns t.table.width * more.count) s' s'') same_there more.reads));
      }
    where
      sums : (a b c : ℕ) → a * b + a * c ≤ a * (b + c)
      sums a b c = grind arith

pub level_come : (side : Side) (s s' s'' : Sheet) (w : Window) (answer : Option ℕ) (old new newer level : ℕ) (asked next : List Child) → 1 ≤ w.size → HasCome s s' (pick_for side w) w answer old new level asked → (AreLeaves asked → ⊥)
    → next ≡ asked_for side w (children_below s'.tree.table asked) → LoadedUpTo (length asked) s' s'' new newer
    → HasCome s s'' (pick_for side w) w answer old newer (level + 1) next
level_come side s s' s'' w answer old new newer level asked next some come not is more =
    let there = is ∙ ap (λ (t : Rooted). asked_for side w (children_below t.table asked)) (same_there s s' (pick_for side w) w answer old new level asked come) in
    let asks = subst (Asks (tree_on true s.tree) (pick_for side w) w answer (level + 1)) (sym there) (next_for side (tree_on true s.tree) w refl some asked answer level come.asks not) in
    record { asks = asks; visited = visited_next s s' (pick_for side w) w answer old new level asked come s'' newer next more asks.few }

pub level_few : (side : Side) (s s' : Sheet) (w : Window) (answer : Option ℕ) (old new level : ℕ) (asked : List Child) → 1 ≤ w.size → HasCome s s' (pick_for side w) w answer old new level asked → (AreLeaves asked → ⊥)
    → HasRoomFor side w [] (children_below s'.tree.table asked)
level_few side s s' w answer old new level asked some come not =
    subst (λ (t : Rooted). HasRoomFor side w [] (children_below t.table asked)) (sym (same_there s s' (pick_for side w) w answer old new level asked come))
    (few_for side (tree_on true s.tree) w refl some asked answer level come.asks not)

pub come_root : (s : Sheet) (w : Window) (pick : List Hole → Option ℕ) (steps : ℕ) (asked : List Child) → IsGapped s.tree → s.tree.root ≢ 0 → asked ≡ root_child s.tree.table s.tree.root ∷ []
    → HasCome s s pick w (place_in pick w s.tree) steps steps 0 asked
unfolding place_in
come_root s w pick steps asked tree root is =
    subst (HasCome s s pick w (picked pick w (holes_to (greatest s.tree.table.width) (map_by s.tree))) steps steps 0) (sym is) (record {
      asks = asks_root s.tree tree root w pick;
      visited = record { count = 0; few = omega arith; steps = omega arith; reads = reads_up 0 (columns s.tree.table.width * 0) s s (omega arith) (no_reads s) };
    })

-- ---- the search

pub low_in_tree : (w : Window) (t : Rooted) → place_in lowest_in w t ≡ low_to (greatest t.table.width) (map_by t) w.size w.lo w.hi
unfolding place_in
low_in_tree w t = refl

pub high_in_tree : (w : Window) (t : Rooted) → place_in (highest_in w.size) w t ≡ high_to (greatest t.table.width) (map_by t) w.size w.lo w.hi
unfolding place_in
high_in_tree w t = refl

module _ (s s₀ s₁ : Sheet) (pick : List Hole → Option ℕ) (w : Window) (answer : Option ℕ) (old middle : ℕ) (leaves : List Child) (load : s₀ ≡ loaded s) (there : Arrives s₀ s₁ pick w answer old middle leaves) where
  same_after : s₁.tree ≡ s₀.tree
  same_after = tree_kept (columns s₀.tree.table.width * there.visited.count) s₀ s₁ there.visited.reads

  pub same_before : s₀.tree ≡ s.tree
  same_before = ap (λ (r : Sheet). r.tree) load

  pub leaves_may_load : All (λ (x : Child). MayLoad s₁.tree x.span) leaves
  leaves_may_load = subst (λ (t : Rooted). All (λ (x : Child). MayLoad t x.span) leaves) (sym same_after) there.rows

  pub place_found : (found : Option ℕ) → found ≡ picked pick w (flat_map child_hole (children_below s₁.tree.table leaves)) → found ≡ answer
  place_found found is = is ∙ (ap (λ (t : Rooted). picked pick w (flat_map child_hole (children_below t.table leaves))) same_after ∙ there.found)

  few_visits : there.visited.count + length leaves ≤ 3 * height_in s.tree.table s.tree.root
  few_visits =
      let few = there.visited.few in
      let height = subst (λ (t : Rooted). there.level + 1 ≤ height_in t.table t.root) same_before there.height in
      omega arith

  pub few_steps : (s₂ : Sheet) (new : ℕ) → LoadedUpTo (length leaves) s₁ s₂ middle new → new ≤ old + 3 * height_in s.tree.table s.tree.root
  few_steps s₂ new more =
      let few = few_visits in
      let before = there.visited.steps in
      let low = more.few in
      let steps = more.steps in
      omega arith

  -- each step is a row whose words were loaded, and the root word was
  pub stepped_reads : (s₂ : Sheet) (new : ℕ) → LoadedUpTo (length leaves) s₁ s₂ middle new → ReadsUpTo (columns s.tree.table.width * (new - old) + 1) s s₂
  stepped_reads s₂ new more =
      let c = columns s₀.tree.table.width in
      let n = there.visited.count + more.count in
      let wide : columns s₀.tree.table.width ≡ columns s.tree.table.width = ap (λ (t : Rooted). columns t.table.width) same_before in
      let count : new - old ≡ there.visited.count + more.count = (let before = there.visited.steps in let steps = more.steps in omega arith) in
      let same : c * n ≡ columns s.tree.table.width * (new - old) = (λ i. wide i * sym count i) in
      let here = reads_more (c * there.visited.count) (c * more.count) s₀ s₁ s₂ there.visited.reads (subst (λ (t : Rooted). ReadsUpTo (columns t.table.width * more.count) s₁ s₂) same_after more.reads) in
      reads_up (1 + (c * there.visited.count + c * more.count)) (columns s.tree.table.width * (new - old) + 1) s s₂
      (let low = sums c there.visited.count more.count in omega (arith, low, same))
      (reads_more 1 (c * there.visited.count + c * more.count) s s₀ s₂ (one_read s s₀ load) here)
    where
      sums : (a b d : ℕ) → a * b + a * d ≤ a * (b + d)
      sums a b d = grind arith

-- the empty tree is one hole
pub low_empty : (t : Rooted) (w : Window) → t.root ≡ 0
    → picked lowest_in w (flat_map child_hole (record { span = record { first = 0; last = greatest t.table.width; word = 0 }; gap = 0 } ∷ [])) ≡ low_to (greatest t.table.width) (map_by t) w.size w.lo w.hi
low_empty t w empty = ap (picked lowest_in w) (sym (one_hole (greatest t.table.width))) ∙ ap (λ (root : ℕ). low_to (greatest t.table.width) (map_in t.table root) w.size w.lo w.hi) (sym empty)

pub high_empty : (t : Rooted) (w : Window) → t.root ≡ 0
    → picked (highest_in w.size) w (flat_map child_hole (record { span = record { first = 0; last = greatest t.table.width; word = 0 }; gap = 0 } ∷ [])) ≡ high_to (greatest t.table.width) (map_by t) w.size w.lo w.hi
high_empty t w empty = ap (picked (highest_in w.size) w) (sym (one_hole (greatest t.table.width))) ∙ ap (λ (root : ℕ). high_to (greatest t.table.width) (map_in t.table root) w.size w.lo w.hi) (sym empty)
