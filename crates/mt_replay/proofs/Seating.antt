-- A player's trees, and the rows of seats beside them.
use Rattle.mt_replay.proofs.Prelude.{◌≡◌, ℕ, zero, Result, Ok, Err, IfOk, suc, ◌+◌, ◌<◌, ◌≤◌, List, [], ◌∷◌, ◌++◌, Some, None, length, map, All, slice_get, slice_set, get_or, arith, refl, sym, ap, ◌∙◌, subst, inl, inr, length-append, Vec, Global, AllByRecursion, range_with_len, option_map, with_item, map-set_same, cases_eq, get_or_default, get_or-set_other, get_or-set_same, length-map, length-set, map-append, All-from_recursion, All-push, slice_get_read, slice_get-map, Kind, Range, History, last_map, Pass, IsSettled, new_pass, Entry, KnownTree, renamed, Tracked, new_history, new_tracked, all_at, new_is_settled, SharedTree, Player, AreCounts, IsCountOf, AreAll, IsNewTree, seen_by, tracked_of, PlayerState, Checks, Copies, HasRanges, IsBetweenPhases, IsClosed, IsCopyIn, IsSeated, rows_known, player_state, tracked_in, most_calls}
use Rattle.mt_log.specs.declared.transcripts.Said.TheVariants as said
use Rattle.mt_replay.specs.declared.counts.Counted.{Counted}
use Rattle.mt_replay.proofs.Recounting.{count_at, counts_long, counts_push, counts_set}

-- ---- side by side

pub tracked_long : (trees : List SharedTree) (rows : List (List Pass)) → length rows ≡ length trees → length (tracked_in trees rows) ≡ length trees
tracked_long [] rows same = refl
tracked_long (t ∷ trees) [] same = absurd (omega (arith, same))
tracked_long (t ∷ trees) (row ∷ rows) same = ap suc (tracked_long trees rows (omega (arith, same)))

pub tracked_at : (trees : List SharedTree) (rows : List (List Pass)) (at : ℕ) (t : SharedTree) (row : List Pass) → slice_get trees at ≡ Some t → slice_get rows at ≡ Some row → slice_get (tracked_in trees rows) at ≡ Some (tracked_of t row)
tracked_at [] rows at t row is beside = absurd (cc)
tracked_at (x ∷ trees) [] at t row is beside = absurd (cc)
tracked_at (x ∷ trees) (r ∷ rows) zero t row is beside =
    let same : x ≡ t = cc in
    let also : r ≡ row = cc in
    λ i. Some (tracked_of (same i) (also i))
tracked_at (x ∷ trees) (r ∷ rows) (suc at) t row is beside = tracked_at trees rows at t row is beside

tracked_push : (trees : List SharedTree) (rows : List (List Pass)) (t : SharedTree) (row : List Pass) → length rows ≡ length trees → tracked_in (trees ++ t ∷ []) (rows ++ row ∷ []) ≡ tracked_in trees rows ++ tracked_of t row ∷ []
tracked_push [] [] t row same = refl
tracked_push [] (r ∷ rows) t row same = absurd (omega (arith, same))
tracked_push (x ∷ trees) [] t row same = absurd (omega (arith, same))
tracked_push (x ∷ trees) (r ∷ rows) t row same = ap (λ z. tracked_of x r ∷ z) (tracked_push trees rows t row (omega (arith, same)))

pair_push : {X Y : Type 0} (R : X → Y → Type 0) (xs : List X) (ys : List Y) (x : X) (y : Y) → length ys ≡ length xs → ((k : ℕ) (d : X) (e : Y) → k < length xs → R (get_or xs k d) (get_or ys k e)) → R x y
    → (k : ℕ) (d : X) (e : Y) → k < length (xs ++ x ∷ []) → R (get_or (xs ++ x ∷ []) k d) (get_or (ys ++ y ∷ []) k e)
pair_push R [] [] x y same each one zero d e l = one
pair_push R [] [] x y same each one (suc k) d e l = absurd (omega (arith, l))
pair_push R [] (v ∷ ys) x y same each one k d e l = absurd (omega (arith, same))
pair_push R (u ∷ xs) [] x y same each one k d e l = absurd (omega (arith, same))
pair_push R (u ∷ xs) (v ∷ ys) x y same each one zero d e l = each 0 d e (omega arith)
pair_push R (u ∷ xs) (v ∷ ys) x y same each one (suc k) d e l = pair_push R xs ys x y (omega (arith, same)) (λ i a b below. each (suc i) a b (omega (arith, below))) one k d e (omega (arith, l))

pair_set : {X Y : Type 0} (R : X → Y → Type 0) (xs : List X) (ys : List Y) (at : ℕ) (y : Y) → length ys ≡ length xs → ((k : ℕ) (d : X) (e : Y) → k < length xs → R (get_or xs k d) (get_or ys k e)) → at < length xs → ((d : X) → R (get_or xs at d) y)
    → (k : ℕ) (d : X) (e : Y) → k < length xs → R (get_or xs k d) (get_or (slice_set ys at y) k e)
pair_set R xs ys at y same each within one k d e l = elim (cases_eq k at) [
  | inl here ↦ rw (here, get_or-set_same ys at y e (omega (arith, within, same))) (one d)
  | inr apart ↦ rw (get_or-set_other ys at k y e apart) (each k d e l)
]

pub if_ok : {X E : Type 0} (P Q : X → Type 0) (r : Result X E) → ((x : X) → P x → Q x) → IfOk r P → IfOk r Q
if_ok P Q (Ok x) f h = f x h
if_ok P Q (Err e) f h = tt

-- ---- a new tree

-- a new tree with its passes, as they stand
pub new_is : (kind : Kind) (rows : ℕ) (opening : List Range) (many : ℕ) (t : SharedTree) (passes : List Pass) → IsNewTree kind rows opening many t passes → tracked_of t passes ≡ new_tracked many rows kind opening
new_is kind rows opening many t passes new = (λ i. record { history = seen_by (new.history i) (new.passes_are i); passes = new.passes_are i }) ∙ none many
  where
    none : (n : ℕ) → tracked_of (record { history = new_history kind rows opening; most = 0 }) (map new_pass (range_with_len 0 n)) ≡ new_tracked n rows kind opening
    none zero = refl
    none (suc n) = refl

pub new_settled : (kind : Kind) (rows : ℕ) (opening : List Range) (many : ℕ) (t : SharedTree) (passes : List Pass) → IsNewTree kind rows opening many t passes → IsSettled (seen_by t.history passes) passes
new_settled kind rows opening many t passes new = subst (λ (z : Tracked). IsSettled z.history z.passes) (sym (new_is kind rows opening many t passes new)) (new_is_settled many rows kind opening)

new_closed : (numbers : List ℕ) → AllByRecursion (λ (q : Pass). q.standing ≡ None) (map new_pass numbers)
new_closed [] = tt
new_closed (n ∷ numbers) = (refl, new_closed numbers)

pub new_ranges : (kind : Kind) (rows : ℕ) (opening : List Range) (many : ℕ) (t : SharedTree) (passes : List Pass) → IsNewTree kind rows opening many t passes → last_map (seen_by t.history passes) ≡ opening
new_ranges kind rows opening many t passes new = ap (λ (z : Tracked). last_map z.history) (new_is kind rows opening many t passes new)

-- how many calls the passes have seen is all that they tell of a tree
pub seen_kind : (h : History) (passes : List Pass) → h.kind ≡ (seen_by h passes).kind
seen_kind h [] = refl
seen_kind h (p ∷ passes) = refl

seen_rows : (h : History) (passes : List Pass) → h.rows ≡ (seen_by h passes).rows
seen_rows h [] = refl
seen_rows h (p ∷ passes) = refl

-- ---- players at rest

module _ {P T : Type 0} (tree : T → SharedTree) (knows : P → Pass) (serves : T → P → Type 0) (many : T → ℕ) where
  abbrev AtRest : Player P T → Type 0
  AtRest p = IsBetweenPhases tree knows serves many p

  abbrev tracked : Player P T → List Tracked
  tracked p = tracked_in (map tree p.trees.items) (rows_known knows p.seats.items)

  -- a tree at its place, and its row
  pub record StandsIn (p : Player P T) (at : ℕ) (t : T) (row : Vec P Global) : Type 0 where
    pub many_is : many t ≡ p.passes
    pub some : 1 ≤ many t
    pub all : AreAll knows serves (many t) t row.items
    pub settled : IsSettled (seen_by (tree t).history (map knows row.items)) (map knows row.items)
    pub is : slice_get (tracked p) at ≡ Some (tracked_of (tree t) (map knows row.items))

  pub stands : (p : Player P T) (at : ℕ) (t : T) (row : Vec P Global) → AtRest p → at < length p.trees.items → t ≡ get_or p.trees.items at t → row ≡ get_or p.seats.items at row → StandsIn p at t row
  stands p at t row r within t_is row_is =
      let many_is : many t ≡ p.passes = ap many t_is ∙ r.seated.many_are at t within in
      let all : AreAll knows serves p.passes t row.items = subst (λ x. AreAll knows serves p.passes x row.items) (sym t_is) (subst (λ (v : Vec P Global). AreAll knows serves p.passes (get_or p.trees.items at t) v.items) (sym row_is) (r.seated.all at t row within)) in
      let there : slice_get (map tree p.trees.items) at ≡ Some (tree t) = slice_get-map tree p.trees.items at ∙ ap (option_map tree) (slice_get_read p.trees.items (length p.trees.items) at t refl within t_is) in
      let beside : slice_get (rows_known knows p.seats.items) at ≡ Some (map knows row.items) = slice_get-map (λ (v : Vec P Global). map knows v.items) p.seats.items at
      ∙ ap (option_map (λ (v : Vec P Global). map knows v.items)) (slice_get_read p.seats.items (length p.seats.items) at row refl (omega (arith, within, r.seated.count)) row_is) in
      let is : slice_get (tracked p) at ≡ Some (tracked_of (tree t) (map knows row.items)) = tracked_at (map tree p.trees.items) (rows_known knows p.seats.items) at (tree t) (map knows row.items) there beside in
      record {
        many_is = many_is;
        some = omega (arith, many_is, r.seated.some_pass);
        all = subst (λ n. AreAll knows serves n t row.items) (sym many_is) all;
        settled = all_at (λ (z : Tracked). IsSettled z.history z.passes) (tracked p) at (tracked_of (tree t) (map knows row.items)) r.settled is;
        is = is;
      }

  -- a row of seats beside each tree, in place of those that were there
  pub seated_by : (p : Player P T) (seats : Vec (Vec P Global) Global) (counts : Vec Counted Global) (entries : Vec Entry Global) → IsSeated tree knows serves many p → length seats.items ≡ length p.trees.items
      → ((at : ℕ) (t : T) (row : Vec P Global) → at < length p.trees.items → AreAll knows serves p.passes (get_or p.trees.items at t) (get_or seats.items at row).items)
      → IsSeated tree knows serves many (record p { seats = seats; counts = counts; entries = entries })
  seated_by p seats counts entries s count all = record { few_rows = s.few_rows; rows = s.rows; some_pass = s.some_pass; passes = s.passes; names = s.names; count = count; many_are = s.many_are; most = s.most; all = all }

  -- the entries are no part of it
  pub still_rests : (p : Player P T) (entries : Vec Entry Global) → AtRest p → AtRest (record p { entries = entries })
  still_rests p entries r = record {
    seated = seated_by p p.seats p.counts entries r.seated r.seated.count r.seated.all;
    settled = r.settled;
    closed = r.closed;
    counted = r.counted;
  }

  -- a row was worked on, and is as it was in meaning
  pub rests_again : (p : Player P T) (at : ℕ) (t : T) (row row' : Vec P Global) → AtRest p → at < length p.trees.items → t ≡ get_or p.trees.items at t → row ≡ get_or p.seats.items at row → AreAll knows serves (many t) t row'.items → map knows row'.items ≡ map knows row.items
      → AtRest (record p { seats = with_item p.seats at row' }) × (rows_known knows (with_item p.seats at row').items ≡ rows_known knows p.seats.items)
  rests_again p at t row row' r within t_is row_is all stays =
      let s = stands p at t row r within t_is row_is in
      let same : rows_known knows (with_item p.seats at row').items ≡ rows_known knows p.seats.items = map-set_same (λ (v : Vec P Global). map knows v.items) p.seats.items at row' row (stays ∙ ap (λ (v : Vec P Global). map knows v.items) row_is) in
      let all_is : AreAll knows serves p.passes t row'.items = subst (λ n. AreAll knows serves n t row'.items) s.many_is all in
      let at_place : (d : T) → get_or p.trees.items at d ≡ t = λ d. get_or_default p.trees.items at d t within ∙ sym t_is in (
        record {
          seated = seated_by p (with_item p.seats at row') p.counts p.entries r.seated (length-set p.seats.items at row' ∙ r.seated.count)
              (pair_set (λ x (v : Vec P Global). AreAll knows serves p.passes x v.items) p.trees.items p.seats.items at row' r.seated.count r.seated.all within (λ d. subst (λ x. AreAll knows serves p.passes x row'.items) (sym (at_place d)) all_is));
          settled = subst (λ (rows : List (List Pass)). All (λ (z : Tracked). IsSettled z.history z.passes) (tracked_in (map tree p.trees.items) rows)) (sym same) r.settled;
          closed = subst (λ (rows : List (List Pass)). All IsClosed (tracked_in (map tree p.trees.items) rows)) (sym same) r.closed;
          counted = subst (λ (rows : List (List Pass)). AreCounts (tracked_in (map tree p.trees.items) rows) p.counts.items) (sym same) r.counted;
        },
        same,
      )

  -- and its tree was counted
  pub rests_counted : (p : Player P T) (at : ℕ) (t : T) (row row' : Vec P Global) (c : Counted) → AtRest p → at < length p.trees.items → t ≡ get_or p.trees.items at t → row ≡ get_or p.seats.items at row → AreAll knows serves (many t) t row'.items → map knows row'.items ≡ map knows row.items → IsCountOf (seen_by (tree t).history (map knows row.items)) c
      → AtRest (record p { seats = with_item p.seats at row'; counts = with_item p.counts at c }) × (rows_known knows (with_item p.seats at row').items ≡ rows_known knows p.seats.items)
  rests_counted p at t row row' c r within t_is row_is all stays is =
      let (again, same) = rests_again p at t row row' r within t_is row_is all stays in
      let s = stands p at t row r within t_is row_is in (
        record {
          seated = seated_by p (with_item p.seats at row') (with_item p.counts at c) p.entries r.seated again.seated.count again.seated.all;
          settled = again.settled;
          closed = again.closed;
          counted = counts_set (tracked (record p { seats = with_item p.seats at row' })) p.counts.items at (tracked_of (tree t) (map knows row.items)) c again.counted
              (subst (λ (rows : List (List Pass)). slice_get (tracked_in (map tree p.trees.items) rows) at ≡ Some (tracked_of (tree t) (map knows row.items))) (sym same) s.is) is;
        },
        same,
      )

  pub counts_here : (p : Player P T) → AtRest p → length p.counts.items ≡ length p.trees.items
  counts_here p r = counts_long (tracked p) p.counts.items r.counted ∙ (tracked_long (map tree p.trees.items) (rows_known knows p.seats.items) (length-map p.seats.items (λ (v : Vec P Global). map knows v.items) ∙ (r.seated.count ∙ sym (length-map p.trees.items tree))) ∙ length-map p.trees.items tree)

  pub count_in : (p : Player P T) (at : ℕ) (t : T) (row : Vec P Global) (c : Counted) → AtRest p → at < length p.trees.items → t ≡ get_or p.trees.items at t → row ≡ get_or p.seats.items at row → c ≡ get_or p.counts.items at c → IsCountOf (seen_by (tree t).history (map knows row.items)) c
  count_in p at t row c r within t_is row_is c_is =
      count_at (tracked p) p.counts.items at (tracked_of (tree t) (map knows row.items)) c r.counted (stands p at t row r within t_is row_is).is
      (slice_get_read p.counts.items (length p.counts.items) at c refl (omega (arith, within, counts_here p r)) c_is)

  -- one more tree
  pub rests_with : (p q : Player P T) (k : KnownTree) (t : T) (row : Vec P Global) (kind : Kind) (rows : ℕ) (opening : List Range) (c : Counted) → AtRest p → q ≡ record p { known = q.known; trees = q.trees; seats = q.seats; counts = q.counts } → q.known.items ≡ p.known.items ++ k ∷ [] → q.trees.items ≡ p.trees.items ++ t ∷ [] → q.seats.items ≡ p.seats.items ++ row ∷ [] → q.counts.items ≡ p.counts.items ++ c ∷ [] → IsCountOf (new_history kind rows opening) c
      → IsNewTree kind rows opening p.passes (tree t) (map knows row.items) → AreAll knows serves p.passes t row.items → many t ≡ p.passes → AtRest q × (tracked q ≡ tracked p ++ new_tracked p.passes rows kind opening ∷ [])
  rests_with p q k t row kind rows opening c r kept known trees seats counts is_count new all many_is =
      let rows_are : q.rows ≡ p.rows = ap (λ (z : Player P T). z.rows) kept in
      let passes_are : q.passes ≡ p.passes = ap (λ (z : Player P T). z.passes) kept in
      let more_known : length q.known.items ≡ length p.known.items + 1 = ap length known ∙ length-append p.known.items (k ∷ []) in
      let more_trees : length q.trees.items ≡ length p.trees.items + 1 = ap length trees ∙ length-append p.trees.items (t ∷ []) in
      let more_seats : length q.seats.items ≡ length p.seats.items + 1 = ap length seats ∙ length-append p.seats.items (row ∷ []) in
      let tracked_are : tracked q ≡ tracked p ++ new_tracked p.passes rows kind opening ∷ [] =
      (λ i. tracked_in (map tree (trees i)) (rows_known knows (seats i)))
      ∙ ((λ i. tracked_in (map-append tree p.trees.items (t ∷ []) i) (map-append (λ (v : Vec P Global). map knows v.items) p.seats.items (row ∷ []) i))
      ∙ (tracked_push (map tree p.trees.items) (rows_known knows p.seats.items) (tree t) (map knows row.items) (length-map p.seats.items (λ (v : Vec P Global). map knows v.items) ∙ (r.seated.count ∙ sym (length-map p.trees.items tree)))
      ∙ ap (λ (z : Tracked). tracked p ++ z ∷ []) (new_is kind rows opening p.passes (tree t) (map knows row.items) new))) in (
        record {
          seated = record {
            few_rows = omega (arith, r.seated.few_rows, rows_are);
            rows = omega (arith, r.seated.rows, rows_are);
            some_pass = omega (arith, r.seated.some_pass, passes_are);
            passes = omega (arith, r.seated.passes, passes_are);
            names = omega (arith, more_known, more_trees, r.seated.names);
            count = omega (arith, more_seats, more_trees, r.seated.count);
            many_are = subst (λ (n : ℕ). All (λ (x : T). many x ≡ n) q.trees.items) (sym passes_are) (subst (λ (xs : List T). All (λ (x : T). many x ≡ p.passes) xs) (sym trees) (All-push (λ (x : T). many x ≡ p.passes) p.trees.items t r.seated.many_are many_is));
            most = subst (λ (xs : List T). All (λ (x : T). (tree x).most ≡ most_calls) xs) (sym trees) (All-push (λ (x : T). (tree x).most ≡ most_calls) p.trees.items t r.seated.most new.most);
            all = all_are passes_are;
          };
          settled = subst (All (λ (z : Tracked). IsSettled z.history z.passes)) (sym tracked_are) (All-push (λ (z : Tracked). IsSettled z.history z.passes) (tracked p) (new_tracked p.passes rows kind opening) r.settled (new_is_settled p.passes rows kind opening));
          closed = subst (All IsClosed) (sym tracked_are) (All-push IsClosed (tracked p) (new_tracked p.passes rows kind opening) r.closed (All-from_recursion (λ (q : Pass). q.standing ≡ None) (map new_pass (range_with_len 0 p.passes)) (new_closed (range_with_len 0 p.passes))));
          counted = rw (tracked_are, counts) (counts_push (tracked p) p.counts.items (new_tracked p.passes rows kind opening) c r.counted is_count);
        },
        tracked_are,
      )
    where
      each : (k : ℕ) (d : T) (e : Vec P Global) → k < length (p.trees.items ++ t ∷ []) → AreAll knows serves p.passes (get_or (p.trees.items ++ t ∷ []) k d) (get_or (p.seats.items ++ row ∷ []) k e).items
      each = pair_push (λ (x : T) (v : Vec P Global). AreAll knows serves p.passes x v.items) p.trees.items p.seats.items t row r.seated.count r.seated.all all

      all_are : q.passes ≡ p.passes → (k : ℕ) (d : T) (e : Vec P Global) → k < length q.trees.items → AreAll knows serves q.passes (get_or q.trees.items k d) (get_or q.seats.items k e).items
      all_are passes_are k d e l = rw (passes_are, trees, seats) (each k d e (omega (arith, l, ap length trees)))

  -- ---- as states

  abbrev state : Player P T → PlayerState
  state p = player_state tree knows p

  pub copy_in : (p : Player P T) (at : ℕ) (t : T) (row : Vec P Global) (made : SharedTree) (passes : List Pass) → StandsIn p at t row → IsNewTree (tree t).history.kind (tree t).history.rows (last_map (seen_by (tree t).history (map knows row.items))) (many t) made passes → IsCopyIn (state p) at made passes
  copy_in p at t row made passes s new = record {
    source = tracked_of (tree t) (map knows row.items);
    source_is = s.is;
    new = record {
      history = new.history ∙ (λ i. new_history (seen_kind (tree t).history (map knows row.items) i) (seen_rows (tree t).history (map knows row.items) i) (last_map (seen_by (tree t).history (map knows row.items))));
      most = new.most;
      passes_are = new.passes_are ∙ ap (λ n. map new_pass (range_with_len 0 n)) s.many_is;
    };
  }

  -- a row was worked on and its tree maybe counted, and all is as it was in meaning
  pub state_stays : (p q : Player P T) → q ≡ record p { seats = q.seats; counts = q.counts } → rows_known knows q.seats.items ≡ rows_known knows p.seats.items → state q ≡ state p
  state_stays p q kept stays = λ i. record { rows = (kept i).rows; passes = (kept i).passes; known = (kept i).known.items; trees = tracked_in (map tree (kept i).trees.items) (stays i); entries = (kept i).entries.items }

  pub counts_too : (p q : Player P T) → q ≡ record p { seats = q.seats } → q ≡ record p { seats = q.seats; counts = q.counts }
  counts_too p q kept = kept ∙ ap (λ (z : Player P T). record p { seats = q.seats; counts = z.counts }) (sym kept)

  pub state_with : (p q : Player P T) (k : KnownTree) (new : Tracked) → q ≡ record p { known = q.known; trees = q.trees; seats = q.seats; counts = q.counts } → q.known.items ≡ p.known.items ++ k ∷ [] → tracked q ≡ tracked p ++ new ∷ [] → state q ≡ record (state p) { known = p.known.items ++ k ∷ []; trees = tracked p ++ new ∷ [] }
  state_with p q k new kept known trees = λ i. record { rows = (kept i).rows; passes = (kept i).passes; known = known i; trees = trees i; entries = (kept i).entries.items }

  -- a check was told
  pub checks : (p q : Player P T) (entries : Vec Entry Global) (line number count : ℕ) → q ≡ record p { seats = q.seats; counts = q.counts } → rows_known knows q.seats.items ≡ rows_known knows p.seats.items → HasRanges (state p) number (λ ranges. count ≡ length ranges) → entries.items ≡ q.entries.items ++ record { line = line; said = said.Lawful count } ∷ []
      → Checks (state p) (state (record q { entries = entries })) line number
  checks p q entries line number count kept stays has told = record {
    checked = has.tree;
    tree_is = has.tree_is;
    made = (λ i. record (state q) { entries = told i }) ∙ ((λ i. record (state_stays p q kept stays i) { entries = (state_stays p q kept stays i).entries ++ record { line = line; said = said.Lawful (has.holds i) } ∷ [] }));
  }

  -- a copy was added and told
  pub copies : (p p1 q : Player P T) (entries : Vec Entry Global) (line from count : ℕ) (name : List ℕ) (named : KnownTree) (t : T) (row row' : Vec P Global)
      → AtRest p1 → p1 ≡ record p { seats = p1.seats } → rows_known knows p1.seats.items ≡ rows_known knows p.seats.items → IsCopyIn (state p) from (tree t) (map knows row.items) → AreAll knows serves (many t) t row'.items → many t ≡ p.passes → map knows row'.items ≡ map knows row.items
      → q ≡ record p1 { known = q.known; trees = q.trees; seats = q.seats; counts = q.counts } → q.known.items ≡ p1.known.items ++ renamed name named ∷ [] → q.trees.items ≡ p1.trees.items ++ t ∷ [] → q.seats.items ≡ p1.seats.items ++ row' ∷ [] → q.counts.items ≡ p1.counts.items ++ record { calls = 0; ranges = count } ∷ []
      → slice_get p.known.items from ≡ Some named → count ≡ length (last_map (seen_by (tree t).history (map knows row.items))) → entries.items ≡ q.entries.items ++ record { line = line; said = said.Copied count } ∷ []
      → AtRest (record q { entries = entries }) × Copies (state p) (state (record q { entries = entries })) line from name
  copies p p1 q entries line from count name named t row row' r kept stays copy all many_is same pushed known trees seats counts named_is count_is told =
      let source : Tracked = copy.source in
      let opening : List Range = last_map source.history in
      let passes_are : p1.passes ≡ p.passes = ap (λ (z : Player P T). z.passes) kept in
      let new : IsNewTree source.history.kind source.history.rows opening p1.passes (tree t) (map knows row'.items) = subst (IsNewTree source.history.kind source.history.rows opening p1.passes (tree t)) (sym same) (subst (λ (n : ℕ). IsNewTree source.history.kind source.history.rows opening n (tree t) (map knows row.items)) (sym passes_are) copy.new) in
      let counted : count ≡ length opening = count_is ∙ ap length (new_ranges source.history.kind source.history.rows opening p.passes (tree t) (map knows row.items) copy.new) in
      let with = rests_with p1 q (renamed name named) t row' source.history.kind source.history.rows opening (record { calls = 0; ranges = count }) r pushed known trees seats counts (record { calls = omega arith; ranges = counted }) new (subst (λ (n : ℕ). AreAll knows serves n t row'.items) (many_is ∙ sym passes_are) all) (many_is ∙ sym passes_are) in
      let as_before : state p1 ≡ state p = state_stays p p1 (counts_too p p1 kept) stays in
      let added : PlayerState → PlayerState = λ (z : PlayerState). record z { known = z.known ++ renamed name named ∷ []; trees = z.trees ++ new_tracked z.passes source.history.rows source.history.kind opening ∷ [] } in
      let is : state q ≡ added (state p1) = state_with p1 q (renamed name named) (new_tracked p1.passes source.history.rows source.history.kind opening) pushed known with.1 in
      let tells : ℕ → PlayerState → PlayerState = λ (n : ℕ) (z : PlayerState). record z { entries = z.entries ++ record { line = line; said = said.Copied n } ∷ [] } in (
        still_rests q entries with.0,
        record {
          named = named;
          source = source;
          named_is = named_is;
          source_is = copy.source_is;
          made = (λ i. record (state q) { entries = told i }) ∙ ((λ i. tells (counted i) (is i)) ∙ ap (λ (z : PlayerState). tells (length opening) (added z)) as_before);
        },
      )
