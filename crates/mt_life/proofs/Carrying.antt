-- A publishing store carries what is known of rows from before it to after it.
use Rattle.mt_life.proofs.Prelude.{◌≡◌, ◌≢◌, ℕ, suc, ◌+◌, ◌-◌, ◌≤◌, List, true, false, sym, ap, ◌∙◌, subst, inl, inr, ⊎_elim, arith, cases_Bool, cases_eq, AllByRecursion, flat_map, Kind, Call, Reply, IsMap, kind_width, row_in, Span, leaf_range, Place, Live, Dead, Tree, Stands, kind_at, Rooted, Sheet, life_of, is_buried, tree_as, is_reached, IsReached, with_published, with_record, MayPublish, Published, StandsAt, all_map, stands_at, reached_times, reached_on_level, published_width, Extent, Moment, moment_of, PartOf, State, state_of, extent_at, spans_at, Later, IsLive, HasRow, HasPart, calls, Child, Shape, Known, HasExtentsOf}
use Rattle.mt_life.proofs.Alike.{SameSlots, two_slots, same_spans_at, shape_moves}
use Rattle.mt_life.proofs.Fitting.{placed}
use Rattle.mt_life.proofs.Reaching.{PlaceOf, place_of, extent_reached, root_reached, map_here, shape_reached, leaf_reached, inner_reached}
use Rattle.mt_life.proofs.Staying.{true_false, IsAt, others_stay, parents_stay, none_reached, place_stays}
use Rattle.mt_life.proofs.Turning.{later_cases, any, had_row, has_still, reached_lives, live_reached, dead_before, dead_stays, later_stays}

module _ (kind : Kind) (s s' : Sheet) (place : Place) (word : ℕ) (call : Call) (reply : Reply) (may : MayPublish kind s place word call reply) (done : Published s s' place word call reply)
    (before after : ℕ → Extent) (m m' : ℕ → Moment) (known : Known kind (state_of s) before m) (follows : HasExtentsOf (with_published s.tree place word) before after)
    (past : (k : ℕ) → k ≤ s.ended → m' k ≡ m k) (now : m' (s.ended + 1) ≡ moment_of (with_published s.tree place word)) where
  abbrev t' : Rooted
  t' = with_published s.tree place word

  abbrev T : Tree
  T = tree_as kind s.tree

  abbrev T' : Tree
  T' = tree_as kind t'

  -- what is left by the store
  abbrev u : State
  u = state_of (record s { tree = t'; published = true; lives = s'.lives; buried = s'.buried; told = with_record s.told call reply })

  abbrev Has : ℕ → Type 0
  Has row = HasRow s.tree.rows row

  had : (row : ℕ) → HasRow t'.rows row → Has row
  had row has = had_row kind s s' place word call reply may done row has

  calls_before : calls (state_of s) ≡ s.ended
  calls_before = rw may.before (omega arith)

  -- ---- rows that are reached after

  pub live_after : (row : ℕ) → HasRow t'.rows row → IsReached t' row → life_of s'.lives row ≡ Live
  live_after row has is = reached_lives kind s s' place word call reply may done row (had row has) is

  abbrev pub PlaceAfter : ℕ → Type 0
  PlaceAfter row = PlaceOf kind t' s'.lives after may.after live_after follows.reached row

  pub place_after : (row : ℕ) → IsReached t' row → PlaceAfter row
  place_after row is = place_of kind t' s'.lives after may.after live_after follows.reached row is

  place_of_live : (row : ℕ) → Has row → life_of s'.lives row ≡ Live → PlaceAfter row
  place_of_live row has live = place_after row (live_reached kind s s' place word call reply may done row has live)

  -- ---- rows that stay, and rows that are not reached after

  -- a row that was live stood where its extent says
  pub record PlaceBefore (row : ℕ) : Type 0 where
    pub height : ℕ
    pub tree : Stands T height
    pub level : ℕ
    pub span : Span
    pub stands : StandsAt s.tree level span
    pub is : row_in span.word ≡ row
    pub extent : before row ≡ extent_at span level

  pub place_before : (row : ℕ) → IsReached s.tree row → PlaceBefore row
  place_before row reached = ⊎_elim
      (λ (empty : s.tree.root ≡ 0). absurd (true_false (is_reached s.tree row) reached (none_reached s.tree row empty)))
      (λ (tree : (h : ℕ) × Stands T h).
      let some : s.tree.root ≢ 0 = λ empty. true_false (is_reached s.tree row) reached (none_reached s.tree row empty) in
      let at = reached_on_level T tree.0 tree.1 row (reached_times T tree.0 tree.1 row reached) in
      let fits = placed kind (state_of s) before m known tree.0 tree.1 some at.0 at.1 at.2 in
      record {
        height = tree.0;
        tree = tree.1;
        level = at.0;
        span = at.1;
        is = at.3;
        stands = stands_at T tree.0 tree.1 at.2.depth at.0 at.1 at.2.height at.2.one;
        extent = subst (λ (r : ℕ). before r ≡ extent_at at.1 at.0) at.3 fits.extent;
      })
      may.tree.words

  -- a row that was live or dead keeps its extent
  pub extent_stays : (row : ℕ) → Has row → Later 0 (life_of s.lives row) → after row ≡ before row
  extent_stays row has later = elim (cases_Bool (is_reached t' row)) [
    | inr not ↦ follows.others row not
    | inl is ↦ ⊎_elim
        (λ (live : life_of s.lives row ≡ Live).
        let p' = place_after row is in
        let p = place_before row ((may.live row has.0 has.1).0 live) in
        let keeps = may.rows.stay p.level p'.level p.span p'.span p.stands (stands_at T' p'.height p'.stands p'.on.depth p'.level p'.span p'.on.height p'.on.one) (p.is ∙ sym p'.is) in
        let same : extent_at p'.span p'.level ≡ extent_at p.span p.level = λ i. record { first = keeps.first i; last = keeps.last i; level = keeps.height i } in
        extent_reached kind t' s'.lives after may.after live_after follows.reached row p' ∙ (same ∙ sym p.extent))
        (λ (dead : (d : ℕ) × (life_of s.lives row ≡ Dead d) × (0 ≤ d)).
        absurd (true_false (is_reached t' row) is (dead_stays kind s s' place word call reply may done row dead.0 has dead.1).0))
        (later_cases 0 (life_of s.lives row) later)
  ]

  slots_stay : (row : ℕ) (e : Extent) → is_reached t' row ≡ false → SameSlots s.tree.table t'.table (kind_at kind e.level) row
  slots_stay row e not =
      let off : IsAt place row → ⊥ = λ at. true_false (is_reached t' row) (place_stays kind s place word row may.at may.live may.tree.words may.after at) not in
      λ c above low. others_stay s place word row c may.at off (two_slots s.tree.table.width (kind_at kind e.level) c low)

  spans_stay : (row : ℕ) (e : Extent) → is_reached t' row ≡ false → spans_at kind t'.table row e ≡ spans_at kind s.tree.table row e
  spans_stay row e not = same_spans_at kind s.tree.table.width t'.table.width s.tree.table.words t'.table.words row e (published_width s.tree place word) (slots_stay row e not)

  leaf_stays : (row k : ℕ) → is_reached t' row ≡ false → k ≤ s.ended → HasPart kind s.tree.table row (before row) (m k) → HasPart kind t'.table row (after row) (m' k)
  leaf_stays row k not le leaf =
      subst (λ (e : Extent). HasPart kind t'.table row e (m' k)) (sym (follows.others row not))
      (subst (λ (n : Moment). HasPart kind t'.table row (before row) n) (sym (past k le))
      (subst (λ (xs : List Span). PartOf (m k) (before row).first (before row).last (flat_map leaf_range xs)) (sym (spans_stay row (before row) not)) leaf))

  abbrev Was : ℕ → ℕ → Span → Type 0
  Was d level x = Child kind s.tree.rows s.lives before (Later d) level x

  abbrev Is : ℕ → ℕ → Span → Type 0
  Is d level x = Child kind t'.rows s'.lives after (Later d) level x

  child_stays : (d level : ℕ) (x : Span) → d ≤ s.ended + 1 → Was d level x → Is d level x
  child_stays d level x le c = record {
    has = has_still kind s s' place word call reply may done (row_in x.word) c.has;
    life = later_stays kind s s' place word call reply may done (row_in x.word) d c.has le c.life;
    extent = extent_stays (row_in x.word) c.has (any (life_of s.lives (row_in x.word)) d c.life) ∙ c.extent;
    named = c.named;
  }

  inner_stays : (row level d : ℕ) → is_reached t' row ≡ false → d ≤ s.ended + 1 → AllByRecursion (Was d level) (spans_at kind s.tree.table row (before row)) → AllByRecursion (Is d level) (spans_at kind t'.table row (after row))
  inner_stays row level d not le inner =
      subst (λ (e : Extent). AllByRecursion (Is d level) (spans_at kind t'.table row e)) (sym (follows.others row not))
      (subst (AllByRecursion (Is d level)) (sym (spans_stay row (before row) not))
      (all_map (Was d level) (Is d level) (λ x c. child_stays d level x le c) (spans_at kind s.tree.table row (before row)) inner))

  live_later : (d level : ℕ) (x : Span) → Child kind s.tree.rows s.lives before IsLive level x → Was d level x
  live_later d level x c = record { has = c.has; life = subst (Later d) (sym c.life) tt; extent = c.extent; named = c.named }

  -- ---- all of it

  -- the row dies by this call
  abbrev Died : ℕ → ℕ → Type 0
  Died row d = (life_of s.lives row ≡ Live) × (is_buried s.buried row ≡ true) × (d ≡ s.ended + 1)

  shape_after : (row : ℕ) → HasRow t'.rows row → Later 0 (life_of s'.lives row) → Shape kind t'.table row (after row)
  shape_after row has' later =
      let has = had row has' in
      ⊎_elim
      (λ (live : life_of s'.lives row ≡ Live). shape_reached kind t' s'.lives after may.after live_after follows.reached row (place_of_live row has live))
      (λ (dead : (d : ℕ) × (life_of s'.lives row ≡ Dead d) × (0 ≤ d)).
      let was = dead_before kind s s' place word call reply may done row dead.0 has dead.1 in
      let later_before : Later 0 (life_of s.lives row) = ⊎_elim
      (λ (old : life_of s.lives row ≡ Dead dead.0). subst (Later 0) (sym old) (omega arith))
      (λ (dies : Died row dead.0). subst (Later 0) (sym dies.0) tt) was.1 in
      subst (Shape kind t'.table row) (sym (follows.others row was.0))
      (shape_moves kind s.tree.table t'.table row (before row) (published_width s.tree place word) (spans_stay row (before row) was.0) (slots_stay row (before row) was.0) (known.shape row has later_before)))
      (later_cases 0 (life_of s'.lives row) later)

  wide_after : t'.table.width ≡ kind_width kind
  wide_after = published_width s.tree place word ∙ may.tree.width

  after_known : Known kind u after m'
  after_known = record {
    width = wide_after;
    calm = λ idle. absurd (true_false s.in_flight may.in_flight idle);
    current = ap (λ (k : Moment). k.ranges) now;
    maps = λ k le. ⊎_elim
        (λ (last : k ≡ s.ended + 1). subst (λ (n : ℕ). IsMap kind (m' n).ranges) (sym last) (subst (λ (k : Moment). IsMap kind k.ranges) (sym now) (map_here kind t' wide_after may.after)))
        (λ (other : k ≢ s.ended + 1). let is = calls_before in subst (λ (k : Moment). IsMap kind k.ranges) (sym (past k (omega arith))) (known.maps k (omega arith)))
        (cases_eq k (s.ended + 1));
    root = root_reached kind t' s'.lives after may.after live_after follows.reached;
    shape = shape_after;
    dead = λ row d has dead. ⊎_elim
        (λ (old : life_of s.lives row ≡ Dead d). let both = known.dead row d (had row has) old in let low = both.1 in let is = calls_before in (both.0, omega arith))
        (λ (dies : Died row d). let is = dies.2 in (omega arith, omega arith))
        (dead_before kind s s' place word call reply may done row d (had row has) dead).1;
    marks = λ row d has dead waits. parents_stay s place word row may.at ∙ ⊎_elim
        (λ (old : life_of s.lives row ≡ Dead d). known.marks row d (had row has) old waits)
        (λ (dies : Died row d). (known.buried row (had row has) dies.1).1)
        (dead_before kind s s' place word call reply may done row d (had row has) dead).1;
    buried = λ row has is. absurd (true_false (is_buried s'.buried row) is (done.buried row has.0 (had row has).1));
    unmarked = λ row has live _.
        let reached = live_reached kind s s' place word call reply may done row (had row has) live in
        λ marked. ⊎_elim
        (λ (was : life_of s.lives row ≡ Live). elim (cases_Bool (is_buried s.buried row)) [
          | inl buried ↦ absurd (true_false (is_reached t' row) reached (may.rows.buried row has.0 (had row has).1 buried).1)
          | inr not ↦ known.unmarked row (had row has) was not (sym (parents_stay s place word row may.at) ∙ marked)
        ])
        (λ draft. draft.1 (sym (parents_stay s place word row may.at) ∙ marked))
        (may.rows.known row reached);
    live_leaf = λ row has live leaf. leaf_reached kind t' s'.lives after may.after live_after follows.reached row (m' (s.ended + 1)) now (place_of_live row (had row has) live) leaf;
    dead_leaf = λ row d has dead leaf.
        let was = dead_before kind s s' place word call reply may done row d (had row has) dead in
        let leaf_before : (before row).level ≡ 0 = sym (ap (λ (e : Extent). e.level) (follows.others row was.0)) ∙ leaf in
        ⊎_elim
        (λ (old : life_of s.lives row ≡ Dead d). let both = known.dead row d (had row has) old in let low = both.1 in let is = calls_before in
        leaf_stays row (d - 1) was.0 (omega arith) (known.dead_leaf row d (had row has) old leaf_before))
        (λ (dies : Died row d).
        let same : calls (state_of s) ≡ d - 1 = let is = calls_before in let by = dies.2 in omega arith in
        leaf_stays row (d - 1) was.0 (let by = dies.2 in omega arith) (subst (λ (k : ℕ). HasPart kind s.tree.table row (before row) (m k)) same (known.live_leaf row (had row has) dies.0 leaf_before)))
        was.1;
    live_inner = λ row level has live inner. inner_reached kind t' s'.lives after may.after live_after follows.reached row level (place_of_live row (had row has) live) inner;
    dead_inner = λ row level d has dead waits inner.
        let was = dead_before kind s s' place word call reply may done row d (had row has) dead in
        let inner_before : (before row).level ≡ suc level = sym (ap (λ (e : Extent). e.level) (follows.others row was.0)) ∙ inner in
        ⊎_elim
        (λ (old : life_of s.lives row ≡ Dead d). let both = known.dead row d (had row has) old in let low = both.1 in let is = calls_before in
        inner_stays row level d was.0 (omega arith) (known.dead_inner row level d (had row has) old waits inner_before))
        (λ (dies : Died row d).
        inner_stays row level d was.0 (let by = dies.2 in omega arith)
        (all_map (Child kind s.tree.rows s.lives before IsLive level) (Was d level) (live_later d level) (spans_at kind s.tree.table row (before row)) (known.live_inner row level (had row has) dies.0 inner_before)))
        was.1;
  }

  -- what is known before a publishing store is known after it
  pub carried : Known kind (state_of s') after m'
  carried = subst (λ (v : Sheet). Known kind (state_of v) after m') (sym done.rest) after_known
