-- A draft, a burying and a tending leave what is known of rows.
use Rattle.mt_life.proofs.Prelude.{◌≡◌, ◌≢◌, ◌⊎◌, ℕ, zero, suc, ◌+◌, ◌-◌, ◌*◌, ◌<◌, ◌≤◌, ◌==◌, List, [], ◌∷◌, ◌++◌, Bool, true, false, Some, None, length, refl, sym, ap, ◌∙◌, subst, inl, inr, ⊎_elim, arith, get_or-set_other, get_or-set_same, slice_set, cases_eq, AllByRecursion, flat_map, Range, Kind, finds_room, columns, first_row, deepest, row_in, named_kind, dead_mark, Span, leaf_range, other_place, other_column, place_within, some_columns, gap_above, Life, New, Draft, Live, Dead, Table, base_of, column, spans_in, root_span, IsBelow, ranges_of, map_in, map_by, kind_at, Rooted, Sheet, IsPlace, IsFree, MayBury, MayTend, IsGapOf, life_of, is_buried, word_at, drafted, after_bury, tended, by_leaf, by_inner, all_map, one_of_get, all_one_of, Extent, Moment, PartOf, State, state_of, IsFull, spans_at, Later, IsLive, HasRow, HasPart, calls, Child, Known, Goes}
use Rattle.mt_layout.specs.declared.names.RowKind.TheVariants as kinds
use Rattle.mt_life.proofs.Alike.{SameSlots, two_slots, spans_named, same_spans_at, shape_moves}
use Rattle.mt_life.proofs.Fitting.{children_known}
use Rattle.mt_life.proofs.Staying.{true_false}
use Rattle.mt_life.proofs.Turning.{later_cases, any}

-- ---- what a store leaves that is not a publishing one

module _ (kind : Kind) (s : State) (e : ℕ → Extent) (m : ℕ → Moment) (known : Known kind s e m) (words : List ℕ) (lives : List Life) (burials : List Bool) where
  abbrev u : State
  u = record s { tree = record { rows = s.tree.rows; table = record { width = s.tree.table.width; words = words }; root = s.tree.root }; lives = lives; buried = burials }

  abbrev Has : ℕ → Type 0
  Has row = HasRow s.tree.rows row

  -- rows that may be read keep their lives and their pivots and slots
  pub record Leaves : Type 0 where
    pub life : (row : ℕ) → Has row → (life_of lives row ≡ life_of s.lives row) ⊎ ((life_of lives row ≡ Draft) × IsFree s.cleared (life_of s.lives row))
    pub slots : (row : ℕ) → Has row → Later 0 (life_of lives row) → SameSlots s.tree.table u.tree.table (kind_at kind (e row).level) row
    pub frozen : (row d c : ℕ) → Has row → life_of s.lives row ≡ Dead d → s.cleared < d → c < columns s.tree.table.width → column u.tree.table row c ≡ column s.tree.table row c
    pub buried : (row : ℕ) → Has row → is_buried burials row ≡ true → (life_of lives row ≡ Live) × (word_at u.tree row 0 ≡ dead_mark row) × (s.in_flight ≡ true) × (s.published ≡ false)
    pub unmarked : (row : ℕ) → Has row → life_of lives row ≡ Live → is_buried burials row ≡ false → word_at u.tree row 0 ≢ dead_mark row

  module _ (leaves : Leaves) where
    abbrev Drafts : ℕ → Type 0
    Drafts row = (life_of lives row ≡ Draft) × IsFree s.cleared (life_of s.lives row)

    -- who is not a draft now was so before
    was : (row : ℕ) (l : Life) → Has row → life_of lives row ≡ l → Later 0 l → life_of s.lives row ≡ l
    was row l has is later = ⊎_elim
        (λ (same : life_of lives row ≡ life_of s.lives row). sym same ∙ is)
        (λ (draft : Drafts row). absurd (subst (Later 0) (sym is ∙ draft.0) later))
        (leaves.life row has)

    stays_live : (row : ℕ) → Has row → life_of s.lives row ≡ Live → life_of lives row ≡ Live
    stays_live row has live = ⊎_elim
        (λ (same : life_of lives row ≡ life_of s.lives row). same ∙ live)
        (λ (draft : Drafts row). absurd (subst (IsFree s.cleared) live draft.1))
        (leaves.life row has)

    stays_later : (row d : ℕ) → Has row → s.cleared < d → Later d (life_of s.lives row) → Later d (life_of lives row)
    stays_later row d has waits later = ⊎_elim
        (λ (same : life_of lives row ≡ life_of s.lives row). subst (Later d) (sym same) later)
        (λ (draft : Drafts row). absurd (⊎_elim
        (λ (live : life_of s.lives row ≡ Live). subst (IsFree s.cleared) live draft.1)
        (λ (dead : (n : ℕ) × (life_of s.lives row ≡ Dead n) × (d ≤ n)). let free : dead.0 ≤ s.cleared = subst (IsFree s.cleared) dead.1 draft.1 in let late = dead.2 in absurd (omega arith))
        (later_cases d (life_of s.lives row) later)))
        (leaves.life row has)

    spans_stay : (row : ℕ) → Has row → Later 0 (life_of lives row) → spans_at kind u.tree.table row (e row) ≡ spans_at kind s.tree.table row (e row)
    spans_stay row has later = same_spans_at kind s.tree.table.width s.tree.table.width s.tree.table.words words row (e row) refl (leaves.slots row has later)

    leaf_stays : (row : ℕ) (k : Moment) → Has row → Later 0 (life_of lives row) → HasPart kind s.tree.table row (e row) k → HasPart kind u.tree.table row (e row) k
    leaf_stays row k has later leaf = subst (λ (xs : List Span). PartOf k (e row).first (e row).last (flat_map leaf_range xs)) (sym (spans_stay row has later)) leaf

    abbrev Was : (Life → Type 0) → ℕ → Span → Type 0
    Was L level x = Child kind s.tree.rows s.lives e L level x

    abbrev Is : (Life → Type 0) → ℕ → Span → Type 0
    Is L level x = Child kind s.tree.rows lives e L level x

    live_child : (level : ℕ) (x : Span) → Was IsLive level x → Is IsLive level x
    live_child level x c = record { has = c.has; life = stays_live (row_in x.word) c.has c.life; extent = c.extent; named = c.named }

    later_child : (d level : ℕ) (x : Span) → s.cleared < d → Was (Later d) level x → Is (Later d) level x
    later_child d level x waits c = record { has = c.has; life = stays_later (row_in x.word) d c.has waits c.life; extent = c.extent; named = c.named }

    later_of : (row : ℕ) (l : Life) → life_of lives row ≡ l → Later 0 l → Later 0 (life_of lives row)
    later_of row l is later = subst (Later 0) (sym is) later

    -- ---- the map stays

    spans_kept : (level : ℕ) (x : Span) → Was IsLive level x → spans_in u.tree.table x ≡ spans_in s.tree.table x
    spans_kept level x fits =
        sym (spans_named kind u.tree.table level x fits.named)
        ∙ (ap (spans_at kind u.tree.table (row_in x.word)) (sym fits.extent)
        ∙ (spans_stay (row_in x.word) fits.has (later_of (row_in x.word) Live (stays_live (row_in x.word) fits.has fits.life) tt)
        ∙ (ap (spans_at kind s.tree.table (row_in x.word)) fits.extent
        ∙ spans_named kind s.tree.table level x fits.named)))

    flat_kept : (f g : Span → List Range) (level : ℕ) → ((x : Span) → Was IsLive level x → f x ≡ g x) → (xs : List Span) → AllByRecursion (Was IsLive level) xs → flat_map f xs ≡ flat_map g xs
    flat_kept f g level each [] fit = refl
    flat_kept f g level each (x ∷ xs) fit = let here = each x fit.0 in let behind = flat_kept f g level each xs fit.1 in λ i. here i ++ behind i

    ranges_kept : (depth level : ℕ) (x : Span) → Was IsLive level x → ranges_of u.tree.table depth x ≡ ranges_of s.tree.table depth x
    ranges_kept zero level x fits = refl
    ranges_kept (suc depth) zero x fits =
        by_leaf (named_kind x.word) (flat_map leaf_range (spans_in u.tree.table x)) (flat_map (ranges_of u.tree.table depth) (spans_in u.tree.table x)) fits.named
        ∙ (ap (λ (xs : List Span). flat_map leaf_range xs) (spans_kept zero x fits)
        ∙ sym (by_leaf (named_kind x.word) (flat_map leaf_range (spans_in s.tree.table x)) (flat_map (ranges_of s.tree.table depth) (spans_in s.tree.table x)) fits.named))
    ranges_kept (suc depth) (suc level) x fits =
        by_inner (finds_room kind) (named_kind x.word) (flat_map leaf_range (spans_in u.tree.table x)) (flat_map (ranges_of u.tree.table depth) (spans_in u.tree.table x)) fits.named
        ∙ (ap (flat_map (ranges_of u.tree.table depth)) (spans_kept (suc level) x fits)
        ∙ (flat_kept (ranges_of u.tree.table depth) (ranges_of s.tree.table depth) level (ranges_kept depth level) (spans_in s.tree.table x) (children_known kind s e m known level x fits)
        ∙ sym (by_inner (finds_room kind) (named_kind x.word) (flat_map leaf_range (spans_in s.tree.table x)) (flat_map (ranges_of s.tree.table depth) (spans_in s.tree.table x)) fits.named)))

    map_kept : map_by s.tree ≡ map_by u.tree
    map_kept = ⊎_elim
        (λ (empty : s.tree.root ≡ 0). subst (λ (r : ℕ). map_in s.tree.table r ≡ map_in u.tree.table r) (sym empty) refl)
        (λ (some : s.tree.root ≢ 0). let root = known.root some in sym (ranges_kept deepest root.0 (root_span s.tree.table s.tree.root) root.2))
        (cases_eq s.tree.root 0)

    left : Known kind u e m
    left = record {
      width = known.width;
      calm = known.calm;
      current = known.current ∙ map_kept;
      maps = known.maps;
      root = λ some. let root = known.root some in (root.0, root.1, live_child root.0 (root_span s.tree.table s.tree.root) root.2);
      shape = λ row has later. shape_moves kind s.tree.table u.tree.table row (e row) refl (spans_stay row has later) (leaves.slots row has later) (known.shape row has (subst (Later 0) (sym (was row (life_of lives row) has refl later)) later));
      dead = λ row d has dead. known.dead row d has (was row (Dead d) has dead (omega arith));
      marks = λ row d has dead waits. let before = was row (Dead d) has dead (omega arith) in leaves.frozen row d 0 has before waits (some_columns s.tree.table.width) ∙ known.marks row d has before waits;
      buried = leaves.buried;
      unmarked = leaves.unmarked;
      live_leaf = λ row has live leaf. leaf_stays row (m (calls s)) has (later_of row Live live tt) (known.live_leaf row has (was row Live has live tt) leaf);
      dead_leaf = λ row d has dead leaf. leaf_stays row (m (d - 1)) has (later_of row (Dead d) dead (omega arith)) (known.dead_leaf row d has (was row (Dead d) has dead (omega arith)) leaf);
      live_inner = λ row level has live inner.
          subst (AllByRecursion (Is IsLive level)) (sym (spans_stay row has (later_of row Live live tt)))
          (all_map (Was IsLive level) (Is IsLive level) (live_child level) (spans_at kind s.tree.table row (e row)) (known.live_inner row level has (was row Live has live tt) inner));
      dead_inner = λ row level d has dead waits inner.
          subst (AllByRecursion (Is (Later d) level)) (sym (spans_stay row has (later_of row (Dead d) dead (omega arith))))
          (all_map (Was (Later d) level) (Is (Later d) level) (λ x c. later_child d level x waits c) (spans_at kind s.tree.table row (e row)) (known.dead_inner row level d has (was row (Dead d) has dead (omega arith)) waits inner));
    }

    -- what passes rely on
    left_goes : Goes kind s u e e m m
    left_goes = record {
      rows = refl;
      width = refl;
      cleared = omega arith;
      count = (omega arith, omega arith);
      past = λ k le. refl;
      later = λ row d has waits le later. stays_later row d has waits later;
      place = λ row d has waits later. (
        refl,
        λ c above low.
            let same = leaves.slots row has (any (life_of lives row) d (stays_later row d has waits later)) c above low in ((λ _. same), ap (λ (n : ℕ). n == 0) same),
      );
      dead = λ row d has waits dead. ⊎_elim
          (λ (same : life_of lives row ≡ life_of s.lives row). same ∙ dead)
          (λ (draft : Drafts row). let free : d ≤ s.cleared = subst (IsFree s.cleared) dead draft.1 in absurd (omega arith))
          (leaves.life row has);
      frozen = λ row d c has waits dead inside. leaves.frozen row d c has dead waits inside;
    }

    pub left_both : Known kind u e m × Goes kind s u e e m m
    left_both = (left, left_goes)

-- ---- the words of a row and of others

module _ (t : Rooted) (row col word : ℕ) (at : IsPlace t row col) where
  abbrev put : Table
  put = record { width = t.table.width; words = slice_set t.table.words (base_of t.table row + col) word }

  pub row_others : (other c : ℕ) → other ≢ row → c < columns t.table.width → column put other c ≡ column t.table other c
  row_others other c off inside = get_or-set_other t.table.words (base_of t.table row + col) (base_of t.table other + c) word 0 (other_place t.table.width row other c col off inside at.column)

  pub col_others : (other c : ℕ) → c ≢ col → c < columns t.table.width → column put other c ≡ column t.table other c
  col_others other c off inside = get_or-set_other t.table.words (base_of t.table row + col) (base_of t.table other + c) word 0 (other_column t.table.width row other c col off inside at.column)

  fits : length t.table.words ≡ columns t.table.width * (first_row + t.rows) → base_of t.table row + col < length t.table.words
  fits long = let low = place_within t.table.width row (first_row + t.rows) col at.last at.column in omega (arith, long)

  col_here : length t.table.words ≡ columns t.table.width * (first_row + t.rows) → column put row col ≡ word
  col_here long = get_or-set_same t.table.words (base_of t.table row + col) word 0 (fits long)

-- ---- draft

pub draft_leaves : (kind : Kind) (s : Sheet) (row col word : ℕ) (e : ℕ → Extent) (m : ℕ → Moment) → IsFull (state_of s) → IsPlace s.tree row col → IsFree s.cleared (life_of s.lives row) → Known kind (state_of s) e m
    → Known kind (state_of (drafted s row col word)) e m × Goes kind (state_of s) (state_of (drafted s row col word)) e e m m
draft_leaves kind s row col word e m full at free known =
    left_both kind (state_of s) e m known (drafted s row col word).tree.table.words (drafted s row col word).lives s.buried (record {
      life = λ r has. ⊎_elim
          (λ (here : r ≡ row). inr (subst (λ (n : ℕ). (life_of (drafted s row col word).lives n ≡ Draft) × IsFree s.cleared (life_of s.lives n)) (sym here) (drafts, free)))
          (λ (off : r ≢ row). inl (other r off))
          (cases_eq r row);
      slots = λ r has later c above low. row_others s.tree row col word at r c (off r later) (two_slots s.tree.table.width (kind_at kind (e r).level) c low);
      frozen = λ r d c has dead waits inside.
          let apart : r ≢ row = λ here. let free_here : d ≤ s.cleared = subst (IsFree s.cleared) (ap (life_of s.lives) (sym here) ∙ dead) free in absurd (omega arith) in
          row_others s.tree row col word at r c apart inside;
      buried = λ r has is.
          let was = known.buried r has is in
          let apart : r ≢ row = λ here. subst (IsFree s.cleared) (ap (life_of s.lives) (sym here) ∙ was.0) free in
          (other r apart ∙ was.0, row_others s.tree row col word at r 0 apart (some_columns s.tree.table.width) ∙ was.1, was.2, was.3);
      unmarked = λ r has live not.
          let apart = off r (subst (Later 0) (sym live) tt) in
          λ marked. known.unmarked r has (sym (other r apart) ∙ live) not (sym (row_others s.tree row col word at r 0 apart (some_columns s.tree.table.width)) ∙ marked);
    })
  where
    drafts : life_of (drafted s row col word).lives row ≡ Draft
    drafts = get_or-set_same s.lives row Draft New (let long = full.lives in let last = at.last in omega arith)

    other : (r : ℕ) → r ≢ row → life_of (drafted s row col word).lives r ≡ life_of s.lives r
    other r off = get_or-set_other s.lives row r Draft New off

    off : (r : ℕ) → Later 0 (life_of (drafted s row col word).lives r) → r ≢ row
    off r later = λ here. subst (Later 0) (ap (life_of (drafted s row col word).lives) here ∙ drafts) later

-- ---- bury

pub bury_leaves : (kind : Kind) (s : Sheet) (row : ℕ) (e : ℕ → Extent) (m : ℕ → Moment) → IsFull (state_of s) → MayBury s row → Known kind (state_of s) e m
    → Known kind (state_of (after_bury s row)) e m × Goes kind (state_of s) (state_of (after_bury s row)) e e m m
bury_leaves kind s row e m full may known =
    left_both kind (state_of s) e m known (after_bury s row).tree.table.words s.lives (after_bury s row).buried (record {
      life = λ r has. inl refl;
      slots = λ r has later c above low. col_others s.tree row 0 (dead_mark row) may.at r c (λ same. omega arith) (two_slots s.tree.table.width (kind_at kind (e r).level) c low);
      frozen = λ r d c has dead waits inside.
          let apart : r ≢ row = λ here. let both : Dead d ≡ Live = sym dead ∙ (ap (life_of s.lives) here ∙ may.live) in absurd cc in
          row_others s.tree row 0 (dead_mark row) may.at r c apart inside;
      buried = λ r has is. ⊎_elim
          (λ (here : r ≡ row).
          subst (λ (n : ℕ). (life_of s.lives n ≡ Live) × (word_at (after_bury s row).tree n 0 ≡ dead_mark n) × (s.in_flight ≡ true) × (s.published ≡ false)) (sym here)
          (may.live, col_here s.tree row 0 (dead_mark row) may.at full.words, may.in_flight, may.before))
          (λ (apart : r ≢ row). let was = known.buried r has (sym (mark r apart) ∙ is) in (was.0, parent r apart ∙ was.1, was.2, was.3))
          (cases_eq r row);
      unmarked = λ r has live not. ⊎_elim
          (λ (here : r ≡ row). absurd (true_false (is_buried (after_bury s row).buried r) (ap (is_buried (after_bury s row).buried) here ∙ buried_here) not))
          (λ (apart : r ≢ row). λ marked. known.unmarked r has live (sym (mark r apart) ∙ not) (sym (parent r apart) ∙ marked))
          (cases_eq r row);
    })
  where
    parent : (r : ℕ) → r ≢ row → word_at (after_bury s row).tree r 0 ≡ word_at s.tree r 0
    parent r apart = row_others s.tree row 0 (dead_mark row) may.at r 0 apart (some_columns s.tree.table.width)

    mark : (r : ℕ) → r ≢ row → is_buried (after_bury s row).buried r ≡ is_buried s.buried r
    mark r apart = get_or-set_other s.buried row r true false apart

    buried_here : is_buried (after_bury s row).buried row ≡ true
    buried_here = get_or-set_same s.buried row true false (let long = full.buried in let last = may.at.last in omega arith)

-- ---- tend

-- what stands below a row whose place is known has a place that is known
module _ (kind : Kind) (s : State) (e : ℕ → Extent) (m : ℕ → Moment) (known : Known kind s e m) where
  abbrev Fits : ℕ → Span → Type 0
  Fits level x = Child kind s.tree.rows s.lives e IsLive level x

  below_fits : (d level : ℕ) (top x : Span) → Fits level top → IsBelow s.tree.table d top x → (l : ℕ) × Fits l x
  below_fits zero level top x fits below = (level, subst (Fits level) (sym below) fits)
  below_fits (suc d) zero top x fits below = absurd (below.0 fits.named)
  below_fits (suc d) (suc level) top x fits below =
      let rest = below.1 in
      let children = children_known kind s e m known level top fits in
      below_fits d level rest.1 x (all_one_of (Fits level) (spans_in s.tree.table top) rest.1 children (one_of_get (spans_in s.tree.table top) rest.0 rest.1 rest.2)) rest.3

  nothing_below : (d : ℕ) (x : Span) → IsBelow s.tree.table d (root_span s.tree.table 0) x → named_kind x.word ≢ Some kinds.Gapped
  nothing_below zero x below = λ gapped. let none : None ≡ Some kinds.Gapped = sym (ap (λ (y : Span). named_kind y.word) below) ∙ gapped in cc
  nothing_below (suc d) x below = λ gapped. let none : None ≡ Some below.1.1 = below.1.2 in cc

  -- a row whose gap may be tended is known, and has gaps
  pub gap_fits : (row col : ℕ) (gap : IsGapOf s.tree row col) → (l : ℕ) × Fits l gap.at
  gap_fits row col gap =
      let some : s.tree.root ≢ 0 = λ empty. nothing_below gap.depth gap.at (subst (λ (r : ℕ). IsBelow s.tree.table gap.depth (root_span s.tree.table r) gap.at) empty gap.reached) gap.gapped in
      let root = known.root some in
      below_fits gap.depth root.0 (root_span s.tree.table s.tree.root) gap.at root.2 gap.reached

  pub gap_row : (row col : ℕ) → IsGapOf s.tree row col → Some (kind_at kind (e row).level) ≡ Some kinds.Gapped
  gap_row row col gap =
      let fits = gap_fits row col gap in
      ap (λ (n : ℕ). Some (kind_at kind (e n).level)) (sym gap.number) ∙ (ap (λ (n : Extent). Some (kind_at kind n.level)) fits.1.extent ∙ (sym fits.1.named ∙ gap.gapped))

pub tend_leaves : (kind : Kind) (s : Sheet) (row col word : ℕ) (e : ℕ → Extent) (m : ℕ → Moment) → IsFull (state_of s) → MayTend s row col word → Known kind (state_of s) e m
    → Known kind (state_of (tended s row col word)) e m × Goes kind (state_of s) (state_of (tended s row col word)) e e m m
tend_leaves kind s row col word e m full may known =
    left_both kind (state_of s) e m known (tended s row col word).tree.table.words s.lives s.buried (record {
      life = λ r has. inl refl;
      slots = λ r has later c above low. let inside = two_slots s.tree.table.width (kind_at kind (e r).level) c low in ⊎_elim
          (λ (parent : col ≡ 0). col_others s.tree row col word may.at r c (λ same. omega arith) inside)
          (λ (gap : IsGapOf s.tree row col). ⊎_elim
          (λ (here : r ≡ row). col_others s.tree row col word may.at r c
          (λ same. gap_above s.tree.table.width (kind_at kind (e r).level) c gap.slot (ap (λ (n : ℕ). Some (kind_at kind (e n).level)) here ∙ gap_row kind (state_of s) e m known row col gap) low (same ∙ gap.column)) inside)
          (λ (apart : r ≢ row). row_others s.tree row col word may.at r c apart inside)
          (cases_eq r row))
          may.column;
      frozen = λ r d c has dead waits inside.
          let apart : r ≢ row = λ here. let both : Dead d ≡ Live = sym dead ∙ (ap (life_of s.lives) here ∙ may.live) in absurd cc in
          row_others s.tree row col word may.at r c apart inside;
      buried = λ r has is.
          let apart : r ≢ row = λ here. true_false (is_buried s.buried r) is (ap (is_buried s.buried) here ∙ may.kept) in
          let was = known.buried r has is in (was.0, parent r apart ∙ was.1, was.2, was.3);
      unmarked = λ r has live not. λ marked. ⊎_elim
          (λ (here : r ≡ row). ⊎_elim
          (λ (zero_col : col ≡ 0).
          may.alive zero_col (sym (subst (λ (n : ℕ). word_at (tended s row col word).tree row n ≡ word) zero_col (col_here s.tree row col word may.at full.words))
          ∙ subst (λ (n : ℕ). word_at (tended s row col word).tree n 0 ≡ dead_mark n) here marked))
          (λ (other : col ≢ 0). known.unmarked r has live not (sym (col_others s.tree row col word may.at r 0 (λ same. other (sym same)) (some_columns s.tree.table.width)) ∙ marked))
          (cases_eq col 0))
          (λ (apart : r ≢ row). known.unmarked r has live not (sym (parent r apart) ∙ marked))
          (cases_eq r row);
    })
  where
    parent : (r : ℕ) → r ≢ row → word_at (tended s row col word).tree r 0 ≡ word_at s.tree r 0
    parent r apart = row_others s.tree row col word may.at r 0 apart (some_columns s.tree.table.width)
