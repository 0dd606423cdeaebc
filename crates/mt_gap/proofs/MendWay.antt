-- Gap words mended on the way to an index: what holds from one row to the next.
use Rattle.mt_gap.proofs.Prelude.{◌≡◌, ◌≢◌, ℕ, zero, suc, ◌+◌, ◌-◌, ◌*◌, ◌^◌, ◌<◌, ◌≤◌, ◌==◌, List, [], ◌∷◌, Bool, true, false, Some, length, refl, sym, ap, ◌∙◌, subst, ⊎_elim, inl, inr, arith, get_or-set_other, ◌⊎◌, slice_index, slice_set, AllByRecursion, flat_map, cases_Bool, cases_eq, Width, columns, deepest, greatest, first_row, greatest_fits, RowKind, Leaf, Gapped, Span, gap_column, row_in, named_kind, slots_of, Fills, leaf_range, longest_in, Names-named_kind, same_place, some_columns, some_slots_of, gap_within, fills_le, PathStep, step_in, slot_for, step_at, path_in, row_of, step_of, levels, step, place, lawful, reached, HasGaps, Tree, IsRow, Stands, GapLaw, kind_on, longest_below, top_of, Levels, times, is_row_of, tree_on, LiveAreReached, NoneBuried, root_of, Rooted, Sheet, MayTend, IsWhole, life_of, is_buried, with_word, word_at, loaded, root_span, spans_in, spans_by, row_spans, row_most, height_by_depth, levels_here, levels_map, Shared, times_shared, OnLevel, on_level_reached, times_reached, reached_number, Live, told_by, IsGapOn, KeepsWordsBut, OnlyWords, IsWay, MayTell, MayMend, IsMended, IsAtLevel}
use Rattle.mt_gap.proofs.Mending.{IsMendedUpTo, on, is_step, is_used, told, mended_next, begun_mending, all_mended}
use Rattle.mt_gap.proofs.GapWords.{tells_all}
use Rattle.mt_gap.proofs.AtLevel.{width_same, within_then, one_up, at_stored}

pub other_word : (width : Width) (words : List ℕ) (row col arow acol word : ℕ) → col < columns width → acol < columns width → (row ≡ arow → col ≡ acol → ⊥)
    → slice_index (slice_set words (columns width * arow + acol) word) (columns width * row + col) ≡ slice_index words (columns width * row + col)
other_word width words row col arow acol word low alow other = get_or-set_other words (columns width * arow + acol) (columns width * row + col) word 0 (λ e. let same = same_place (columns width) arow row col acol low alow e in other same.0 same.1)

-- where one gap word more is stored, each other word is as it was
pub gap_stored : (was r : Rooted) (arow slot gap row col : ℕ) (Gap : Type 0) → r.table.width ≡ was.table.width → slot < slots_of r.table.width Gapped → col < columns was.table.width
    → (word_at r row col ≡ word_at was row col) ⊎ Gap → (row ≡ arow → col ≡ gap_column (slots_of r.table.width Gapped) slot → Gap)
    → (word_at (with_word r arow (gap_column (slots_of r.table.width Gapped) slot) gap) row col ≡ word_at was row col) ⊎ Gap
gap_stored was r arow slot gap row col Gap same low inside kept here = ⊎_elim
    (λ (same_row : row ≡ arow). ⊎_elim
    (λ (same_col : col ≡ gap_column (slots_of r.table.width Gapped) slot). inr (here same_row same_col))
    (λ (other : col ≡ gap_column (slots_of r.table.width Gapped) slot → ⊥). unchanged (λ e e'. other e'))
    (cases_eq col (gap_column (slots_of r.table.width Gapped) slot)))
    (λ (other : row ≡ arow → ⊥). unchanged (λ e e'. other e))
    (cases_eq row arow)
  where
    unchanged : (row ≡ arow → col ≡ gap_column (slots_of r.table.width Gapped) slot → ⊥) → (word_at (with_word r arow (gap_column (slots_of r.table.width Gapped) slot) gap) row col ≡ word_at was row col) ⊎ Gap
    unchanged other = subst (λ (n : ℕ). (n ≡ word_at was row col) ⊎ Gap)
        (sym (other_word r.table.width r.table.words row col arow (gap_column (slots_of r.table.width Gapped) slot) gap (subst (λ (w : Width). col < columns w) (sym same) inside) (gap_within r.table.width slot low) other)) kept

-- ---- what a leaf may tell

longest_low : (lo hi : ℕ) (xs : List Span) → Fills lo hi xs → longest_in xs ≤ hi - lo
longest_low lo hi [] fills = omega arith
longest_low lo hi (x ∷ xs) fills =
    let begins = fills.0 in let order = fills.1 in
    let rest = longest_low (x.last + 1) hi xs fills.2 in
    let end = fills_le (x.last + 1) hi xs fills.2 in
    elim (cases_Bool (x.word == 0)) [ inl hole ↦ rw hole (omega arith) | inr entry ↦ rw entry (omega arith) ]

-- where an entry stands no hole covers all
longest_less : (lo hi : ℕ) (xs : List Span) → Fills lo hi xs → flat_map leaf_range xs ≢ [] → longest_in xs < hi - lo
longest_less lo hi [] fills some = absurd (some refl)
longest_less lo hi (x ∷ xs) fills some =
    let begins = fills.0 in let order = fills.1 in
    let rest = longest_low (x.last + 1) hi xs fills.2 in
    let end = fills_le (x.last + 1) hi xs fills.2 in
    elim (cases_Bool (x.word == 0)) [
      | inl hole ↦ (let behind = longest_less (x.last + 1) hi xs fills.2 (rw hole at some) in rw hole (omega arith))
      | inr entry ↦ rw entry (omega arith)
    ]

all_rise : (lo hi : ℕ) (xs : List Span) → Fills lo hi xs → AllByRecursion (λ (x : Span). x.first ≤ x.last) xs
all_rise lo hi [] fills = tt
all_rise lo hi (x ∷ xs) fills = let begins = fills.0 in let order = fills.1 in (omega arith, all_rise (x.last + 1) hi xs fills.2)

pub row_may_tell : (r : Rooted) (k index : ℕ) (c : Span) → IsRow (tree_on true r) k c → c.last ≤ greatest r.table.width → MayTell (kind_on true k) r.table (step_in r.table c index)
row_may_tell r zero index c row low =
    let is : spans_in r.table c ≡ row_spans r.table (row_in c.word) Leaf c.first c.last = ap (λ k. spans_by r.table k c) row.name.named in
    let less = longest_less c.first (c.last + 1) (spans_in r.table c) row.pivots.fills row.holes.some in
    let fits = greatest_fits r.table.width in
    subst (λ (l : List Span). (longest_in l < 2 ^ 64) × AllByRecursion (λ (x : Span). x.first ≤ x.last) l) is (omega arith, all_rise c.first (c.last + 1) (spans_in r.table c) row.pivots.fills)
row_may_tell r (suc k) index c row low = tells_all r.table (row_in c.word) c.last row.pivots.unused c.first

-- ---- from row to row

pub record HasMended (s s' : Sheet) (path : List PathStep) (kind : RowKind) (level : ℕ) : Type 0 where
  pub index : ℕ
  pub height : ℕ
  pub done : ℕ
  pub at : IsAtLevel s s' path kind level index height done
  pub mended : Levels (IsMendedUpTo index done (tree_on true s'.tree)) s'.tree.table height (root_of (tree_on true s'.tree))
  pub words : KeepsWordsBut s.tree s'.tree path
  pub live : LiveAreReached s.tree s.lives
  pub none_buried : NoneBuried s.tree.rows s.buried

module _ (s s' : Sheet) (path : List PathStep) (kind : RowKind) (d : ℕ) (m : HasMended s s' path kind (d + 2)) (whole : IsWhole s') where
  abbrev r : Rooted
  r = s'.tree

  abbrev t : Tree
  t = tree_on true s'.tree

  abbrev x : Span
  x = row_of t d m.index

  abbrev y : Span
  y = row_of t (suc d) m.index

  abbrev above : PathStep
  above = step_at path d

  abbrev low_step : PathStep
  low_step = step_at path (d + 1)

  within' : m.index ≤ top_of t
  within' = within_then m.at

  high : m.height ≡ d + suc m.done
  high = let levels = m.at.level.levels_are in omega arith

  above_is : step_at path d ≡ step_in r.table x m.index
  above_is = ap (λ (l : List PathStep). step_at l d) m.at.steps ∙ is_step r m.height whole.words m.at.stands m.index d m.done within' high

  low_is : step_at path (d + 1) ≡ step_in r.table y m.index
  low_is =
      let at : d + 1 ≡ suc d = omega arith in
      ap (λ (l : List PathStep). step_at l (d + 1)) m.at.steps ∙ (ap (λ (n : ℕ). step_of t n m.index) at ∙ step t m.height m.at.stands m.index (suc d) within' (let h = high in omega arith))

  y_row : IsRow t m.done y
  y_row = lawful t m.height m.at.stands m.index (suc d) m.done within' (let h = high in omega arith)

  x_row : IsRow t (suc m.done) x
  x_row = lawful t m.height m.at.stands m.index d (suc m.done) within' high

  y_low : y.last ≤ top_of t
  y_low = let at = place t m.height m.at.stands m.index (suc d) within' (let h = high in omega arith) in let end = fills_le (y.last + 1) (top_of t + 1) at.back at.after in omega arith

  abbrev slot : ℕ
  slot = slot_for (spans_in r.table x) m.index

  used : slot < length (spans_in r.table x)
  used = is_used r m.height whole.words m.at.stands m.index d m.done within' high

  slot_low : slot < slots_of r.table.width Gapped
  slot_low = let few = row_most x_row.name in let u = used in omega arith

  x_live : life_of s'.lives (row_in x.word) ≡ Live
  x_live =
      let times' = on_level_reached t m.height m.at.stands (suc m.done) x (on r m.height whole.words m.at.stands m.index d m.done within' high) in
      let same = times_shared (is_row_of (row_in x.word)) s.tree.table s'.tree.table m.height (root_of (tree_on true s.tree)) m.at.spans in
      let root_same : root_of t ≡ root_of (tree_on true s.tree) = (λ i. root_span (m.at.only i).tree.table (m.at.only i).tree.root ∷ []) in
      let times₀ : 1 ≤ times (is_row_of (row_in x.word)) s.tree.table m.height (root_of (tree_on true s.tree)) =
      subst (λ (n : ℕ). 1 ≤ n) (ap (times (is_row_of (row_in x.word)) s'.tree.table m.height) root_same ∙ same) times' in
      let number = reached_number (tree_on true s.tree) m.height m.at.level.stood (row_in x.word) times₀ in
      ap (λ (v : Sheet). life_of v.lives (row_in x.word)) m.at.only
      ∙ (m.live (row_in x.word) number.0 number.1).1 (times_reached (tree_on true s.tree) m.height m.at.level.stood (row_in x.word) times₀)

  x_kept : is_buried s'.buried (row_in x.word) ≡ false
  x_kept =
      ap (λ (v : Sheet). is_buried v.buried (row_in x.word)) m.at.only
      ∙ m.none_buried (row_in x.word) (Names-named_kind x.word (kind_on true (suc m.done)) x_row.name.named).0.0
      (subst (λ (n : ℕ). row_in x.word < first_row + n) (ap (λ (v : Sheet). v.tree.rows) m.at.only) x_row.name.in_table)

  may_tend_it : (gap : ℕ) → MayTend s' (row_in x.word) (gap_column (slots_of r.table.width Gapped) slot) gap
  may_tend_it gap = record {
    at = record { first = (Names-named_kind x.word (kind_on true (suc m.done)) x_row.name.named).0.0; last = x_row.name.in_table; column = gap_within r.table.width slot slot_low };
    live = x_live;
    kept = x_kept;
    column = inr (record { depth = d; at = x; slot = slot; reached = reached t m.height m.at.stands m.index d within' (let h = high in omega arith); gapped = x_row.name.named; number = refl; used = used; column = refl });
    alive = λ none. absurd (let some = some_slots_of r.table.width Gapped in omega arith);
  }

  pub may_mend : MayMend s' kind (step_at path d) (step_at path (d + 1))
  may_mend =
      subst (λ (p : PathStep × PathStep). MayMend s' kind p.0 p.1) (λ i. (sym above_is i, sym low_is i)) (record {
        place = record { first = (Names-named_kind y.word (kind_on true m.done) y_row.name.named).0.0; last = y_row.name.in_table; column = some_columns r.table.width };
        tells = subst (λ (k : RowKind). MayTell k r.table (step_in r.table y m.index)) (sym m.at.level.kind_is) (row_may_tell r m.done m.index y y_row y_low);
        slot = slot_low;
        tend = may_tend_it;
      })

  module _ (s'' : Sheet) (mended : IsMended s' s'' kind (step_at path d) (step_at path (d + 1))) where
    abbrev gap : ℕ
    gap = told_by kind r.table (step_at path (d + 1))

    gap_is : gap ≡ longest_below r.table m.done (y ∷ [])
    gap_is =
        let at : d + 1 ≡ suc d = omega arith in
        ap (λ (k : RowKind). told_by k r.table (step_at path (d + 1))) m.at.level.kind_is
        ∙ (ap (told_by (kind_on true m.done) r.table) (ap (λ (l : List PathStep). step_at l (d + 1)) m.at.steps ∙ ap (λ (n : ℕ). step_of t n m.index) at)
        ∙ told r m.height whole.words m.at.stands m.index d m.done within' high m.mended)

    at_row : OnLevel r.table m.height (root_of t) (suc m.done) x
    at_row = on r m.height whole.words m.at.stands m.index d m.done within' high

    abbrev r' : Rooted
    r' = with_word r (row_in x.word) (gap_column (slots_of r.table.width Gapped) slot) gap

    stored : s'' ≡ record s' { tree = r'; reads = s''.reads }
    stored = mended ∙ (λ i. record s' { tree = with_word r (above_is i).row (gap_column (slots_of r.table.width Gapped) (above_is i).slot) gap; reads = s''.reads })

    keeps : KeepsWordsBut s.tree r' path
    keeps row col low = gap_stored s.tree r (row_in x.word) slot gap row col (IsGapOn s.tree path row col) (width_same m.at) slot_low low (m.words row col low) (λ same_row same_col. record {
      level = d;
      above = (let many = ap length m.at.steps ∙ levels t m.height m.at.stands m.index within' in let h = high in omega arith);
      row_is = same_row ∙ sym (ap (λ (p : PathStep). p.row) above_is);
      col_is = same_col ∙ (λ i. gap_column (slots_of (width_same m.at i) Gapped) (sym above_is i).slot);
    })

    pub mended_one : HasMended s s'' path Gapped (d + 1)
    mended_one = record {
      index = m.index;
      height = m.height;
      done = suc m.done;
      at = one_up (at_stored m.at whole x at_row slot gap used s'' stored) d refl;
      mended = subst (λ (v : Rooted). Levels (IsMendedUpTo m.index (suc m.done) (tree_on true v)) v.table m.height (root_of (tree_on true v))) (sym (ap (λ (v : Sheet). v.tree) stored))
          (mended_next r m.height whole.words m.at.stands m.index d m.done within' high m.mended gap gap_is);
      words = subst (λ (v : Rooted). KeepsWordsBut s.tree v path) (sym (ap (λ (v : Sheet). v.tree) stored)) keeps;
      live = m.live;
      none_buried = m.none_buried;
    }

-- ---- the first and the last

abbrev pub RootIs : Sheet → RowKind → Type 0
RootIs s kind = named_kind s.tree.root ≡ Some kind

pub not_gapped : (h : ℕ) → Some (kind_on false h) ≡ Some Gapped → ⊥
not_gapped zero same = absurd (cc)
not_gapped (suc h) same = absurd (cc)

pub root_named : (gapped : Bool) (s : Sheet) (h : ℕ) → Stands (tree_on gapped s.tree) h → RootIs s (kind_on gapped h)
root_named gapped s h stands = (levels_here (IsRow (tree_on gapped s.tree)) s.tree.table h (root_of (tree_on gapped s.tree)) stands.rows).0.name.named

pub no_root : (s : Sheet) → s.tree.root ≡ 0 → RootIs s Gapped → ⊥
no_root s empty root = let none : named_kind 0 ≡ Some Gapped = subst (λ (w : ℕ). named_kind w ≡ Some Gapped) empty root in absurd (cc)

pub no_plain : (s : Sheet) (path : List PathStep) (leaf : ℕ) → IsWay false s path leaf → RootIs s Gapped → ⊥
no_plain s path leaf way root = elim way.gaps [ inl empty ↦ no_root s empty root | inr full ↦ not_gapped full.0 (sym (root_named false s full.0 full.1) ∙ root) ]

pub only_loaded : (s s' : Sheet) → s' ≡ loaded s → OnlyWords s s'
only_loaded s s' is = subst (OnlyWords s) (sym is) refl

pub words_loaded : (s s' : Sheet) (path : List PathStep) → s' ≡ loaded s → KeepsWordsBut s.tree s'.tree path
words_loaded s s' path is = λ row col low. inl (ap (λ (v : Sheet). word_at v.tree row col) is)

pub shared_self : (gapped : Bool) (s : Sheet) (h : ℕ) → Stands (tree_on gapped s.tree) h → Levels (Shared s.tree.table s.tree.table) s.tree.table h (root_of (tree_on gapped s.tree))
shared_self gapped s h stands = levels_map (IsRow (tree_on gapped s.tree)) (Shared s.tree.table s.tree.table) s.tree.table (λ h x row. refl) h (root_of (tree_on gapped s.tree)) stands.rows

pub spans_loaded : (s s' : Sheet) (gapped : Bool) (h : ℕ) → s' ≡ loaded s → Stands (tree_on gapped s.tree) h → Levels (Shared s.tree.table s'.tree.table) s.tree.table h (root_of (tree_on gapped s.tree))
spans_loaded s s' gapped h is stands = subst (λ (v : Sheet). Levels (Shared s.tree.table v.tree.table) s.tree.table h (root_of (tree_on gapped s.tree))) (sym is) (shared_self gapped s h stands)

-- before the first row nothing is stored
pub begun_at : (s s' : Sheet) (path : List PathStep) (index height : ℕ) → Stands (tree_on true s.tree) height → s' ≡ loaded s → index ≤ greatest s.tree.table.width → (left : ℕ) → left ≡ height + 1 → path ≡ path_in s.tree.table s.tree.root index
    → IsAtLevel s s' path Leaf left index height 0
begun_at s s' path index height stands is within left all steps = record {
  level = record { within = within; low = omega (arith, all); levels_are = omega (arith, all); kind_is = refl; stood = stands };
  stands = subst (λ (v : Sheet). Stands (tree_on true v.tree) height) (sym is) stands;
  steps = subst (λ (v : Sheet). path ≡ path_in v.tree.table v.tree.root index) (sym is) steps;
  only = only_loaded s s' is;
  spans = spans_loaded s s' true height is stands;
}

begin_gapped : (s s' : Sheet) (path : List PathStep) (leaf : ℕ) (way : IsWay true s path leaf) → RootIs s Gapped → s' ≡ loaded s → HasMended s s' (path_in s.tree.table s.tree.root way.index) Leaf (length path)
begin_gapped s s' path leaf way root is = elim way.gaps [
  | inl empty ↦ absurd (no_root s empty root)
  | inr full ↦ (let many = way.steps.many ∙ levels (tree_on true s.tree) full.0 full.1 way.index way.within in record {
    index = way.index;
    height = full.0;
    done = 0;
    at = begun_at s s' (path_in s.tree.table s.tree.root way.index) way.index full.0 full.1 is way.within (length path) (omega arith) refl;
    mended = subst (λ (v : Sheet). Levels (IsMendedUpTo way.index 0 (tree_on true v.tree)) v.tree.table full.0 (root_of (tree_on true v.tree))) (sym is)
        (begun_mending way.is_new way.index full.0 (tree_on true s.tree) full.2);
    words = words_loaded s s' (path_in s.tree.table s.tree.root way.index) is;
    live = way.live;
    none_buried = way.none_buried;
  })
]

pub begin_way : (gapped : Bool) (s s' : Sheet) (path : List PathStep) (leaf : ℕ) (way : IsWay gapped s path leaf) → RootIs s Gapped → s' ≡ loaded s → HasMended s s' (path_in s.tree.table s.tree.root way.index) Leaf (length path)
begin_way false s s' path leaf way root is = absurd (no_plain s path leaf way root)
begin_way true s s' path leaf way root is = begin_gapped s s' path leaf way root is

-- where the root has gaps, the leaf stands below it
pub two_levels : (gapped : Bool) (s : Sheet) (path : List PathStep) (leaf : ℕ) → IsWay gapped s path leaf → RootIs s Gapped → 2 ≤ length path
two_levels false s path leaf way root = absurd (no_plain s path leaf way root)
two_levels true s path leaf way root = elim way.gaps [
  | inl empty ↦ absurd (no_root s empty root)
  | inr full ↦ (let many = way.steps.many ∙ levels (tree_on true s.tree) full.0 full.1 way.index way.within in let tall = some_levels full.0 (root_named true s full.0 full.1) in omega arith)
]
  where
    some_levels : (h : ℕ) → RootIs s (kind_on true h) → 1 ≤ h
    some_levels zero named = absurd (let both : Some Leaf ≡ Some Gapped = sym named ∙ root in cc)
    some_levels (suc h) named = omega arith

pub end_way : (gapped : Bool) (s s' : Sheet) (path : List PathStep) (leaf : ℕ) (steps : List PathStep) (k : RowKind) (level : ℕ) → IsWay gapped s path leaf → RootIs s Gapped → HasMended s s' steps k level → level ≤ 1 → HasGaps (tree_on gapped s'.tree)
end_way false s s' path leaf steps k level way root m last = absurd (no_plain s path leaf way root)
end_way true s s' path leaf steps k level way root m last =
    let low = m.at.level.low in let levels = m.at.level.levels_are in
    let all : m.done ≡ m.height = omega arith in
    all_mended s'.tree m.index m.height m.at.stands (subst (λ (n : ℕ). Levels (IsMendedUpTo m.index n (tree_on true s'.tree)) s'.tree.table m.height (root_of (tree_on true s'.tree))) all m.mended)

pub end_spans : (gapped : Bool) (s s' : Sheet) (path : List PathStep) (k : RowKind) (level h : ℕ) → HasMended s s' path k level → Stands (tree_on gapped s.tree) h → Levels (Shared s.tree.table s'.tree.table) s.tree.table h (root_of (tree_on gapped s.tree))
end_spans gapped s s' path k level h m stands =
    let tall = height_by_depth (tree_on true s.tree) deepest m.height (root_span s.tree.table s.tree.root) m.at.level.stood.low m.at.level.stood.rows in
    let tall' = height_by_depth (tree_on gapped s.tree) deepest h (root_span s.tree.table s.tree.root) stands.low stands.rows in
    let same : m.height ≡ h = omega arith in
    subst (λ (n : ℕ). Levels (Shared s.tree.table s'.tree.table) s.tree.table n (root_of (tree_on gapped s.tree))) same m.at.spans

-- where the root has no gaps there is nothing to be mended
pub plain_row : (s : Sheet) (h : ℕ) (x : Span) → GapLaw (tree_on false s.tree) h x
plain_row s zero x = tt
plain_row s (suc h) x = tt

pub plain_law : (gapped : Bool) (s : Sheet) (h : ℕ) → Stands (tree_on gapped s.tree) h → (RootIs s Gapped → ⊥) → Levels (GapLaw (tree_on gapped s.tree)) s.tree.table h (root_of (tree_on gapped s.tree))
plain_law false s h stands plain = levels_map (IsRow (tree_on false s.tree)) (GapLaw (tree_on false s.tree)) s.tree.table (λ l x row. plain_row s l x) h (root_of (tree_on false s.tree)) stands.rows
plain_law true s zero stands plain = (tt, tt)
plain_law true s (suc h) stands plain = absurd (plain (root_named true s (suc h) stands))

pub nothing_to_mend : (gapped : Bool) (s s' : Sheet) (path : List PathStep) (leaf : ℕ) → IsWay gapped s path leaf → (RootIs s Gapped → ⊥) → s' ≡ loaded s → HasGaps (tree_on gapped s'.tree)
nothing_to_mend gapped s s' path leaf way plain is = subst (λ (v : Sheet). HasGaps (tree_on gapped v.tree)) (sym is) (elim way.gaps [
  | inl empty ↦ inl empty
  | inr full ↦ inr (full.0, full.1, plain_law gapped s full.0 full.1 plain)
])

-- ---- by the number of rows that are left

module _ (s s' : Sheet) (path : List PathStep) (kind : RowKind) (level : ℕ) (m : HasMended s s' path kind level) where
  pub level_low : level ≤ length path
  level_low =
      let many = ap length m.at.steps ∙ levels (tree_on true s'.tree) m.height m.at.stands m.index (within_then m.at) in
      let levels = m.at.level.levels_are in
      omega arith

  module _ (more : 2 ≤ level) where
    left : level ≡ level - 1 - 1 + 2
    left = omega arith

    lower : level - 1 - 1 + 1 ≡ level - 1
    lower = omega arith

    there : HasMended s s' path kind (level - 1 - 1 + 2)
    there = subst (HasMended s s' path kind) left m

    pub may_mend_at : IsWhole s' → MayMend s' kind (step_at path (level - 1 - 1)) (step_at path (level - 1))
    may_mend_at whole = subst (λ (n : ℕ). MayMend s' kind (step_at path (level - 1 - 1)) (step_at path n)) lower (may_mend s s' path kind (level - 1 - 1) there whole)

    pub mended_at : IsWhole s' → (s'' : Sheet) → IsMended s' s'' kind (step_at path (level - 1 - 1)) (step_at path (level - 1)) → HasMended s s'' path Gapped (level - 1)
    mended_at whole s'' mended =
        subst (HasMended s s'' path Gapped) lower
        (mended_one s s' path kind (level - 1 - 1) there whole s'' (subst (λ (n : ℕ). IsMended s' s'' kind (step_at path (level - 1 - 1)) (step_at path n)) (sym lower) mended))
