-- The pen's stores in drafts and in columns that no reader follows: which rows are reached does not change, and all that the pen
-- knows stays true.
use Rattle.mt_rule.proofs.Prelude.{◌≡◌, ◌≢◌, ℕ, zero, suc, ◌<◌, ◌≤◌, ◌==◌, List, [], ◌∷◌, ◌++◌, Bool, true, length, refl, sym, ap, ◌∙◌, subst, ⊎_elim, arith, length-set, get_or-set_other, get_or-set_same, Some, none, slice_index, slice_set, nat_lt, AllByRecursion, flat_map, cases_eq, step, stepped, keeps, Allows, Kind, finds_room, deepest, kind_width, row_in, named_kind, dead_mark, Span, gap_above, Life, New, Draft, Live, Table, spans_in, root_span, tally, rows_of, reached_in, kind_at, IsTreeOf, LiveAreReached, IsPlace, IsFree, IsGapOf, MayBury, MayTend, HasDied, life_of, by_leaf, by_inner, Extent, IsFull, IsLive, HasRow, Child, Known, Goes, spans_at, SameSlots, spans_named, same_spans_at, two_slots, children_known, draft_stands, bury_stands, tend_stands, draft_leaves, bury_leaves, tend_leaves, row_others, col_others, gap_row, TableStart, PenPart, column_at, first_row_column, table_size, HasPen, pen_of, least_number, moment_at, rooted_in, pen_sheet, state_in, IsSoundPen, IsKept, pen_drafted, pen_buried, pen_tended, drafts, finds_drafted, buries, tends}
use Rattle.mt_life.specs.declared.views.Moment.{Moment}
use Rattle.mt_life.specs.Known.{State}
use Rattle.mt_rule.proofs.Carrying.{recast, carry, carries_life, stays_put, still_history, column_set, sections_set}
use Rattle.mt_rule.proofs.Writing.{M, unchanged}

-- ---- which rows are reached

-- words that leave the pivots and slots of live rows
module _ (kind : Kind) (s : State) (e : ℕ → Extent) (m : ℕ → Moment) (known : Known kind s e m) (words : List ℕ) where
  abbrev then : Table
  then = record { width = s.tree.table.width; words = words }

  abbrev LeaveLive : Type 0
  LeaveLive = (row : ℕ) → HasRow s.tree.rows row → life_of s.lives row ≡ Live → SameSlots s.tree.table then (kind_at kind (e row).level) row

  module _ (same : LeaveLive) where
    abbrev Fits : ℕ → Span → Type 0
    Fits level x = Child kind s.tree.rows s.lives e IsLive level x

    spans_kept : (level : ℕ) (x : Span) → Fits level x → spans_in then x ≡ spans_in s.tree.table x
    spans_kept level x fits =
        sym (spans_named kind then level x fits.named)
        ∙ (ap (spans_at kind then (row_in x.word)) (sym fits.extent)
        ∙ (same_spans_at kind s.tree.table.width s.tree.table.width s.tree.table.words words (row_in x.word) (e (row_in x.word)) refl (same (row_in x.word) fits.has fits.life)
        ∙ (ap (spans_at kind s.tree.table (row_in x.word)) fits.extent
        ∙ spans_named kind s.tree.table level x fits.named)))

    flat_kept : (f g : Span → List ℕ) (level : ℕ) → ((x : Span) → Fits level x → f x ≡ g x) → (xs : List Span) → AllByRecursion (Fits level) xs → flat_map f xs ≡ flat_map g xs
    flat_kept f g level each [] fit = refl
    flat_kept f g level each (x ∷ xs) fit = let here = each x fit.0 in let behind = flat_kept f g level each xs fit.1 in λ i. here i ++ behind i

    rows_kept : (depth level : ℕ) (x : Span) → Fits level x → rows_of then depth x ≡ rows_of s.tree.table depth x
    rows_kept zero level x fits = refl
    rows_kept (suc depth) zero x fits =
        by_leaf (named_kind x.word) (row_in x.word ∷ []) (row_in x.word ∷ flat_map (rows_of then depth) (spans_in then x)) fits.named
        ∙ sym (by_leaf (named_kind x.word) (row_in x.word ∷ []) (row_in x.word ∷ flat_map (rows_of s.tree.table depth) (spans_in s.tree.table x)) fits.named)
    rows_kept (suc depth) (suc level) x fits =
        by_inner (finds_room kind) (named_kind x.word) (row_in x.word ∷ []) (row_in x.word ∷ flat_map (rows_of then depth) (spans_in then x)) fits.named
        ∙ (ap (λ (xs : List ℕ). row_in x.word ∷ xs)
        (ap (flat_map (rows_of then depth)) (spans_kept (suc level) x fits)
        ∙ flat_kept (rows_of then depth) (rows_of s.tree.table depth) level (rows_kept depth level) (spans_in s.tree.table x) (children_known kind s e m known level x fits))
        ∙ sym (by_inner (finds_room kind) (named_kind x.word) (row_in x.word ∷ []) (row_in x.word ∷ flat_map (rows_of s.tree.table depth) (spans_in s.tree.table x)) fits.named))

    reached_kept : reached_in then s.tree.root ≡ reached_in s.tree.table s.tree.root
    reached_kept = ⊎_elim
        (λ (empty : s.tree.root ≡ 0). subst (λ (r : ℕ). reached_in then r ≡ reached_in s.tree.table r) (sym empty) refl)
        (λ (some : s.tree.root ≢ 0). let root = known.root some in rows_kept deepest root.0 (root_span s.tree.table s.tree.root) root.2)
        (cases_eq s.tree.root 0)

    -- rows that are live then were so, and those that were so are
    pub live_kept : (lives : List Life) → ((row : ℕ) → HasRow s.tree.rows row → (life_of lives row ≡ Live → life_of s.lives row ≡ Live) × (life_of s.lives row ≡ Live → life_of lives row ≡ Live))
        → LiveAreReached s.tree s.lives → LiveAreReached (record { rows = s.tree.rows; table = then; root = s.tree.root }) lives
    live_kept lives both live row first last =
        let reached = ap (λ (xs : List ℕ). nat_lt 0 (tally (λ (r : ℕ). r == row) xs)) reached_kept in
        let before = live row first last in let turn = both row (first, last) in (
          (λ is. reached ∙ before.0 (turn.0 is)),
          (λ is. turn.1 (before.1 (sym reached ∙ is))),
        )

-- ---- what the pen knows after a store that leaves its history

still_full : (e : ℕ → Extent) (p : PenPart) → IsSoundPen e p → IsFull (state_in p)
still_full e p sound = record { words = sound.words; lives = sound.lives; buried = sound.buried }

-- what the pen knows where nothing has changed but words, lives and buryings
pub written_sound : (e : ℕ → Extent) (p : PenPart) (words : List ℕ) (lives : List Life) (burials : List Bool) → IsSoundPen e p → let n : PenPart = record p { words = words; lives = lives; buried = burials } in
    Known p.shape.kind (state_in n) e (moment_at p.shape p.history) → IsTreeOf (rooted_in n) p.shape.kind → LiveAreReached (rooted_in n) lives
    → length words ≡ length p.words → length lives ≡ length p.lives → length burials ≡ length p.buried → ((row : ℕ) → HasDied p.ended p.in_flight (life_of lives row)) → IsSoundPen e n
written_sound e p words lives burials sound known tree live long all marks dead = record {
  history = (let h = sound.history in still_history p (record p { words = words; lives = lives; buried = burials }) h h.count h.calm h.few);
  known = known;
  tree = tree;
  live = live;
  rows = sound.rows;
  words = long ∙ sound.words;
  lives = all ∙ sound.lives;
  buried = marks ∙ sound.buried;
  dead = dead;
  some_pass = sound.some_pass;
  few_passes = sound.few_passes;
  passes = sound.passes;
  cleared = sound.cleared;
}

module _ (e : ℕ → Extent) (p : PenPart) (sound : IsSoundPen e p) where
  abbrev K : Kind
  K = p.shape.kind

  abbrev T : ℕ → Moment
  T = moment_at p.shape p.history

  abbrev Same : List ℕ → Type 0
  Same words = LeaveLive K (state_in p) e T sound.known words

  -- a draft
  module _ (row col word : ℕ) (at : IsPlace (rooted_in p) row col) (free : IsFree (least_number p.cleared) (life_of p.lives row)) where
    abbrev D : PenPart
    D = pen_drafted row col word p

    drafted_life : life_of D.lives row ≡ Draft
    drafted_life = get_or-set_same p.lives row Draft New (let all = sound.lives in let last = at.last in omega arith)

    other_life : (r : ℕ) → r ≢ row → life_of D.lives r ≡ life_of p.lives r
    other_life r off = get_or-set_other p.lives row r Draft New off

    off_live : (r : ℕ) → life_of p.lives r ≡ Live → r ≢ row
    off_live r live same = subst (IsFree (least_number p.cleared)) (ap (life_of p.lives) (sym same) ∙ live) free

    off_drafted : (r : ℕ) → life_of D.lives r ≡ Live → r ≢ row
    off_drafted r live same = let both : Live ≡ Draft = sym live ∙ (ap (life_of D.lives) same ∙ drafted_life) in absurd cc

    draft_life : Known K (state_in D) e T × Goes K (state_in p) (state_in D) e e T T
    draft_life = draft_leaves K (pen_sheet p) row col word e T (still_full e p sound) at free sound.known

    pub drafted_sound : IsSoundPen e D
    drafted_sound = written_sound e p D.words D.lives p.buried sound draft_life.0
        (draft_stands K (pen_sheet p) e T sound.known row col word at free sound.tree)
        (live_kept K (state_in p) e T sound.known D.words
        (λ r has live c above low. row_others (rooted_in p) row col word at r c (off_live r live) (two_slots (kind_width K) (kind_at K (e r).level) c low))
        D.lives
        (λ r has. ((λ live. sym (other_life r (off_drafted r live)) ∙ live), (λ live. other_life r (off_live r live) ∙ live)))
        sound.live)
        (length-set p.words (column_at (kind_width K) row col) word)
        (length-set p.lives row Draft)
        refl
        (λ r. ⊎_elim
        (λ (same : r ≡ row). subst (HasDied p.ended p.in_flight) (sym (ap (life_of D.lives) same ∙ drafted_life)) tt)
        (λ (off : r ≢ row). subst (HasDied p.ended p.in_flight) (sym (other_life r off)) (sound.dead r))
        (cases_eq r row))

    pub drafted_goes : Goes K (state_in p) (state_in D) e e T T
    drafted_goes = draft_life.1

  -- a dead mark
  module _ (row : ℕ) (may : MayBury (pen_sheet p) row) where
    abbrev B : PenPart
    B = pen_buried row p

    bury_life : Known K (state_in B) e T × Goes K (state_in p) (state_in B) e e T T
    bury_life = bury_leaves K (pen_sheet p) row e T (still_full e p sound) may sound.known

    pub buried_sound : IsSoundPen e B
    buried_sound = written_sound e p B.words p.lives B.buried sound bury_life.0
        (bury_stands K (pen_sheet p) e T sound.known row may sound.tree)
        (live_kept K (state_in p) e T sound.known B.words
        (λ r has live c above low. col_others (rooted_in p) row 0 (dead_mark row) may.at r c (λ same. omega arith) (two_slots (kind_width K) (kind_at K (e r).level) c low))
        p.lives (λ r has. ((λ live. live), (λ live. live))) sound.live)
        (length-set p.words (column_at (kind_width K) row 0) (dead_mark row))
        refl
        (length-set p.buried row true)
        sound.dead

    pub buried_goes : Goes K (state_in p) (state_in B) e e T T
    buried_goes = bury_life.1

  -- a parent word or a gap word
  module _ (row col word : ℕ) (may : MayTend (pen_sheet p) row col word) where
    abbrev G : PenPart
    G = pen_tended row col word p

    tend_life : Known K (state_in G) e T × Goes K (state_in p) (state_in G) e e T T
    tend_life = tend_leaves K (pen_sheet p) row col word e T (still_full e p sound) may sound.known

    tend_slots : Same G.words
    tend_slots r has live c above low = let inside = two_slots (kind_width K) (kind_at K (e r).level) c low in ⊎_elim
        (λ (parent : col ≡ 0). col_others (rooted_in p) row col word may.at r c (λ same. omega arith) inside)
        (λ (gap : IsGapOf (rooted_in p) row col). ⊎_elim
        (λ (here : r ≡ row). col_others (rooted_in p) row col word may.at r c
        (λ same. gap_above (kind_width K) (kind_at K (e r).level) c gap.slot (ap (λ (n : ℕ). Some (kind_at K (e n).level)) here ∙ gap_row K (state_in p) e T sound.known row col gap) low (same ∙ gap.column)) inside)
        (λ (apart : r ≢ row). row_others (rooted_in p) row col word may.at r c apart inside)
        (cases_eq r row))
        may.column

    pub tended_sound : IsSoundPen e G
    tended_sound = written_sound e p G.words p.lives p.buried sound tend_life.0
        (tend_stands K (pen_sheet p) e T sound.known row col word (still_full e p sound) may sound.tree)
        (live_kept K (state_in p) e T sound.known G.words tend_slots p.lives (λ r has. ((λ live. live), (λ live. live))) sound.live)
        (length-set p.words (column_at (kind_width K) row col) word)
        refl
        refl
        sound.dead

    pub tended_goes : Goes K (state_in p) (state_in G) e e T T
    tended_goes = tend_life.1

-- ---- the steps

-- a store of a column that leaves all else that the pen knows but lives and buryings
pub storing : (told : TableStart) (slots by : ℕ) (me : M) (i new : ℕ) (lives : List Life) (burials : List Bool) → HasPen me.0
    → first_row_column (kind_width (pen_of me.0).shape.kind) ≤ i → i < table_size (kind_width (pen_of me.0).shape.kind) (pen_of me.0).shape.rows
    → let p = pen_of me.0 in let n : PenPart = record p { words = slice_set p.words i new; lives = lives; buried = burials } in
    ((e : ℕ → Extent) → IsSoundPen e p → IsSoundPen e n × Goes p.shape.kind (state_in p) (state_in n) e e (moment_at p.shape p.history) (moment_at p.shape p.history))
    → Allows (IsKept told) slots by me i (λ _. new) (λ _ me'. me'.0 ≡ record me.0 { pen = Some n })
storing told slots by me i new lives burials has high low after s r₀ _ at _ =
    let v = me.0 in let p = pen_of v in
    let r = recast told s r₀ p (sym ((r₀.each by v at).keeper p has).1) in
    let n : PenPart = record p { words = slice_set p.words i new; lives = lives; buried = burials } in
    let goes = after r.extents r.sound in (
      record v { pen = Some n },
      keeps,
      tt,
      carry told s r by v at has (slice_set s.words i new) r.extents n goes.0
          (column_set s.words p n i new r.words r.sound.words r.sound.few_passes high low refl refl refl refl refl)
          (carries_life r.extents r.extents p n refl refl refl (omega arith) goes.1)
          (sections_set s.words p i new r.sound.few_passes high)
          (λ q _ f _. stays_put r.extents p n q f refl refl refl),
      refl,
    )

pub drafting : (told : TableStart) (slots by : ℕ) (me : M) (row col new : ℕ) → HasPen me.0 → let p = pen_of me.0 in let i = column_at (kind_width p.shape.kind) row col in
    first_row_column (kind_width p.shape.kind) ≤ i → i < table_size (kind_width p.shape.kind) p.shape.rows → IsPlace (rooted_in p) row col → IsFree (least_number p.cleared) (life_of p.lives row)
    → Allows (IsKept told) slots by me i (λ _. new) (λ _. drafts row col (step slots i new 0 none) me new)
drafting told slots by me row col new has high low place free =
    let p = pen_of me.0 in let n = pen_drafted row col new p in
    storing told slots by me (column_at (kind_width p.shape.kind) row col) new n.lives n.buried has high low (λ e sound. (drafted_sound e p sound row col new place free, drafted_goes e p sound row col new place free))

-- A load of a column that holds the word already is the store of that word.
pub finding_drafted : (told : TableStart) (slots by : ℕ) (me : M) (row col word : ℕ) → HasPen me.0 → let p = pen_of me.0 in let i = column_at (kind_width p.shape.kind) row col in
    first_row_column (kind_width p.shape.kind) ≤ i → i < table_size (kind_width p.shape.kind) p.shape.rows → IsPlace (rooted_in p) row col → IsFree (least_number p.cleared) (life_of p.lives row)
    → Allows (IsKept told) slots by me i (λ n. n) (finds_drafted row col word (step slots i 0 0 none) me)
finding_drafted told slots by me row col word has high low place free s r homes at small =
    let v = me.0 in let p = pen_of v in let i = column_at (kind_width p.shape.kind) row col in
    ⊎_elim
    (λ (same : slice_index s.words i ≡ word).
    let store = drafting told slots by me row col word has high low place free s r homes at small in
    (store.0, store.1, store.2, subst (λ (n : ℕ). IsKept told (stepped s i n by me.1 store.0 store.1)) (sym same) store.3, ((λ _. store.4), (λ off. absurd (off same)))))
    (λ (off : slice_index s.words i ≢ word).
    let known = recast told s r p (sym ((r.each by v at).keeper p has).1) in
    (v, keeps, tt, unchanged told s known by v at i, ((λ same. absurd (off same)), (λ _. refl))))
    (cases_eq (slice_index s.words i) word)

pub burying : (told : TableStart) (slots by : ℕ) (me : M) (row : ℕ) → HasPen me.0 → let p = pen_of me.0 in let i = column_at (kind_width p.shape.kind) row 0 in
    first_row_column (kind_width p.shape.kind) ≤ i → i < table_size (kind_width p.shape.kind) p.shape.rows → MayBury (pen_sheet p) row
    → Allows (IsKept told) slots by me i (λ _. dead_mark row) (λ _. buries row (step slots i (dead_mark row) 0 none) me (dead_mark row))
burying told slots by me row has high low may =
    let p = pen_of me.0 in let n = pen_buried row p in
    storing told slots by me (column_at (kind_width p.shape.kind) row 0) (dead_mark row) n.lives n.buried has high low (λ e sound. (buried_sound e p sound row may, buried_goes e p sound row may))

pub tending : (told : TableStart) (slots by : ℕ) (me : M) (row col new : ℕ) → HasPen me.0 → let p = pen_of me.0 in let i = column_at (kind_width p.shape.kind) row col in
    first_row_column (kind_width p.shape.kind) ≤ i → i < table_size (kind_width p.shape.kind) p.shape.rows → MayTend (pen_sheet p) row col new
    → Allows (IsKept told) slots by me i (λ _. new) (λ _. tends row col (step slots i new 0 none) me new)
tending told slots by me row col new has high low may =
    let p = pen_of me.0 in let n = pen_tended row col new p in
    storing told slots by me (column_at (kind_width p.shape.kind) row col) new n.lives n.buried has high low (λ e sound. (tended_sound e p sound row col new may, tended_goes e p sound row col new may))
