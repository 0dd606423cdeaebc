-- A call publishes: the history is one call longer, and all that is known of rows is known after it.
use Rattle.mt_rule.proofs.Prelude.{◌≡◌, ℕ, ◌+◌, ◌*◌, ◌<◌, ◌≤◌, List, [], ◌∷◌, ◌++◌, Bool, true, false, true≢false, length, map, replicate, set, refl, sym, ap, ◌∙◌, subst, inl, arith, length-set, Some, slice_index, slice_set, if◌then◌else◌, range_with_len, length-replicate, get_or-map-range_with_len, length-map-range_with_len, none, Me, step, keeps, Allows, Range, Call, Kind, Reply, Width, last_map, kind_width, columns, first_row, IsActed, was_acted, word_behind, place_within, Extent, HasExtentsOf, Goes, Known, cuts_by, moment_of, carried, follow, goes, live_reached_after, Life, New, Live, Dead, Place, Root, Slot, IsTree, one_if, MayPublish, Published, is_reached, life_after, map_by, tree_as, with_published, HasDied, IsWhole, Rooted, Sheet, is_buried, life_of, Moment, TableStart, View, PenPart, PassPart, column_at, root_at, section_at, IsKept, IsSoundPen, WordsFit, HasPass, HasPen, moment_at, pass_of, pen_of, record_of, rooted_in, pen_sheet, state_in, tree_of, pass_recorded, publishes}
use Rattle.mt_rule.proofs.Carrying.{Carries, carry_pair, column_set, least_low, recast, sections_set, shaped_as}
use Rattle.mt_rule.proofs.Counting.{counter_sections, counter_set, here, there}
use Rattle.mt_rule.proofs.Lives.{every_life, none_marked}
use Rattle.mt_rule.proofs.Moments.{moment_before, moment_more}
use Rattle.mt_rule.proofs.Recording.{map_told, others_stay, recorded_fits, recorded_history}

-- ---- the rows after a publishing store

-- nothing but a word or the root has changed
same_tree : (t : Rooted) (place : Place) (word : ℕ) → record { rows = t.rows; table = record { width = t.table.width; words = (with_published t place word).table.words }; root = (with_published t place word).root } ≡ with_published t place word
same_tree t Root word = refl
same_tree t (Slot row col) word = refl

same_size : (t : Rooted) (place : Place) (word : ℕ) → length (with_published t place word).table.words ≡ length t.table.words
same_size t Root word = refl
same_size t (Slot row col) word = length-set t.table.words (columns t.table.width * row + col) word

-- a life after it has been, or is of this call
died_now : (ended : ℕ) (reached buried : Bool) (l : Life) → HasDied ended true l → HasDied ended true (if reached then Live else (if buried then Dead (ended + 1) else l))
died_now ended true buried l old = tt
died_now ended false true l old = (omega arith, omega arith)
died_now ended false false l old = old

each_died : (s : Sheet) (t' : Rooted) (row : ℕ) → HasDied s.ended true (life_of s.lives row) → HasDied s.ended true (life_after s t' row)
each_died s t' row old = died_now s.ended (is_reached t' row) (is_buried s.buried row) (life_of s.lives row) old

module _ (e : ℕ → Extent) (p : PenPart) (q : PassPart) (place : Place) (word : ℕ) (call : Call) (reply : Reply) (sound : IsSoundPen e p) (may : MayPublish p.shape.kind (pen_sheet p) place word call reply) where
  abbrev kind : Kind
  kind = p.shape.kind

  abbrev tree : Rooted
  tree = with_published (rooted_in p) place word

  abbrev lives : List Life
  lives = map (life_after (pen_sheet p) tree) (range_with_len 0 (first_row + p.shape.rows))

  abbrev buried : List Bool
  buried = replicate (first_row + p.shape.rows) false

  abbrev here_tree : Rooted
  here_tree = record { rows = p.shape.rows; table = record { width = kind_width p.shape.kind; words = tree.table.words }; root = tree.root }

  abbrev pub m : Moment
  m = record { pass = q.number; call = call; reply = reply; cuts = cuts_by here_tree }

  abbrev pub after : PenPart
  after = record p { history = p.history ++ m ∷ []; published = true; root = tree.root; words = tree.table.words; lives = lives; buried = buried }

  same : rooted_in after ≡ tree
  same = same_tree (rooted_in p) place word

  pub published : Published (pen_sheet p) (pen_sheet after) place word call reply
  published = record {
    rest = λ i. record (pen_sheet after) { tree = same i };
    lives = λ row first last. get_or-map-range_with_len (life_after (pen_sheet p) tree) 0 (first_row + p.shape.rows) row row New last (omega arith);
    buried = λ row first last. none_marked (first_row + p.shape.rows) row;
  }

  -- ---- its moment

  pub count : p.ended ≡ length p.history
  count = let n = sound.history.count in let z : one_if p.published ≡ 0 = rw may.before refl in omega arith

  acted_so : IsActed kind (last_map (tree_of p.shape p.history)) (record_of m) (map_by tree)
  acted_so = subst (λ (x : List Range). IsActed kind x (record_of m) (map_by tree)) (sym (map_told e p sound)) (was_acted kind (map_by (rooted_in p)) (record_of m) (map_by tree) may.answer)

  now : moment_at p.shape (p.history ++ m ∷ []) (p.ended + 1) ≡ moment_of tree
  now = ap (λ (k : ℕ). moment_at p.shape (p.history ++ m ∷ []) (k + 1)) count
      ∙ (moment_more p.shape p.history m ∙ (λ i. record { ranges = acted_so.moved i; cuts = cuts_by (same i) }))

  past : (k : ℕ) → k ≤ p.ended → moment_at p.shape (p.history ++ m ∷ []) k ≡ moment_at p.shape p.history k
  past k low = let n = count in moment_before p.shape p.history m k (omega arith)

  -- ---- what is known then

  pub following : (e' : ℕ → Extent) × HasExtentsOf tree e e'
  following = follow kind tree e may.after

  abbrev pub extents : ℕ → Extent
  extents = following.0

  known_after : Known kind (state_in after) extents (moment_at p.shape (p.history ++ m ∷ []))
  known_after = carried kind (pen_sheet p) (pen_sheet after) place word call reply may published e extents (moment_at p.shape p.history) (moment_at p.shape (p.history ++ m ∷ [])) sound.known following.1 past now

  pub goes_on : Goes kind (state_in p) (state_in after) e extents (moment_at p.shape p.history) (moment_at p.shape (p.history ++ m ∷ []))
  goes_on = goes kind (pen_sheet p) (pen_sheet after) place word call reply may published e extents (moment_at p.shape p.history) (moment_at p.shape (p.history ++ m ∷ [])) sound.known following.1 past now

  pub carries_on : Carries e extents p after
  carries_on = record { dealt = omega arith; history = (m ∷ [], refl); ended = omega arith; begun = omega arith; goes = goes_on }

  no_calm : p.in_flight ≡ false → after.published ≡ false
  no_calm idle = absurd (true≢false (sym may.in_flight ∙ idle))

  pub sound_after : q.number < p.dealt → IsSoundPen extents after
  sound_after caller =
      let one = count in record {
        history = recorded_history p m sound.history caller (rw acted_so.unheld tt) (inl acted_so.answered) after refl refl refl refl (omega arith) no_calm refl;
        known = known_after;
        tree = record { width = refl; words = subst (λ (x : Rooted). IsTree (tree_as kind x)) (sym same) may.after };
        live = live_reached_after kind (pen_sheet p) (pen_sheet after) place word call reply may published;
        rows = sound.rows;
        words = same_size (rooted_in p) place word ∙ sound.words;
        lives = length-map-range_with_len (life_after (pen_sheet p) tree) 0 (first_row + p.shape.rows);
        buried = length-replicate (first_row + p.shape.rows) false;
        dead = λ row. subst (λ (b : Bool). HasDied p.ended b (life_of lives row)) (sym may.in_flight)
            (every_life (HasDied p.ended true) (life_after (pen_sheet p) tree) (λ k. each_died (pen_sheet p) tree k (subst (λ (b : Bool). HasDied p.ended b (life_of p.lives k)) may.in_flight (sound.dead k))) tt (range_with_len 0 (first_row + p.shape.rows)) row);
        some_pass = sound.some_pass;
        few_passes = sound.few_passes;
        passes = sound.passes;
        cleared = sound.cleared;
      }

  -- the rows are whole
  pub whole_after : IsSoundPen extents after → IsWhole (pen_sheet after)
  whole_after s = record {
    few = s.rows;
    words = s.words;
    lives = s.lives;
    buried = s.buried;
    cleared = (let least = least_low p.cleared 0 (let n = s.passes in let o = s.some_pass in omega arith) in let first = s.cleared 0 s.some_pass in omega arith);
    dead = s.dead;
  }

-- ---- the words of the table

-- where a place stands among the table's words
abbrev pub index_of : Width → Place → ℕ
index_of w Root = root_at
index_of w (Slot row col) = column_at w row col

-- The words of the table after the store.
record StoredFit (words : List ℕ) (p n : PenPart) (i word : ℕ) : Type 0 where
  pub fit : WordsFit (slice_set words i word) (shaped_as p n)
  pub sections : (k : ℕ) → k < p.shape.passes → slice_index (slice_set words i word) (section_at k) ≡ slice_index words (section_at k)

words_after : (e : ℕ → Extent) (p : PenPart) (q : PassPart) (place : Place) (word : ℕ) (call : Call) (reply : Reply) (sound : IsSoundPen e p) (may : MayPublish p.shape.kind (pen_sheet p) place word call reply) (words : List ℕ)
    → WordsFit words p → StoredFit words p (after e p q place word call reply sound may) (index_of (kind_width p.shape.kind) place) word
words_after e p q Root word call reply sound may words w =
    let n = after e p q Root word call reply sound may in
    let low : root_at < 3 = omega arith in record {
      fit = counter_set words p n root_at word w low refl (omega arith) refl
          (there words p n root_at word w low 0 (λ e. omega arith) ∙ w.commits)
          (there words p n root_at word w low 1 (λ e. omega arith) ∙ w.begun)
          (here words p n root_at word w low);
      sections = λ k few. counter_sections words p n root_at word w low k;
    }
words_after e p q (Slot row col) word call reply sound may words w =
    let n = after e p q (Slot row col) word call reply sound may in
    let at = may.at.0 in
    let width = kind_width p.shape.kind in
    let high = word_behind width row first_row col at.first in
    let low = place_within width row (first_row + p.shape.rows) col at.last at.column in record {
      fit = column_set words p n (column_at width row col) word w sound.words sound.few_passes high low refl refl refl refl refl;
      sections = sections_set words p (column_at width row col) word sound.few_passes high;
    }

-- ---- the step

pub publishing : (told : TableStart) (slots by : ℕ) (me : Me (Unit {0}) View) (i word : ℕ) (place : Place) (call : Call) (reply : Reply) → HasPen me.0 → HasPass me.0
    → i ≡ index_of (kind_width (pen_of me.0).shape.kind) place → MayPublish (pen_of me.0).shape.kind (pen_sheet (pen_of me.0)) place word call reply
    → Allows (IsKept told) slots by me i (λ _. word) (λ _. publishes place call reply (step slots i word 0 none) me word)
publishing told slots by me i word place call reply has_pen has_pass where_is may s r₀ _ at _ =
    let v = me.0 in let p = pen_of v in let q = pass_of v in
    let r = recast told s r₀ p (sym ((r₀.each by v at).keeper p has_pen).1) in
    let f = (r.each by v at).passes q has_pass in
    let n = after r.extents p q place word call reply r.sound may in
    let e' = extents r.extents p q place word call reply r.sound may in
    let record_is = m r.extents p q place word call reply r.sound may in
    let sound' = sound_after r.extents p q place word call reply r.sound may f.number in
    let goes_so = carries_on r.extents p q place word call reply r.sound may in
    let one = count r.extents p q place word call reply r.sound may in
    let over = f.over in
    let fits = recorded_fits r.extents e' p n q record_is r.sound sound' goes_so f refl refl one q.ended refl refl (omega arith) (omega arith) (omega arith) in
    let stored = words_after r.extents p q place word call reply r.sound may s.words r.words in (
      record v { pen = Some n; pass = Some (pass_recorded record_is p q) },
      keeps,
      tt,
      subst (λ (k : ℕ). IsKept told record { words = slice_set s.words k word; homes = s.homes; views = set s.views by (record v { pen = Some n; pass = Some (pass_recorded record_is p q) }) }) (sym where_is)
          (carry_pair told s r by v at has_pen (slice_set s.words (index_of (kind_width p.shape.kind) place) word) e' n q (pass_recorded record_is p q) has_pass refl refl sound' stored.fit goes_so stored.sections
          (λ y apart g _. others_stay r.extents p n y record_is g (λ same. apart q has_pass (sym same)) refl refl refl) fits),
      record {
        rows = published r.extents p q place word call reply r.sound may;
        whole = whole_after r.extents p q place word call reply r.sound may sound';
        view = refl;
        recorded = record { moment = record_is; moment_is = refl; pen = refl; pass = refl };
        mine = fits.mine;
      },
    )
