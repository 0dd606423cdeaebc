-- A step of the pen carries what every seat knows: what it has to show, and that the rule is then kept.
use Rattle.mt_rule.proofs.Prelude.{◌≡◌, ◌≢◌, ℕ, zero, suc, ◌+◌, ◌*◌, ◌<◌, ◌≤◌, List, [], ◌∷◌, length, set, refl, sym, ap, ◌∙◌, subst, inl, inr, ⊎_elim, arith, append-nil, length-set, get_or-set_other, get_or-set_same, Some, false, cases_eq, some, get_elem?, slice_index, slice_set, Contains, State, Holder, Begins, places, begins_on, Extent, Held, Goes, Known, holds_on, one_if, HasDied, life_of, Moment, TableStart, View, PenPart, PassPart, Width, kind_width, words_before, commits_at, begun_at, root_at, section_at, first_row_column, table_size, section_word, IsSectionWord, least_number, moment_at, records_of, shape_told, state_in, begun_by, IsOneHistory, IsSoundPen, WordsFit, HasFloor, IsHeldBy, PassFits, ViewFits, IsKept, most_calls, most_passes}
use Rattle.mt_rule.proofs.Viewing.{each_set, pen_is, seat_fits}

abbrev pub St : Type 0
St = State (Unit {0}) View

-- the rule, said of the pen's own part
abbrev pub recast : (told : TableStart) (s : St) (r : IsKept told s) (p : PenPart) → r.part ≡ p → IsKept told s
recast told s r p e = record {
  pen = r.pen;
  owner = r.owner;
  extents = r.extents;
  part = p;
  shaped = subst (λ (x : PenPart). x.shape ≡ shape_told told) e r.shaped;
  sound = subst (IsSoundPen r.extents) e r.sound;
  words = subst (WordsFit s.words) e r.words;
  each = λ j u g. subst (λ (x : PenPart). ViewFits r.pen r.owner r.extents x s.words j u) e (r.each j u g);
}

-- the rule, where the pen's part has changed, what seats know, and which seat has which pass
pub reparted : {told : TableStart} {s' : St} (s : St) (r : IsKept told s) (owner : ℕ → ℕ) (p : PenPart) → p.shape ≡ r.part.shape → IsSoundPen r.extents p → WordsFit s'.words p → ((by : ℕ) (v : View) → get_elem? s'.views by ≡ some v → ViewFits r.pen owner r.extents p s'.words by v) → IsKept told s'
reparted s r owner p same sound words each = record { pen = r.pen; owner = owner; extents = r.extents; part = p; shaped = same ∙ r.shaped; sound = sound; words = words; each = each }

-- and where the pen's part is as it was
pub reseated : {told : TableStart} {s' : St} (s : St) (r : IsKept told s) (owner : ℕ → ℕ) → WordsFit s'.words r.part → ((by : ℕ) (v : View) → get_elem? s'.views by ≡ some v → ViewFits r.pen owner r.extents r.part s'.words by v) → IsKept told s'
reseated s r owner = reparted s r owner r.part refl r.sound

-- ---- what a step of the pen shows

-- a part of the same shape
abbrev pub shaped_as : PenPart → PenPart → PenPart
shaped_as p n = record n { shape = p.shape }

-- What the pen's part has become carries what all passes know.
pub record Carries (e e' : ℕ → Extent) (p n : PenPart) : Type 0 where
  pub dealt : p.dealt ≤ n.dealt
  pub history : Begins p.history n.history
  pub ended : p.ended ≤ n.ended
  pub begun : begun_by p ≤ begun_by n
  pub goes : Goes p.shape.kind (state_in p) (state_in (shaped_as p n)) e e' (moment_at p.shape p.history) (moment_at p.shape n.history)

-- What it leaves to one pass: its calls are those it had, its sections that were found are its own, and its rows are kept.
pub record Stays (p n : PenPart) (q : PassPart) : Type 0 where
  pub all : places q.number (records_of n.history) ≡ places q.number (records_of p.history)
  pub loaded : (h : Holder) → Contains n.loaded h → h.pass ≡ q.number → Contains q.opened h.epoch
  pub clear : (floor : ℕ) → q.floor ≡ Some floor → slice_index n.cleared q.number ≤ floor

-- ---- a pass

-- the least is at most each
pub least_low : (ns : List ℕ) (k : ℕ) → k < length ns → least_number ns ≤ slice_index ns k
least_low [] k low = absurd (omega arith)
least_low (n ∷ []) zero low = omega arith
least_low (n ∷ []) (suc k) low = absurd (omega arith)
least_low (n ∷ m ∷ ns) zero low = omega arith
least_low (n ∷ m ∷ ns) (suc k) low = let rest = least_low (m ∷ ns) k (omega arith) in omega arith

module _ (e e' : ℕ → Extent) (p n : PenPart) (q : PassPart) (sound : IsSoundPen e p) (sound' : IsSoundPen e' (shaped_as p n)) (c : Carries e e' p n) (stays : Stays p n q) (f : PassFits e p q) where
  abbrev P' : PenPart
  P' = shaped_as p n

  floor_kept : (floor : ℕ) → q.floor ≡ Some floor → HasFloor P' q floor
  floor_kept floor is = let t = f.floor floor is in record { seen = t.seen; cleared = stays.clear floor is; epoch = t.epoch }

  in_passes : q.number < length n.cleared
  in_passes = let a = sound'.passes in let b = f.number in let d = sound.history.dealt in omega arith

  held_kept : (x : Held) → IsHeldBy e p q x → IsHeldBy e' P' q x
  held_kept x h =
      let low = least_low n.cleared q.number in_passes in
      let clear = stays.clear h.floor h.has in
      let since = h.since in record {
        row = holds_on p.shape.kind (state_in p) (state_in P') e e' (moment_at p.shape p.history) (moment_at p.shape n.history) x sound.known sound'.known c.goes (omega arith) h.row;
        met = h.met;
        floor = h.floor;
        has = h.has;
        since = h.since;
      }

  pub pass_carried : PassFits e' P' q
  pass_carried = record {
    shape = f.shape;
    number = (let a = f.number in let b = c.dealt in omega arith);
    seen = begins_on q.seen p.history n.history f.seen c.history;
    mine = f.mine;
    all = stays.all ∙ f.all;
    ended = f.ended;
    over = (let a = f.over in let b = c.ended in omega arith);
    begun = (let a = f.begun in let b = c.begun in omega arith);
    risen = (let a = f.risen in let b = c.begun in omega arith);
    epoch = f.epoch;
    loaded = stays.loaded;
    standing = f.standing;
    closed = f.closed;
    floor = floor_kept;
    held = λ j x is. held_kept x (f.held j x is);
  }

-- ---- what most steps leave

-- where history, found sections and reach are as they were
pub stays_put : (e : ℕ → Extent) (p n : PenPart) (q : PassPart) → PassFits e p q → n.history ≡ p.history → n.loaded ≡ p.loaded → n.cleared ≡ p.cleared → Stays p n q
stays_put e p n q f history loaded cleared = record {
  all = ap (λ (h : List Moment). places q.number (records_of h)) history;
  loaded = λ h has. f.loaded h (subst (λ (l : List Holder). Contains l h) loaded has);
  clear = λ floor is. subst (λ (l : List ℕ). slice_index l q.number ≤ floor) (sym cleared) (f.floor floor is).cleared;
}

-- what is known of rows goes on, within one call and between two
pub carries_life : (e e' : ℕ → Extent) (p n : PenPart) → n.dealt ≡ p.dealt → n.history ≡ p.history → n.ended ≡ p.ended → begun_by p ≤ begun_by n
    → Goes p.shape.kind (state_in p) (state_in (shaped_as p n)) e e' (moment_at p.shape p.history) (moment_at p.shape n.history) → Carries e e' p n
carries_life e e' p n dealt history ended begun goes = record { dealt = omega arith; history = ([], history ∙ sym (append-nil p.history)); ended = omega arith; begun = begun; goes = goes }

-- where a part's calls and its passes are those of p
pub still_history : (p n : PenPart) → IsOneHistory p → length p.history ≡ n.ended + one_if n.published → (n.in_flight ≡ false → n.published ≡ false) → begun_by n ≤ most_calls
    → IsOneHistory (record n { shape = p.shape; dealt = p.dealt; history = p.history; loaded = p.loaded })
still_history p n one count calm few = record { dealt = one.dealt; callers = one.callers; named = one.named; loaded = one.loaded; count = count; calm = calm; few = few; legal = one.legal }

-- where a part's words, and what its rows are, are those of p
pub still_sound : (e : ℕ → Extent) (p n : PenPart) → IsSoundPen e p → let now : PenPart = record n { shape = p.shape; root = p.root; words = p.words; lives = p.lives; buried = p.buried } in
    IsOneHistory now → Known p.shape.kind (state_in now) e (moment_at p.shape n.history) → ((row : ℕ) → HasDied n.ended n.in_flight (life_of p.lives row))
    → length n.cleared ≡ p.shape.passes → ((k : ℕ) → k < p.shape.passes → slice_index n.cleared k ≤ n.ended) → IsSoundPen e now
still_sound e p n sound one known dead passes cleared = record { history = one; known = known; tree = sound.tree; live = sound.live; rows = sound.rows; words = sound.words; lives = sound.lives; buried = sound.buried; dead = dead; some_pass = sound.some_pass; few_passes = sound.few_passes; passes = passes; cleared = cleared }

pub section_later : (a b word : ℕ) → a ≤ b → IsSectionWord a word → IsSectionWord b word
section_later a b word up is = ⊎_elim (λ (none : word ≡ 0). inl none) (λ (at : (epoch : ℕ) × (word ≡ 2 * epoch + 1) × (epoch ≤ a)). let low = at.2 in inr (at.0, at.1, omega arith)) is

section_off : (w : Width) (k i : ℕ) → k < most_passes → first_row_column w ≤ i → section_at k ≢ i
section_off w k i low high same = let first = words_before w in omega arith

counter_off : (w : Width) (j i : ℕ) → j < 3 → first_row_column w ≤ i → j ≢ i
counter_off w j i low high same = let first = words_before w in omega arith

-- a store of a column
pub column_set : (words : List ℕ) (p n : PenPart) (i new : ℕ) → WordsFit words p → length p.words ≡ table_size (kind_width p.shape.kind) p.shape.rows → p.shape.passes ≤ most_passes
    → first_row_column (kind_width p.shape.kind) ≤ i → i < table_size (kind_width p.shape.kind) p.shape.rows
    → n.dealt ≡ p.dealt → n.ended ≡ p.ended → begun_by n ≡ begun_by p → n.root ≡ p.root → n.words ≡ slice_set p.words i new → WordsFit (slice_set words i new) (shaped_as p n)
column_set words p n i new w size passes high low dealt ended begun root is = record {
  size = length-set words i new ∙ w.size;
  commits = get_or-set_other words i commits_at new 0 (counter_off wide commits_at i (omega arith) high) ∙ (w.commits ∙ sym ended);
  begun = get_or-set_other words i begun_at new 0 (counter_off wide begun_at i (omega arith) high) ∙ (w.begun ∙ sym begun);
  root = get_or-set_other words i root_at new 0 (counter_off wide root_at i (omega arith) high) ∙ (w.root ∙ sym root);
  sections = λ k few. subst (λ (z : ℕ × ℕ). IsSectionWord z.0 z.1) (λ j. (sym ended j, sym (section k few) j)) (w.sections k few);
  undealt = λ k not few. section k few ∙ w.undealt k (omega arith) few;
  unnamed = λ j above off. get_or-set_other words i j new 0 (λ e. omega arith) ∙ w.unnamed j above off;
  columns = λ j at. column j at ∙ ap (λ (l : List ℕ). slice_index l j) (sym is);
}
  where
    wide : Width
    wide = kind_width p.shape.kind

    section : (k : ℕ) → k < p.shape.passes → slice_index (slice_set words i new) (section_at k) ≡ slice_index words (section_at k)
    section k few = get_or-set_other words i (section_at k) new 0 (section_off wide k i (omega arith) high)

    column : (j : ℕ) → first_row_column wide ≤ j → slice_index (slice_set words i new) j ≡ slice_index (slice_set p.words i new) j
    column j at = ⊎_elim
        (λ (here : j ≡ i). subst (λ (k : ℕ). slice_index (slice_set words i new) k ≡ slice_index (slice_set p.words i new) k) (sym here)
        (get_or-set_same words i new 0 (let all = w.size in omega arith) ∙ sym (get_or-set_same p.words i new 0 (omega arith))))
        (λ (off : j ≢ i). get_or-set_other words i j new 0 off ∙ (w.columns j at ∙ sym (get_or-set_other p.words i j new 0 off)))
        (cases_eq j i)

-- and the section words stay
pub sections_set : (words : List ℕ) (p : PenPart) (i new : ℕ) → p.shape.passes ≤ most_passes → first_row_column (kind_width p.shape.kind) ≤ i → (k : ℕ) → k < p.shape.passes → slice_index (slice_set words i new) (section_at k) ≡ slice_index words (section_at k)
sections_set words p i new passes high k few = get_or-set_other words i (section_at k) new 0 (section_off (kind_width p.shape.kind) k i (omega arith) high)

-- ---- the rule

module _ (told : TableStart) (s : St) (r : IsKept told s) (by : ℕ) (v : View) (at : get_elem? s.views by ≡ some v) (has : v.pen ≡ Some r.part) where
  -- the pass is none that is beside the pen
  abbrev IsApart : PassPart → Type 0
  IsApart q = (own : PassPart) → v.pass ≡ Some own → q.number ≢ own.number

  -- the words of sections are as they were
  abbrev SameSections : List ℕ → Type 0
  SameSections words = (k : ℕ) → k < r.part.shape.passes → slice_index words (section_at k) ≡ slice_index s.words (section_at k)

  -- each pass of these is left what it knows
  abbrev LeavesEach : PenPart → (PassPart → Type 0) → Type 0
  LeavesEach n Of = (q : PassPart) → Of q → PassFits r.extents r.part q → slice_index s.words (section_at q.number) ≡ section_word q.standing → Stays r.part n q

  known : by ≡ r.pen
  known = ((r.each by v at).keeper r.part has).0

  apart_of : (j : ℕ) (q : PassPart) → j ≢ by → j ≡ r.owner q.number → IsApart q
  apart_of j q off is own beside same = off (is ∙ (ap r.owner same ∙ sym ((r.each by v at).at own beside)))

  section_kept : (words : List ℕ) (q : PassPart) → SameSections words → PassFits r.extents r.part q → slice_index s.words (section_at q.number) ≡ section_word q.standing → slice_index words (section_at q.number) ≡ section_word q.standing
  section_kept words q sections f is = sections q.number (let a = f.number in let b = r.sound.history.dealt in omega arith) ∙ is

  -- the pen's seat has this view then, and fits; each other pass is left what it knows
  pub carry_view : (words : List ℕ) (e' : ℕ → Extent) (n : PenPart) (w : View) → IsSoundPen e' (shaped_as r.part n) → WordsFit words (shaped_as r.part n) → Carries r.extents e' r.part n → SameSections words
      → LeavesEach n IsApart → ViewFits r.pen r.owner e' (shaped_as r.part n) words by w
      → IsKept told record { words = words; homes = s.homes; views = set s.views by w }
  carry_view words e' n w sound' fit c sections leaves mine = record {
    pen = r.pen;
    owner = r.owner;
    extents = e';
    part = p';
    shaped = r.shaped;
    sound = sound';
    words = fit;
    each = each_set (ViewFits r.pen r.owner e' p' words) s.views by w
        (λ j u off is. let g = r.each j u is in record {
          keeper = λ q k. absurd (off ((g.keeper q k).0 ∙ sym known));
          at = g.at;
          section = λ q k. section_kept words q sections (g.passes q k) (g.section q k);
          passes = λ q k. pass_carried r.extents e' r.part n q r.sound sound' c (leaves q (apart_of j q off (g.at q k)) (g.passes q k) (g.section q k)) (g.passes q k);
          notes = λ m k. begins_on m.seen r.part.history n.history (g.notes m k) c.history;
        })
        mine;
  }
    where
      p' : PenPart
      p' = shaped_as r.part n

  -- only what the pen knows has changed
  pub carry : (words : List ℕ) (e' : ℕ → Extent) (n : PenPart) → IsSoundPen e' (shaped_as r.part n) → WordsFit words (shaped_as r.part n) → Carries r.extents e' r.part n → SameSections words
      → LeavesEach n (λ q. Unit {0})
      → IsKept told record { words = words; homes = s.homes; views = set s.views by (record v { pen = Some (shaped_as r.part n) }) }
  carry words e' n sound' fit c sections leaves =
      let p' = shaped_as r.part n in let g = r.each by v at in
      carry_view words e' n (record v { pen = Some p' }) sound' fit c sections (λ q _ f is. leaves q tt f is) (record {
        keeper = λ q k. (known, sym (pen_is p' q k));
        at = g.at;
        section = λ q k. section_kept words q sections (g.passes q k) (g.section q k);
        passes = λ q k. pass_carried r.extents e' r.part n q r.sound sound' c (leaves q tt (g.passes q k) (g.section q k)) (g.passes q k);
        notes = λ m k. begins_on m.seen r.part.history n.history (g.notes m k) c.history;
      })

  -- and what the pass beside it knows, whose number and section are as they were
  pub carry_pair : (words : List ℕ) (e' : ℕ → Extent) (n : PenPart) (q q' : PassPart) → v.pass ≡ Some q → q'.number ≡ q.number → q'.standing ≡ q.standing
      → IsSoundPen e' (shaped_as r.part n) → WordsFit words (shaped_as r.part n) → Carries r.extents e' r.part n → SameSections words → LeavesEach n IsApart → PassFits e' (shaped_as r.part n) q'
      → IsKept told record { words = words; homes = s.homes; views = set s.views by (record v { pen = Some (shaped_as r.part n); pass = Some q' }) }
  carry_pair words e' n q q' beside number standing sound' fit c sections leaves mine =
      let p' = shaped_as r.part n in let g = r.each by v at in
      carry_view words e' n (record v { pen = Some p'; pass = Some q' }) sound' fit c sections leaves
      (seat_fits r.pen r.owner e' p' words by (Some p') q' v.note (λ x k. (known, sym (pen_is p' x k))) (g.at q beside ∙ ap r.owner (sym number))
      (ap (λ (i : ℕ). slice_index words (section_at i)) number ∙ (section_kept words q sections (g.passes q beside) (g.section q beside) ∙ ap section_word (sym standing)))
      mine (λ m k. begins_on m.seen r.part.history n.history (g.notes m k) c.history))
