-- Each step of a pass that reads without the lock keeps the rule, and tells what it is said to tell.
use Rattle.mt_rule.proofs.Prelude.{◌≡◌, ◌≢◌, ℕ, zero, suc, ◌+◌, ◌-◌, ◌*◌, ◌<◌, ◌≤◌, List, [], ◌∷◌, Bool, true, false, Option, Some, None, length, refl, sym, ap, ◌∙◌, subst, arith, length-set, inl, inr, IfSome, slice_index, slice_set, Contains, slice_get, cases_Bool, cases_eq, set-get_or, get_or-set_same, get_or-set_other, Contains-append_left, Contains-push, none-some, none, some, some-ne-none, some-injective, get_elem?, Me, step, keeps, Allows, Holder, Width, kind_width, first_row, begins_long, begins_none, pivot_column, slot_column, dead_mark, named_kind, row_in, slots_of, word_behind, words_before, words_in_all, Live, Dead, one_if, life_of, word_at, inner_kind, root_span, map_in, one_of_get, Extent, Held, HoldsRow, Snapshot, come, as_known_now, calls, extent_at, spans_at, few_slots_below, child_held, leaf_held, marked_held, renewed_held, root_held, unmarked_held, Moment, Shape, TableStart, View, PenPart, PassPart, commits_at, begun_at, root_at, section_at, section_word, IsSectionWord, column_at, HasPass, known_by, least_number, moment_at, pass_of, state_in, tree_of, begun_by, HasFloor, IsHeldBy, IsKept, IsOneHistory, IsOpenAt, IsSoundPen, PassFits, ViewFits, WordsFit, IsAt, held_behind, closed_section, floor_or, here, kind_of, opened_section, slots_in, spans_here, IsLeafRead, ParentTells, marks_with, LoadedBegun, LoadedCommits, LoadedParent, LoadedPivot, LoadedRoot, LoadedSlot, MayLoadWord, opens_section, closes_section, touches}
use Rattle.mt_base.specs.Passes as known
use Rattle.mt_rule.proofs.Beginnings.{legal_within}
use Rattle.mt_rule.proofs.Carrying.{St, least_low, recast, reseated}
use Rattle.mt_rule.proofs.Holding.{pivot_now, slot_now}
use Rattle.mt_rule.proofs.Viewing.{beside_fits, each_set, numbers_fit, seat_fits}

abbrev M : Type 0
M = Me (Unit {0}) View

-- ---- a step is counted

abbrev counted : PassPart → PassPart → PassPart
counted q q' = record q' { steps = q.steps + 1 }

steps_fit : (e : ℕ → Extent) (p : PenPart) (q : PassPart) (steps : ℕ) → PassFits e p q → PassFits e p (record q { steps = steps })
steps_fit e p q steps = beside_fits e p q p.dealt p.sections steps q.marks (omega arith)

-- ---- what a pass's own step has to keep

module _ (told : TableStart) (s : St) (r₀ : IsKept told s) (by : ℕ) (v : View) (at : get_elem? s.views by ≡ some v) (q : PassPart) (is : v.pass ≡ Some q) where
  -- the pen's part, with the shape as the pass knows it
  abbrev part_by : PenPart
  part_by = record r₀.part { shape = q.shape }

  abbrev kept_by : IsKept told s
  kept_by = recast told s r₀ part_by (let same : r₀.part.shape ≡ q.shape = sym ((r₀.each by v at).passes q is).shape in λ i. record r₀.part { shape = same i })

  mine : ViewFits kept_by.pen kept_by.owner kept_by.extents part_by s.words by v
  mine = kept_by.each by v at

  -- only the pass's own part changes, and no word but that of its own section
  steps_to : (ws : List ℕ) (q' : PassPart) → q'.number ≡ q.number → PassFits kept_by.extents part_by q' → WordsFit ws part_by → slice_index ws (section_at q.number) ≡ section_word q'.standing
      → ((k : ℕ) → k ≢ section_at q.number → slice_index ws k ≡ slice_index s.words k) → IsKept told record { words = ws; homes = s.homes; views = slice_set s.views by (record v { pass = Some q' }) }
  steps_to ws q' same fits words section rest =
      reseated s kept_by kept_by.owner words
      (each_set (ViewFits kept_by.pen kept_by.owner kept_by.extents part_by ws) s.views by (record v { pass = Some q' }) (λ j u apart e. others j u apart (kept_by.each j u e)) own)
    where
      own : ViewFits kept_by.pen kept_by.owner kept_by.extents part_by ws by (record v { pass = Some q' })
      own = seat_fits kept_by.pen kept_by.owner kept_by.extents part_by ws by v.pen q' v.note mine.keeper (mine.at q is ∙ ap kept_by.owner (sym same))
          (ap (λ (k : ℕ). slice_index ws (section_at k)) same ∙ section) fits mine.notes

      others : (j : ℕ) (u : View) → j ≢ by → ViewFits kept_by.pen kept_by.owner kept_by.extents part_by s.words j u → ViewFits kept_by.pen kept_by.owner kept_by.extents part_by ws j u
      others j u apart theirs = record {
        keeper = theirs.keeper;
        at = theirs.at;
        section = λ x e. rest (section_at x.number) (λ one. apart (theirs.at x e ∙ (ap kept_by.owner (let dealt = (theirs.passes x e).number in let n : x.number ≡ q.number = omega arith in n) ∙ sym (mine.at q is)))) ∙ theirs.section x e;
        passes = theirs.passes;
        notes = theirs.notes;
      }

  -- a load
  loads_to : (i : ℕ) (q' : PassPart) → q'.number ≡ q.number → q'.standing ≡ q.standing → PassFits kept_by.extents part_by q'
      → IsKept told record { words = slice_set s.words i (slice_index s.words i); homes = s.homes; views = slice_set s.views by (record v { pass = Some (counted q q') }) }
  loads_to i q' same standing fits = subst (λ (ws : List ℕ). IsKept told record { words = ws; homes = s.homes; views = slice_set s.views by (record v { pass = Some (counted q q') }) }) (sym (set-get_or s.words i 0))
      (steps_to s.words (counted q q') same (steps_fit kept_by.extents part_by q' (q.steps + 1) fits) kept_by.words (mine.section q is ∙ ap section_word (sym standing)) (λ k _. refl))

  -- a store of its own section word
  stores_to : (n : ℕ) (q' : PassPart) → q'.number ≡ q.number → n ≡ section_word q'.standing → IsSectionWord part_by.ended n → PassFits kept_by.extents part_by q'
      → IsKept told record { words = slice_set s.words (section_at q.number) n; homes = s.homes; views = slice_set s.views by (record v { pass = Some (counted q q') }) }
  stores_to n q' same word small fits =
      steps_to (slice_set s.words (section_at q.number) n) (counted q q') same (steps_fit kept_by.extents part_by q' (q.steps + 1) fits)
      record {
        size = length-set s.words (section_at q.number) n ∙ kept_by.words.size;
        commits = kept commits_at (λ e. omega arith) ∙ kept_by.words.commits;
        begun = kept begun_at (λ e. omega arith) ∙ kept_by.words.begun;
        root = kept root_at (λ e. omega arith) ∙ kept_by.words.root;
        sections = λ k low. elim (cases_eq k q.number) [
          | inl e ↦ subst (λ (j : ℕ). IsSectionWord part_by.ended (slice_index (slice_set s.words (section_at q.number) n) (section_at j))) (sym e) (subst (IsSectionWord part_by.ended) (sym stored) small)
          | inr other ↦ subst (IsSectionWord part_by.ended) (sym (kept (section_at k) (λ e. other (let most = kept_by.sound.few_passes in omega arith)))) (kept_by.words.sections k low)
        ];
        undealt = λ k high low. let dealt = (mine.passes q is).number in let most = kept_by.sound.few_passes in kept (section_at k) (λ e. omega arith) ∙ kept_by.words.undealt k high low;
        unnamed = λ i low off. kept i (off.section q.number (let a = (mine.passes q is).number in let b = kept_by.sound.history.dealt in omega arith)) ∙ kept_by.words.unnamed i low off;
        columns = λ i high. let first = words_before (kind_width q.shape.kind) in kept i (λ e. omega arith) ∙ kept_by.words.columns i high;
      }
      (stored ∙ word)
      kept
    where
      few : q.number < 62
      few = let a = (mine.passes q is).number in let b = kept_by.sound.history.dealt in let c = kept_by.sound.few_passes in omega arith

      stored : slice_index (slice_set s.words (section_at q.number) n) (section_at q.number) ≡ n
      stored = get_or-set_same s.words (section_at q.number) n 0 (let a = kept_by.words.size in let b = words_in_all (kind_width q.shape.kind) q.shape.rows in omega arith)

      kept : (k : ℕ) → k ≢ section_at q.number → slice_index (slice_set s.words (section_at q.number) n) k ≡ slice_index s.words k
      kept k other = get_or-set_other s.words (section_at q.number) k n 0 other

-- ---- numbers of calls

one_if_low : (b : Bool) → one_if b ≤ 1
one_if_low true = omega arith
one_if_low false = omega arith

-- no more calls are in the history than have begun, nor fewer than have ended
history_begun : (p : PenPart) → IsOneHistory p → length p.history ≤ begun_by p
history_begun p whole = elim (cases_Bool p.in_flight) [
  | inl flies ↦
      let one : begun_by p ≡ p.ended + 1 = ap (λ (b : Bool). p.ended + one_if b) flies in
      let few = one_if_low p.published in let count = whole.count in omega arith
  | inr idle ↦
      let none : p.ended + one_if p.published ≡ p.ended + 0 = ap (λ (b : Bool). p.ended + one_if b) (whole.calm idle) in
      let count = whole.count in omega arith
]

-- ---- more is seen

-- the whole history
all_fit : (e : ℕ → Extent) (p : PenPart) (q : PassPart) (ended epoch risen : ℕ) → PassFits e p q → ended ≤ length p.history → ended ≤ p.ended → epoch ≤ ended → risen ≤ begun_by p
    → PassFits e p (record q { seen = p.history; ended = ended; epoch = epoch; risen = risen })
all_fit e p q ended epoch risen f = numbers_fit e p q p.history q.begun ended epoch risen f (begins_none p.history) (sym f.all) (begins_long q.seen p.history f.seen) f.begun

sees_fits : (e : ℕ → Extent) (p : PenPart) (q : PassPart) → PassFits e p q → PassFits e p (record q { seen = p.history })
sees_fits e p q f = let more = begins_long q.seen p.history f.seen in let a = f.ended in all_fit e p q q.ended q.epoch q.risen f (omega arith) f.over f.epoch f.risen

-- a pass whose section is another
section_fits : (e : ℕ → Extent) (p : PenPart) (q : PassPart) (opened : List ℕ) (standing floor : Option ℕ) (held : List Held) → PassFits e p q → let now : PassPart = record q { opened = opened; standing = standing; floor = floor; held = held } in
    ((h : Holder) → Contains p.loaded h → h.pass ≡ q.number → Contains opened h.epoch) → ((o : ℕ) → standing ≡ Some o → IsOpenAt now o) → (standing ≡ None → floor ≡ None) → ((n : ℕ) → floor ≡ Some n → HasFloor p now n)
    → ((j : ℕ) (x : Held) → get_elem? held j ≡ some x → IsHeldBy e p now x) → PassFits e p now
section_fits e p q opened standing floor held f loaded stands closed low rows = record { shape = f.shape; number = f.number; seen = f.seen; mine = f.mine; all = f.all; ended = f.ended; over = f.over; begun = f.begun; risen = f.risen; epoch = f.epoch; loaded = loaded; standing = stands; closed = closed; floor = low; held = rows }

-- the rows of a section
rows_fit : (e : ℕ → Extent) (p : PenPart) (q : PassPart) (floor : Option ℕ) (held : List Held) → PassFits e p q → (q.standing ≡ None → floor ≡ None) → ((n : ℕ) → floor ≡ Some n → HasFloor p (record q { floor = floor; held = held }) n)
    → ((j : ℕ) (x : Held) → get_elem? held j ≡ some x → IsHeldBy e p (record q { floor = floor; held = held }) x) → PassFits e p (record q { floor = floor; held = held })
rows_fit e p q floor held f closed low rows = section_fits e p q q.opened q.standing floor held f f.loaded (λ o is. let h = f.standing o is in record { seen = h.seen; opened = h.opened }) closed low rows

-- ---- a load

-- what a load leaves of a pass as it is
abbrev stays : PassPart → ℕ × Option ℕ × Shape
stays q = (q.number, q.standing, q.shape)

-- What a load leads to: the pass afterwards, before the step is counted, and what it then knows of the word that was found.
pub record Leads (tells : ℕ → ℕ → PassPart → PassPart → Type 0) (e : ℕ → Extent) (p : PenPart) (q : PassPart) (word found : ℕ) : Type 0 where
  pub after : PassPart
  pub same : stays after ≡ stays q
  pub fits : PassFits e p after
  pub told : tells word found q (counted q after)

-- the pen's part, with the shape as a pass knows it
abbrev shaped : PassPart → PenPart → PenPart
shaped q p = record p { shape = q.shape }

-- so it does whatever the words are, and whatever the pen knows
abbrev pub Loads : (ℕ → ℕ → PassPart → PassPart → Type 0) → ℕ → PassPart → Type 0
Loads tells word q = (ws : List ℕ) (e : ℕ → Extent) (pen : PenPart) → WordsFit ws (shaped q pen) → IsSoundPen e (shaped q pen) → PassFits e (shaped q pen) q → Leads tells e (shaped q pen) q word (slice_index ws word)

pub may_load : (tells : ℕ → ℕ → PassPart → PassPart → Type 0) (told : TableStart) (word : ℕ) (q : PassPart) → Loads tells word q → MayLoadWord tells told word q
may_load tells told word q loads slots by me is same s r₀ _ at _ =
    let q₁ : PassPart = pass_of me.0 in
    let r : IsKept told s = kept_by told s r₀ by me.0 at q₁ is in
    let leads : Loads tells word q₁ = subst (Loads tells word) (sym same) loads in
    let l = leads s.words r.extents r₀.part r.words r.sound ((r.each by me.0 at).passes q₁ is) in (
      record me.0 { pass = Some (counted q₁ l.after) },
      keeps,
      tt,
      loads_to told s r₀ by me.0 at q₁ is word l.after (ap (λ (z : ℕ × Option ℕ × Shape). z.0) l.same) (ap (λ (z : ℕ × Option ℕ × Shape). z.1) l.same) l.fits,
      (record { view = refl; slots = refl; shape = ap (λ (z : ℕ × Option ℕ × Shape). z.2) l.same; number = ap (λ (z : ℕ × Option ℕ × Shape). z.0) l.same; counted = refl }, l.told),
    )

-- ---- the numbers of calls that ended and that have begun

pub commits : (q : PassPart) → Loads (λ word. LoadedCommits) commits_at q
commits q ws e pen fit sound f =
    let p : PenPart = shaped q pen in
    let n : ℕ = slice_index ws commits_at in
    let ended : n ≡ p.ended = fit.commits in
    let whole = sound.history in let count = whole.count in let few = whole.few in let one = one_if_low p.published in record {
      after = record q { seen = p.history; epoch = n; ended = n };
      same = refl;
      fits = all_fit e p q n n q.risen f (omega arith) (omega arith) (omega arith) f.risen;
      told = record { reads = record { is = refl; seen = f.seen }; before = let a = f.over in omega arith; most = omega arith; least = omega arith; few = omega arith };
    }

-- what a pass has seen is a legal history
sound_of : (e : ℕ → Extent) (p : PenPart) (q : PassPart) → IsOneHistory p → PassFits e p q → known.IsSound (tree_of p.shape []) (known_by q)
sound_of e p q whole f = record { own = f.mine; legal = legal_within p.shape q.seen p.history f.seen whole.legal }

begun_fits : (e : ℕ → Extent) (p : PenPart) (q : PassPart) (n : ℕ) → PassFits e p q → n ≡ begun_by p → PassFits e p (record q { begun = n })
begun_fits e p q n f is = numbers_fit e p q q.seen n q.ended q.epoch q.risen f f.seen f.mine (omega arith) (omega arith) f.ended f.over f.epoch f.risen

pub beguns : (q : PassPart) → Loads (λ word. LoadedBegun) begun_at q
beguns q ws e pen fit sound f =
    let p : PenPart = shaped q pen in
    let n : ℕ = slice_index ws begun_at in
    let begun : n ≡ begun_by p = fit.begun in
    let more = begins_long q.seen p.history f.seen in let all = history_begun p sound.history in
    let after : PassPart = record q { begun = n } in
    let fits = begun_fits e p q n f begun in record {
      after = after;
      same = refl;
      fits = fits;
      told = record { is = refl; seen = omega arith; before = let a = f.begun in omega arith; risen = let a = f.risen in omega arith; sound = sound_of e p after sound.history fits };
    }

-- ---- sections

-- the part that a step makes, before the step is counted
abbrev uncounted : PassPart → PassPart → PassPart
uncounted q q' = record q' { steps = q.steps }

opened_fits : (e : ℕ → Extent) (p : PenPart) (q : PassPart) → PassFits e p q → PassFits e p (uncounted q (opened_section q))
opened_fits e p q f = section_fits e p q (opened_section q).opened (Some q.epoch) None [] f
    (λ h has mine. Contains-append_left q.opened (q.epoch ∷ []) h.epoch (f.loaded h has mine))
    (λ o is. subst (IsOpenAt (uncounted q (opened_section q))) (let same : q.epoch ≡ o = cc in same) record { seen = let a = f.epoch in let b = f.ended in omega arith; opened = Contains-push q.opened q.epoch })
    (λ is. refl) (λ n is. absurd (none-some n is)) (λ j x at. absurd (some-ne-none x (sym at)))

closed_fits : (e : ℕ → Extent) (p : PenPart) (q : PassPart) → PassFits e p q → PassFits e p (uncounted q (closed_section q))
closed_fits e p q f = section_fits e p q q.opened None None [] f f.loaded (λ o is. absurd (none-some o is)) (λ is. refl) (λ n is. absurd (none-some n is)) (λ j x at. absurd (some-ne-none x (sym at)))

opening_here : (told : TableStart) (slots by : ℕ) (me : M) (new : ℕ) → HasPass me.0 → new ≡ 2 * (pass_of me.0).epoch + 1
    → Allows (IsKept told) slots by me (section_at (pass_of me.0).number) (λ _. new) (λ _. opens_section (step slots (section_at (pass_of me.0).number) new 0 none) me new)
opening_here told slots by me new is word s r₀ _ at _ =
    let q = pass_of me.0 in let p : PenPart = part_by told s r₀ by me.0 at q is in
    let r : IsKept told s = kept_by told s r₀ by me.0 at q is in let f : PassFits r.extents p q = (r.each by me.0 at).passes q is in (
      record me.0 { pass = Some (opened_section q) },
      keeps,
      tt,
      stores_to told s r₀ by me.0 at q is new (uncounted q (opened_section q)) refl word (inr (q.epoch, word, (let a = f.epoch in let b = f.over in omega arith))) (opened_fits r.extents p q f),
      (record { view = refl; slots = refl; shape = refl; number = refl; counted = refl }, refl),
    )

pub opening_at : (told : TableStart) (slots by : ℕ) (me : M) (new word : ℕ) → HasPass me.0 → word ≡ section_at (pass_of me.0).number → new ≡ 2 * (pass_of me.0).epoch + 1
    → Allows (IsKept told) slots by me word (λ _. new) (λ _. opens_section (step slots word new 0 none) me new)
opening_at told slots by me new word is place e = subst (λ (w : ℕ). Allows (IsKept told) slots by me w (λ _. new) (λ _. opens_section (step slots w new 0 none) me new)) (sym place) (opening_here told slots by me new is e)

closing_here : (told : TableStart) (slots by : ℕ) (me : M) → HasPass me.0
    → Allows (IsKept told) slots by me (section_at (pass_of me.0).number) (λ _. 0) (λ _. closes_section (step slots (section_at (pass_of me.0).number) 0 0 none) me 0)
closing_here told slots by me is s r₀ _ at _ =
    let q = pass_of me.0 in let p : PenPart = part_by told s r₀ by me.0 at q is in
    let r : IsKept told s = kept_by told s r₀ by me.0 at q is in let f : PassFits r.extents p q = (r.each by me.0 at).passes q is in (
      record me.0 { pass = Some (closed_section q) },
      keeps,
      tt,
      stores_to told s r₀ by me.0 at q is 0 (uncounted q (closed_section q)) refl refl (inl refl) (closed_fits r.extents p q f),
      (record { view = refl; slots = refl; shape = refl; number = refl; counted = refl }, refl),
    )

pub closing_at : (told : TableStart) (slots by : ℕ) (me : M) (word : ℕ) → HasPass me.0 → word ≡ section_at (pass_of me.0).number
    → Allows (IsKept told) slots by me word (λ _. 0) (λ _. closes_section (step slots word 0 0 none) me 0)
closing_at told slots by me word is place = subst (λ (w : ℕ). Allows (IsKept told) slots by me w (λ _. 0) (λ _. closes_section (step slots w 0 0 none) me 0)) (sym place) (closing_here told slots by me is)

-- ---- the row that a section comes to

-- a row is come to, in a section whose floor is n
comes_to : (e : ℕ → Extent) (p : PenPart) (q : PassPart) (x : Held) (n : ℕ) → PassFits e p q → HoldsRow p.shape.kind (state_in p) e (moment_at p.shape p.history) x → (q.standing ≡ None → ⊥)
    → IfSome q.standing (λ o. o ≤ n) → n ≤ x.since → n ≤ length q.seen → x.met ≤ length q.seen → slice_index p.cleared q.number ≤ n → ((m : ℕ) → q.floor ≡ Some m → m ≡ n) → PassFits e p (record q { floor = Some n; held = x ∷ q.held })
comes_to e p q x n f holds stands low since seen met clear was = rows_fit e p q (Some n) (x ∷ q.held) f
    (λ is. absurd (stands is))
    (λ m is. let same : n ≡ m = cc in subst (HasFloor p (record q { floor = Some n; held = x ∷ q.held })) same record { seen = seen; cleared = clear; epoch = low })
    each
  where
    each : (j : ℕ) (y : Held) → get_elem? (x ∷ q.held) j ≡ some y → IsHeldBy e p (record q { floor = Some n; held = x ∷ q.held }) y
    each zero y is = subst (IsHeldBy e p (record q { floor = Some n; held = x ∷ q.held })) (some-injective x y is) record { row = holds; met = met; floor = n; has = refl; since = since }
    each (suc j) y is = let h = f.held j y is in record { row = h.row; met = h.met; floor = n; has = refl; since = let a = was h.floor h.has in let b = h.since in omega arith }

-- the root row, at the load of its name
root_fits : (e : ℕ → Extent) (p : PenPart) (q : PassPart) (x : Held) (floor : Option ℕ) → IsSoundPen e p → PassFits e p q → (q.standing ≡ None → ⊥) → q.floor ≡ floor → x.since ≡ length p.history → x.met ≡ length p.history
    → HoldsRow p.shape.kind (state_in p) e (moment_at p.shape p.history) x → PassFits e p (record q { seen = p.history; floor = floor_or floor (length p.history); held = x ∷ q.held })
root_fits e p q x None sound f stands was since met holds =
    let more = begins_long q.seen p.history f.seen in let count = sound.history.count in
    comes_to e p (record q { seen = p.history }) x (length p.history) (sees_fits e p q f) holds stands (opened_before q.standing refl) (omega arith) (omega arith) (omega arith)
    (let a = f.number in let b = sound.history.dealt in let c = sound.cleared q.number (omega arith) in omega arith)
    (λ m is. let none : None ≡ Some m = sym was ∙ is in absurd cc)
  where
    opened_before : (standing : Option ℕ) → q.standing ≡ standing → IfSome standing (λ o. o ≤ length p.history)
    opened_before None is = tt
    opened_before (Some o) is = let a = (f.standing o is).seen in let more = begins_long q.seen p.history f.seen in omega arith
root_fits e p q x (Some n) sound f stands was since met holds =
    let more = begins_long q.seen p.history f.seen in
    let h = f.floor n was in let a = h.seen in
    comes_to e p (record q { seen = p.history }) x n (sees_fits e p q f) holds stands h.epoch (omega arith) (omega arith) (omega arith) h.cleared (λ m is. let same : Some m ≡ Some n = sym is ∙ was in cc)

module _ (q : PassPart) (stands : q.standing ≢ None) (ws : List ℕ) (e : ℕ → Extent) (pen : PenPart) (fit : WordsFit ws (shaped q pen)) (sound : IsSoundPen e (shaped q pen)) (f : PassFits e (shaped q pen) q) where
  abbrev p₀ : PenPart
  p₀ = shaped q pen

  no_root : slice_index ws root_at ≡ 0 → Leads (λ word. LoadedRoot) e p₀ q root_at (slice_index ws root_at)
  no_root none_there =
      let empty : p₀.root ≡ 0 = sym fit.root ∙ none_there in
      let count = sound.history.count in record {
        after = record q { seen = p₀.history };
        same = refl;
        fits = sees_fits e p₀ q f;
        told = record {
          empty = λ _. record {
            reads = record { is = refl; seen = f.seen };
            empty = ap (λ (n : ℕ). (moment_at p₀.shape p₀.history n).ranges) count ∙ (sound.known.current ∙ ap (map_in (record { width = kind_width p₀.shape.kind; words = p₀.words })) empty);
          };
          row = λ some_there. absurd (some_there none_there);
        };
      }

  a_root : slice_index ws root_at ≢ 0 → Leads (λ word. LoadedRoot) e p₀ q root_at (slice_index ws root_at)
  a_root some_there =
      let there : p₀.root ≢ 0 = λ e. some_there (fit.root ∙ e) in
      let count = sound.history.count in
      let few = sound.history.dealt in let number = f.number in let passes = sound.passes in
      let clear : slice_index p₀.cleared q.number ≤ p₀.ended = sound.cleared q.number (omega arith) in
      let least : least_number p₀.cleared ≤ slice_index p₀.cleared q.number = least_low p₀.cleared q.number (omega arith) in
      let root = root_held p₀.shape.kind (state_in p₀) e (moment_at p₀.shape p₀.history) sound.known (omega arith) there in
      let x : Held = come (state_in p₀) (row_in p₀.root) (calls (state_in p₀)) (extent_at (root_span (record { width = kind_width p₀.shape.kind; words = p₀.words }) p₀.root) root.0) in
      let holds : HoldsRow p₀.shape.kind (state_in p₀) e (moment_at p₀.shape p₀.history) x = root.2.held in record {
        after = record q { seen = p₀.history; floor = floor_or q.floor (length p₀.history); held = x ∷ q.held };
        same = refl;
        fits = root_fits e p₀ q x q.floor sound f stands refl (sym count) (sym count) holds;
        told = record {
          empty = λ none_there. absurd (some_there none_there);
          row = λ _. record {
            reads = record { is = refl; seen = f.seen };
            at = refl;
            comes = record {
              row = ap row_in (sym fit.root);
              named = ap named_kind fit.root ∙ root.2.named;
              has = holds.has;
              since_is = sym count;
              old = holds.old;
              met = omega arith;
              width = refl;
              shape = holds.shape;
            };
            first = refl;
            last = refl;
            level = subst (λ (x : Extent). slots_of (kind_width p₀.shape.kind) (inner_kind p₀.shape.kind) * x.level ≤ 128) holds.extent
                (few_slots_below p₀.shape.kind (state_in p₀) e (moment_at p₀.shape p₀.history) sound.known sound.tree.words sound.rows there);
            low = root.1;
          };
        };
      }

pub roots : (q : PassPart) → q.standing ≢ None → Loads (λ word. LoadedRoot) root_at q
roots q stands ws e pen fit sound f = elim (cases_eq (slice_index ws root_at) 0) [
  | inl none_there ↦ no_root q stands ws e pen fit sound f none_there
  | inr some_there ↦ a_root q stands ws e pen fit sound f some_there
]

-- ---- the row that the section is at

-- the words of rows are those that the pen knows
word_now : (ws : List ℕ) (p : PenPart) (row col : ℕ) → WordsFit ws p → first_row ≤ row → slice_index ws (column_at (kind_width p.shape.kind) row col) ≡ slice_index p.words (column_at (kind_width p.shape.kind) row col)
word_now ws p row col fit low = fit.columns (column_at (kind_width p.shape.kind) row col) (word_behind (kind_width p.shape.kind) row first_row col low)

-- a word of no interest
pub touches_at : (q : PassPart) (word : ℕ) → Loads touches word q
touches_at q word ws e pen fit sound f = record { after = q; same = refl; fits = f; told = refl }

-- a pivot is as it was
pub pivots : (q : PassPart) (word row col : ℕ) → IsAt q → row ≡ (here q).row → (i : ℕ) × (col ≡ pivot_column i) × (i + 1 < slots_in q (here q)) → word ≡ column_at (kind_width q.shape.kind) row col → Loads LoadedPivot word q
pivots q word row col here_at row_is pivot place ws e pen fit sound f =
    let p : PenPart = shaped q pen in
    let x : Held = here q in
    let h = (f.held 0 x here_at).row in
    let width : Width = kind_width q.shape.kind in
    let i = pivot.0 in
    let index : word ≡ column_at width x.row (pivot_column i) = place ∙ (λ j. column_at width (row_is j) (pivot.1 j)) in record {
      after = record q { seen = p.history };
      same = refl;
      fits = sees_fits e p q f;
      told = record {
        reads = record { is = refl; seen = f.seen };
        found_is = ap (slice_index ws) index
            ∙ (word_now ws p x.row (pivot_column i) fit h.has.0
            ∙ (pivot_now x.width width x.copy p.words (kind_of q x) x.row i (sym h.width) h.form pivot.2
            ∙ ap (slice_index x.copy) (sym index)));
      };
    }

-- other rows are held, on the same floor
held_fits : (e : ℕ → Extent) (p : PenPart) (q : PassPart) (held : List Held) → PassFits e p q → ((j : ℕ) (x : Held) → get_elem? held j ≡ some x → IsHeldBy e p q x) → PassFits e p (record q { held = held })
held_fits e p q held f rows = rows_fit e p q q.floor held f f.closed
    (λ n is. let h = f.floor n is in record { seen = h.seen; cleared = h.cleared; epoch = h.epoch })
    (λ j x at. let h = rows j x at in record { row = h.row; met = h.met; floor = h.floor; has = h.has; since = h.since })

behind_at : (xs : List Held) (j : ℕ) (x : Held) → get_elem? (held_behind xs) j ≡ some x → get_elem? xs (suc j) ≡ some x
behind_at [] j x e = absurd (some-ne-none x (sym e))
behind_at (y ∷ xs) j x e = e

-- the row that the section is at is known better
renewed_fits : (e : ℕ → Extent) (p : PenPart) (q : PassPart) → IsSoundPen e p → PassFits e p q → IsAt q → PassFits e p (record q { seen = p.history; held = as_known_now (state_in p) (here q) ∷ held_behind q.held })
renewed_fits e p q sound f here_at = held_fits e p (record q { seen = p.history }) (as_known_now (state_in p) (here q) ∷ held_behind q.held) (sees_fits e p q f) each
  where
    each : (j : ℕ) (y : Held) → get_elem? (as_known_now (state_in p) (here q) ∷ held_behind q.held) j ≡ some y → IsHeldBy e p (record q { seen = p.history }) y
    each zero y e' =
        let h = (sees_fits e p q f).held 0 (here q) here_at in
        subst (IsHeldBy e p (record q { seen = p.history })) (some-injective (as_known_now (state_in p) (here q)) y e')
        record { row = renewed_held p.shape.kind (state_in p) e (moment_at p.shape p.history) sound.known (here q) h.row; met = h.met; floor = h.floor; has = h.has; since = h.since }
    each (suc j) y e' = (sees_fits e p q f).held (suc j) y (behind_at q.held j y e')

-- a leaf has what the map had after some number of calls
leaf_read : (e : ℕ → Extent) (p : PenPart) (q : PassPart) (x : Held) → IsSoundPen e p → q.shape ≡ p.shape → q.seen ≡ p.history → HoldsRow p.shape.kind (state_in p) e (moment_at p.shape p.history) x → x.extent.level ≡ 0 → IsLeafRead q x (as_known_now (state_in p) x)
leaf_read e p q x sound shape seen h leaf = subst (λ (z : Shape × List Moment). IsLeafRead (record q { shape = z.0; seen = z.1 }) x (as_known_now (state_in p) x)) (λ i. (sym shape i, sym seen i)) told
  where
    told : IsLeafRead (record q { shape = p.shape; seen = p.history }) x (as_known_now (state_in p) x)
    told =
        let t = leaf_held p.shape.kind (state_in p) e (moment_at p.shape p.history) sound.known x h leaf in
        let count = sound.history.count in let high = t.high in
        record {
          same = refl;
          k = t.k;
          low = t.low;
          high = omega arith;
          now = λ none_died. t.now none_died ∙ sym count;
          width = sym h.width;
          form = h.form;
          shape = (renewed_held p.shape.kind (state_in p) e (moment_at p.shape p.history) sound.known x h).shape;
          map = sound.known.maps t.k t.high;
          part = t.part;
        }

-- a slot of a leaf
entries : (q : PassPart) (word col : ℕ) → IsAt q → (here q).extent.level ≡ 0 → word ≡ column_at (kind_width q.shape.kind) (here q).row col → Loads LoadedSlot word q
entries q word col here_at leaf place ws e pen fit sound f =
    let p : PenPart = shaped q pen in
    let x : Held = here q in
    let h = (f.held 0 x here_at).row in
    let after : PassPart = record q { seen = p.history; held = as_known_now (state_in p) x ∷ held_behind q.held } in record {
      after = after;
      same = refl;
      fits = renewed_fits e p q sound f here_at;
      told = record {
        entry = λ _. record {
          reads = record { is = refl; seen = f.seen };
          read = leaf_read e p (counted q after) x sound refl refl h leaf;
          found_is = ap (slice_index ws) place ∙ (word_now ws p x.row col fit h.has.0 ∙ ap (slice_index p.words) (sym place));
        };
        child = λ inner. absurd (inner leaf);
      };
    }

-- a slot of an inner row, which leads to the child
childs : (q : PassPart) (word i level : ℕ) → IsAt q → (here q).extent.level ≡ suc level → i < length (spans_here q (here q)) → word ≡ column_at (kind_width q.shape.kind) (here q).row (slot_column (slots_in q (here q)) i) → Loads LoadedSlot word q
childs q word i level here_at inner low place ws e pen fit sound f =
    let p : PenPart = shaped q pen in
    let x : Held = here q in
    let held = f.held 0 x here_at in
    let h = held.row in
    let width : Width = kind_width q.shape.kind in
    let t = slot_now q.shape.kind x.width width x.copy p.words x.row i x.extent (sym h.width) h.form low in
    let name : ℕ = slice_index ws word in
    let named : t.now.word ≡ name = t.word_is ∙ (sym (word_now ws p x.row (slot_column (slots_in q x) i) fit h.has.0) ∙ ap (slice_index ws) (sym place)) in
    let c = child_held q.shape.kind (state_in p) e (moment_at q.shape p.history) sound.known x level t.now h inner (one_of_get (spans_at q.shape.kind (state_in p).tree.table x.row x.extent) i t.now t.at) in
    let y : Held = come (state_in p) (row_in t.now.word) x.since (extent_at t.now level) in
    let count = sound.history.count in record {
      after = record q { seen = p.history; held = y ∷ q.held };
      same = refl;
      fits = child_fits e p q y held.floor f c.held (omega arith) held.has held.since;
      told = record {
        entry = λ leaf. absurd (omega arith);
        child = λ _. record {
          reads = record { is = refl; seen = f.seen };
          at = refl;
          comes = record { row = ap row_in named; named = ap named_kind (sym named) ∙ c.named; has = c.held.has; since_is = refl; old = c.held.old; met = omega arith; width = refl; shape = c.held.shape };
          level = omega arith;
          covers = λ j z there at_j. t.same z (subst (λ (n : ℕ). slice_get (spans_here q x) n ≡ Some z) (same_slot width x.row (slots_in q x) i j (sym place ∙ there)) at_j);
        };
      };
    }
  where
    child_fits : (e : ℕ → Extent) (p : PenPart) (q : PassPart) (y : Held) (n : ℕ) → PassFits e p q → HoldsRow p.shape.kind (state_in p) e (moment_at p.shape p.history) y → y.met ≤ length p.history → q.floor ≡ Some n → n ≤ y.since
        → PassFits e p (record q { seen = p.history; held = y ∷ q.held })
    child_fits e p q y n f holds met floor since = held_fits e p (record q { seen = p.history }) (y ∷ q.held) (sees_fits e p q f) each
      where
        each : (j : ℕ) (z : Held) → get_elem? (y ∷ q.held) j ≡ some z → IsHeldBy e p (record q { seen = p.history }) z
        each zero z e' = subst (IsHeldBy e p (record q { seen = p.history })) (some-injective y z e') record { row = holds; met = met; floor = n; has = floor; since = since }
        each (suc j) z e' = (sees_fits e p q f).held j z e'

    same_slot : (width : Width) (row slots i j : ℕ) → column_at width row (slot_column slots i) ≡ column_at width row (slot_column slots j) → j ≡ i
    same_slot width row slots i j e = omega arith

pub slots_at : (q : PassPart) (word row col : ℕ) → IsAt q → row ≡ (here q).row → (i : ℕ) × (col ≡ slot_column (slots_in q (here q)) i) × (i < length (spans_here q (here q))) → word ≡ column_at (kind_width q.shape.kind) row col → Loads LoadedSlot word q
slots_at q word row col here_at row_is slot place =
    let width : Width = kind_width q.shape.kind in
    elim (cases_eq (here q).extent.level 0) [
      | inl leaf ↦ entries q word col here_at leaf (place ∙ (λ j. column_at width (row_is j) col))
      | inr inner ↦ childs q word slot.0 ((here q).extent.level - 1) here_at (omega arith) slot.2 (place ∙ (λ j. column_at width (row_is j) (slot.1 j)))
    ]

-- ---- the mark

-- the parent word of each row that is held
parent_tells : (e : ℕ → Extent) (p : PenPart) (q : PassPart) (marks : List ℕ) (x : Held) (n : ℕ) → IsSoundPen e p → IsHeldBy e p q x → n ≡ word_at (state_in p).tree x.row 0
    → ParentTells (record q { shape = p.shape; seen = p.history; risen = begun_by p; marks = marks; steps = q.steps + 1 }) x n
parent_tells e p q marks x n sound h is = record {
  dead = λ mark. marked_held p.shape.kind (state_in p) e (moment_at p.shape p.history) sound.known x h.row (sym is ∙ mark);
  live = λ off. not_died x.died refl (unmarked off).0;
  past = λ off leaf k met high. let count = sound.history.count in (unmarked off).1 leaf k met (omega arith);
}
  where
    unmarked : n ≢ dead_mark x.row → (life_of p.lives x.row ≡ Live) × (x.extent.level ≡ 0 → (k : ℕ) → x.met ≤ k → k ≤ calls (state_in p) → Snapshot p.shape.kind x (moment_at p.shape p.history k))
    unmarked off = unmarked_held p.shape.kind (state_in p) e (moment_at p.shape p.history) sound.known x h.row (λ mark. off (is ∙ mark))

    not_died : (o : Option ℕ) → x.died ≡ o → life_of p.lives x.row ≡ Live → x.died ≡ None
    not_died None died live = died
    not_died (Some d) died live = let dead : life_of p.lives x.row ≡ Dead d = h.row.died d died in absurd cc

-- a pass that has loaded other dead marks
marked_fits : (e : ℕ → Extent) (p : PenPart) (q : PassPart) (marks : List ℕ) → PassFits e p q → PassFits e p (record q { marks = marks })
marked_fits e p q marks = beside_fits e p q p.dealt p.sections q.steps marks (omega arith)

pub parents : (q : PassPart) (row word : ℕ) → Loads (LoadedParent row) word q
parents q row word ws e pen fit sound f =
    let p : PenPart = shaped q pen in
    let more = begins_long q.seen p.history f.seen in
    let marks = marks_with row (slice_index ws word) q.marks in record {
      after = record q { seen = p.history; risen = begun_by p; marks = marks };
      same = refl;
      fits = marked_fits e p (record q { seen = p.history; risen = begun_by p }) marks (all_fit e p q q.ended q.epoch (begun_by p) f (let a = f.ended in omega arith) f.over f.epoch (omega arith));
      told = record {
        reads = record { is = refl; seen = f.seen };
        risen = f.risen;
        tells = λ j x at_j there. let h = f.held j x at_j in
            parent_tells e p q marks x (slice_index ws word) sound h (ap (slice_index ws) there ∙ word_now ws p x.row 0 fit h.row.has.0);
      };
    }
