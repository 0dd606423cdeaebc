-- A call that has replaced rows: the rows and the book by its end.
use Rattle.mt_engine.proofs.Prelude.{◌≡◌, ℕ, ◌+◌, ◌*◌, ◌-◌, ◌<◌, ◌≤◌, ◌++◌, List, Bool, Option, true, false, length, map, get_or, refl, sym, ap, ◌∙◌, subst, inl, inr, arith, length-append, All, Contains, cases_Bool, get_or-map, get_or_append_left, length-map, All-append, All-map, Kind, Call, Reply, Range, acted, deepest, most_taken, first_row, Book, StampedRow, IsRowOf, held_rows, live_count, Life, Dead, Place, height_in, Rooted, Sheet, life_of, IsLawfulOf, LiveAreReached, is_reached, finished, map_by, with_record, IsBookOf, IsSpliced, IsEngineState, IsIdle, TookRows, IsDoneByStore}
use Rattle.mt_engine.proofs.Levelled.{levelled}
use Rattle.mt_engine.proofs.Moments.{tree_if_lawful}

-- a map and a reply, each by itself
acts_by : (was : List Range × Reply) (m : List Range) (reply : Reply) → m ≡ was.0 → was.1 ≡ reply → was ≡ (m, reply)
acts_by was m reply is replies = ap (λ (l : List Range). (l, was.1)) (sym is) ∙ ap (λ (r : Reply). (m, r)) replies

-- ---- held rows

-- a held row is not reached
not_reached : (t : Rooted) (lives : List Life) (cleared : ℕ) (book : Book) (number row : ℕ) → IsBookOf t lives cleared book number → Contains (held_rows book) row → is_reached t row ≡ false
not_reached t lives cleared book number row booked held = elim (cases_Bool (is_reached t row)) [ inl reached ↦ absurd ((booked.reached row reached).not_held held) | inr apart ↦ apart ]

-- what stands in the list of held rows is a held row
holds : (book : Book) (k : ℕ) (d : StampedRow) → k < length book.held → Contains (held_rows book) (get_or book.held k d).row
holds book k d within =
    let f : StampedRow → ℕ = λ h. h.row in
    (k, omega (arith, length-map book.held f, within), get_or-map f book.held k d (get_or book.held k d).row within)

-- what stands in a list stands in the same place when more is behind it
at_front : (xs more ys : List StampedRow) → ys ≡ xs ++ more → (k : ℕ) (d : StampedRow) → k < length xs → (k < length ys) × (get_or ys k d ≡ get_or xs k d)
at_front xs more ys is k d within = (
  omega (arith, ap length is, length-append xs more),
  ap (λ (l : List StampedRow). get_or l k d) is ∙ get_or_append_left xs more d k within,
)

-- ---- the numbers of rows

grows : (rows free free' taken held held' height opened ended : ℕ) → free ≡ free' + taken → taken ≤ 3 * height + 1 → height ≤ deepest → free + held ≤ rows → free' + held' ≤ rows → held + (rows - (free + held)) ≤ opened + most_taken * ended
    → held' + (rows - (free' + held')) ≤ opened + most_taken * (ended + 1)
grows rows free free' taken held held' height opened ended frees few low counted counted' grown = omega arith

-- ---- the whole

-- rows after a replacement
abbrev pub replaced : Sheet → Rooted → List Life → List Bool → Option ℕ → Call → Reply → Sheet
replaced s t lives buried reads call reply = record s { tree = t; published = true; lives = lives; buried = buried; told = with_record s.told call reply; reads = reads }

-- what such a call is
pub stored_as : (kind : Kind) (s : Sheet) (t : Rooted) (lives : List Life) (buried : List Bool) (reads : Option ℕ) (book book' : Book) (call : Call) (reply : Reply) → s.in_flight ≡ true → IsIdle kind (finished (replaced s t lives buried reads call reply) call reply) book'
    → t.rows ≡ s.tree.rows → acted kind (map_by s.tree) call ≡ (map_by t, reply) → TookRows kind s book.free book' call → IsDoneByStore kind s (replaced s t lives buried reads call reply) book book' call reply
stored_as kind s t lives buried reads book book' call reply flies idle rows acts took = record {
  may = record { in_flight = flies; kept = λ before. absurd (cc) };
  ended = record { idle = idle; ended = refl; record_told = refl; cleared = omega arith; rows = rows; opened = refl; shared = refl; known = refl };
  acts = acts;
  unscanned = record { scans = refl; scan = refl };
  took = took;
}

module _ (kind : Kind) (s s₁ : Sheet) (book book' : Book) (call : Call) (reply : Reply) (place : Place) {first last : ℕ} (state : IsEngineState kind s book) (spliced : IsSpliced kind s s₁ book book' (s.ended + 1) call reply place first last) where
  abbrev lives : List Life
  lives = s₁.lives

  -- an old held row keeps its life: it was not reached, and is not
  old_held : All (λ (h : StampedRow). life_of lives h.row ≡ Dead h.stamp) book.held
  old_held = λ k d within.
      (let row : ℕ = (get_or book.held k d).row in
      let here : Contains (held_rows book) row = holds book k d within in
      let front = at_front book.held (map (λ (r : ℕ). record { row = r; stamp = s.ended + 1 }) spliced.moved.gone) book'.held spliced.moved.held k d within in
      let there : Contains (held_rows book') row = subst (λ (h : StampedRow). Contains (held_rows book') h.row) front.1 (holds book' k d front.0) in
      let at : IsRowOf book row = state.kept.booked.sound.waiting_rows k d within in
      let from = at.0 in let below = at.1 in
      let rows = state.kept.booked.rows in
      spliced.others row (omega arith) (omega arith) (not_reached s.tree s.lives s.cleared book (s.ended + 1) row state.kept.booked here) (not_reached s₁.tree lives s₁.cleared book' (s.ended + 1 + 1) row spliced.booked there) ∙ state.held k d within)

  -- a row that went died by this call
  new_held : All (λ (h : StampedRow). life_of lives h.row ≡ Dead h.stamp) (map (λ (r : ℕ). record { row = r; stamp = s.ended + 1 }) spliced.moved.gone)
  new_held =
      let gone = spliced.moved.gone in
      let held : ℕ → StampedRow = λ (r : ℕ). record { row = r; stamp = s.ended + 1 } in
      All-map (λ (h : StampedRow). life_of lives h.row ≡ Dead h.stamp) held gone
      (λ k d within. spliced.dead (get_or gone k d) (spliced.moved.were_reached k d within) (spliced.moved.are_not k d within))

  held_after : All (λ (h : StampedRow). life_of lives h.row ≡ Dead h.stamp) book'.held
  held_after =
      let P : StampedRow → Type 0 = λ (h : StampedRow). life_of lives h.row ≡ Dead h.stamp in
      subst (All P) (sym spliced.moved.held) (All-append P book.held _ old_held new_held)

  grown_after : length book'.held + live_count book' ≤ s.opened + most_taken * (s.ended + 1)
  grown_after =
      let rows : book'.rows ≡ book.rows = spliced.booked.rows ∙ (spliced.rows ∙ sym state.kept.booked.rows) in
      let frees : length book.free ≡ length book'.free + length spliced.moved.taken = ap length spliced.moved.free ∙ length-append book'.free spliced.moved.taken in
      let low = (levelled s.tree kind (tree_if_lawful s.tree kind state.kept.lawful)).low in
      subst (λ (n : ℕ). length book'.held + (n - (length book'.free + length book'.held)) ≤ s.opened + most_taken * (s.ended + 1)) (sym rows)
      (grows book.rows (length book.free) (length book'.free) (length spliced.moved.taken) (length book.held) (length book'.held) (height_in s.tree.table s.tree.root) s.opened s.ended frees spliced.moved.few low state.kept.booked.sound.counted
      (subst (λ (n : ℕ). length book'.free + length book'.held ≤ n) rows spliced.booked.sound.counted) state.grown)

  cleared_is : s₁.cleared ≡ s.cleared
  cleared_is = ap (λ (x : Sheet). x.cleared) spliced.rest

  -- ---- the words are lawful then, and reach the same rows

  module _ (t : Rooted) (reads : Option ℕ) (lawful : IsLawfulOf t kind) (rows : t.rows ≡ s₁.tree.rows) (same : (row : ℕ) → is_reached t row ≡ is_reached s₁.tree row) where
    abbrev after : Sheet
    after = replaced s t s₁.lives s₁.buried reads call reply

    live_after : LiveAreReached t s₁.lives
    live_after row low below =
        let was = spliced.live row low (subst (λ (n : ℕ). row < first_row + n) rows below) in
        ((λ is. same row ∙ was.0 is), (λ is. was.1 (sym (same row) ∙ is)))

    booked_after : IsBookOf t s₁.lives s.cleared book' (s.ended + 1 + 1)
    booked_after =
        let was = subst (λ (n : ℕ). IsBookOf s₁.tree s₁.lives n book' (s.ended + 1 + 1)) cleared_is spliced.booked in
        record {
          sound = was.sound;
          rows = was.rows ∙ sym rows;
          out = λ row low below out. same row ∙ was.out row low (subst (λ (n : ℕ). row < first_row + n) rows below) out;
          reached = λ row is. was.reached row (sym (same row) ∙ is);
          spare = was.spare;
          stamps = was.stamps;
        }

    idle_after : IsIdle kind (finished after call reply) book'
    idle_after = record {
      idle = refl;
      state = record {
        told = state.told;
        kept = record {
          lawful = lawful;
          live = live_after;
          none_buried = λ row low below. spliced.none_buried row low (subst (λ (n : ℕ). row < first_row + n) rows below);
          booked = booked_after;
        };
        held = held_after;
        grown = grown_after;
      };
    }

    -- what such a store is, when it took rows so
    stored_after : s.in_flight ≡ true → map_by t ≡ map_by s₁.tree → (acted kind (map_by s.tree) call).1 ≡ reply → TookRows kind s book.free book' call → IsDoneByStore kind s after book book' call reply
    stored_after flies map replies took =
        stored_as kind s t s₁.lives s₁.buried reads book book' call reply flies idle_after (rows ∙ spliced.rows)
        (acts_by (acted kind (map_by s.tree) call) (map_by t) reply (map ∙ spliced.map) replies) took

  pub stored_by : (s' : Sheet) → s' ≡ replaced s s'.tree s₁.lives s₁.buried s'.reads call reply → IsLawfulOf s'.tree kind → s'.tree.rows ≡ s₁.tree.rows → ((row : ℕ) → is_reached s'.tree row ≡ is_reached s₁.tree row) → s.in_flight ≡ true → map_by s'.tree ≡ map_by s₁.tree
      → (acted kind (map_by s.tree) call).1 ≡ reply → TookRows kind s book.free book' call → IsDoneByStore kind s s' book book' call reply
  stored_by s' is lawful rows same flies map replies took =
      subst (λ (x : Sheet). IsDoneByStore kind s x book book' call reply) (sym is) (stored_after s'.tree s'.reads lawful rows same flies map replies took)
