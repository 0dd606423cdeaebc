-- What a replacement leaves in lives and in the book, and where it published.
use Rattle.mt_splice.proofs.Prelude.{◌≡◌, ◌≢◌, ℕ, zero, suc, ◌+◌, ◌*◌, ◌<◌, ◌≤◌, List, ◌++◌, Option, Some, None, Bool, true, false, map, refl, sym, ap, ◌∙◌, subst, inl, inr, arith, append_assoc, if◌then◌else◌, All, AllPairs, Contains, cases_Bool, cases_eq, length-map, map-append, All-weaker, All-append, All-contains, Contains-append_left, Contains-append_right, Contains-append_cases, Range, Reply, Width, acted, columns, first_row, row_in, dead_mark, Book, StampedRow, IsBook, IsOut, held_rows, Live, Dead, Place, Root, Slot, column, root_span, Span, KeepsGaps, HasGapsBut, Levels, is_row_of, levels_pair, height_in, Rooted, Sheet, life_of, is_buried, word_at, tree_as, IsTreeOf, LiveAreReached, NoneBuried, is_reached, IsReached, map_by, with_published, life_after, IsPlaceToPublish, passing, now, Before, row_seen, stamped, root_of, Shared, levels_from, name_some, WasPublishedAt, IsBooked, HasParents, HasFewest, IsSpliced, is_unreached, GapsBeside, IsUnheld, IsBookOf, StandsAs, FewestAs, count_in, IsChildSlot, IsEndPlace, IsTop, was_seen}
use Rattle.mt_rows.specs.Laws as laws
use Rattle.mt_rows.proofs.Reached as reached
use Rattle.mt_splice.proofs.FewestRows.{SameNews, fewest_later}
use Rattle.mt_splice.proofs.Drafts.{other_row, other_column}
use Rattle.mt_splice.proofs.EndTrees.{is_tree, none_or_some, count_reached}
use Rattle.mt_splice.proofs.EndHoles.{at_on_level, child_on_level}
use Rattle.mt_splice.proofs.EndLists.{all_ones, map_one, one_contains, apart_ends, seen_some, seen_contains, contains_seen, stamped_rows}
use Rattle.mt_splice.proofs.EndWords.{slot_word}
use Rattle.mt_splice.proofs.EndBooks.{taken_leave_book, retired_leave_book}
use Rattle.mt_splice.proofs.EndAfter.{Outcome, above_in}
use Rattle.mt_splice.proofs.EndGaps.{levels_all}
use Rattle.mt_splice.proofs.EndPublish as ends
use Rattle.mt_splice.proofs.Steps.{rows_stamped}

pub life_if_reached : (s : Sheet) (t : Rooted) (row : ℕ) → is_reached t row ≡ true → life_after s t row ≡ Live
life_if_reached s t row is = ap (λ (c : Bool). if c then Live else (if is_buried s.buried row then Dead (s.ended + 1) else life_of s.lives row)) is

pub life_if_buried : (s : Sheet) (t : Rooted) (row : ℕ) → is_reached t row ≡ false → is_buried s.buried row ≡ true → life_after s t row ≡ Dead (s.ended + 1)
life_if_buried s t row not is =
    ap (λ (c : Bool). if c then Live else (if is_buried s.buried row then Dead (s.ended + 1) else life_of s.lives row)) not
    ∙ ap (λ (c : Bool). if c then Dead (s.ended + 1) else life_of s.lives row) is

life_if_kept : (s : Sheet) (t : Rooted) (row : ℕ) → is_reached t row ≡ false → is_buried s.buried row ≡ false → life_after s t row ≡ life_of s.lives row
life_if_kept s t row not none =
    ap (λ (c : Bool). if c then Live else (if is_buried s.buried row then Dead (s.ended + 1) else life_of s.lives row)) not
    ∙ ap (λ (c : Bool). if c then Dead (s.ended + 1) else life_of s.lives row) none

-- the row of the root is reached
pub root_counts : (t : laws.Tree) (h : ℕ) → laws.Stands t h → 1 ≤ count_in (is_row_of (row_in t.root)) t (Some h)
root_counts t h stands = reached.on_level_reached t h stands h (root_span t.table t.root) (record { depth = zero; height = omega arith; one = inl refl })

pub root_named : (t : laws.Tree) (h : ℕ) → laws.Stands t h → t.root ≢ 0
root_named t h stands =
    name_some t.root (laws.kind_on t.gapped h) (reached.on_level_law t h stands h (root_span t.table t.root) (record { depth = zero; height = omega arith; one = inl refl })).name.named

module _ (f : ends.Finish) (s' : Sheet) (o : Outcome f s') where
  abbrev b : Before
  b = f.before

  low' : (row : ℕ) → row < first_row + s'.tree.rows → row < first_row + b.sheet.tree.rows
  low' row last = subst (λ (n : ℕ). row < first_row + n) o.rows last

  abbrev s : Sheet
  s = f.sheet

  abbrev book : Book
  book = f.book

  tree : IsTreeOf s'.tree b.kind
  tree = record { width = o.width ∙ f.may.case.was.kept.lawful.width; words = is_tree (tree_as b.kind s'.tree) f.may.new o.stands }

  map_is : map_by s'.tree ≡ (acted b.kind (map_by b.sheet.tree) f.call).0
  map_is = o.map ∙ sym (ap (λ (r : List Range × Reply). r.0) f.may.answer)

  none_buried : NoneBuried s'.tree.rows s'.buried
  none_buried row first last = o.buried row first (low' row last)

  -- ---- lives

  reached_later : (row : ℕ) → is_reached s'.tree row ≡ true → 1 ≤ ends.new_count f row
  reached_later row is = ends.later_reached f row (sym (o.reached row) ∙ is)

  unreached_later : (row : ℕ) → is_reached s'.tree row ≡ false → ends.new_count f row ≡ 0
  unreached_later row is = ends.later_unreached f row (sym (o.reached row) ∙ is)

  is_reached_later : (row : ℕ) → 1 ≤ ends.new_count f row → is_reached s'.tree row ≡ true
  is_reached_later row some = o.reached row ∙ ends.reached_later f row some

  not_reached_later : (row : ℕ) → ends.new_count f row ≡ 0 → is_reached s'.tree row ≡ false
  not_reached_later row none = o.reached row ∙ ends.unreached_later f row none

  buried_now : (row : ℕ) → 1 ≤ ends.old_count f row → ends.new_count f row ≡ 0 → is_buried s.buried row ≡ true
  buried_now row was none =
      let number = ends.was_number f row was in
      (ends.ledger f).buried row number.0 number.1 ∙ ends.some_gone f row (ends.was_gone f row was none)

  -- a row that is reached neither before nor after was not taken, and is not buried
  untouched : (row : ℕ) → first_row ≤ row → row < first_row + b.sheet.tree.rows → ends.old_count f row ≡ 0 → ends.new_count f row ≡ 0 → life_of s'.lives row ≡ life_of b.sheet.lives row
  untouched row first last was is =
      let c = ends.counts f row in let sum = c.sum in let were = c.were in
      let kept : is_buried s.buried row ≡ false = elim (cases_Bool (is_buried s.buried row)) [
        | inl buried ↦ let some = ends.buried_gone f row first last buried in absurd (omega arith)
        | inr not ↦ not
      ] in
      o.lives row first last ∙ (life_if_kept s (ends.published f) row (ends.unreached_later f row is) kept ∙ ends.life_kept f row first last (ends.not_taken f row (omega arith)))

  live : LiveAreReached s'.tree s'.lives
  live row first last = (
    (λ alive. elim (cases_Bool (is_reached s'.tree row)) [
      | inl is ↦ is
      | inr not ↦ absurd (dead (unreached_later row not) alive)
    ]),
    (λ is. o.lives row first (low' row last) ∙ life_if_reached s (ends.published f) row (sym (o.reached row) ∙ is)),
  )
    where
      dead : ends.new_count f row ≡ 0 → life_of s'.lives row ≡ Live → ⊥
      dead none alive = elim (none_or_some (ends.old_count f row)) [
        | inl never ↦
            let before : life_of b.sheet.lives row ≡ Live = sym (untouched row first (low' row last) never none) ∙ alive in
            let was = ends.was_reached f row ((f.may.case.was.kept.live row first (low' row last)).0 before) in
            absurd (omega arith)
        | inr was ↦
            let dead : Dead (s.ended + 1) ≡ Live = sym (life_if_buried s (ends.published f) row (ends.unreached_later f row none) (buried_now row was none)) ∙ (sym (o.lives row first (low' row last)) ∙ alive) in
            absurd (cc)
      ]

  dead : (row : ℕ) → IsReached b.sheet.tree row → is_reached s'.tree row ≡ false → life_of s'.lives row ≡ Dead b.number
  dead row is not =
      let was = ends.was_reached f row is in
      let number = ends.was_number f row was in
      let none = unreached_later row not in
      let ended : s.ended ≡ b.sheet.ended = ap (λ (x : Sheet). x.ended) (ends.ledger f).rest in
      o.lives row number.0 number.1
      ∙ (life_if_buried s (ends.published f) row (ends.unreached_later f row none) (buried_now row was none)
      ∙ ap Dead (ap (λ (n : ℕ). n + 1) ended ∙ sym f.may.case.unpublished.numbered))

  others : (row : ℕ) → first_row ≤ row → row < first_row + b.sheet.tree.rows → is_reached b.sheet.tree row ≡ false → is_reached s'.tree row ≡ false → life_of s'.lives row ≡ life_of b.sheet.lives row
  others row first last was is = untouched row first last (ends.was_unreached f row was) (unreached_later row is)

  -- ---- the book

  abbrev taken : List ℕ
  taken = map row_seen f.may.taken

  abbrev gone : List ℕ
  gone = map row_seen f.may.gone

  taken_reached : (row : ℕ) → Contains taken row → 1 ≤ ends.new_count f row
  taken_reached row has = ends.taken_later f row (contains_seen row f.may.taken has)

  gone_fate : (row : ℕ) → Contains gone row → (1 ≤ ends.old_count f row) × (ends.new_count f row ≡ 0)
  gone_fate row has = ends.gone_was f row (contains_seen row f.may.gone has)

  moved : IsBooked b.sheet s' b.book book b.number (3 * height_in b.sheet.tree.table b.sheet.tree.root + 1)
  moved = record {
    taken = taken;
    free = (ends.ledger f).free;
    few = let few = f.may.few in omega (arith, length-map f.may.taken row_seen);
    used = all_ones (IsReached s'.tree) taken (λ row one. is_reached_later row (taken_reached row (one_contains taken row one)));
    gone = gone;
    held = (ends.ledger f).held ∙ ap (λ (l : List StampedRow). b.book.held ++ l) (sym (stamped_rows b.number f.may.gone));
    were_reached = all_ones (IsReached b.sheet.tree) gone (λ row one. ends.reached_was f row (gone_fate row (one_contains gone row one)).0);
    are_not = all_ones (λ (row : ℕ). is_reached s'.tree row ≡ false) gone (λ row one. not_reached_later row (gone_fate row (one_contains gone row one)).1);
    all = λ row was not. seen_contains row f.may.gone (ends.was_gone f row (ends.was_reached f row was) (unreached_later row not));
  }

  held_later : held_rows book ≡ held_rows b.book ++ gone
  held_later =
      ap (map (λ (h : StampedRow). h.row)) (ends.ledger f).held
      ∙ (map-append (λ (h : StampedRow). h.row) b.book.held (map (stamped b.number) f.may.gone)
      ∙ ap (λ (l : List ℕ). held_rows b.book ++ l) (rows_stamped b.number f.may.gone))

  still_free : (row : ℕ) → Contains book.free row → Contains b.book.free row
  still_free row has = subst (λ (l : List ℕ). Contains l row) (sym (ends.ledger f).free) (Contains-append_left book.free taken row has)

  was_free : (row : ℕ) → Contains taken row → Contains b.book.free row
  was_free row has = subst (λ (l : List ℕ). Contains l row) (sym (ends.ledger f).free) (Contains-append_right book.free taken row has)

  -- a row that was reached was neither free nor held
  was_out : (row : ℕ) → 1 ≤ ends.old_count f row → IsOut b.book row
  was_out row was = f.may.case.was.kept.booked.reached row (ends.reached_was f row was)

  free_unreached : (row : ℕ) → Contains book.free row → (ends.old_count f row ≡ 0) × (ends.new_count f row ≡ 0)
  free_unreached row has =
      let never : ends.old_count f row ≡ 0 = elim (none_or_some (ends.old_count f row)) [
        | inl never ↦ never
        | inr was ↦ absurd ((was_out row was).not_free (still_free row has))
      ] in
      let c = ends.counts f row in let sum = c.sum in
      elim (none_or_some (ends.taken_count f row)) [
        | inl none ↦ (never, omega arith)
        | inr some ↦ absurd (twice (seen_contains row f.may.taken some))
      ]
    where
      once : Contains (book.free ++ taken) row → Contains (held_rows b.book) row → ⊥
      once free held = apart_ends (book.free ++ taken) (held_rows b.book) row (subst (λ (l : List ℕ). AllPairs (λ r q. r ≢ q) (l ++ held_rows b.book)) (ends.ledger f).free f.may.case.was.kept.booked.sound.once) free held

      twice : Contains taken row → ⊥
      twice has_taken =
          apart_ends book.free (taken ++ held_rows b.book) row
          (subst (λ (l : List ℕ). AllPairs (λ r q. r ≢ q) l) (append_assoc book.free taken (held_rows b.book))
          (subst (λ (l : List ℕ). AllPairs (λ r q. r ≢ q) (l ++ held_rows b.book)) (ends.ledger f).free f.may.case.was.kept.booked.sound.once))
          has (Contains-append_left taken (held_rows b.book) row has_taken)

  out_is : (row : ℕ) → first_row ≤ row → row < first_row + s'.tree.rows → IsOut book row → IsReached s'.tree row
  out_is row first last out =
      elim (none_or_some (ends.taken_count f row)) [
        | inr some ↦ is_reached_later row (ends.taken_later f row some)
        | inl none ↦
            let not_gone : ends.gone_count f row ≡ 0 = elim (none_or_some (ends.gone_count f row)) [
              | inl never ↦ never
              | inr some ↦ absurd (out.not_held (subst (λ (l : List ℕ). Contains l row) (sym held_later) (Contains-append_right (held_rows b.book) gone row (seen_contains row f.may.gone some))))
            ] in
            let was = ends.was_reached f row (f.may.case.was.kept.booked.out row first (low' row last) (out_before none)) in
            let c = ends.counts f row in let sum = c.sum in
            is_reached_later row (omega arith)
      ]
    where
      out_before : ends.taken_count f row ≡ 0 → IsOut b.book row
      out_before none = record {
        here = (first, subst (λ (n : ℕ). row < first_row + n) (sym f.may.case.was.kept.booked.rows) (low' row last));
        not_free = λ free. elim (Contains-append_cases book.free taken row (subst (λ (l : List ℕ). Contains l row) (ends.ledger f).free free)) [
          | inl still ↦ out.not_free still
          | inr has ↦ let some = contains_seen row f.may.taken has in absurd (omega arith)
        ];
        not_held = λ held. out.not_held (subst (λ (l : List ℕ). Contains l row) (sym held_later) (Contains-append_left (held_rows b.book) gone row held));
      }

  is_out : (row : ℕ) → IsReached s'.tree row → IsOut book row
  is_out row is =
      let some = reached_later row is in
      let number = ends.later_number f row some in
      record {
        here = (number.0, subst (λ (n : ℕ). row < first_row + n) (sym ((ends.ledger f).rows ∙ f.may.case.was.kept.booked.rows)) number.1);
        not_free = λ free. (let never = free_unreached row free in let none = never.1 in absurd (omega arith));
        not_held = λ held. elim (Contains-append_cases (held_rows b.book) gone row (subst (λ (l : List ℕ). Contains l row) held_later held)) [
          | inl before ↦ held_before some before
          | inr has ↦ let fate = gone_fate row has in let none = fate.1 in absurd (omega arith)
        ];
      }
    where
      held_before : 1 ≤ ends.new_count f row → Contains (held_rows b.book) row → ⊥
      held_before some held =
          let c = ends.counts f row in let sum = c.sum in
          elim (none_or_some (ends.old_count f row)) [
            | inr was ↦ absurd ((was_out row was).not_held held)
            | inl never ↦ apart_ends b.book.free (held_rows b.book) row f.may.case.was.kept.booked.sound.once (was_free row (seen_contains row f.may.taken (omega arith))) held
          ]

  spare : All (λ (row : ℕ). IsUnheld s'.cleared (life_of s'.lives row)) book.free
  spare = all_ones (λ (row : ℕ). IsUnheld s'.cleared (life_of s'.lives row)) book.free (λ row one.
      let free = one_contains book.free row one in
      let before = still_free row free in
      let number = All-contains (λ (r : ℕ). (first_row ≤ r) × (r < first_row + b.book.rows)) b.book.free row f.may.case.was.kept.booked.sound.free_rows before in
      let last : row < first_row + b.sheet.tree.rows = subst (λ (n : ℕ). row < first_row + n) f.may.case.was.kept.booked.rows number.1 in
      let fate = free_unreached row free in
      let was : IsUnheld b.sheet.cleared (life_of b.sheet.lives row) = All-contains (λ (r : ℕ). IsUnheld b.sheet.cleared (life_of b.sheet.lives r)) b.book.free row f.may.case.was.kept.booked.spare before in
      subst (λ (n : ℕ). IsUnheld n (life_of s'.lives row)) (sym (ap (λ (x : Sheet). x.cleared) o.rest))
      (subst (IsUnheld b.sheet.cleared) (sym (untouched row number.0 last fate.0 fate.1)) was))

  stamps : All (λ (h : StampedRow). h.stamp < b.number + 1) book.held
  stamps =
      subst (All (λ (h : StampedRow). h.stamp < b.number + 1)) (sym (ends.ledger f).held)
      (All-append (λ (h : StampedRow). h.stamp < b.number + 1) b.book.held (map (stamped b.number) f.may.gone)
      (All-weaker (λ (h : StampedRow). h.stamp < b.number) (λ (h : StampedRow). h.stamp < b.number + 1) (λ h low. omega arith) b.book.held f.may.case.was.kept.booked.stamps)
      (all_ones (λ (h : StampedRow). h.stamp < b.number + 1) (map (stamped b.number) f.may.gone) (λ h one.
      (let at = map_one (stamped b.number) f.may.gone h one in
      subst (λ (g : StampedRow). g.stamp < b.number + 1) at.2 (omega arith)))))

  -- the book of these rows, of which some are taken and others retired
  sound : IsBook book
  sound =
      let was = f.may.case.was.kept.booked in
      let free : IsBook (record { rows = b.book.rows; free = book.free ++ taken; held = b.book.held }) = subst (λ (l : List ℕ). IsBook (record { rows = b.book.rows; free = l; held = b.book.held })) (ends.ledger f).free was.sound in
      let held = retired_leave_book (record { rows = b.book.rows; free = book.free; held = b.book.held }) b.number f.may.gone (taken_leave_book b.book.rows book.free taken b.book.held free)
      (All-weaker (λ (h : StampedRow). h.stamp < b.number) (λ (h : StampedRow). h.stamp ≤ b.number) (λ h low. omega arith) b.book.held was.stamps)
      (λ row. (let c = ends.counts f row in let were = c.were in let once = c.once in omega arith))
      (λ seen one.
      (let out = was_out (row_seen seen) (ends.gone_was f (row_seen seen) (seen_some f.may.gone seen one)).0 in
      record { here = out.here; not_free = λ has. out.not_free (still_free (row_seen seen) has); not_held = out.not_held })) in
      subst IsBook (λ i. record { rows = sym (ends.ledger f).rows i; free = book.free; held = sym (ends.ledger f).held i }) held

  booked : IsBookOf s'.tree s'.lives s'.cleared book (b.number + 1)
  booked = record {
    sound = sound;
    rows = (ends.ledger f).rows ∙ (f.may.case.was.kept.booked.rows ∙ sym o.rows);
    out = out_is;
    reached = is_out;
    spare = spare;
    stamps = stamps;
  }

  -- ---- where it was published

  root_before : f.start.tree.root ≡ b.sheet.tree.root
  root_before = ap (λ (t : laws.Tree). t.root) f.may.case.was.tree

  other_root : (old new : Option ℕ) → f.may.old ≡ old → f.may.new ≡ new → StandsAs f.start.tree old → IsTop f.may.taken old new f.top.word → f.top.word ≢ f.start.tree.root
  other_root None None is is' stands top same = absurd top
  other_root (Some h) None is is' stands top same = root_named f.start.tree h stands (sym same ∙ top)
  other_root None (Some h') is is' stands top same = ends.word_is_some f h' is' (same ∙ stands)
  other_root (Some h) (Some h') is is' stands top same =
      let was : 1 ≤ ends.old_count f (row_in f.start.tree.root) = subst (λ (o : Option ℕ). 1 ≤ count_in (is_row_of (row_in f.start.tree.root)) f.start.tree o) (sym is) (root_counts f.start.tree h stands) in
      let not = ends.old_is_not_taken f (row_in f.start.tree.root) was in
      let taken : was_seen f.may.taken (row_in f.start.tree.root) ≡ true = subst (λ (n : ℕ). was_seen f.may.taken (row_in n) ≡ true) same top in
      absurd (cc)

  -- ---- the slot that was written

  module _ (h row col : ℕ) (is_old : f.may.old ≡ Some h) (place : IsChildSlot (now f.start s) h row col) where
    abbrev t : laws.Tree
    t = now f.start s

    stands : laws.Stands t h
    stands = subst (StandsAs t) is_old (ends.stands_now f)

    counted_now : (r : ℕ) → 1 ≤ count_in (is_row_of r) t (Some h) → 1 ≤ ends.old_count f r
    counted_now r some =
        let same = ends.now_count f (is_row_of r) in
        let here : 1 ≤ count_in (is_row_of r) t f.may.old = subst (λ (old : Option ℕ). 1 ≤ count_in (is_row_of r) t old) (sym is_old) some in
        omega arith

    row_was : 1 ≤ ends.old_count f row
    row_was = subst (λ (r : ℕ). 1 ≤ ends.old_count f r) place.number
        (counted_now (row_in place.at.word) (reached.on_level_reached t h stands (suc place.low) place.at (at_on_level t h row col (ends.words_now f) stands place 0)))

    child_was : 1 ≤ ends.old_count f (row_in place.child.word)
    child_was = counted_now (row_in place.child.word) (reached.on_level_reached t h stands place.low place.child (child_on_level t h row col (ends.words_now f) stands place 0))

    child_named : place.child.word ≢ 0
    child_named = name_some place.child.word (laws.kind_on t.gapped place.low) (reached.on_level_law t h stands place.low place.child (child_on_level t h row col (ends.words_now f) stands place 0)).name.named

    row_law : laws.IsRow t (suc place.low) place.at
    row_law = reached.on_level_law t h stands (suc place.low) place.at (at_on_level t h row col (ends.words_now f) stands place 0)

    word_now : column t.table row col ≡ place.child.word
    word_now =
        (λ i. column t.table (sym place.number i) (place.column i))
        ∙ slot_word t.table (laws.kind_on t.gapped (suc place.low)) place.at place.child place.slot row_law.name.named place.here.holds

    word_was : (0 < col) × (col < columns b.sheet.tree.table.width) → word_at b.sheet.tree row col ≡ place.child.word
    word_was within =
        sym ((ends.ledger f).kept row col (ends.old_is_not_taken f row row_was) within.0 within.1)
        ∙ (ap (λ (v : Rooted). column v.table row col) (ends.tree_is f) ∙ word_now)

    not_child : (new : Option ℕ) → IsTop f.may.taken (Some h) new f.top.word → f.top.word ≢ place.child.word
    not_child None top same = child_named (sym same ∙ top)
    not_child (Some h') top same =
        let not = ends.old_is_not_taken f (row_in place.child.word) child_was in
        let taken : was_seen f.may.taken (row_in place.child.word) ≡ true = subst (λ (n : ℕ). was_seen f.may.taken (row_in n) ≡ true) same top in
        absurd (cc)

    slot_published : (new : Option ℕ) → IsTop f.may.taken (Some h) new f.top.word → f.top.place ≡ Slot row col → passing (is_row_of row) f.may.gone ≡ 0 → WasPublishedAt b.sheet s' (Slot row col)
    slot_published new top is_place kept =
        let number = ends.was_number f row row_was in
        let c = ends.counts f row in let sum = c.sum in
        let alive = is_reached_later row (let was = row_was in omega arith) in
        let low : (0 < col) × (col < columns b.sheet.tree.table.width) = subst (λ (v : Width). (0 < col) × (col < columns v)) (ends.width_same f) (above_in s f.top.place (ends.place_is f) row col is_place) in (
          o.root ∙ (ap (λ (p : Place). (with_published s.tree p f.top.word).root) is_place ∙ ends.root_same f),
          (f.may.case.was.kept.live row number.0 number.1).1 (ends.reached_was f row row_was),
          o.lives row number.0 number.1 ∙ life_if_reached s (ends.published f) row (sym (o.reached row) ∙ alive),
          (λ same. not_child new top (sym (o.at row col is_place) ∙ (same ∙ word_was low))),
        )

  published_in : (old new : Option ℕ) (place : Place) → f.may.old ≡ old → f.may.new ≡ new → f.top.place ≡ place → StandsAs f.start.tree old → IsEndPlace (now f.start s) f.may.gone old place → IsTop f.may.taken old new f.top.word → WasPublishedAt b.sheet s' place
  published_in old new Root is_old is_new is_place was at top = λ same.
      other_root old new is_old is_new was top
      (sym (o.root ∙ ap (λ (p : Place). (with_published s.tree p f.top.word).root) is_place) ∙ (same ∙ sym root_before))
  published_in None new (Slot row col) is_old is_new is_place was at top = absurd at
  published_in (Some h) new (Slot row col) is_old is_new is_place was at top = slot_published h row col is_old at.0 new top is_place at.1

  -- ---- words that stay

  stored_kept : (place : Place) → IsPlaceToPublish s place → (row col : ℕ) → col < columns s.tree.table.width → place ≢ Slot row col → column (with_published s.tree place f.top.word).table row col ≡ column s.tree.table row col
  stored_kept Root at row col within other = refl
  stored_kept (Slot r c) at row col within other =
      let inside = (above_in s (Slot r c) at r c refl).1 in
      elim (cases_eq row r) [
        | inr off ↦ other_row s.tree.table.width s.tree.table.words r c f.top.word row col off inside within
        | inl same ↦
            subst (λ (n : ℕ). column (with_published s.tree (Slot r c) f.top.word).table n col ≡ column s.tree.table n col) (sym same)
            (other_column s.tree.table.width s.tree.table.words r c f.top.word col (λ here. other (λ i. Slot (sym same i) (sym here i))))
      ]

  -- a row that is not reached for the first time was not taken
  not_taken_of : (row : ℕ) → (IsReached s'.tree row → IsReached b.sheet.tree row) → was_seen f.may.taken row ≡ false
  not_taken_of row old = elim (none_or_some (ends.taken_count f row)) [
    | inl none ↦ ends.not_taken f row none
    | inr some ↦
        let was = ends.was_reached f row (old (is_reached_later row (ends.taken_later f row some))) in
        ends.old_is_not_taken f row was
  ]

  kept : (row col : ℕ) → (IsReached s'.tree row → IsReached b.sheet.tree row) → 0 < col → col < columns b.sheet.tree.table.width → f.top.place ≢ Slot row col → word_at s'.tree row col ≡ word_at b.sheet.tree row col
  kept row col old above within other =
      o.kept row col above within
      ∙ (stored_kept f.top.place (ends.place_is f) row col (subst (λ (v : Width). col < columns v) (sym (ends.width_same f)) within) other
      ∙ (ends.ledger f).kept row col (not_taken_of row old) above within)

  -- a row of the tree now is one that was taken, or one of the tree before
  new_is_taken : (row : ℕ) → is_reached s'.tree row ≡ true → is_unreached b.sheet.tree row ≡ was_seen f.may.taken row
  new_is_taken row is =
      let c = ends.counts f row in let sum = c.sum in let now = reached_later row is in
      elim (none_or_some (ends.taken_count f row)) [
        | inl none ↦ ap (λ (v : Bool). if v then false else true) (ends.reached_was f row (omega arith)) ∙ sym (ends.not_taken f row none)
        | inr taken ↦ ap (λ (v : Bool). if v then false else true) (not_before row (c.fresh taken)) ∙ sym (ends.some_taken f row taken)
      ]
    where
      not_before : (row : ℕ) → ends.old_count f row ≡ 0 → is_reached b.sheet.tree row ≡ false
      not_before row none = elim (cases_Bool (is_reached b.sheet.tree row)) [
        | inl was ↦ let some = ends.was_reached f row was in absurd (omega arith)
        | inr not ↦ not
      ]

  abbrev tree_now : laws.Tree
  tree_now = tree_as b.kind s'.tree

  fewest_as : (new : Option ℕ) → StandsAs tree_now new → FewestAs (was_seen f.may.taken) tree_now new → HasFewest (is_unreached b.sheet.tree) tree_now
  fewest_as None none few = inl none
  fewest_as (Some h) standing few = inr (
    h,
    standing,
    fewest_later (was_seen f.may.taken) (is_unreached b.sheet.tree) tree_now.gapped s'.tree.table s'.tree.table refl h (root_of tree_now)
        (levels_all (Shared s'.tree.table s'.tree.table) s'.tree.table (λ _ x. refl) h (root_of tree_now))
        (levels_from (SameNews (was_seen f.may.taken) (is_unreached b.sheet.tree)) s'.tree.table h (root_of tree_now) h 0 (omega arith)
        (λ k x _ on. new_is_taken (row_in x.word) (count_reached tree_now (Some h) (row_in x.word) standing (reached.on_level_reached tree_now h standing k x on)))) few,
  )

  -- a row of the tree keeps the law of gaps as it did
  gaps_of : (index h : ℕ) → StandsAs tree_now (Some h) → Levels (KeepsGaps (was_seen f.may.taken) index tree_now) s'.tree.table h (root_of tree_now) → Levels (KeepsGaps (is_unreached b.sheet.tree) index tree_now) s'.tree.table h (root_of tree_now)
  gaps_of index h standing gaps = levels_pair SameNew (KeepsGaps (was_seen f.may.taken) index tree_now) (KeepsGaps (is_unreached b.sheet.tree) index tree_now) s'.tree.table one h (root_of tree_now) news gaps
    where
      SameNew : ℕ → Span → Type 0
      SameNew k x = is_unreached b.sheet.tree (row_in x.word) ≡ was_seen f.may.taken (row_in x.word)

      news : Levels SameNew s'.tree.table h (root_of tree_now)
      news = levels_from SameNew s'.tree.table h (root_of tree_now) h 0 (omega arith)
          (λ k x _ on. new_is_taken (row_in x.word) (count_reached tree_now (Some h) (row_in x.word) standing (reached.on_level_reached tree_now h standing k x on)))

      one : (k : ℕ) (x : Span) → SameNew k x → KeepsGaps (was_seen f.may.taken) index tree_now k x → KeepsGaps (is_unreached b.sheet.tree) index tree_now k x
      one k x same keeps = record { beside = keeps.beside; new = λ is. keeps.new (sym same ∙ is) }

  gaps_as : (new : Option ℕ) → StandsAs tree_now new → GapsBeside f.start (was_seen f.may.taken) tree_now new → (index : ℕ) → f.start.first ≤ index → index ≤ f.start.last → HasGapsBut (is_unreached b.sheet.tree) index tree_now
  gaps_as None none gaps index from to = inl none
  gaps_as (Some h) standing gaps index from to = inr (h, standing, gaps_of index h standing (gaps index from to))

  -- all is done but for the parent words
  pub spliced : HasParents (tree_as b.kind s'.tree) → ((row : ℕ) → IsReached b.sheet.tree row → is_reached s'.tree row ≡ false → word_at s'.tree row 0 ≡ dead_mark row) → IsSpliced b.kind b.sheet s' b.book book b.number f.call f.reply f.top.place f.start.first f.start.last
  spliced parents marked = record {
    rest = o.rest;
    rows = o.rows;
    tree = tree;
    parents = parents;
    map = map_is;
    fewest = fewest_as f.may.new o.stands o.fewest;
    gaps = gaps_as f.may.new o.stands o.gaps;
    published = published_in f.may.old f.may.new f.top.place refl refl refl f.may.stood f.may.at f.may.names;
    kept = kept;
    none_buried = none_buried;
    live = live;
    dead = dead;
    marked = marked;
    others = others;
    moved = moved;
    booked = booked;
  }
