-- When all new rows are written and all old rows are buried, one store may publish them.
use Rattle.mt_splice.proofs.Prelude.{◌≡◌, ◌≢◌, ℕ, suc, ◌+◌, ◌<◌, ◌≤◌, List, ◌∷◌, Option, Some, None, Bool, true, false, nat_lt, refl, sym, ap, ◌∙◌, subst, inl, inr, arith, lt-ltb, if◌then◌else◌, cases_Bool, ltb-true, Kind, Width, Range, Call, Reply, acted, columns, first_row, Span, row_in, slot_column, slots_of, slot_within, Book, slice_get_within, Draft, Live, Place, Root, Slot, spans_in, tally, is_row_of, HasWords, kind_on, Rooted, Sheet, life_of, is_buried, tree_as, IsToldKind, LiveAreReached, is_reached, IsReached, map_by, StandsAt, KeepsPlace, SameHoles, IsKnown, ChangesRows, MayPublish, IsPlaceToPublish, IsSlotOf, with_published, Implies, NewRow, Seen, passing, Start, now, Before, StandsAs, count_in, map_as, IsChildSlot, IsEndPlace, IsTop, IsReadyToPublish, row_most, published_rows, was_seen, IsLedger, [], Top}
use Rattle.mt_rows.specs.Laws as laws
use Rattle.mt_rows.proofs.Reached as reached
use Rattle.mt_splice.proofs.KeptTrees.{KeepsAs, count_then, map_then, stands_then}
use Rattle.mt_splice.proofs.LedgerNow.{keeps_as}
use Rattle.mt_splice.proofs.StepSeen.{not_both}
use Rattle.mt_splice.proofs.Steps.{reached_untaken}
use Rattle.mt_splice.proofs.EndForms.{now_is, has_words}
use Rattle.mt_splice.proofs.EndTrees.{is_tree, map_is, count_once, reached_count, count_reached, unreached_count, count_unreached, count_number, none_or_some, placed_count, stays}
use Rattle.mt_splice.proofs.EndHoles.{same_place_spans, at_one, at_on_level, slot_holes}
use Rattle.mt_splice.proofs.StoredWords.{words_of}

-- ---- how often a row is counted

-- a row reached at the start, taken, reached at the end, gone
pub record Counts (old taken new gone : ℕ) : Type 0 where
  pub sum : old + taken ≡ new + gone
  pub were : gone ≤ old
  pub fresh : 1 ≤ taken → old ≡ 0
  pub once : old ≤ 1

pub old_not_taken : (old taken new gone : ℕ) → Counts old taken new gone → 1 ≤ old → taken ≡ 0
old_not_taken old taken new gone c was = elim (none_or_some taken) [ inl none ↦ none | inr some ↦ let new = c.fresh some in absurd (omega arith) ]

tally_implies : {A : Type 0} (p q : A → Bool) → ((x : A) → p x ≡ true → q x ≡ true) → (xs : List A) → tally p xs ≤ tally q xs
tally_implies p q f [] = omega arith
tally_implies p q f (x ∷ xs) = let behind = tally_implies p q f xs in elim (cases_Bool (p x)) [
  | inl passes ↦ rw (passes, f x passes) (omega arith)
  | inr fails ↦ rw fails (omega arith)
]

pub passing_implies : (p q : ℕ → Span → Bool) → Implies p q → (seen : List Seen) → passing p seen ≤ passing q seen
passing_implies p q f seen = tally_implies (λ (s : Seen). p s.height s.at) (λ (s : Seen). q s.height s.at) (λ s passes. f s.height s.at passes) seen

-- ---- the end of a replacement

pub record Finish : Type 0 where
  pub before : Before
  pub start : Start
  pub sheet : Sheet
  pub book : Book
  pub inner : List NewRow
  pub top : Top
  pub call : Call
  pub reply : Reply
  pub may : IsReadyToPublish before start sheet book inner top call reply

module _ (f : Finish) where
  abbrev b : Before
  b = f.before

  abbrev start : Start
  start = f.start

  abbrev s : Sheet
  s = f.sheet

  abbrev later : laws.Tree
  later = tree_as b.kind (with_published s.tree f.top.place f.top.word)

  abbrev pub published : Rooted
  published = with_published f.sheet.tree f.top.place f.top.word

  abbrev pub ledger : IsLedger b s f.book f.may.taken f.may.gone
  ledger = f.may.ledger

  -- ---- what the rows are now

  pub rows_same : s.tree.rows ≡ b.sheet.tree.rows
  rows_same = ap (λ (t : Rooted). t.rows) ledger.tree

  pub width_same : s.tree.table.width ≡ b.sheet.tree.table.width
  width_same = ap (λ (t : Rooted). t.table.width) ledger.tree

  pub root_same : s.tree.root ≡ b.sheet.tree.root
  root_same = ap (λ (t : Rooted). t.root) ledger.tree

  was_is : words_of start.tree ≡ b.sheet.tree
  was_is = ap words_of f.may.case.was.tree

  pub tree_is : s.tree ≡ words_of (now start s)
  tree_is = sym (ap words_of (now_is f.may.case.was ledger))

  pub keeps : KeepsAs start.tree f.may.old f.sheet.tree.table.words
  keeps = keeps_as f.may.case.was ledger f.may.old f.may.stood

  pub stands_now : StandsAs (now start s) f.may.old
  stands_now = stands_then start.tree f.may.old s.tree.table.words keeps

  pub now_count : (p : ℕ → Span → Bool) → count_in p (now start s) f.may.old ≡ count_in p start.tree f.may.old
  now_count p = count_then start.tree f.may.old s.tree.table.words p keeps

  pub stands_later : StandsAs later f.may.new
  stands_later = f.may.replaced.stands

  -- ---- how often a row is reached

  abbrev pub old_count : ℕ → ℕ
  old_count row = count_in (is_row_of row) f.start.tree f.may.old

  abbrev pub new_count : ℕ → ℕ
  new_count row = count_in (is_row_of row) (tree_as f.before.kind (with_published f.sheet.tree f.top.place f.top.word)) f.may.new

  abbrev pub taken_count : ℕ → ℕ
  taken_count row = passing (is_row_of row) f.may.taken

  abbrev pub gone_count : ℕ → ℕ
  gone_count row = passing (is_row_of row) f.may.gone

  pub was_reached : (row : ℕ) → is_reached b.sheet.tree row ≡ true → 1 ≤ old_count row
  was_reached row is = reached_count start.tree f.may.old row f.may.stood (ap (λ (t : Rooted). is_reached t row) was_is ∙ is)

  pub reached_was : (row : ℕ) → 1 ≤ old_count row → is_reached b.sheet.tree row ≡ true
  reached_was row some = ap (λ (t : Rooted). is_reached t row) (sym was_is) ∙ count_reached start.tree f.may.old row f.may.stood some

  pub some_taken : (row : ℕ) → 1 ≤ taken_count row → was_seen f.may.taken row ≡ true
  some_taken row some = lt-ltb 0 (taken_count row) (omega arith)

  pub counts : (row : ℕ) → Counts (old_count row) (taken_count row) (new_count row) (gone_count row)
  counts row = record {
    sum = f.may.replaced.rows (is_row_of row);
    were = f.may.replaced.were (is_row_of row);
    fresh = λ some. elim (none_or_some (old_count row)) [
      | inl none ↦ none
      | inr was ↦ absurd (not_both (was_seen f.may.taken row) (some_taken row some) (reached_untaken f.may.case.was ledger row (reached_was row was)))
    ];
    once = count_once start.tree f.may.old row f.may.stood;
  }

  pub was_unreached : (row : ℕ) → is_reached b.sheet.tree row ≡ false → old_count row ≡ 0
  was_unreached row is = unreached_count start.tree f.may.old row f.may.stood (ap (λ (t : Rooted). is_reached t row) was_is ∙ is)

  now_reached : (row : ℕ) → is_reached s.tree row ≡ true → 1 ≤ old_count row
  now_reached row is =
      let some = reached_count (now start s) f.may.old row stands_now (ap (λ (t : Rooted). is_reached t row) (sym tree_is) ∙ is) in
      let same = now_count (is_row_of row) in
      omega arith

  pub reached_now : (row : ℕ) → 1 ≤ old_count row → is_reached s.tree row ≡ true
  reached_now row some =
      let same = now_count (is_row_of row) in
      ap (λ (t : Rooted). is_reached t row) tree_is ∙ count_reached (now start s) f.may.old row stands_now (omega arith)

  pub later_reached : (row : ℕ) → is_reached published row ≡ true → 1 ≤ new_count row
  later_reached row is = reached_count later f.may.new row stands_later is

  pub reached_later : (row : ℕ) → 1 ≤ new_count row → is_reached published row ≡ true
  reached_later row some = count_reached later f.may.new row stands_later some

  pub later_unreached : (row : ℕ) → is_reached published row ≡ false → new_count row ≡ 0
  later_unreached row is = unreached_count later f.may.new row stands_later is

  pub unreached_later : (row : ℕ) → new_count row ≡ 0 → is_reached published row ≡ false
  unreached_later row none = count_unreached later f.may.new row stands_later none

  pub was_number : (row : ℕ) → 1 ≤ old_count row → (first_row ≤ row) × (row < first_row + b.sheet.tree.rows)
  was_number row some =
      let number = count_number start.tree f.may.old row f.may.stood some in
      (number.0, subst (λ (n : ℕ). row < first_row + n) (ap (λ (t : laws.Tree). t.rows) f.may.case.was.tree) number.1)

  pub later_number : (row : ℕ) → 1 ≤ new_count row → (first_row ≤ row) × (row < first_row + b.sheet.tree.rows)
  later_number row some =
      let number = count_number later f.may.new row stands_later some in
      (number.0, subst (λ (n : ℕ). row < first_row + n) (published_rows s.tree f.top.place f.top.word ∙ rows_same) number.1)

  -- ---- rows taken and gone

  pub taken_some : (row : ℕ) → was_seen f.may.taken row ≡ true → 1 ≤ taken_count row
  taken_some row is = let some = ltb-true 0 (taken_count row) is in omega arith

  pub not_taken : (row : ℕ) → taken_count row ≡ 0 → was_seen f.may.taken row ≡ false
  not_taken row none = ap (nat_lt 0) none

  pub old_is_not_taken : (row : ℕ) → 1 ≤ old_count row → was_seen f.may.taken row ≡ false
  old_is_not_taken row was = not_taken row (old_not_taken (old_count row) (taken_count row) (new_count row) (gone_count row) (counts row) was)

  gone_some : (row : ℕ) → was_seen f.may.gone row ≡ true → 1 ≤ gone_count row
  gone_some row is = let some = ltb-true 0 (gone_count row) is in omega arith

  pub some_gone : (row : ℕ) → 1 ≤ gone_count row → was_seen f.may.gone row ≡ true
  some_gone row some = lt-ltb 0 (gone_count row) (omega arith)

  -- a row that is taken is reached then
  pub taken_later : (row : ℕ) → 1 ≤ taken_count row → 1 ≤ new_count row
  taken_later row some = let c = counts row in let sum = c.sum in let were = c.were in let none = c.fresh some in omega arith

  -- ---- lives

  pub life_taken : (row : ℕ) → first_row ≤ row → row < first_row + b.sheet.tree.rows → was_seen f.may.taken row ≡ true → life_of s.lives row ≡ Draft
  life_taken row first last taken = ledger.lives row first last ∙ ap (λ (c : Bool). if c then Draft else life_of b.sheet.lives row) taken

  pub life_kept : (row : ℕ) → first_row ≤ row → row < first_row + b.sheet.tree.rows → was_seen f.may.taken row ≡ false → life_of s.lives row ≡ life_of b.sheet.lives row
  life_kept row first last not = ledger.lives row first last ∙ ap (λ (c : Bool). if c then Draft else life_of b.sheet.lives row) not

  old_is_live : (row : ℕ) → 1 ≤ old_count row → life_of s.lives row ≡ Live
  old_is_live row was =
      let number = was_number row was in
      life_kept row number.0 number.1 (old_is_not_taken row was) ∙ (f.may.case.was.kept.live row number.0 number.1).1 (reached_was row was)

  live : LiveAreReached s.tree s.lives
  live row first last = (
    (λ alive. elim (cases_Bool (was_seen f.may.taken row)) [
      | inl taken ↦ (let draft = life_taken row first (in_table) taken in let both : Draft ≡ Live = sym draft ∙ alive in absurd (cc))
      | inr not ↦ reached_now row (was_reached row ((f.may.case.was.kept.live row first in_table).0 (sym (life_kept row first in_table not) ∙ alive)))
    ]),
    (λ is. old_is_live row (now_reached row is)),
  )
    where
      in_table : row < first_row + b.sheet.tree.rows
      in_table = subst (λ (n : ℕ). row < first_row + n) rows_same last

  -- ---- the place

  pub words_now : HasWords (now start s)
  words_now = has_words f.may.case.was ledger

  place_in : (o : Option ℕ) (place : Place) → StandsAs (now start s) o → IsEndPlace (now start s) f.may.gone o place → ((row : ℕ) → 1 ≤ count_in (is_row_of row) (now start s) o → (first_row ≤ row) × (row < first_row + s.tree.rows) × (life_of s.lives row ≡ Live)) → IsPlaceToPublish s place
  place_in o Root stands at known = tt
  place_in None (Slot row col) stands at known = absurd at
  place_in (Some h) (Slot row col) stands at known =
      let t : laws.Tree = now start s in
      let place : IsChildSlot t h row col = at.0 in
      let on = at_on_level t h row col words_now stands place 0 in
      let law = reached.on_level_law t h stands (suc place.low) place.at on in
      let here = known (row_in place.at.word) (reached.on_level_reached t h stands (suc place.low) place.at on) in
      let used = slice_get_within (spans_in t.table place.at) place.slot place.child place.here.holds in
      let most = (row_most law.name) in
      subst (λ (r : ℕ). IsPlaceToPublish s (Slot r col)) place.number (
        record {
          first = here.0;
          last = here.1;
          column = subst (λ (c : ℕ). c < columns s.tree.table.width) (sym place.column)
              (subst (λ (v : Width). slot_column (slots_of t.table.width (kind_on t.gapped (suc place.low))) place.slot < columns v) (sym (ap (λ (v : Rooted). v.table.width) tree_is))
              (slot_within t.table.width (kind_on t.gapped (suc place.low)) place.slot (omega arith)));
        },
        here.2,
        subst (λ (v : Rooted). IsSlotOf v (row_in place.at.word) col) (sym tree_is) (record {
          depth = place.depth;
          at = place.at;
          kind = kind_on t.gapped (suc place.low);
          slot = place.slot;
          reached = reached.below_root t h stands place.depth (suc place.low) place.at place.levels (at_one t h row col words_now stands place 0);
          named = law.name.named;
          number = refl;
          used = used;
          column = place.column;
        }),
      )

  pub place_is : IsPlaceToPublish s f.top.place
  place_is = place_in f.may.old f.top.place stands_now f.may.at (λ row some.
      let same = now_count (is_row_of row) in
      let was : 1 ≤ old_count row = omega arith in
      let number = was_number row was in
      (number.0, subst (λ (n : ℕ). row < first_row + n) (sym rows_same) number.1, old_is_live row was))

  -- ---- the map

  map_was : map_by b.sheet.tree ≡ map_as start.tree f.may.old
  map_was = ap map_by (sym was_is) ∙ map_is start.tree f.may.old f.may.stood

  map_now : map_by s.tree ≡ map_by b.sheet.tree
  map_now = ap map_by tree_is ∙ (map_is (now start s) f.may.old stands_now ∙ (map_then start.tree f.may.old s.tree.table.words keeps ∙ sym map_was))

  pub map_later : map_by published ≡ start.map
  map_later = map_is later f.may.new stands_later ∙ f.may.replaced.ranges

  answer : acted b.kind (map_by s.tree) f.call ≡ (map_by published, f.reply)
  answer = ap (λ (m : List Range). acted b.kind m f.call) map_now ∙ (f.may.answer ∙ (λ i. (sym map_later i, f.reply)))

  -- ---- what becomes of rows

  known : (row : ℕ) → IsReached published row → IsKnown s.tree s.lives row
  known row is =
      let some = later_reached row is in
      let c = counts row in let sum = c.sum in
      let number = later_number row some in
      elim (none_or_some (taken_count row)) [
        | inl none ↦ inl (old_is_live row (omega arith))
        | inr taken ↦ inr (
          life_taken row number.0 number.1 (some_taken row taken),
          (λ dead.
              let parent = ledger.new_parents row (some_taken row taken) in let first = number.0 in
              absurd (omega arith)),
        )
      ]

  -- of a row that is reached before and after none is taken or gone
  stays_even : (row : ℕ) → 1 ≤ old_count row → 1 ≤ new_count row → (p : ℕ → Span → Bool) → Implies p (is_row_of row) → passing p f.may.taken ≡ passing p f.may.gone
  stays_even row was is p within =
      let c = counts row in let sum = c.sum in let once = c.once in
      let none = old_not_taken (old_count row) (taken_count row) (new_count row) (gone_count row) c was in
      let taken = passing_implies p (is_row_of row) within f.may.taken in
      let gone = passing_implies p (is_row_of row) within f.may.gone in
      omega arith

  pub keeps_span : (k k' : ℕ) (x x' : Span) → StandsAt (words_of (now start s)) k x → StandsAt published k' x' → row_in x.word ≡ row_in x'.word → (k' ≡ k) × (x'.first ≡ x.first) × (x'.last ≡ x.last) × (x'.word ≡ x.word)
  keeps_span k k' x x' at at' same =
      let now_same = now_count (is_row_of (row_in x.word)) in
      let was = placed_count (now start s) f.may.old k x stands_now at in
      let is : 1 ≤ new_count (row_in x.word) = subst (λ (r : ℕ). 1 ≤ new_count r) (sym same) (placed_count later f.may.new k' x' stands_later at') in
      stays (now start s) later f.may.old f.may.new (λ p. passing p f.may.taken) (λ p. passing p f.may.gone) k k' x x' stands_now stands_later
      (λ p. ap (λ (n : ℕ). n + passing p f.may.taken) (now_count p) ∙ f.may.replaced.rows p) at at' same
      (stays_even (row_in x.word) (omega arith) is)

  pub word_is_some : (h : ℕ) → f.may.new ≡ Some h → f.top.word ≢ 0
  word_is_some h is zero_word =
      let taken : was_seen f.may.taken (row_in f.top.word) ≡ true = subst (λ (o : Option ℕ). IsTop f.may.taken f.may.old o f.top.word) is f.may.names in
      let number = later_number (row_in f.top.word) (taken_later (row_in f.top.word) (taken_some (row_in f.top.word) taken)) in
      let first = number.0 in
      let low : row_in f.top.word ≡ 0 = ap row_in zero_word in
      absurd (omega arith)

  holes_in : (o o' : Option ℕ) (place : Place) (k k' : ℕ) (x x' : Span) → StandsAs (now start s) o → IsEndPlace (now start s) f.may.gone o place → f.may.new ≡ o' → StandsAs later o' → StandsAt (words_of (now start s)) k x → StandsAt published k' x'
      → SameHoles (spans_in (now start s).table x) (spans_in (with_published (words_of (now start s)) place f.top.word).table x)
  holes_in o o' Root k k' x x' stands at is stands' stood stood' = refl
  holes_in None o' (Slot row col) k k' x x' stands at is stands' stood stood' = absurd at
  holes_in (Some h) None (Slot row col) k k' x x' stands at is stands' stood stood' = absurd (let some = placed_count later None k' x' stands' stood' in omega arith)
  holes_in (Some h) (Some h') (Slot row col) k k' x x' stands at is stands' stood stood' = slot_holes (now start s) h row col words_now stands at.0 f.top.word (word_is_some h' is) k x stood

  stay : (k k' : ℕ) (x x' : Span) → StandsAt s.tree k x → StandsAt published k' x' → row_in x.word ≡ row_in x'.word → KeepsPlace s.tree published k k' x x'
  stay k k' x x' stood stood' same =
      let at = subst (λ (t : Rooted). StandsAt t k x) tree_is stood in
      let place = keeps_span k k' x x' at stood' same in
      record {
        height = place.0;
        first = place.1;
        last = place.2;
        holes = subst (SameHoles (spans_in s.tree.table x)) (sym (same_place_spans published.table x x' place.1 place.2 place.3))
            (subst (λ (t : Rooted). SameHoles (spans_in t.table x) (spans_in (with_published t f.top.place f.top.word).table x)) (sym tree_is)
            (holes_in f.may.old f.may.new f.top.place k k' x x' stands_now f.may.at refl stands_later at stood'));
      }

  pub buried_gone : (row : ℕ) → first_row ≤ row → row < first_row + b.sheet.tree.rows → is_buried s.buried row ≡ true → 1 ≤ gone_count row
  buried_gone row first last is = gone_some row (sym (ledger.buried row first last) ∙ is)

  -- a row that is gone was reached, and is not then
  pub gone_was : (row : ℕ) → 1 ≤ gone_count row → (1 ≤ old_count row) × (new_count row ≡ 0)
  gone_was row some =
      let c = counts row in let sum = c.sum in let were = c.were in let once = c.once in
      let none = old_not_taken (old_count row) (taken_count row) (new_count row) (gone_count row) c (omega arith) in
      (omega arith, omega arith)

  pub was_gone : (row : ℕ) → 1 ≤ old_count row → new_count row ≡ 0 → 1 ≤ gone_count row
  was_gone row was none = let c = counts row in let sum = c.sum in omega arith

  changes : ChangesRows s published
  changes = record {
    known = known;
    stay = stay;
    gone = λ row was not.
        let some = now_reached row was in
        let number = was_number row some in
        ledger.buried row number.0 number.1 ∙ some_gone row (was_gone row some (later_unreached row not));
    buried = λ row first last is.
        let fate = gone_was row (buried_gone row first (subst (λ (n : ℕ). row < first_row + n) rows_same last) is) in
        (reached_now row fate.0, unreached_later row fate.1);
  }

  pub may_publish : MayPublish b.kind s f.top.place f.top.word f.call f.reply
  may_publish = record {
    in_flight = ap (λ (x : Sheet). x.in_flight) ledger.rest ∙ f.may.case.unpublished.in_flight;
    before = ap (λ (x : Sheet). x.published) ledger.rest ∙ f.may.case.unpublished.before;
    told = subst (λ (k : Option Kind). IsToldKind k b.kind) (sym (ap (λ (x : Sheet). x.kind) ledger.rest)) f.may.case.told;
    at = place_is;
    live = live;
    tree = record { width = width_same ∙ f.may.case.was.kept.lawful.width; words = subst laws.IsTree (now_is f.may.case.was ledger) (is_tree (now start s) f.may.old stands_now) };
    answer = answer;
    after = is_tree later f.may.new stands_later;
    rows = changes;
  }
