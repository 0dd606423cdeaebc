-- The rows of a level drafted one by one: what was drafted, and what is still to be.
use Rattle.mt_splice.proofs.Prelude.{[], ◌≡◌, ◌≢◌, ℕ, ◌+◌, ◌-◌, ◌^◌, ◌<◌, ◌≤◌, List, ◌∷◌, ◌++◌, length, take, drop, refl, sym, ap, ◌∙◌, subst, ⊎_elim, arith, get_or, append_assoc, append-nil, length-append, Any, All, slice_index_or, cases_eq, drop_more, drop_all, get_or_append_left, first_row, greatest_fits, Book, Item, RowKind, Leaf, RiseFrom, end_of, name_at, after, after-append, after_some, fills_rise, last_ends, first_of, Sheet, IsWhole, IsFree, life_of, leaf_low, NewRow, IsCutOf, IsRowTaken, noted_row, IsPieceDrafted, AreRowsTaken, noted_rows, MayDraftRows, AreRowsDrafted, part_of, head, heads, told_gap, Head}
use Rattle.mt_splice.proofs.Drafts.{is_draft, other_life}
use Rattle.mt_splice.proofs.LevelRuns.{AreParts, IsPart, length-part, take_part, cut_makes_parts}
use Rattle.mt_splice.proofs.LevelSteps.{first_after, first_inside}
use Rattle.mt_splice.proofs.LevelRows.{some_entry}

-- ---- one row

pub piece_drafted : {s s' : Sheet} {book book' : Book} {above kind : RowKind} {first word gap row : ℕ} {items : List Item} {made made' : List NewRow} (d : Item) → 1 ≤ length items → IsRowTaken s s' book book' kind items row → word ≡ name_at row kind
    → gap ≡ told_gap above kind first items → made' ≡ made ++ noted_row kind row (length items) → IsPieceDrafted s s' book book' above kind first items made made' (record { row = row; item = record { last = (slice_index_or items (length items - 1) d).last; word = word; gap = gap } })
piece_drafted {row = row} {items = items} d some taken word_is gap_is noted =
    let last = last_ends d (length items - 1) 0 items (omega arith) in
    record { taken = taken; up = λ i. record { last = last i; word = word_is i; gap = gap_is i }; noted = noted }

-- the other rows that are free may still be written anew
pub still_spare : {s s' : Sheet} {book book' : Book} {kind : RowKind} {items : List Item} {row : ℕ} → IsWhole s → book.rows ≡ s.tree.rows → IsRowTaken s s' book book' kind items row → All (λ row. IsFree s.cleared (life_of s.lives row)) book.free
    → All (λ row. IsFree s'.cleared (life_of s'.lives row)) book'.free
still_spare {s} {s'} {book} {book'} {kind} {items} {row} whole rows taken spare = λ k d within.
    let r = get_or book'.free k d in
    let cleared : s'.cleared ≡ s.cleared = ap (λ (x : Sheet). x.cleared) taken.drafted.only.rest in
    let free : book.free ≡ book'.free ++ row ∷ [] = ap (λ (b : Book). b.free) taken.taken in
    let all = ap length free in let long = length-append book'.free (row ∷ []) in
    let was : IsFree s.cleared (life_of s.lives r) = subst (λ (x : ℕ). IsFree s.cleared (life_of s.lives x)) (ap (λ (l : List ℕ). get_or l k d) free ∙ get_or_append_left book'.free (row ∷ []) d k within) (spare k d (omega arith)) in
    subst (λ (n : ℕ). IsFree n (life_of s'.lives r)) (sym cleared)
    (⊎_elim
    (λ (same : r ≡ row). subst (λ (x : ℕ). IsFree s.cleared (life_of s'.lives x)) (sym same)
    (rw (is_draft taken.drafted.only whole (subst (λ (n : ℕ). row < first_row + n) rows taken.number.1)) tt))
    (λ (other : r ≢ row). rw (other_life taken.drafted.only r other) was) (cases_eq r row))

-- ---- the rows so far

-- The items before `from` are drafted. What follows makes the whole, whatever rows it takes.
pub record AreSoFar (s s' : Sheet) (book book' : Book) (above kind : RowKind) (first : ℕ) (items : List Item) (ends : List ℕ) (made made' : List NewRow) (rows : List ℕ) (new : List Item) (from index : ℕ) : Type 0 where
  pub may : MayDraftRows s book kind first items ends
  pub count : length rows ≡ index
  pub count_new : length new ≡ index
  pub notes : length made' ≤ length made + index
  pub free : length book.free ≡ length book'.free + index
  pub book_rows : book'.rows ≡ s'.tree.rows
  pub spare : All (λ row. IsFree s'.cleared (life_of s'.lives row)) book'.free
  pub width : s'.tree.table.width ≡ s.tree.table.width
  pub parts : AreParts may.tree may.height (first_of first items from) items from (drop index ends)
  pub taken : (rest : List ℕ) (s″ : Sheet) (book″ : Book) → AreRowsTaken kind items from (drop index ends) rest s' s″ book' book″ → AreRowsTaken kind items 0 ends (rows ++ rest) s s″ book book″
  pub up : (rest : List ℕ) → length rest ≡ length (drop index ends) → heads above kind first items 0 ends (rows ++ rest) ≡ new ++ heads above kind (first_of first items from) items from (drop index ends) rest
  pub noted : (rest : List ℕ) → length rest ≡ length (drop index ends) → made ++ noted_rows kind 0 ends (rows ++ rest) ≡ made' ++ noted_rows kind from (drop index ends) rest

pub none_so_far : {s : Sheet} {book : Book} {above kind : RowKind} {first : ℕ} {items : List Item} {ends : List ℕ} {made : List NewRow} → MayDraftRows s book kind first items ends → AreSoFar s s book book above kind first items ends made made [] [] 0 0
none_so_far {kind = kind} {items = items} {ends = ends} may = record {
  may = may;
  count = refl;
  count_new = refl;
  notes = omega arith;
  free = omega arith;
  book_rows = may.rows;
  spare = may.spare;
  width = refl;
  parts = cut_makes_parts items may.run (subst (λ (k : RowKind). IsCutOf may.tree.table.width k items ends) may.of_kind may.cut);
  taken = λ rest s″ book″ all. all;
  up = λ rest many. refl;
  noted = λ rest many. refl;
}

module _ {s s' : Sheet} {book book' : Book} {above kind : RowKind} {first : ℕ} {items : List Item} {ends : List ℕ} {made made' : List NewRow} {rows : List ℕ} {new : List Item} {from index : ℕ}
    (far : AreSoFar s s' book book' above kind first items ends made made' rows new from index) (inside : index < length ends) where
  abbrev to_now : ℕ
  to_now = get_or ends index 0

  abbrev part_now : List Item
  part_now = part_of items from to_now

  ends_are : drop index ends ≡ to_now ∷ drop (index + 1) ends
  ends_are = drop_more ends index 0 inside

  parts_now : IsPart far.may.tree far.may.height (first_of first items from) items from to_now × AreParts far.may.tree far.may.height (after (first_of first items from) part_now) items to_now (drop (index + 1) ends)
  parts_now = subst (AreParts far.may.tree far.may.height (first_of first items from) items from) ends_are far.parts

  pub next_fits : first_of first items from < 2 ^ 64
  next_fits =
      let some = parts_now.0.some in let within = parts_now.0.within in
      let low = first_inside first far.may.hi from items (omega arith) far.may.run.fills in let top = far.may.within in let fits = greatest_fits far.may.tree.table.width in omega arith

  pub some_now : 1 ≤ length part_now
  some_now = let long = length-part items from to_now parts_now.0.within in let some = parts_now.0.some in omega arith

  pub rise_now : {begin : ℕ} → begin ≡ first_of first items from → RiseFrom begin part_now
  rise_now begins = subst (λ (n : ℕ). RiseFrom n part_now) (sym begins) (fills_rise (first_of first items from) (after (first_of first items from) part_now) part_now parts_now.0.run.fills)

  pub entry_now : kind ≡ Leaf → Any (λ (x : Item). x.word ≢ 0) part_now
  entry_now leaf = some_entry (first_of first items from) part_now (parts_now.0.run.leaves (leaf_low far.may.tree.gapped far.may.height (sym far.may.of_kind ∙ leaf))).some

  next_begins : first_of first items to_now ≡ after (first_of first items from) part_now
  next_begins =
      let some = parts_now.0.some in let within = parts_now.0.within in
      first_after first to_now items within
      ∙ (ap (after first) (take_part items from to_now (omega arith)) ∙ (after-append first (take from items) part_now ∙ ap (λ (n : ℕ). after n part_now) (sym (first_after first from items (omega arith)))))

  behind_now : first_of first items to_now ≡ end_of 0 part_now + 1
  behind_now = next_begins ∙ after_some (first_of first items from) 0 part_now some_now

  module _ {s″ : Sheet} {book″ : Book} {made″ : List NewRow} {one : Head} {begin : ℕ} (whole : IsWhole s') (begins : begin ≡ first_of first items from) (piece : IsPieceDrafted s' s″ book' book″ above kind begin part_now made' made″ one)
      (few : length made″ ≤ length made' + 1) where
    more_rows : (rest : List ℕ) → (rows ++ one.row ∷ []) ++ rest ≡ rows ++ (one.row ∷ rest)
    more_rows rest = append_assoc rows (one.row ∷ []) rest

    many_rest : (rest : List ℕ) → length rest ≡ length (drop (index + 1) ends) → length (one.row ∷ rest) ≡ length (drop index ends)
    many_rest rest many = let all = ap length ends_are in omega arith

    pub one_so_far : AreSoFar s s″ book book″ above kind first items ends made made″ (rows ++ one.row ∷ []) (new ++ one.item ∷ []) to_now (index + 1)
    one_so_far = record {
      may = far.may;
      count = let count = far.count in let long = length-append rows (one.row ∷ []) in omega arith;
      count_new = let count = far.count_new in let long = length-append new (one.item ∷ []) in omega arith;
      notes = let notes = far.notes in omega arith;
      free = let free = far.free in let taken = ap (λ (b : Book). length b.free) piece.taken.taken in let long = length-append book″.free (one.row ∷ []) in omega arith;
      book_rows = sym (ap (λ (b : Book). b.rows) piece.taken.taken) ∙ (far.book_rows ∙ sym (ap (λ t. t.rows) piece.taken.drafted.only.tree));
      spare = still_spare whole far.book_rows piece.taken far.spare;
      width = ap (λ t. t.table.width) piece.taken.drafted.only.tree ∙ far.width;
      parts = subst (λ (n : ℕ). AreParts far.may.tree far.may.height n items to_now (drop (index + 1) ends)) (sym next_begins) parts_now.1;
      taken = λ rest s‴ book‴ all.
          subst (λ (l : List ℕ). AreRowsTaken kind items 0 ends l s s‴ book book‴) (sym (more_rows rest))
          (far.taken (one.row ∷ rest) s‴ book‴ (subst (λ (l : List ℕ). AreRowsTaken kind items from l (one.row ∷ rest) s' s‴ book' book‴) (sym ends_are) (s″, book″, piece.taken, all)));
      up = λ rest many.
          ap (heads above kind first items 0 ends) (more_rows rest)
          ∙ (far.up (one.row ∷ rest) (many_rest rest many)
          ∙ (ap (λ (l : List ℕ). new ++ heads above kind (first_of first items from) items from l (one.row ∷ rest)) ends_are
          ∙ ((λ i. new ++ (head above kind (sym begins i) part_now one.row ∷ heads above kind (sym behind_now i) items to_now (drop (index + 1) ends) rest))
          ∙ (ap (λ (x : Item). new ++ (x ∷ heads above kind (first_of first items to_now) items to_now (drop (index + 1) ends) rest)) (sym piece.up)
          ∙ sym (append_assoc new (one.item ∷ []) (heads above kind (first_of first items to_now) items to_now (drop (index + 1) ends) rest))))));
      noted = λ rest many.
          ap (λ (l : List ℕ). made ++ noted_rows kind 0 ends l) (more_rows rest)
          ∙ (far.noted (one.row ∷ rest) (many_rest rest many)
          ∙ (ap (λ (l : List ℕ). made' ++ noted_rows kind from l (one.row ∷ rest)) ends_are
          ∙ (ap (λ (n : ℕ). made' ++ (noted_row kind one.row n ++ noted_rows kind to_now (drop (index + 1) ends) rest)) (sym (length-part items from to_now parts_now.0.within))
          ∙ (sym (append_assoc made' (noted_row kind one.row (length part_now)) (noted_rows kind to_now (drop (index + 1) ends) rest))
          ∙ ap (λ (l : List NewRow). l ++ noted_rows kind to_now (drop (index + 1) ends) rest) (sym piece.noted)))));
    }

-- all are drafted
pub all_drafted : {s s' : Sheet} {book book' : Book} {above kind : RowKind} {first : ℕ} {items : List Item} {ends : List ℕ} {made made' : List NewRow} {rows : List ℕ} {new : List Item} {from index : ℕ} → AreSoFar s s' book book' above kind first items ends made made' rows new from index
    → length ends ≤ index → index ≤ length ends → AreRowsDrafted s s' book book' above kind first items ends made made' rows new
all_drafted {s} {s'} {book} {book'} {above} {kind} {first} {items} {ends} {made} {made'} {rows} {new} {from} {index} far done low =
    let none : drop index ends ≡ [] = drop_all index ends done in
    let same : rows ++ [] ≡ rows = append-nil rows in
    record {
      many = let count = far.count in omega arith;
      taken = subst (λ (l : List ℕ). AreRowsTaken kind items 0 ends l s s' book book') same (far.taken [] s' book' (subst (λ (l : List ℕ). AreRowsTaken kind items from l [] s' s' book' book') (sym none) (refl, refl)));
      up = sym
          (sym (ap (heads above kind first items 0 ends) same)
          ∙ (far.up [] (sym (ap length none)) ∙ (ap (λ (l : List ℕ). new ++ heads above kind (first_of first items from) items from l []) none ∙ append-nil new)));
      noted = sym
          (sym (ap (λ (l : List ℕ). made ++ noted_rows kind 0 ends l) same)
          ∙ (far.noted [] (sym (ap length none)) ∙ (ap (λ (l : List ℕ). made' ++ noted_rows kind from l []) none ∙ append-nil made')));
    }

-- ---- what a draft leaves

-- no row is buried, and none retired
pub drafts_bury_none : (kind : RowKind) (items : List Item) (from : ℕ) (ends rows : List ℕ) (s s' : Sheet) (book book' : Book) → AreRowsTaken kind items from ends rows s s' book book' → (s'.buried ≡ s.buried) × (book'.held ≡ book.held)
drafts_bury_none kind items from [] [] s s' book book' same = (ap (λ (x : Sheet). x.buried) same.0, ap (λ (b : Book). b.held) same.1)
drafts_bury_none kind items from [] (row ∷ rows) s s' book book' none = absurd none
drafts_bury_none kind items from (to ∷ ends) [] s s' book book' none = absurd none
drafts_bury_none kind items from (to ∷ ends) (row ∷ rows) s s' book book' (s₁, book₁, one, rest) =
    let more = drafts_bury_none kind items to ends rows s₁ s' book₁ book' rest in (more.0 ∙ ap (λ (x : Sheet). x.buried) one.drafted.only.rest, more.1 ∙ sym (ap (λ (b : Book). b.held) one.taken))
