-- A copy of a tree is ready to open a tree with.
use Rattle.mt_tree.proofs.Prelude.{◌≡◌, ℕ, zero, suc, ◌+◌, ◌<◌, ◌≤◌, Bool, true, false, List, [], length, get_or, replicate, refl, sym, ap, ◌∙◌, subst, arith, All, Contains, slice_index_or, if◌then◌else◌, All-nil, Contains-get_or, Kind, Range, first_row, Book, StampedRow, IsBook, live_count, New, Live, Dead, Root, Rooted, Sheet, life_of, LiveAreReached, MayPlant, Planted, is_reached, map_by, with_published, reached_in, IsNewBut, IsBookOfCopy, IsUnheld, IsBookOf, live_is_reached, IsIdle, levelled, tree_if_lawful, IsReadyToOpen}

same_anywhere : {X : Type 0} (n i : ℕ) (x : X) → slice_index_or (replicate n x) i x ≡ x
same_anywhere zero i x = refl
same_anywhere (suc n) zero x = refl
same_anywhere (suc n) (suc i) x = same_anywhere n i x

-- as many rows are reached as the book counts as live
pub live_reached : (kind : Kind) (s : Sheet) (book : Book) → IsIdle kind s book → live_count book ≡ length (reached_in s.tree.table s.tree.root)
live_reached kind s book idle = live_is_reached s.tree s.lives s.cleared kind book (s.ended + 1) (tree_if_lawful s.tree kind idle.state.kept.lawful) idle.state.kept.booked

module _ (kind : Kind) (rows : ℕ) (s s' : Sheet) (root : ℕ) (book : Book) (sound : IsBook book) (may : MayPlant kind s root) (new : IsNewBut (with_published s.tree Root root) rows s) (of : IsBookOfCopy (with_published s.tree Root root) book) (planted : Planted s s' root) where
  abbrev copy : Rooted
  copy = with_published s.tree Root root

  abbrev many : ℕ
  many = length (reached_in s.tree.table root)

  tree_is : s'.tree ≡ copy
  tree_is = ap (λ (x : Sheet). x.tree) planted.rest

  rows_are : s.tree.rows ≡ rows
  rows_are = ap (λ (x : Sheet). x.tree.rows) new.rest

  none_held : book.held ≡ []
  none_held = of.held

  free_unreached : (row : ℕ) → Contains book.free row → is_reached copy row ≡ false
  free_unreached row free = by (is_reached copy row) refl
    where
      by : (b : Bool) → is_reached copy row ≡ b → is_reached copy row ≡ false
      by false is = is
      by true is = absurd (((of.live row).1 is).not_free free)

  free_new : (row : ℕ) → Contains book.free row → first_row ≤ row → row < first_row + book.rows → life_of s'.lives row ≡ New
  free_new row free low high =
      let not = free_unreached row free in
      let there : is_reached s'.tree row ≡ false = ap (λ (t : Rooted). is_reached t row) tree_is ∙ not in
      planted.lives row low (let r = of.rows in omega (arith, r)) ∙ (ap (λ (b : Bool). if b then Live else life_of s.lives row) there ∙ new.new row not)

  booked : IsBookOf copy s'.lives s.cleared book (s.ended + 1)
  booked = record {
    sound = sound;
    rows = of.rows;
    out = λ row low high is. (of.live row).0 is;
    reached = λ row is. (of.live row).1 is;
    spare = λ i d low.
        let here = sound.free_rows i d low in
        subst (IsUnheld s.cleared) (sym (free_new (get_or book.free i d) (Contains-get_or book.free i d low) here.0 here.1)) tt;
    stamps = subst (All (λ (h : StampedRow). h.stamp < s.ended + 1)) (sym none_held) (All-nil (λ (h : StampedRow). h.stamp < s.ended + 1));
  }

  idle : IsIdle kind s' book
  idle = subst (λ (x : Sheet). IsIdle kind x book) (sym planted.rest) (record {
    idle = may.idle;
    state = record {
      told = may.told;
      kept = record {
        lawful = may.lawful;
        live = subst (λ (t : Rooted). LiveAreReached t s'.lives) tree_is planted.live;
        none_buried = λ row low high. ap (λ (x : Sheet). slice_index_or x.buried row false) new.rest ∙ same_anywhere (first_row + rows) row false;
        booked = booked;
      };
      held = subst (All (λ (h : StampedRow). life_of s'.lives h.row ≡ Dead h.stamp)) (sym none_held) (All-nil (λ (h : StampedRow). life_of s'.lives h.row ≡ Dead h.stamp));
      grown = (let live = live_is_reached copy s'.lives s.cleared kind book (s.ended + 1) (tree_if_lawful copy kind may.lawful) booked in omega (arith, live, ap length none_held));
    };
  })

  pub ready : (m : List Range) → map_by copy ≡ m → IsReadyToOpen kind rows m s' book
  ready m same = record {
    idle = idle;
    first = ap (λ (x : Sheet). x.ended) planted.rest ∙ may.first;
    many = ap (λ (x : Sheet). x.tree.rows) planted.rest ∙ rows_are;
    map = ap (λ (x : Sheet). map_by x.tree) planted.rest ∙ same;
    few = (let half = (levelled copy kind (tree_if_lawful copy kind may.lawful)).half in omega (arith, half, ap (λ (x : Sheet). x.opened) planted.rest, ap length same));
  }
