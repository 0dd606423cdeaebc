-- Another entry of one range, published by one word in the slot of its leaf: the rows stay as they are.
use Rattle.mt_engine.proofs.Prelude.{◌≡◌, ◌≢◌, ℕ, zero, suc, ◌+◌, ◌*◌, ◌<◌, ◌≤◌, ◌==◌, ◌++◌, List, [], ◌∷◌, Bool, true, false, All, nat_lt, length, max, refl, sym, ap, ◌∙◌, subst, inl, inr, arith, append-nil, get_or-set_other, le-ltb, ne_eqb, slice_index, slice_set, slice_index_or, AllByRecursion, Contains, cases_Bool, eqb-false, All-weaker, All-contains, All-contains_itself, Width, Kind, Range, Call, Store, Reply, acted, finds_room, reserved, over, all_front, all_back, all_join, columns, greatest, greatest_of, first_row, Book, StampedRow, IsRowOf, Leaf, Gapped, Span, slot_column, gap_column, row_in, slots_of, hole_length, longest_in, other_place, other_column, some_columns, slot_above, slot_within, gap_within, Life, New, Dead, Place, Slot, Table, column, spans_in, Levels, is_row_of, height_in, Rooted, Sheet, IsWhole, life_of, with_word, tree_as, map_by, is_reached, MayPublish, Published, with_record, life_after, finished, root_of, IsSlotAt, ReplacesEntry, may_publish, levels_upper, levels_both, levels_pair, level_rows, all_both, upper_both, upper_shared, levels_map, Handle, IsHandleOf, handle_in, slot_for, below, step_in, at_get, row_of, place, IsBookOf, IsUnheld, IsStoreBy, SameHeight, ChangesEntry, IsInCall, IsIdle, IsDoneByStore, row_most, longest_in-append}
use Rattle.mt_rows.specs.Laws as laws
use Rattle.mt_rows.proofs.Reached as reached
use Rattle.mt_rows.proofs.SlotEntry as exact
use Rattle.mt_rows.proofs.SlotStore as store
use Rattle.mt_path.proofs.TreePaths.{holds}
use Rattle.mt_engine.proofs.GapsStay.{SameGaps, gaps_stay, no_gaps_in_leaves}
use Rattle.mt_engine.proofs.Slots.{end_is, slot_holds}
use Rattle.mt_engine.proofs.AfterSplice.{stored_as}

-- ---- the parent words beside a slot of a leaf

parent_stays : (width : Width) (words : List ℕ) (row slot word r : ℕ) → slot < slots_of width Leaf
    → slice_index (slice_set words (columns width * row + slot_column (slots_of width Leaf) slot) word) (columns width * r + 0) ≡ slice_index words (columns width * r + 0)
parent_stays width words row slot word r low =
    let above : 0 ≢ slot_column (slots_of width Leaf) slot = let some = slot_above width Leaf slot in λ e. omega arith in
    get_or-set_other words (columns width * row + slot_column (slots_of width Leaf) slot) (columns width * r + 0) word 0
    (other_column width row r 0 (slot_column (slots_of width Leaf) slot) above (some_columns width) (slot_within width Leaf slot low))

parents_stay : (t t' : Table) (row slot : ℕ) (xs : List Span) → ((r : ℕ) → column t' r 0 ≡ column t r 0) → laws.ParentsFrom t row slot xs → laws.ParentsFrom t' row slot xs
parents_stay t t' row slot [] same parents = tt
parents_stay t t' row slot (x ∷ xs) same parents = (same (row_in x.word) ∙ parents.0, parents_stay t t' row (slot + 1) xs same parents.1)

pub parent_stays_in : (t t' : laws.Tree) (n : ℕ) (x : Span) → ((r : ℕ) → column t'.table r 0 ≡ column t.table r 0) → spans_in t'.table x ≡ spans_in t.table x → laws.ParentLaw t n x → laws.ParentLaw t' n x
parent_stays_in t t' zero x same spans parent = tt
parent_stays_in t t' (suc n) x same spans parent = subst (laws.ParentsFrom t'.table (row_in x.word) 0) (sym spans) (parents_stay t.table t'.table (row_in x.word) 0 (spans_in t.table x) same parent)

no_parents_in_leaves : (t : laws.Tree) (xs : List Span) → AllByRecursion (laws.ParentLaw t zero) xs
no_parents_in_leaves t [] = tt
no_parents_in_leaves t (x ∷ xs) = (tt, no_parents_in_leaves t xs)

-- ---- the gap words beside a slot of a leaf

gap_stays : (width : Width) (words : List ℕ) (row slot word r c : ℕ) → slot < slots_of width Leaf → c < slots_of width Gapped → (r ≡ row → ⊥)
    → slice_index (slice_set words (columns width * row + slot_column (slots_of width Leaf) slot) word) (columns width * r + gap_column (slots_of width Gapped) c) ≡ slice_index words (columns width * r + gap_column (slots_of width Gapped) c)
gap_stays width words row slot word r c low in_row other =
    get_or-set_other words (columns width * row + slot_column (slots_of width Leaf) slot) (columns width * r + gap_column (slots_of width Gapped) c) word 0
    (other_place width row r (gap_column (slots_of width Gapped) c) (slot_column (slots_of width Leaf) slot) other (gap_within width c in_row) (slot_within width Leaf slot low))

-- an entry is no hole, whichever it is
no_hole : (x : Span) → x.word ≢ 0 → hole_length x ≡ 0
no_hole x full = let some : (x.word == 0) ≡ false = ne_eqb x.word 0 full in rw some refl

entry_longest : (front back : List Span) (x y : Span) → x.word ≢ 0 → y.word ≢ 0 → longest_in (front ++ (y ∷ back)) ≡ longest_in (front ++ (x ∷ back))
entry_longest front back x y full new =
    longest_in-append front (y ∷ back)
    ∙ (ap (λ (k : ℕ). max (longest_in front) (max k (longest_in back))) (no_hole y new ∙ sym (no_hole x full)) ∙ sym (longest_in-append front (x ∷ back)))

-- ---- the store

module _ (kind : Kind) (s : Sheet) (h index entry : ℕ) (whole : IsWhole s) (stands : laws.Stands (tree_as kind s.tree) h) (inside : index ≤ greatest s.tree.table.width) where
  abbrev pub t : laws.Tree
  t = tree_as kind s.tree

  abbrev pub leaf : Span
  leaf = row_of (tree_as kind s.tree) h index

  abbrev pub slot : ℕ
  slot = slot_for (spans_in s.tree.table (row_of (tree_as kind s.tree) h index)) index

  abbrev pub item : Span
  item = below s.tree.table (row_of (tree_as kind s.tree) h index) index

  abbrev pub where_published : Place
  where_published = Slot (row_in leaf.word) (slot_column (slots_of s.tree.table.width Leaf) slot)

  abbrev pub written : Rooted
  written = with_word s.tree (row_in leaf.word) (slot_column (slots_of s.tree.table.width Leaf) slot) entry

  at : IsSlotAt t h leaf slot item
  at =
      let one = place t h stands index h inside (omega arith) in
      let own = holds t h stands index h inside (omega arith) in
      record { front = one.front; back = one.back; stands = one.parts; holds = at_get leaf.first (leaf.last + 1) (spans_in t.table leaf) index item own }

  module _ (old : item.word ≢ 0) (new : entry ≢ 0) (free : reserved entry ≡ false) where
    abbrev st : store.Store
    st = exact.entry_store t h slot entry leaf item whole.words stands at old new free

    abbrev t' : laws.Tree
    t' = tree_as kind written

    replaced : ReplacesEntry t t' h item entry
    replaced = exact.replaces_entry t h slot entry leaf item whole.words stands at old new free

    slot_low : slot < slots_of s.tree.table.width Leaf
    slot_low = let used = store.used st in let most = row_most (store.row_law st).name in omega arith

    -- ---- which rows are reached

    pub reached_stay : (row : ℕ) → is_reached written row ≡ is_reached s.tree row
    reached_stay row = ap (nat_lt 0) (reached.tally_reached t' h replaced.stands row ∙ (replaced.rows (is_row_of row) ∙ sym (reached.tally_reached t h stands row)))

    -- ---- the laws

    parent_same : (r : ℕ) → column written.table r 0 ≡ column s.tree.table r 0
    parent_same r = parent_stays s.tree.table.width s.tree.table.words (row_in leaf.word) slot entry r slot_low

    abbrev IsOther : ℕ → Span → Type 0
    IsOther n y = is_row_of (row_in leaf.word) n y ≡ false

    abbrev root : List Span
    root = root_of (tree_as kind s.tree)

    keeps_parents : (n : ℕ) (y : Span) → IsOther n y → laws.ParentLaw t n y → laws.ParentLaw t' n y
    keeps_parents n y other parent = parent_stays_in t t' n y parent_same (store.others_same st n y other) parent

    parents_after : Levels (laws.ParentLaw t) t.table h root → Levels (laws.ParentLaw t') t'.table h root
    parents_after parents =
        levels_both (laws.ParentLaw t') t'.table h zero h root (omega arith)
        (upper_shared (laws.ParentLaw t') t.table t'.table h zero root (store.upper_same st)
        (upper_both IsOther (laws.ParentLaw t) (laws.ParentLaw t') t.table keeps_parents h zero root (store.upper_other st) (levels_upper (laws.ParentLaw t) t.table h zero h root (omega arith) parents)))
        (no_parents_in_leaves t' _)

    -- each row but the one that is written is the same, and that one has as long a hole as before
    abbrev Same : ℕ → Span → Type 0
    Same = SameGaps (finds_room kind) s.tree.table written.table

    gap_same : (n : ℕ) (y : Span) → IsOther (suc n) y → laws.IsRow t (suc n) y → finds_room kind ≡ true → (c : ℕ) → c < length (spans_in s.tree.table y) → column written.table (row_in y.word) (gap_column (slots_of s.tree.table.width Gapped) c) ≡ column s.tree.table (row_in y.word) (gap_column (slots_of s.tree.table.width Gapped) c)
    gap_same n y other row is c within =
        let most : length (spans_in s.tree.table y) ≤ slots_of s.tree.table.width Gapped = subst (λ (b : Bool). length (spans_in s.tree.table y) ≤ slots_of s.tree.table.width (laws.kind_on b (suc n))) is (row_most row.name) in
        gap_stays s.tree.table.width s.tree.table.words (row_in leaf.word) slot entry (row_in y.word) c slot_low (omega arith) (eqb-false (row_in y.word) (row_in leaf.word) other)

    same_here : (n : ℕ) (y : Span) → IsOther n y → laws.IsRow t n y → Same n y
    same_here zero y other row = ap longest_in (store.others_same st zero y other)
    same_here (suc n) y other row = record { spans = store.others_same st (suc n) y other; gaps = gap_same n y other row }

    leaf_same : Same zero leaf
    leaf_same =
        let parts = store.parts st in
        ap longest_in (store.row_after st) ∙ (entry_longest parts.0 parts.1 item (record { first = item.first; last = item.last; word = entry }) old new ∙ sym (ap longest_in (store.row_before st)))

    same_levels : Levels Same s.tree.table h root
    same_levels =
        let laws_here = level_rows (laws.IsRow t) t.table h zero h root (omega arith) stands.rows in
        let split = subst (AllByRecursion (laws.IsRow t zero)) at.stands laws_here in
        levels_both Same t.table h zero h root (omega arith)
        (upper_both IsOther (laws.IsRow t) Same t.table same_here h zero root (store.upper_other st) (levels_upper (laws.IsRow t) t.table h zero h root (omega arith) stands.rows))
        (subst (AllByRecursion (Same zero)) (sym at.stands)
        (all_join (Same zero) at.front (leaf ∷ at.back)
        (all_both (IsOther zero) (laws.IsRow t zero) (Same zero) (same_here zero) at.front (store.front_other st) (all_front (laws.IsRow t zero) at.front (leaf ∷ at.back) split))
        (leaf_same, all_both (IsOther zero) (laws.IsRow t zero) (Same zero) (same_here zero) at.back (store.back_other st) (all_back (laws.IsRow t zero) at.front (leaf ∷ at.back) split).1)))

    gaps_after : Levels (laws.GapLaw t) t.table h root → Levels (laws.GapLaw t') t'.table h root
    gaps_after gaps =
        let stay = gaps_stay (finds_room kind) s.tree.table.width s.tree.table.words written.table.words s.tree.rows s.tree.root h root same_levels gaps in
        levels_both (laws.GapLaw t') t'.table h zero h root (omega arith)
        (upper_shared (laws.GapLaw t') t.table t'.table h zero root (store.upper_same st) (levels_upper (laws.GapLaw t') t.table h zero h root (omega arith) stay))
        (no_gaps_in_leaves (finds_room kind) s.tree.table.width s.tree.table.words written.table.words s.tree.rows s.tree.root _)

    tended_after : Levels (laws.IsTended t) t.table h root → Levels (laws.IsTended t') t'.table h root
    tended_after tended =
        levels_pair (laws.ParentLaw t') (laws.GapLaw t') (laws.IsTended t') t'.table (λ n x parent gaps. record { parent = parent; gaps = gaps }) h root
        (parents_after (levels_map (laws.IsTended t) (laws.ParentLaw t) t.table (λ n x is. is.parent) h root tended))
        (gaps_after (levels_map (laws.IsTended t) (laws.GapLaw t) t.table (λ n x is. is.gaps) h root tended))

    pub lawful_after : column t.table (row_in t.root) 0 ≡ 1 → Levels (laws.IsTended t) t.table h (root_of t) → laws.IsLawful t'
    lawful_after parent tended = inr (h, replaced.stands, parent_same (row_in t.root) ∙ parent, tended_after tended)

    -- the height stays
    pub height_kept : SameHeight s.tree written
    height_kept = reached.height_is t' h replaced.stands ∙ sym (reached.height_is t h stands)

    -- ---- it may be published, by whichever call

    stores_so : (m : List Range) → item.first ≤ item.last → item.last ≤ greatest_of kind → acted kind m (Store item.first item.last entry) ≡ (over m item.first item.last entry, (acted kind m (Store item.first item.last entry)).1)
    stores_so m order within = rw (le-ltb item.last item.first order, le-ltb (greatest_of kind) item.last within, free) refl

    pub may_as : (call : Call) (reply : Reply) (book : Book) → IsInCall kind s book → IsStoreBy kind (greatest s.tree.table.width) (map_by s.tree) call reply item.first item.last entry → MayPublish kind s where_published entry call reply
    may_as call answer book in_call stores =
        let state = in_call.state in
        let width = state.kept.lawful.width in
        let may = may_publish kind s h slot entry leaf item whole state.kept.live state.kept.none_buried state.told width stands at old new free in_call.in_flight in_call.before in
        let exactly = stores_so (map_by s.tree) stores.order (subst (λ (w : Width). item.last ≤ greatest w) width stores.within) in
        record {
          in_flight = may.in_flight;
          before = may.before;
          told = may.told;
          at = may.at;
          live = may.live;
          tree = may.tree;
          answer = stores.acts ∙ ap (λ (m : List Range). (m, answer)) (ap (λ (r : List Range × Reply). r.0) (sym exactly ∙ may.answer));
          after = may.after;
          rows = may.rows;
        }

-- ---- the end of the call

all_with : {X : Type 0} (P Q R : X → Type 0) → ((x : X) → P x → Q x → R x) → (xs : List X) → All P xs → All Q xs → All R xs
all_with {X} P Q R f xs ps qs = All-weaker (Contains xs) R (λ x one. f x (All-contains P xs x ps one) (All-contains Q xs x qs one)) xs (All-contains_itself xs)

module _ (kind : Kind) (s : Sheet) (book : Book) (after : Rooted) (lives : List Life) (buried : List Bool) (call : Call) (reply : Reply) (in_call : IsInCall kind s book) (rows : after.rows ≡ s.tree.rows) (reached_same : (row : ℕ) → is_reached after row ≡ is_reached s.tree row)
    (alive : (row : ℕ) → first_row ≤ row → row < first_row + s.tree.rows → slice_index_or lives row New ≡ life_after s after row) (kept : (row : ℕ) → first_row ≤ row → row < first_row + s.tree.rows → slice_index_or buried row false ≡ false)
    (width : after.table.width ≡ s.tree.table.width) (lawful : laws.IsLawful (tree_as kind after)) (acts : acted kind (map_by s.tree) call ≡ (map_by after, reply)) where
  abbrev later : Sheet
  later = record s { tree = after; published = true; lives = lives; buried = buried; told = with_record s.told call reply }

  abbrev ended : Sheet
  ended = finished later call reply

  same_life : (row : ℕ) → first_row ≤ row → row < first_row + s.tree.rows → life_of lives row ≡ life_of s.lives row
  same_life row low high =
      alive row low high
      ∙ elim (cases_Bool (is_reached after row)) [
        | inl is ↦ rw is (sym ((in_call.state.kept.live row low high).1 (sym (reached_same row) ∙ is)))
        | inr not ↦ rw (not, in_call.state.kept.none_buried row low high) refl
      ]

  same_of_book : (row : ℕ) → IsRowOf book row → life_of lives row ≡ life_of s.lives row
  same_of_book row is = let rows = in_call.state.kept.booked.rows in let low = is.0 in let high = is.1 in same_life row (omega arith) (omega arith)

  booked : IsBookOf after lives s.cleared book (s.ended + 1 + 1)
  booked =
      let was = in_call.state.kept.booked in
      record {
        sound = was.sound;
        rows = was.rows ∙ sym rows;
        out = λ row low high out. reached_same row ∙ was.out row low (subst (λ (n : ℕ). row < first_row + n) rows high) out;
        reached = λ row is. was.reached row (sym (reached_same row) ∙ is);
        spare = all_with (IsRowOf book) (λ row. IsUnheld s.cleared (life_of s.lives row)) (λ row. IsUnheld s.cleared (life_of lives row)) (λ row is spare. subst (IsUnheld s.cleared) (sym (same_of_book row is)) spare) book.free was.sound.free_rows was.spare;
        stamps = All-weaker (λ (h : StampedRow). h.stamp < s.ended + 1) (λ (h : StampedRow). h.stamp < s.ended + 1 + 1) (λ h below. omega arith) book.held was.stamps;
      }

  rested : IsIdle kind ended book
  rested =
      let state = in_call.state in
      record {
        idle = refl;
        state = record {
          told = state.told;
          kept = record {
            lawful = record { width = width ∙ state.kept.lawful.width; words = lawful };
            live = λ row low below.
                let high : row < first_row + s.tree.rows = subst (λ (n : ℕ). row < first_row + n) rows below in
                let was = state.kept.live row low high in let same = same_life row low high in let stay = reached_same row in
                ((λ is. stay ∙ was.0 (sym same ∙ is)), (λ is. same ∙ was.1 (sym stay ∙ is)));
            none_buried = λ row low below. kept row low (subst (λ (n : ℕ). row < first_row + n) rows below);
            booked = booked;
          };
          held = all_with (λ (h : StampedRow). IsRowOf book h.row) (λ (h : StampedRow). life_of s.lives h.row ≡ Dead h.stamp) (λ (h : StampedRow). life_of lives h.row ≡ Dead h.stamp) (λ h is dead. same_of_book h.row is ∙ dead) book.held state.kept.booked.sound.waiting_rows state.held;
          grown = let grown = state.grown in omega arith;
        };
      }

  pub is_stored : IsDoneByStore kind s later book book call reply
  is_stored =
      stored_as kind s after lives buried s.reads book book call reply in_call.in_flight rested rows acts
      (record { taken = []; free_were = sym (append-nil book.free); few = omega arith; none = λ _. refl })

-- ---- by a handle

module _ (kind : Kind) (s : Sheet) (book : Book) (handle : Handle) (entry : ℕ) (call : Call) (reply : Reply) (whole : IsWhole s) (in_call : IsInCall kind s book) (is : IsHandleOf s.tree handle) (held : handle.span.word ≢ 0) (new : entry ≢ 0)
    (stores : IsStoreBy kind (greatest s.tree.table.width) (map_by s.tree) call reply handle.span.first handle.span.last entry) where
  abbrev words : laws.Tree
  words = tree_as kind s.tree

  abbrev Stood : Type 0
  Stood = (h : ℕ) × laws.Stands words h × (column words.table (row_in words.root) 0 ≡ 1) × Levels (laws.IsTended words) words.table h (root_of words)

  stood_by : laws.IsLawful words → Stood
  stood_by (inl empty) = absurd (is.some empty)
  stood_by (inr stood) = stood

  stood : Stood
  stood = stood_by in_call.state.kept.lawful.words

  abbrev here : Span
  here = row_of words stood.0 is.index

  span_is : handle.span ≡ below s.tree.table here is.index
  span_is = ap (λ (x : Handle). x.span) is.is ∙ slot_holds words stood.0 stood.1 is.index is.within

  leaf_is : handle.leaf ≡ step_in s.tree.table here is.index
  leaf_is = ap (λ (x : Handle). x.leaf) is.is ∙ end_is words stood.0 stood.1 is.index is.within

  place_is : Slot handle.leaf.row (slot_column (slots_of s.tree.table.width Leaf) handle.leaf.slot) ≡ where_published kind s stood.0 is.index entry whole stood.1 is.within
  place_is = λ i. Slot (leaf_is i).row (slot_column (slots_of s.tree.table.width Leaf) (leaf_is i).slot)

  full : (below s.tree.table here is.index).word ≢ 0
  full = subst (λ (x : Span). x.word ≢ 0) span_is held

  stores_there : IsStoreBy kind (greatest s.tree.table.width) (map_by s.tree) call reply (below s.tree.table here is.index).first (below s.tree.table here is.index).last entry
  stores_there = subst (λ (x : Span). IsStoreBy kind (greatest s.tree.table.width) (map_by s.tree) call reply x.first x.last entry) span_is stores

  may_there : MayPublish kind s (where_published kind s stood.0 is.index entry whole stood.1 is.within) entry call reply
  may_there = may_as kind s stood.0 is.index entry whole stood.1 is.within full new stores.lawful call reply book in_call stores_there

  pub may_publish_entry : MayPublish kind s (Slot handle.leaf.row (slot_column (slots_of s.tree.table.width Leaf) handle.leaf.slot)) entry call reply
  may_publish_entry = subst (λ (p : Place). MayPublish kind s p entry call reply) (sym place_is) may_there

  stored_there : (s' : Sheet) → Published s s' (where_published kind s stood.0 is.index entry whole stood.1 is.within) entry call reply → IsDoneByStore kind s s' book book call reply
  stored_there s' done =
      subst (λ (x : Sheet). IsDoneByStore kind s x book book call reply) (sym done.rest)
      (is_stored kind s book (written kind s stood.0 is.index entry whole stood.1 is.within) s'.lives s'.buried call reply in_call refl
      (reached_stay kind s stood.0 is.index entry whole stood.1 is.within full new stores.lawful) done.lives done.buried refl
      (lawful_after kind s stood.0 is.index entry whole stood.1 is.within full new stores.lawful stood.2 stood.3) may_there.answer)

  pub entry_stored : (s' : Sheet) → Published s s' (Slot handle.leaf.row (slot_column (slots_of s.tree.table.width Leaf) handle.leaf.slot)) entry call reply → IsDoneByStore kind s s' book book call reply
  entry_stored s' done = stored_there s' (subst (λ (p : Place). Published s s' p entry call reply) place_is done)

  height_there : (s' : Sheet) → Published s s' (where_published kind s stood.0 is.index entry whole stood.1 is.within) entry call reply → SameHeight s.tree s'.tree
  height_there s' done = ap (λ (x : Sheet). height_in x.tree.table x.tree.root) done.rest ∙ height_kept kind s stood.0 is.index entry whole stood.1 is.within full new stores.lawful

  pub entry_height : (s' : Sheet) → Published s s' (Slot handle.leaf.row (slot_column (slots_of s.tree.table.width Leaf) handle.leaf.slot)) entry call reply → SameHeight s.tree s'.tree
  entry_height s' done = height_there s' (subst (λ (p : Place). Published s s' p entry call reply) place_is done)

  same_lives : (s' : Sheet) → Published s s' (where_published kind s stood.0 is.index entry whole stood.1 is.within) entry call reply → (row : ℕ) → first_row ≤ row → row < first_row + s.tree.rows → life_of s'.lives row ≡ life_of s.lives row
  same_lives s' done =
      same_life kind s book (written kind s stood.0 is.index entry whole stood.1 is.within) s'.lives s'.buried call reply in_call refl
      (reached_stay kind s stood.0 is.index entry whole stood.1 is.within full new stores.lawful) done.lives done.buried refl
      (lawful_after kind s stood.0 is.index entry whole stood.1 is.within full new stores.lawful stood.2 stood.3) may_there.answer

  -- no other word than that in the slot of the index of the handle has changed
  pub changes_entry : (s' : Sheet) (index : ℕ) → handle ≡ handle_in s.tree index → Published s s' (Slot handle.leaf.row (slot_column (slots_of s.tree.table.width Leaf) handle.leaf.slot)) entry call reply
      → ChangesEntry s.tree s'.tree s.lives s'.lives book book index entry
  changes_entry s' index at done = record {
    tree = ap (λ (x : Sheet). x.tree) done.rest ∙ ap (λ (x : Handle). with_word s.tree x.leaf.row (slot_column (slots_of s.tree.table.width Leaf) x.leaf.slot) entry) at;
    each_life = same_lives s' (subst (λ (p : Place). Published s s' p entry call reply) place_is done);
    same_book = refl;
  }
