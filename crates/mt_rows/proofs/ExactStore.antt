-- A store of an entry over just the indexes of a range may be published by one store of its slot.
use Rattle.mt_rows.proofs.Prelude.{◌≡◌, ◌≢◌, ℕ, zero, ◌+◌, ◌<◌, ◌≤◌, ◌==◌, List, ◌∷◌, ◌++◌, Bool, true, false, map, refl, sym, ap, ◌∙◌, subst, inl, inr, arith, ne_eqb, le-ltb, cases_Bool, eqb-true, map-append, Range, Width, Kind, Call, Store, reserved, first_met, over, acted, replied, kind_width, greatest, greatest_of, deepest, first_row, row_in, slot_column, Leaf, Span, slots_of, slot_within, Slot, spans_in, root_span, level, map_of, Sheet, Rooted, IsWhole, with_word, tree_as, IsToldKind, LiveAreReached, NoneBuried, MayPublish, IsPlaceToPublish, IsReached, StandsAt, KeepsPlace, SameHoles, ChangesRows, map_by, root_of, IsSlotAt}
use Rattle.mt_rows.specs.Laws as laws
use Rattle.mt_rows.proofs.Depth.{ranges_by_depth}
use Rattle.mt_rows.proofs.Heights.{level_shared_above}
use Rattle.mt_rows.proofs.SlotStore as store
use Rattle.mt_rows.proofs.SlotEntry as exact
use Rattle.mt_rows.proofs.Reached as reached
use Rattle.mt_rows.proofs.FewSpans.{row_most}

module _ (kind : Kind) (s : Sheet) (h slot entry : ℕ) (leaf item : Span) (whole : IsWhole s) (live : LiveAreReached s.tree s.lives) (none_buried : NoneBuried s.tree.rows s.buried) (told : IsToldKind s.kind kind) (width : s.tree.table.width ≡ kind_width kind)
    (stands : laws.Stands (tree_as kind s.tree) h) (at : IsSlotAt (tree_as kind s.tree) h leaf slot item) (old : item.word ≢ 0) (new : entry ≢ 0) (free : reserved entry ≡ false) where
  abbrev t : laws.Tree
  t = tree_as kind s.tree

  abbrev row : ℕ
  row = row_in leaf.word

  abbrev col : ℕ
  col = slot_column (slots_of s.tree.table.width Leaf) slot

  abbrev written : Rooted
  written = with_word s.tree row col entry

  abbrev t' : laws.Tree
  t' = tree_as kind written

  abbrev st : store.Store
  st = exact.entry_store t h slot entry leaf item whole.words stands at old new free

  stands' : laws.Stands t' h
  stands' = (exact.replaces_entry t h slot entry leaf item whole.words stands at old new free).stands

  -- ---- where the slot is

  leaf_one : reached.IsOneOf leaf (level t.table h (root_of t))
  leaf_one = reached.one_of_parts (level t.table h (root_of t)) at.front at.back leaf at.stands

  leaf_on_level : reached.OnLevel t.table h (root_of t) zero leaf
  leaf_on_level = record { depth = h; height = omega arith; one = leaf_one }

  leaf_reached : 1 ≤ reached.times_in t h stands row
  leaf_reached = reached.on_level_reached t h stands zero leaf leaf_on_level

  number : (first_row ≤ row) × (row < first_row + s.tree.rows)
  number = reached.reached_number t h stands row leaf_reached

  place : IsPlaceToPublish s (Slot row col)
  place = (
    record { first = number.0; last = number.1; column = slot_within s.tree.table.width Leaf slot (let used = store.used st in let most = (row_most (store.row_law st).name) in omega arith) },
    (live row number.0 number.1).1 (reached.times_reached t h stands row leaf_reached),
    record {
      depth = h;
      at = leaf;
      kind = Leaf;
      slot = slot;
      reached = reached.below_root t h stands h zero leaf (omega arith) leaf_one;
      named = (store.row_law st).name.named;
      number = refl;
      used = store.used st;
      column = refl;
    },
  )

  -- ---- what the call answers

  map_is : map_by s.tree ≡ map_of t.table h (root_of t)
  map_is = ranges_by_depth t deepest h (root_span t.table t.root) stands.low stands.rows

  map_is' : map_by written ≡ map_of t'.table h (root_of t')
  map_is' = ranges_by_depth t' deepest h (root_span t'.table t'.root) stands'.low stands'.rows

  abbrev pub call : Call
  call = Store item.first item.last entry

  answer : acted kind (map_by s.tree) call ≡ (map_by written, (acted kind (map_by s.tree) call).1)
  answer =
      let order = exact.order t h slot entry leaf item whole.words stands at old new free in
      let within : item.last ≤ greatest_of kind = subst (λ (w : Width). item.last ≤ greatest w) width (exact.within t h slot entry leaf item whole.words stands at old new free) in
      let stored : over (map_by s.tree) item.first item.last entry ≡ map_by written =
      ap (λ (m : List Range). over m item.first item.last entry) map_is ∙ (exact.is_over t h slot entry leaf item whole.words stands at old new free ∙ sym map_is') in
      rw (le-ltb item.last item.first order, le-ltb (greatest_of kind) item.last within, free) (λ i. (stored i, replied (first_met (map_by s.tree) item.first item.last)))

  -- ---- what becomes of rows

  times_stay : (r : ℕ) → reached.times_in t' h stands' r ≡ reached.times_in t h stands r
  times_stay r = exact.rows_stay t h slot entry leaf item whole.words stands at old new free (λ n y. row_in y.word == r)

  reached_before : (r : ℕ) → IsReached written r → 1 ≤ reached.times_in t h stands r
  reached_before r is = let some = reached.reached_times t' h stands' r is in let same = times_stay r in omega arith

  on_level_before : (k : ℕ) (x : Span) → reached.OnLevel t'.table h (root_of t') k x → reached.OnLevel t.table h (root_of t) k x
  on_level_before k x on = record {
    depth = on.depth;
    height = on.height;
    one = subst (λ (xs : List Span). reached.IsOneOf x xs) (level_shared_above t.table t'.table on.depth k h zero (root_of t) on.height (store.upper_same st)) on.one;
  }

  holes_of_leaf : SameHoles (spans_in t.table leaf) (spans_in t'.table leaf)
  holes_of_leaf =
      let p = store.parts st in
      let both : (item.word == 0) ≡ (entry == 0) = ne_eqb item.word 0 old ∙ sym (ne_eqb entry 0 new) in
      ap (map (λ (x : Span). x.word == 0)) (store.row_before st)
      ∙ (map-append (λ (x : Span). x.word == 0) p.0 (item ∷ p.1)
      ∙ (ap (λ (b : Bool). map (λ (x : Span). x.word == 0) p.0 ++ (b ∷ map (λ (x : Span). x.word == 0) p.1)) both
      ∙ (sym (map-append (λ (x : Span). x.word == 0) p.0 (record item { word = entry } ∷ p.1)) ∙ sym (ap (map (λ (x : Span). x.word == 0)) (store.row_after st)))))

  holes_stay : (k : ℕ) (x : Span) → reached.OnLevel t.table h (root_of t) k x → SameHoles (spans_in t.table x) (spans_in t'.table x)
  holes_stay k x on = elim (cases_Bool (row_in x.word == row)) [
    | inl is ↦ subst (λ (y : Span). SameHoles (spans_in t.table y) (spans_in t'.table y)) (sym (reached.one_place t h stands k zero x leaf on leaf_on_level (eqb-true (row_in x.word) row is)).1) holes_of_leaf
    | inr other ↦ ap (map (λ (y : Span). y.word == 0)) (sym (store.others_same st k x other))
  ]

  stay : (k k' : ℕ) (x x' : Span) → StandsAt s.tree k x → StandsAt written k' x' → row_in x.word ≡ row_in x'.word → KeepsPlace s.tree written k k' x x'
  stay k k' x x' stood stood' same =
      let on = reached.on_level t h stands k x stood in
      let on' = on_level_before k' x' (reached.on_level t' h stands' k' x' stood') in
      let place = reached.one_place t h stands k k' x x' on on' same in
      record {
        height = sym place.0;
        first = ap (λ (y : Span). y.first) (sym place.1);
        last = ap (λ (y : Span). y.last) (sym place.1);
        holes = subst (λ (y : Span). SameHoles (spans_in t.table x) (spans_in t'.table y)) place.1 (holes_stay k x on);
      }

  changes : ChangesRows s written
  changes = record {
    known = λ r is. let before = reached_before r is in let numbered = reached.reached_number t h stands r before in inl ((live r numbered.0 numbered.1).1 (reached.times_reached t h stands r before));
    stay = stay;
    gone = λ r was not.
        let some = reached.reached_times t h stands r was in let none = reached.unreached_times t' h stands' r not in let same = times_stay r in
        absurd (omega arith);
    buried = λ r first last is. let not = none_buried r first last in absurd (cc);
  }

  pub may_publish : s.in_flight ≡ true → s.published ≡ false → MayPublish kind s (Slot row col) entry call (acted kind (map_by s.tree) call).1
  may_publish in_flight before = record {
    in_flight = in_flight;
    before = before;
    at = place;
    told = told;
    live = live;
    tree = record { width = width; words = inr (h, stands) };
    answer = answer;
    after = inr (h, stands');
    rows = changes;
  }
