-- When a replacement is published and the children of its new inner rows are tended, all parent words are right.
use Rattle.mt_splice.proofs.Prelude.{◌≡◌, ◌≢◌, ◌⊎◌, ℕ, zero, suc, ◌+◌, ◌-◌, ◌<◌, ◌≤◌, List, ◌∷◌, Option, Some, None, true, false, length, refl, sym, ap, ◌∙◌, subst, inl, inr, arith, nat_lt, is_some, if◌then◌else◌, slice_get, cases_Bool, slice_get_within, Width, columns, first_row, RowKind, Span, row_in, named_kind, named_row, parent_at, slot_column, Draft, Live, Place, Root, Slot, Table, column, inner_kind, spans_in, root_span, slots_of, some_columns, Levels, is_row_of, Rooted, Sheet, IsPlace, life_of, is_buried, tree_as, with_published, Published, IsPlaceToPublish, root_of, same_spans, Shared, levels_shared, NewRow, Seen, passing, now, child_word, child_row, AreChildren, Before, row_seen, HasParents, StandsAs, count_in, IsEndPlace, IsTop, OnlyParents, AreTendedTo, MayTendTop, row_most, levels_at, published_rows, published_width, was_seen, []}
use Rattle.mt_rows.specs.Laws as laws
use Rattle.mt_rows.proofs.Reached as reached
use Rattle.mt_splice.proofs.Drafts.{other_row}
use Rattle.mt_splice.proofs.EndTending.{IsTopTendedAt, none_tended_yet, only_width, kept_column, only_more, top_only, top_kept}
use Rattle.mt_splice.proofs.Tending.{own_parent}
use Rattle.mt_splice.proofs.KeptTrees.{Keeps, KeepsAs, kept_level, kept_shared}
use Rattle.mt_splice.proofs.EndTrees.{none_or_some, count_once}
use Rattle.mt_splice.proofs.EndHoles.{same_place_spans, at_on_level, top_span, top_get, slot_get}
use Rattle.mt_splice.proofs.EndLists.{some_seen, seen_some}
use Rattle.mt_splice.proofs.EndLevels.{is_here, here_itself, here_is, here_row, levels_each, parents_from, parents_at, child_on, unique_parent, not_own_child}
use Rattle.mt_splice.proofs.EndMade.{new_row, made_seen, seen_made, made_once}
use Rattle.mt_splice.proofs.EndWords.{slot_word}
use Rattle.mt_splice.proofs.EndAfter.{above_in}
use Rattle.mt_splice.proofs.EndFacts.{life_if_reached, root_counts, root_named}
use Rattle.mt_splice.proofs.EndPublish as ends
use Rattle.mt_splice.proofs.StoredWords.{words_of}

-- ---- the end of a replacement

module _ (f : ends.Finish) where
  abbrev b : Before
  b = f.before

  abbrev s : Sheet
  s = f.sheet

  abbrev pub later : laws.Tree
  later = tree_as f.before.kind (with_published f.sheet.tree f.top.place f.top.word)

  -- ---- the store and the words

  stored_parent : (place : Place) → IsPlaceToPublish s place → (row : ℕ) → column (with_published s.tree place f.top.word).table row 0 ≡ column s.tree.table row 0
  stored_parent Root at row = refl
  stored_parent (Slot r c) at row =
      let above = above_in s (Slot r c) at r c refl in
      kept_column s.tree.table.width s.tree.table.words r c f.top.word row 0 (some_columns s.tree.table.width) above.1 (λ same. let low = above.0 in absurd (omega arith))

  pub parent_stays : (row : ℕ) → column later.table row 0 ≡ column s.tree.table row 0
  parent_stays row = stored_parent f.top.place (ends.place_is f) row

  -- the row of a slot place was not taken
  place_old : (place : Place) → IsPlaceToPublish s place → (row col : ℕ) → place ≡ Slot row col → was_seen f.may.taken row ≡ false
  place_old Root at row col is = absurd (cc)
  place_old (Slot r c) at row col is =
      let same : r ≡ row = cc in
      subst (λ (n : ℕ). was_seen f.may.taken n ≡ false) same (elim (cases_Bool (was_seen f.may.taken r)) [
        | inr not ↦ not
        | inl taken ↦
            let last : r < first_row + b.sheet.tree.rows = subst (λ (n : ℕ). r < first_row + n) (ends.rows_same f) at.0.last in
            let draft : Draft ≡ Live = sym (ends.life_taken f r at.0.first last taken) ∙ at.1 in
            absurd (cc)
      ])

  stored_spans : (place : Place) → IsPlaceToPublish s place → ((row col : ℕ) → place ≡ Slot row col → was_seen f.may.taken row ≡ false) → (x : Span) → was_seen f.may.taken (row_in x.word) ≡ true
      → spans_in (with_published s.tree place f.top.word).table x ≡ spans_in s.tree.table x
  stored_spans Root at old x taken = refl
  stored_spans (Slot r c) at old x taken =
      same_spans s.tree.table (with_published s.tree (Slot r c) f.top.word).table x refl (λ column_of above within.
      other_row s.tree.table.width s.tree.table.words r c f.top.word (row_in x.word) column_of
      (λ same. (let not = old r c refl in let both : was_seen f.may.taken r ≡ true = subst (λ (n : ℕ). was_seen f.may.taken n ≡ true) same taken in absurd (cc)))
      (above_in s (Slot r c) at r c refl).1 within)

  -- a row that was taken holds what was written in it
  taken_spans : (x : Span) → was_seen f.may.taken (row_in x.word) ≡ true → spans_in later.table x ≡ spans_in s.tree.table x
  taken_spans x taken = stored_spans f.top.place (ends.place_is f) (place_old f.top.place (ends.place_is f)) x taken

  pub inner : (k : ℕ) → laws.kind_at b.kind (suc k) ≡ inner_kind b.kind
  inner k = refl

  module _ (h : ℕ) (is_new : f.may.new ≡ Some h) where
    pub stands : laws.Stands later h
    stands = subst (StandsAs later) is_new (ends.stands_later f)

    counted : (r : ℕ) → 1 ≤ count_in (is_row_of r) later (Some h) → 1 ≤ ends.new_count f r
    counted r some = subst (λ (new : Option ℕ). 1 ≤ count_in (is_row_of r) later new) (sym is_new) some

    place_counted : (k : ℕ) (x : Span) → reached.OnLevel later.table h (root_of later) k x → 1 ≤ ends.new_count f (row_in x.word)
    place_counted k x on = counted (row_in x.word) (reached.on_level_reached later h stands k x on)

    -- ---- rows that were taken

    -- a row that was taken stands where it was written to stand
    taken_place : (sn : Seen) → reached.IsOneOf sn f.may.taken → (x : Span) × reached.OnLevel later.table h (root_of later) sn.height x × (x.first ≡ sn.at.first) × (x.last ≡ sn.at.last) × (x.word ≡ sn.at.word)
    taken_place sn one =
        let some : 1 ≤ passing (is_here sn.height sn.at) f.may.taken = reached.tally_some (λ (v : Seen). is_here sn.height sn.at v.height v.at) f.may.taken sn one (here_itself sn.height sn.at) in
        let mine = seen_some f.may.taken sn one in
        let c = ends.counts f (row_seen sn) in let were = c.were in let never = c.fresh mine in
        let gone = ends.passing_implies (is_here sn.height sn.at) (is_row_of (row_seen sn)) (here_row sn.height sn.at) f.may.gone in
        let all = f.may.replaced.rows (is_here sn.height sn.at) in
        let found : 1 ≤ count_in (is_here sn.height sn.at) later f.may.new = omega arith in
        let place = reached.times_place (is_here sn.height sn.at) later.table h (root_of later) (subst (λ (new : Option ℕ). 1 ≤ count_in (is_here sn.height sn.at) later new) is_new found) in
        let here = here_is sn.height place.0 sn.at place.1 place.3 in
        (place.1, subst (λ (k : ℕ). reached.OnLevel later.table h (root_of later) k place.1) here.0 place.2, here.1, here.2, here.3)

    -- an inner row in the list of those that were made
    pub record MadeRow (n : NewRow) : Type 0 where
      pub low : ℕ
      pub at : Span
      pub on : reached.OnLevel later.table h (root_of later) (suc low) at
      pub row : row_in at.word ≡ n.row
      pub count : n.count ≡ length (spans_in later.table at)
      pub taken : was_seen f.may.taken n.row ≡ true

    made_row : (n : NewRow) → reached.IsOneOf n f.inner → MadeRow n
    made_row n one =
        let found = made_seen s.tree.table f.may.taken n (subst (reached.IsOneOf n) f.may.inner_rows one) in
        let place = taken_place found.0 found.1 in
        let taken = ends.some_taken f (row_seen found.0) (seen_some f.may.taken found.0 found.1) in
        let row : row_in place.0.word ≡ row_seen found.0 = ap row_in place.4 in
        let spans = taken_spans place.0 (ap (was_seen f.may.taken) row ∙ taken) ∙ same_place_spans s.tree.table found.0.at place.0 place.2 place.3 place.4 in
        record {
          low = found.2.0;
          at = place.0;
          on = subst (λ (k : ℕ). reached.OnLevel later.table h (root_of later) k place.0) found.2.1 place.1;
          row = row ∙ sym (ap (λ (m : NewRow). m.row) found.2.2);
          count = ap (λ (m : NewRow). m.count) found.2.2 ∙ ap length (sym spans);
          taken = ap (λ (m : NewRow). was_seen f.may.taken m.row) found.2.2 ∙ taken;
        }

    -- an inner row that was taken is in the list
    row_made : (k : ℕ) (x : Span) → reached.OnLevel later.table h (root_of later) (suc k) x → was_seen f.may.taken (row_in x.word) ≡ true → reached.IsOneOf (record { row = row_in x.word; count = length (spans_in later.table x) }) f.inner
    row_made k x on taken =
        let found = some_seen (row_in x.word) f.may.taken (ends.taken_some f (row_in x.word) taken) in
        let place = taken_place found.0 found.1 in
        let same = reached.one_place later h stands found.0.height (suc k) place.0 x place.1 on (ap row_in place.4 ∙ found.2) in
        let spans : spans_in s.tree.table found.0.at ≡ spans_in later.table x =
        sym (same_place_spans s.tree.table found.0.at place.0 place.2 place.3 place.4) ∙ (ap (spans_in s.tree.table) same.1 ∙ sym (taken_spans x taken)) in
        let is : new_row s.tree.table found.0 ≡ record { row = row_in x.word; count = length (spans_in later.table x) } = (λ i. record { row = found.2 i; count = length (spans i) }) in
        subst (λ (n : NewRow). reached.IsOneOf n f.inner) is (subst (reached.IsOneOf (new_row s.tree.table found.0)) (sym f.may.inner_rows) (seen_made s.tree.table f.may.taken found.0 k same.0 found.1))

    -- ---- the children of a row in the list

    -- what stands in a slot of such a row
    pub record MadeChild (n : NewRow) (slot : ℕ) : Type 0 where
      pub row : MadeRow n
      pub child : Span
      pub get : slice_get (spans_in later.table row.at) slot ≡ Some child
      pub word : child_word later.table (inner_kind b.kind) n.row slot ≡ child.word

    get_some : (xs : List Span) (i : ℕ) → i < length xs → (y : Span) × (slice_get xs i ≡ Some y)
    get_some [] i within = absurd (omega arith)
    get_some (x ∷ xs) zero within = (x, refl)
    get_some (x ∷ xs) (suc i) within = get_some xs i (omega arith)

    named_inner : (k : ℕ) (x : Span) → reached.OnLevel later.table h (root_of later) (suc k) x → named_kind x.word ≡ Some (inner_kind b.kind)
    named_inner k x on = (reached.on_level_law later h stands (suc k) x on).name.named ∙ ap (λ (kind : RowKind). Some kind) (inner k)

    made_child : (n : NewRow) (slot : ℕ) → reached.IsOneOf n f.inner → slot < n.count → MadeChild n slot
    made_child n slot one low =
        let m = made_row n one in
        let at = get_some (spans_in later.table m.at) slot (subst (λ (c : ℕ). slot < c) m.count low) in
        record {
          row = m;
          child = at.0;
          get = at.1;
          word = ap (λ (r : ℕ). column later.table r (slot_column (slots_of later.table.width (inner_kind b.kind)) slot)) (sym m.row) ∙ slot_word later.table (inner_kind b.kind) m.at at.0 slot (named_inner m.low m.at m.on) at.1;
        }

    child_on_level : (n : NewRow) (slot : ℕ) (c : MadeChild n slot) → reached.OnLevel later.table h (root_of later) c.row.low c.child
    child_on_level n slot c = child_on later h stands c.row.low slot c.row.at c.child c.row.on c.get

    -- ---- rows that were reached before

    old_counted : (h₀ : ℕ) → f.may.old ≡ Some h₀ → (r : ℕ) → 1 ≤ count_in (is_row_of r) (now f.start s) (Some h₀) → 1 ≤ ends.old_count f r
    old_counted h₀ is_old r some =
        let same = ends.now_count f (is_row_of r) in
        let here : 1 ≤ count_in (is_row_of r) (now f.start s) f.may.old = subst (λ (old : Option ℕ). 1 ≤ count_in (is_row_of r) (now f.start s) old) (sym is_old) some in
        omega arith

    now_counted : (h₀ : ℕ) → f.may.old ≡ Some h₀ → (r : ℕ) → 1 ≤ ends.old_count f r → 1 ≤ count_in (is_row_of r) (now f.start s) (Some h₀)
    now_counted h₀ is_old r some =
        let same = ends.now_count f (is_row_of r) in
        subst (λ (old : Option ℕ). 1 ≤ count_in (is_row_of r) (now f.start s) old) is_old (omega arith)

    stands_old : (h₀ : ℕ) → f.may.old ≡ Some h₀ → laws.Stands (now f.start s) h₀
    stands_old h₀ is_old = subst (StandsAs (now f.start s)) is_old (ends.stands_now f)

    -- what the lawful words say of the tree as it was
    record WasLawful (h₀ : ℕ) : Type 0 where
      root : column b.sheet.tree.table (row_in b.sheet.tree.root) 0 ≡ 1
      parents : (k i : ℕ) (x y : Span) → reached.OnLevel (now f.start s).table h₀ (root_of (now f.start s)) (suc k) x → slice_get (spans_in (now f.start s).table x) i ≡ Some y
          → column b.sheet.tree.table (row_in y.word) 0 ≡ parent_at (row_in x.word) i

    was_lawful : (h₀ : ℕ) → f.may.old ≡ Some h₀ → WasLawful h₀
    was_lawful h₀ is_old = by f.may.case.was.kept.lawful.words
      where
        keeps : Keeps f.start.tree h₀ s.tree.table.words
        keeps = subst (λ (o : Option ℕ). KeepsAs f.start.tree o s.tree.table.words) is_old (ends.keeps f)

        stood_b : laws.Stands (tree_as b.kind b.sheet.tree) h₀
        stood_b = subst (λ (t : laws.Tree). laws.Stands t h₀) f.may.case.was.tree keeps.stands

        from_level : (k : ℕ) (x : Span) → reached.OnLevel (now f.start s).table h₀ (root_of (now f.start s)) k x → reached.OnLevel f.start.tree.table h₀ (root_of f.start.tree) k x
        from_level k x on = record {
          depth = on.depth;
          height = on.height;
          one = subst (reached.IsOneOf x) (kept_level keeps on.depth k on.height) on.one;
        }

        spans_were : (k : ℕ) (x : Span) → reached.OnLevel f.start.tree.table h₀ (root_of f.start.tree) k x → spans_in (now f.start s).table x ≡ spans_in f.start.tree.table x
        spans_were k x on =
            levels_at (Shared f.start.tree.table (now f.start s).table) f.start.tree.table h₀ k (root_of f.start.tree) x
            (kept_shared keeps) on

        by : laws.IsLawful (tree_as b.kind b.sheet.tree) → WasLawful h₀
        by (inl empty) = absurd (root_named (tree_as b.kind b.sheet.tree) h₀ stood_b empty)
        by (inr (h₁, stood₁, root, tended)) =
            let tall = reached.height_is (tree_as b.kind b.sheet.tree) h₀ stood_b in
            let tall₁ = reached.height_is (tree_as b.kind b.sheet.tree) h₁ stood₁ in
            let same : h₁ ≡ h₀ = omega arith in
            let levels : Levels (laws.IsTended f.start.tree) f.start.tree.table h₀ (root_of f.start.tree) =
            subst (λ (n : ℕ). Levels (laws.IsTended f.start.tree) f.start.tree.table n (root_of f.start.tree)) same
            (subst (λ (t : laws.Tree). Levels (laws.IsTended t) t.table h₁ (root_of t)) (sym f.may.case.was.tree) tended) in
            record {
              root = root;
              parents = λ k i x y on at.
                  (let there = from_level (suc k) x on in
                  let law : laws.ParentsFrom f.start.tree.table (row_in x.word) 0 (spans_in f.start.tree.table x) =
                  (levels_at (laws.IsTended f.start.tree) f.start.tree.table h₀ (suc k) (root_of f.start.tree) x levels there).parent in
                  let first : 0 + i ≡ i = omega arith in
                  ap (λ (t : laws.Tree). column t.table (row_in y.word) 0) (sym f.may.case.was.tree)
                  ∙ (parents_at f.start.tree.table (row_in x.word) 0 (spans_in f.start.tree.table x) i y law (ap (λ (xs : List Span). slice_get xs i) (sym (spans_were (suc k) x there)) ∙ at)
                  ∙ ap (parent_at (row_in x.word)) first));
            }

    -- ---- the row that was published in a slot

    pub record TopAt (row col : ℕ) : Type 0 where
      pub low : ℕ
      pub slot : ℕ
      pub at : Span
      pub top : Span
      pub on : reached.OnLevel later.table h (root_of later) (suc low) at
      pub number : row_in at.word ≡ row
      pub get : slice_get (spans_in later.table at) slot ≡ Some top
      pub word : top.word ≡ f.top.word
      pub column_is : col ≡ slot_column (slots_of later.table.width (inner_kind b.kind)) slot
      pub old : was_seen f.may.taken row ≡ false

    width_later : later.table.width ≡ s.tree.table.width
    width_later = published_width s.tree f.top.place f.top.word

    top_in : (old : Option ℕ) (place : Place) (row col : ℕ) → f.may.old ≡ old → f.top.place ≡ place → place ≡ Slot row col → IsEndPlace (now f.start s) f.may.gone old place → TopAt row col
    top_in old Root row col is_old is_place is at = absurd (cc)
    top_in None (Slot r c) row col is_old is_place is at = absurd at
    top_in (Some h₀) (Slot r c) row col is_old is_place is at =
        let rows : r ≡ row = cc in let cols : c ≡ col = cc in
        let t : laws.Tree = now f.start s in
        let stood = stands_old h₀ is_old in
        let place = at.0 in
        let on = at_on_level t h₀ r c (ends.words_now f) stood place 0 in
        let was = old_counted h₀ is_old (row_in place.at.word) (reached.on_level_reached t h₀ stood (suc place.low) place.at on) in
        let gone : passing (is_row_of (row_in place.at.word)) f.may.gone ≡ 0 = subst (λ (n : ℕ). passing (is_row_of n) f.may.gone ≡ 0) (sym place.number) at.1 in
        let c₀ = ends.counts f (row_in place.at.word) in let sum = c₀.sum in
        let is : 1 ≤ ends.new_count f (row_in place.at.word) = omega arith in
        let found = reached.reached_on_level later h stands (row_in place.at.word) (subst (λ (new : Option ℕ). 1 ≤ count_in (is_row_of (row_in place.at.word)) later new) is_new is) in
        let same = ends.keeps_span f (suc place.low) found.0 place.at found.1 (reached.stands_at t h₀ stood on.depth (suc place.low) place.at on.height on.one)
        (reached.stands_at later h stands found.2.depth found.0 found.1 found.2.height found.2.one) (sym found.3) in
        record {
          low = place.low;
          slot = place.slot;
          at = found.1;
          top = top_span t h₀ r c (ends.words_now f) stood place f.top.word;
          on = subst (λ (k : ℕ). reached.OnLevel later.table h (root_of later) k found.1) same.0 found.2;
          number = found.3 ∙ (place.number ∙ rows);
          get =
              ap (λ (xs : List Span). slice_get xs place.slot) (same_place_spans later.table place.at found.1 same.1 same.2 same.3)
              ∙ ((λ i. slice_get (spans_in (with_published (ends.tree_is f i) (is_place i) f.top.word).table place.at) place.slot)
              ∙ top_get t h₀ r c (ends.words_now f) stood place f.top.word);
          word = refl;
          column_is = sym cols ∙ (place.column
              ∙ (λ i. slot_column (slots_of (sym (width_later ∙ ap (λ (v : Rooted). v.table.width) (ends.tree_is f)) i) (kind_here place.low i)) place.slot));
          old = subst (λ (n : ℕ). was_seen f.may.taken n ≡ false) (place.number ∙ rows) (ends.old_is_not_taken f (row_in place.at.word) was);
        }
      where
        kind_here : (low : ℕ) → laws.kind_on (now f.start s).gapped (suc low) ≡ (inner_kind b.kind)
        kind_here low = ap (λ (t : laws.Tree). laws.kind_on t.gapped (suc low)) f.may.case.was.tree ∙ inner low

    top_at : (row col : ℕ) → f.top.place ≡ Slot row col → TopAt row col
    top_at row col is = top_in f.may.old f.top.place row col refl refl is f.may.at

    -- ---- what stands in a row that was not taken

    -- it stood there before, or it is the row that was published there
    abbrev IsOldChild : Span → ℕ → Span → Type 0
    IsOldChild x i y = (column b.sheet.tree.table (row_in y.word) 0 ≡ parent_at (row_in x.word) i) × (1 ≤ ends.old_count f (row_in y.word))

    abbrev IsTopChild : Span → ℕ → Span → Type 0
    IsTopChild x i y = (row : ℕ) × (col : ℕ) × (f.top.place ≡ Slot row col) × (row_in x.word ≡ row) × (col ≡ slot_column (slots_of later.table.width (inner_kind b.kind)) i) × (y.word ≡ f.top.word)

    kept_in : (old : Option ℕ) (place : Place) (k i : ℕ) (x y : Span) → f.may.old ≡ old → f.top.place ≡ place → IsEndPlace (now f.start s) f.may.gone old place → reached.OnLevel later.table h (root_of later) (suc k) x → ends.taken_count f (row_in x.word) ≡ 0
        → slice_get (spans_in later.table x) i ≡ Some y → IsOldChild x i y ⊎ IsTopChild x i y
    kept_in None place k i x y is_old is_place at on none get =
        let is = place_counted (suc k) x on in
        let c = ends.counts f (row_in x.word) in let sum = c.sum in
        let never = ap (count_in (is_row_of (row_in x.word)) f.start.tree) is_old in
        absurd (omega arith)
    kept_in (Some h₀) place k i x y is_old is_place at on none get =
        let t : laws.Tree = now f.start s in
        let stood = stands_old h₀ is_old in
        let is = place_counted (suc k) x on in
        let c = ends.counts f (row_in x.word) in let sum = c.sum in
        let was : 1 ≤ ends.old_count f (row_in x.word) = omega arith in
        let found = reached.reached_on_level t h₀ stood (row_in x.word) (now_counted h₀ is_old (row_in x.word) was) in
        let same = ends.keeps_span f found.0 (suc k) found.1 x (reached.stands_at t h₀ stood found.2.depth found.0 found.1 found.2.height found.2.one)
        (reached.stands_at later h stands on.depth (suc k) x on.height on.one) found.3 in
        let on₀ = subst (λ (n : ℕ). reached.OnLevel t.table h₀ (root_of t) n found.1) (sym same.0) found.2 in
        let here : slice_get (spans_in (with_published (words_of t) place f.top.word).table found.1) i ≡ Some y =
        (λ j. slice_get (spans_in (with_published (sym (ends.tree_is f) j) (sym is_place j) f.top.word).table found.1) i)
        ∙ (ap (λ (xs : List Span). slice_get xs i) (sym (same_place_spans later.table found.1 x same.1 same.2 same.3)) ∙ get) in
        by h₀ is_old place is_place at found.1 on₀ found.3 here
      where
        old_child : (h₀ : ℕ) → f.may.old ≡ Some h₀ → (x₀ : Span) → reached.OnLevel (now f.start s).table h₀ (root_of (now f.start s)) (suc k) x₀ → row_in x₀.word ≡ row_in x.word
            → slice_get (spans_in (now f.start s).table x₀) i ≡ Some y → IsOldChild x i y
        old_child h₀ is_old x₀ on₀ row here = (
          (was_lawful h₀ is_old).parents k i x₀ y on₀ here ∙ ap (λ (r : ℕ). parent_at r i) row,
          old_counted h₀ is_old (row_in y.word) (reached.on_level_reached (now f.start s) h₀ (stands_old h₀ is_old) k y (child_on (now f.start s) h₀ (stands_old h₀ is_old) k i x₀ y on₀ here)),
        )

        by : (h₀ : ℕ) → f.may.old ≡ Some h₀ → (place : Place) → f.top.place ≡ place → IsEndPlace (now f.start s) f.may.gone (Some h₀) place → (x₀ : Span) → reached.OnLevel (now f.start s).table h₀ (root_of (now f.start s)) (suc k) x₀
            → row_in x₀.word ≡ row_in x.word → slice_get (spans_in (with_published (words_of (now f.start s)) place f.top.word).table x₀) i ≡ Some y → IsOldChild x i y ⊎ IsTopChild x i y
        by h₀ is_old Root is_place at x₀ on₀ row here = inl (old_child h₀ is_old x₀ on₀ row here)
        by h₀ is_old (Slot r c) is_place at x₀ on₀ row here =
            let place = at.0 in
            elim (slot_get (now f.start s) h₀ r c (ends.words_now f) (stands_old h₀ is_old) place f.top.word (suc k) x₀ y i on₀ here) [
              | inl old ↦ inl (old_child h₀ is_old x₀ on₀ row old)
              | inr top ↦ inr (
                r,
                c,
                is_place,
                sym row ∙ top.0,
                place.column
                    ∙ ((λ j. slot_column (slots_of (sym (width_later ∙ ap (λ (v : Rooted). v.table.width) (ends.tree_is f)) j) (kind_here place.low j)) place.slot)
                    ∙ ap (slot_column (slots_of later.table.width (inner_kind b.kind))) (sym top.1)),
                ap (λ (v : Span). v.word) top.2,
              )
            ]
          where
            kind_here : (low : ℕ) → laws.kind_on (now f.start s).gapped (suc low) ≡ (inner_kind b.kind)
            kind_here low = ap (λ (t : laws.Tree). laws.kind_on t.gapped (suc low)) f.may.case.was.tree ∙ inner low

    kept_children : (k i : ℕ) (x y : Span) → reached.OnLevel later.table h (root_of later) (suc k) x → ends.taken_count f (row_in x.word) ≡ 0 → slice_get (spans_in later.table x) i ≡ Some y → IsOldChild x i y ⊎ IsTopChild x i y
    kept_children k i x y on none get = kept_in f.may.old f.top.place k i x y refl refl f.may.at on none get

    -- ---- the sheet when the word is published

    module _ (s₁ : Sheet) (done : Published f.sheet s₁ f.top.place f.top.word f.call f.reply) where
      tree₁ : s₁.tree ≡ with_published f.sheet.tree f.top.place f.top.word
      tree₁ = ap (λ (x : Sheet). x.tree) done.rest

      table₁ : s₁.tree.table ≡ later.table
      table₁ = ap (λ (t : Rooted). t.table) tree₁

      rows₁ : s₁.tree.rows ≡ b.sheet.tree.rows
      rows₁ = ap (λ (t : Rooted). t.rows) tree₁ ∙ (published_rows s.tree f.top.place f.top.word ∙ ends.rows_same f)

      -- a row that is reached may be tended
      record IsReady (word : ℕ) : Type 0 where
        named : named_row word ≡ Some (row_in word)
        at : IsPlace s₁.tree (row_in word) 0
        live : life_of s₁.lives (row_in word) ≡ Live
        kept : is_buried s₁.buried (row_in word) ≡ false

      ready : (k : ℕ) (x : Span) → reached.OnLevel later.table h (root_of later) k x → IsReady x.word
      ready k x on =
          let some = place_counted k x on in
          let number = ends.later_number f (row_in x.word) some in
          let last : row_in x.word < first_row + f.sheet.tree.rows = subst (λ (n : ℕ). row_in x.word < first_row + n) (sym (ends.rows_same f)) number.1 in
          record {
            named = ap (λ (kind : Option RowKind). if is_some kind then Some (row_in x.word) else None) (reached.on_level_law later h stands k x on).name.named;
            at = record { first = number.0; last = subst (λ (n : ℕ). row_in x.word < first_row + n) (sym rows₁) number.1; column = some_columns s₁.tree.table.width };
            live = done.lives (row_in x.word) number.0 last ∙ life_if_reached f.sheet (ends.published f) (row_in x.word) (ends.reached_later f (row_in x.word) some);
            kept = done.buried (row_in x.word) number.0 last;
          }

      child_word₁ : (n : NewRow) (slot : ℕ) (c : MadeChild n slot) → child_word s₁.tree.table (inner_kind b.kind) n.row slot ≡ c.child.word
      child_word₁ n slot c = ap (λ (t : Table). child_word t (inner_kind b.kind) n.row slot) table₁ ∙ c.word

      -- the children of two rows in the list are others
      same_parent : (n m : NewRow) (i j : ℕ) → reached.IsOneOf n f.inner → reached.IsOneOf m f.inner → i < n.count → j < m.count → child_row s₁.tree.table (inner_kind b.kind) n.row i ≡ child_row s₁.tree.table (inner_kind b.kind) m.row j → (n.row ≡ m.row) × (i ≡ j)
      same_parent n m i j one_n one_m low_i low_j same =
          let c = made_child n i one_n low_i in
          let d = made_child m j one_m low_j in
          let both = unique_parent later h stands c.row.low d.row.low i j c.row.at d.row.at c.child d.child c.row.on d.row.on c.get d.get
          (ap row_in (sym (child_word₁ n i c)) ∙ (same ∙ ap row_in (child_word₁ m j d))) in
          (sym c.row.row ∙ (ap (λ (v : Span). row_in v.word) both.0 ∙ d.row.row), both.1)

      are_children : (n : NewRow) → reached.IsOneOf n f.inner → AreChildren s₁ (inner_kind b.kind) n.row n.count
      are_children n one =
          let m = made_row n one in
          let number = ends.later_number f n.row (ends.taken_later f n.row (ends.taken_some f n.row m.taken)) in
          let law = reached.on_level_law later h stands (suc m.low) m.at m.on in
          record {
            first = number.0;
            last = subst (λ (r : ℕ). n.row < first_row + r) (sym rows₁) number.1;
            slots = subst (λ (c : ℕ). c ≤ slots_of s₁.tree.table.width (inner_kind b.kind)) (sym m.count)
                (subst (λ (kind : RowKind). length (spans_in later.table m.at) ≤ slots_of s₁.tree.table.width kind) (inner m.low)
                (subst (λ (t : Table). length (spans_in later.table m.at) ≤ slots_of t.width (laws.kind_at b.kind (suc m.low))) (sym table₁) (row_most law.name)));
            each = λ slot low.
                (let c = made_child n slot one low in
                let on = child_on_level n slot c in
                let is = ready c.row.low c.child on in
                let word = child_word₁ n slot c in
                record {
                  named = subst (λ (v : ℕ). named_row v ≡ Some (row_in v)) (sym word) is.named;
                  at = subst (λ (v : ℕ). IsPlace s₁.tree (row_in v) 0) (sym word) is.at;
                  live = subst (λ (v : ℕ). life_of s₁.lives (row_in v) ≡ Live) (sym word) is.live;
                  kept = subst (λ (v : ℕ). is_buried s₁.buried (row_in v) ≡ false) (sym word) is.kept;
                  other = λ same. not_own_child later h stands c.row.low slot c.row.at c.child c.row.on c.get (ap row_in (sym word) ∙ (same ∙ sym c.row.row));
                });
            apart = λ i j low_i low_j same. (same_parent n n i j one one low_i low_j same).1;
          }

      pub may_tend_some : AreTendedTo s₁ s₁ (inner_kind b.kind) f.inner 0
      may_tend_some = none_tended_yet (λ i n at. are_children n (reached.one_of_get f.inner i n at)) (λ i j n m slot slot' lt at_n at_m low low' same.
          (let one_n = reached.one_of_get f.inner i n at_n in
          let one_m = reached.one_of_get f.inner j m at_m in
          let rows = (same_parent n m slot slot' one_n one_m low low' same).0 in
          let taken = ends.taken_some f m.row (made_row m one_m).taken in
          let c = ends.counts f m.row in let sum = c.sum in let were = c.were in let never = c.fresh taken in
          let once = count_once later f.may.new m.row (ends.stands_later f) in
          let same_index = made_once s.tree.table f.may.taken i j n m (omega arith)
          (subst (λ (l : List NewRow). slice_get l i ≡ Some n) f.may.inner_rows at_n) (subst (λ (l : List NewRow). slice_get l j ≡ Some m) f.may.inner_rows at_m) rows in
          omega arith))

      may_tend_slot : (row col : ℕ) → f.top.place ≡ Slot row col → MayTendTop s₁ (inner_kind b.kind) (Slot row col) (row_in f.top.word)
      may_tend_slot row col is =
          let top = top_at row col is in
          let on = child_on later h stands top.low top.slot top.at top.top top.on top.get in
          let here = ready top.low top.top on in
          let word = top.word in
          let within = above_in f.sheet f.top.place (ends.place_is f) row col is in
          let wide : slots_of later.table.width (inner_kind b.kind) ≡ slots_of s₁.tree.table.width (inner_kind b.kind) = ap (λ (t : Table). slots_of t.width (inner_kind b.kind)) (sym table₁) in
          let column_is = top.column_is in
          let inside : col < columns s₁.tree.table.width = subst (λ (v : Width). col < columns v) (sym (ap (λ (v : Rooted). v.table.width) tree₁ ∙ width_later)) within.1 in (
            omega arith,
            record {
              at = subst (λ (v : ℕ). IsPlace s₁.tree (row_in v) 0) word here.at;
              live = subst (λ (v : ℕ). life_of s₁.lives (row_in v) ≡ Live) word here.live;
              kept = subst (λ (v : ℕ). is_buried s₁.buried (row_in v) ≡ false) word here.kept;
              column = inl refl;
              alive = λ _ dead.
                  not_own_child later h stands top.low top.slot top.at top.top top.on top.get
                  (ap row_in word ∙ (own_parent s₁.tree.table.width (row_in f.top.word) row (col - slots_of s₁.tree.table.width (inner_kind b.kind)) (omega arith) dead ∙ sym top.number));
            },
          )

      pub may_tend_place : (place : Place) → f.top.place ≡ place → MayTendTop s₁ (inner_kind b.kind) place (row_in f.top.word)
      may_tend_place Root is = tt
      may_tend_place (Slot row col) is = may_tend_slot row col is

      -- ---- the parent words when all is tended

      module _ (s₂ s₃ : Sheet) (tended : AreTendedTo s₁ s₂ (inner_kind b.kind) f.inner (length f.inner)) (top : IsTopTendedAt s₂ s₃ (inner_kind b.kind) f.top.place (row_in f.top.word)) where
        -- a row that is neither the top row nor a child of a row in the list keeps its parent word
        untended : (r : ℕ) → ((n : NewRow) (slot : ℕ) (c : MadeChild n slot) → row_in c.child.word ≢ r) → ((row col : ℕ) → f.top.place ≡ Slot row col → r ≢ row_in f.top.word) → column s₃.tree.table r 0 ≡ column s.tree.table r 0
        untended r not_made not_top =
            top_kept s₂ s₃ (inner_kind b.kind) f.top.place (row_in f.top.word) r top not_top
            ∙ (tended.others r (λ i n slot _ at low same.
            (let c = made_child n slot (reached.one_of_get f.inner i n at) low in
            not_made n slot c (ap row_in (sym (child_word₁ n slot c)) ∙ same)))
            ∙ (ap (λ (t : Table). column t r 0) table₁ ∙ parent_stays r))

        -- and so does a row that was reached, which then names its place in the tree as it was
        parent_was : (r : ℕ) → 1 ≤ ends.old_count f r → 1 ≤ ends.new_count f r → column s.tree.table r 0 ≡ column b.sheet.tree.table r 0
        parent_was r was is =
            let not = ends.old_is_not_taken f r was in
            let c = ends.counts f r in let sum = c.sum in let once = c.once in
            let none = ends.old_not_taken (ends.old_count f r) (ends.taken_count f r) (ends.new_count f r) (ends.gone_count f r) c was in
            let gone : ends.gone_count f r ≡ 0 = omega arith in
            (ends.ledger f).parents r not (ap (nat_lt 0) gone)

        top_taken : was_seen f.may.taken (row_in f.top.word) ≡ true
        top_taken = subst (λ (new : Option ℕ). IsTop f.may.taken f.may.old new f.top.word) is_new f.may.names

        child_of_taken : (k i : ℕ) (x y : Span) → reached.OnLevel later.table h (root_of later) (suc k) x → was_seen f.may.taken (row_in x.word) ≡ true → slice_get (spans_in later.table x) i ≡ Some y → column s₃.tree.table (row_in y.word) 0 ≡ parent_at (row_in x.word) i
        child_of_taken k i x y on taken get =
            let n : NewRow = record { row = row_in x.word; count = length (spans_in later.table x) } in
            let at = reached.get_one_of f.inner (record { row = row_in x.word; count = length (spans_in later.table x) }) (row_made k x on taken) in
            let low = slice_get_within (spans_in later.table x) i y get in
            let word : child_word s₁.tree.table (inner_kind b.kind) (row_in x.word) i ≡ y.word =
            ap (λ (t : Table). child_word t (inner_kind b.kind) (row_in x.word) i) table₁ ∙ slot_word later.table (inner_kind b.kind) x y i (named_inner k x on) get in
            top_kept s₂ s₃ (inner_kind b.kind) f.top.place (row_in f.top.word) (row_in y.word) top (λ row col is same.
            (let t = top_at row col is in
            let both = unique_parent later h stands k t.low i t.slot x t.at y t.top on t.on get t.get (same ∙ ap row_in (sym t.word)) in
            let old = t.old in
            let rows : row_in x.word ≡ row = ap (λ (v : Span). row_in v.word) both.0 ∙ t.number in
            let again : was_seen f.may.taken row ≡ true = subst (λ (r : ℕ). was_seen f.may.taken r ≡ true) rows taken in
            absurd (cc)))
            ∙ (ap (λ (v : ℕ). column s₂.tree.table (row_in v) 0) (sym word)
            ∙ tended.children at.0 n i (slice_get_within f.inner at.0 n at.1) at.1 low)

        child_of_kept : (k i : ℕ) (x y : Span) → reached.OnLevel later.table h (root_of later) (suc k) x → ends.taken_count f (row_in x.word) ≡ 0 → slice_get (spans_in later.table x) i ≡ Some y → column s₃.tree.table (row_in y.word) 0 ≡ parent_at (row_in x.word) i
        child_of_kept k i x y on none get = elim (kept_children k i x y on none get) [
          | inl old ↦
              untended (row_in y.word)
              (λ n slot c same.
              (let both = unique_parent later h stands c.row.low k slot i c.row.at x c.child y c.row.on on c.get get same in
              let rows : n.row ≡ row_in x.word = sym c.row.row ∙ ap (λ (v : Span). row_in v.word) both.0 in
              let some = ends.taken_some f (row_in x.word) (subst (λ (r : ℕ). was_seen f.may.taken r ≡ true) rows c.row.taken) in
              absurd (omega arith)))
              (λ row col is same.
              (let not = ends.old_is_not_taken f (row_in y.word) old.1 in
              let taken : was_seen f.may.taken (row_in y.word) ≡ true = subst (λ (r : ℕ). was_seen f.may.taken r ≡ true) (sym same) top_taken in
              absurd (cc)))
              ∙ (parent_was (row_in y.word) old.1 (place_counted k y (child_on later h stands k i x y on get)) ∙ old.0)
          | inr new ↦ at_top new
        ]
          where
            at_top : IsTopChild x i y → column s₃.tree.table (row_in y.word) 0 ≡ parent_at (row_in x.word) i
            at_top (row, col, is, number, column_is, word) =
                let t : IsTopTendedAt s₂ s₃ (inner_kind b.kind) (Slot row col) (row_in f.top.word) = subst (λ (p : Place). IsTopTendedAt s₂ s₃ (inner_kind b.kind) p (row_in f.top.word)) is top in
                let wide : slots_of s₂.tree.table.width (inner_kind b.kind) ≡ slots_of later.table.width (inner_kind b.kind) = ap (λ (v : Width). slots_of v (inner_kind b.kind)) (only_width s₁ s₂ tended.only ∙ ap (λ (t : Table). t.width) table₁) in
                let slot : col - slots_of s₂.tree.table.width (inner_kind b.kind) ≡ i = omega arith in
                ap (λ (v : ℕ). column s₃.tree.table (row_in v) 0) word ∙ (t.here ∙ (λ j. parent_at (sym number j) (slot j)))

        child_parent : (k i : ℕ) (x y : Span) → reached.OnLevel later.table h (root_of later) (suc k) x → slice_get (spans_in later.table x) i ≡ Some y → column s₃.tree.table (row_in y.word) 0 ≡ parent_at (row_in x.word) i
        child_parent k i x y on get = elim (none_or_some (ends.taken_count f (row_in x.word))) [
          | inl none ↦ child_of_kept k i x y on none get
          | inr some ↦ child_of_taken k i x y on (ends.some_taken f (row_in x.word) some) get
        ]

        -- ---- the root

        root_on : reached.OnLevel later.table h (root_of later) h (root_span later.table later.root)
        root_on = record { depth = zero; height = omega arith; one = inl refl }

        not_root : (k i : ℕ) (x y : Span) → reached.OnLevel later.table h (root_of later) (suc k) x → slice_get (spans_in later.table x) i ≡ Some y → row_in y.word ≢ row_in later.root
        not_root k i x y on get same =
            let heights = (reached.one_place later h stands k h y (root_span later.table later.root) (child_on later h stands k i x y on get) root_on same).0 in
            let height = on.height in
            absurd (omega arith)

        root_stays : column s₃.tree.table (row_in later.root) 0 ≡ column s.tree.table (row_in later.root) 0
        root_stays = untended (row_in later.root) (λ n slot c same. not_root c.row.low slot c.row.at c.child c.row.on c.get same)
            (λ row col is same. (let t = top_at row col is in not_root t.low t.slot t.at t.top t.on t.get (ap row_in t.word ∙ sym same)))

        root_in : (old : Option ℕ) (place : Place) → f.may.old ≡ old → f.top.place ≡ place → IsEndPlace (now f.start s) f.may.gone old place → column s.tree.table (row_in later.root) 0 ≡ 1
        root_in old Root is_old is at =
            let word : f.top.word ≡ later.root = sym (ap (λ (p : Place). (with_published s.tree p f.top.word).root) is) in
            (ends.ledger f).new_parents (row_in later.root) (subst (λ (v : ℕ). was_seen f.may.taken (row_in v) ≡ true) word top_taken)
        root_in None (Slot row col) is_old is at = absurd at
        root_in (Some h₀) (Slot row col) is_old is at =
            let root : later.root ≡ b.sheet.tree.root = ap (λ (p : Place). (with_published s.tree p f.top.word).root) is ∙ ends.root_same f in
            let before : later.root ≡ (now f.start s).root = ap (λ (p : Place). (with_published s.tree p f.top.word).root) is ∙ ap (λ (v : Rooted). v.root) (ends.tree_is f) in
            let was = old_counted h₀ is_old (row_in (now f.start s).root) (root_counts (now f.start s) h₀ (stands_old h₀ is_old)) in
            parent_was (row_in later.root) (subst (λ (v : ℕ). 1 ≤ ends.old_count f (row_in v)) (sym before) was) (place_counted h (root_span later.table later.root) root_on)
            ∙ (ap (λ (v : ℕ). column b.sheet.tree.table (row_in v) 0) root ∙ (was_lawful h₀ is_old).root)

        -- ---- all of them

        only₃ : OnlyParents s₁ s₃
        only₃ = only_more s₁ s₂ s₃ tended.only (top_only s₂ s₃ (inner_kind b.kind) f.top.place (row_in f.top.word) top)

        spans₃ : (x : Span) → spans_in s₃.tree.table x ≡ spans_in later.table x
        spans₃ x = same_spans s₁.tree.table s₃.tree.table x (only_width s₁ s₃ only₃) (λ c above within. only₃.kept (row_in x.word) c above within) ∙ ap (λ (t : Table). spans_in t x) table₁

        abbrev final : laws.Tree
        final = tree_as f.before.kind s₃.tree

        parent_law : (k : ℕ) (x : Span) → reached.OnLevel later.table h (root_of later) k x → laws.ParentLaw final k x
        parent_law zero x on = tt
        parent_law (suc k) x on = parents_from s₃.tree.table (row_in x.word) 0 (spans_in s₃.tree.table x) (λ i y get.
            let first : i ≡ 0 + i = omega arith in
            child_parent k i x y on (ap (λ (xs : List Span). slice_get xs i) (sym (spans₃ x)) ∙ get) ∙ ap (parent_at (row_in x.word)) first)

        root₃ : s₃.tree.root ≡ later.root
        root₃ = ap (λ (v : Rooted). v.root) only₃.tree ∙ ap (λ (v : Rooted). v.root) tree₁

        roots : root_of later ≡ root_of final
        roots = λ i. root_span (record { width = sym (only_width s₁ s₃ only₃ ∙ ap (λ (t : Table). t.width) table₁) i; words = later.table.words }) (sym root₃ i) ∷ []

        pub has_parents : laws.Stands final h → HasParents final
        has_parents stood = inr (
          h,
          stood,
          ap (λ (v : ℕ). column s₃.tree.table (row_in v) 0) root₃ ∙ (root_stays ∙ root_in f.may.old f.top.place refl refl f.may.at),
          subst (Levels (laws.ParentLaw final) final.table h) roots
              (levels_shared (laws.ParentLaw final) later.table final.table h (root_of later)
              (levels_each (Shared later.table final.table) later.table h (root_of later) (λ k x on. spans₃ x))
              (levels_each (laws.ParentLaw final) later.table h (root_of later) parent_law)),
        )
