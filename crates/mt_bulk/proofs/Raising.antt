-- The rows of a level of inner rows: that they can be filled, what the level above is, and what they are with the rows above them.
use Rattle.mt_bulk.proofs.Prelude.{◌≡◌, ℕ, suc, ◌+◌, ◌*◌, ◌<◌, ◌≤◌, ◌==◌, Bool, true, false, List, [], ◌∷◌, ◌++◌, length, refl, sym, ap, ◌∙◌, subst, inl, inr, arith, length-append, eq-eqb, ne_eqb, cases_Bool, eqb-true, eqb-false, Any, AllByRecursion, Kind, Width, finds_room, columns, first_row, kind_width, most_rows, Item, RowKind, NoGaps, RiseFrom, name_at, gaps_of, spans_from, Apart, kind_at, inner_kind, inner_of, Built, heads, inner_slots, parents_in, parents_over, levels_built, size_in, words_of, AreRows, CanFill, ChunkView, IsLevelToNumber, heads_in, rows_between, chunk_words, AreCut, cut, ends_from, inner_size}
use Rattle.mt_bulk.proofs.Built.{EndsOf, Least, Most, above_of, both_words, length_parents, level_cut, no_gap_heads, rows_of, rows_within}
use Rattle.mt_bulk.proofs.Counts.{length_words_few, rows_fewer}
use Rattle.mt_bulk.proofs.Raised.{IsEntry, can_fill, heads_are_named, length_ends, raised_more, raised_top, rows_back, rows_hold}
use Rattle.mt_bulk.proofs.Rows.{flat, heads_rise, length_heads, rows_fit}

pub inner_size_is : (width : Width) (gapped : Bool) (items : List Item) → cut (size_in width (inner_of gapped)) items ≡ cut (inner_size (inner_slots width gapped)) items
inner_size_is width false items = refl
inner_size_is width true items = refl

-- one row is the root, and several have parents
pub over_top : (tree : Kind) (next : ℕ) (items : List Item) → length items ≡ 1 → parents_over tree next items ≡ 1 ∷ []
over_top tree next items one = rw one refl

pub over_more : (tree : Kind) (next : ℕ) (items : List Item) → (length items ≡ 1 → ⊥) → parents_over tree next items ≡ parents_in next (cut (size_in (kind_width tree) (inner_kind tree)) items)
over_more tree next items more = rw (ne_eqb (length items) 1 more) refl

-- A level of a height whose rows can be filled. Leaves have the height 0.
pub record IsCutLevel (tree : Kind) (h number : ℕ) (items : List Item) : Type 0 where
  pub some : 1 ≤ length items
  pub rise : RiseFrom 0 items
  pub apart : h ≡ 0 → Apart (spans_from 0 items)
  pub gaps : gaps_of (kind_width tree) (kind_at tree h) ≡ 0 → NoGaps items
  pub hold : AllByRecursion (Any IsEntry) (rows_of tree h items)
  pub first : first_row ≤ number
  pub last : columns (kind_width tree) * number + length (levels_built tree (kind_at tree h) number items).words ≤ columns (kind_width tree) * (first_row + most_rows)

module _ (tree : Kind) (h number : ℕ) (items : List Item) (level : IsCutLevel tree h number items) where
  abbrev width : Width
  width = kind_width tree

  abbrev kind : RowKind
  kind = kind_at tree h

  abbrev rows : List (List Item)
  rows = rows_of tree h items

  abbrev above : List Item
  above = above_of tree h number items

  abbrev next : ℕ
  next = number + length rows

  abbrev upper : Built
  upper = levels_built tree (kind_at tree (suc h)) next above

  abbrev parents : List ℕ
  parents = parents_over tree next above

  the_cut : AreCut (Least tree h) (Most tree h) (EndsOf h) items rows
  the_cut = level_cut tree h items level.apart

  as_many : length above ≡ length rows
  as_many = length_heads (finds_room tree) kind 0 number rows

  many_parents : length parents ≡ length rows
  many_parents = elim (cases_Bool (length above == 1)) [
    | inl one ↦ let is = eqb-true (length above) 1 one in ap length (over_top tree next above is) ∙ (sym is ∙ as_many)
    | inr more ↦
        let upper_cut = level_cut tree (suc h) above (λ is_zero. absurd (omega arith)) in
        ap length (over_more tree next above (eqb-false (length above) 1 more)) ∙ (length_parents next (rows_of tree (suc h) above) ∙ (ap length upper_cut.joined ∙ as_many))
  ]

  abbrev words : List ℕ
  words = words_of width kind parents rows

  pub long_words : length words ≡ columns width * length rows
  long_words = length_words_few width kind parents rows many_parents the_cut.few

  pub top : length rows ≡ 1 → levels_built tree kind number items ≡ record { root = name_at number kind; words = words }
  top one =
      let single : (length rows == 1) ≡ true = eq-eqb (length rows) 1 one in
      raised_top tree h number items level.some single
      ∙ ap (λ (ps : List ℕ). record { root = name_at number kind; words = words_of width kind ps rows }) (sym (over_top tree next above (as_many ∙ one)))

  pub more : (length rows ≡ 1 → ⊥) → levels_built tree kind number items ≡ record { root = upper.root; words = words ++ upper.words }
  more several =
      let not_one = ne_eqb (length rows) 1 several in
      raised_more tree h number items level.some level.apart not_one
      ∙ ap (λ (ps : List ℕ). record { root = upper.root; words = words_of width kind ps rows ++ upper.words }) (sym (over_more tree next above (λ one. several (sym as_many ∙ one))))

  pub words_within : columns width * number + columns width * length rows ≤ columns width * (first_row + most_rows)
  words_within = elim (cases_Bool (length rows == 1)) [
    | inl one ↦ let is = top (eqb-true (length rows) 1 one) in omega (arith, level.last, ap (λ (b : Built). length b.words) is, long_words)
    | inr other ↦ let is = more (eqb-false (length rows) 1 other) in omega (arith, level.last, ap (λ (b : Built). length b.words) is, length-append words upper.words, long_words)
  ]

  pub words_below : columns width * length rows ≤ length (levels_built tree kind number items).words
  words_below = elim (cases_Bool (length rows == 1)) [
    | inl one ↦ let is = top (eqb-true (length rows) 1 one) in omega (arith, ap (λ (b : Built). length b.words) is, long_words)
    | inr other ↦ let is = more (eqb-false (length rows) 1 other) in omega (arith, ap (λ (b : Built). length b.words) is, length-append words upper.words, long_words)
  ]

  pub numbers_within : number + length rows ≤ first_row + most_rows
  numbers_within = rows_within width (number + length rows) (first_row + most_rows) (omega (arith, words_within, both_words width number (length rows)))

  abbrev view : List ℕ → List ℕ → ChunkView
  view ends ps = record { tree = tree; kind = kind; number = number; items = items; from = 0; ends = ends; parents = ps }

  pub level_rows : (ends ps : List ℕ) → ends ≡ ends_from 0 rows → ps ≡ parents → AreRows (view ends ps)
  level_rows ends ps ends_are ps_are =
      let c = the_cut in
      let fit = rows_fit (Most tree h) (gaps_of width kind) 0 rows c.some c.few (subst (RiseFrom 0) (sym c.joined) level.rise) (λ g. subst NoGaps (sym c.joined) (level.gaps g)) in
      let many : length ends ≡ length rows = ap length ends_are ∙ length_ends 0 rows in
      record {
        rise = level.rise;
        fill = subst (CanFill tree kind items 0) (sym ends_are) (can_fill tree kind items 0 rows (omega arith) c.joined fit level.hold);
        parents = ap length ps_are ∙ (many_parents ∙ sym many);
        first = level.first;
        named = omega (arith, numbers_within, many);
      }

  pub words_are : (ends ps : List ℕ) → ends ≡ ends_from 0 rows → ps ≡ parents → chunk_words (view ends ps) ≡ words
  words_are ends ps ends_are ps_are = (λ i. words_of width kind (ps_are i) (rows_between items 0 (ends_are i))) ∙ ap (words_of width kind parents) (rows_back items 0 rows (omega arith) the_cut.joined)

  pub heads_are : (ends ps : List ℕ) → ends ≡ ends_from 0 rows → heads_in (view ends ps) ≡ above
  heads_are ends ps ends_are = (λ i. heads (finds_room tree) kind 0 number (rows_between items 0 (ends_are i))) ∙ ap (heads (finds_room tree) kind 0 number) (rows_back items 0 rows (omega arith) the_cut.joined)

  -- the level above, where there is one
  pub next_level : (length rows ≡ 1 → ⊥) → IsLevelToNumber tree next above
  next_level several =
      let c = the_cut in
      let fewer = rows_fewer tree h items level.some level.apart (ne_eqb (length rows) 1 several) in
      let two = fewer.0 in
      let is = more several in
      record {
        some = omega (arith, as_many);
        rise = heads_rise (finds_room tree) kind 0 number rows c.some (subst (RiseFrom 0) (sym c.joined) level.rise);
        named = heads_are_named (finds_room tree) kind 0 number rows;
        gaps = no_gap_heads width (finds_room tree) kind 0 number rows;
        first = omega (arith, level.first);
        last = omega (arith, level.last, ap (λ (b : Built). length b.words) is, length-append words upper.words, long_words, both_words width number (length rows));
      }

pub inner_level_cut : (tree : Kind) (h number : ℕ) (items : List Item) → IsLevelToNumber tree number items → IsCutLevel tree (suc h) number items
inner_level_cut tree h number items level =
    let c = level_cut tree (suc h) items (λ is_zero. absurd (omega arith)) in
    record {
      some = level.some;
      rise = level.rise;
      apart = λ is_zero. absurd (omega arith);
      gaps = level.gaps;
      hold = rows_hold (rows_of tree (suc h) items) (subst (AllByRecursion IsEntry) (sym c.joined) level.named) c.some;
      first = level.first;
      last = level.last;
    }

-- a root word and words
abbrev pub made_of : ℕ → List ℕ → Built
made_of root words = record { root = root; words = words }

pub some_rows_of : (tree : Kind) (h number : ℕ) (items : List Item) → IsCutLevel tree h number items → 1 ≤ length (rows_of tree h items)
some_rows_of tree h number items level = some_rows_in (rows_of tree h items) items (level_cut tree h items level.apart).joined level.some
  where
    some_rows_in : (rows : List (List Item)) (items : List Item) → flat rows ≡ items → 1 ≤ length items → 1 ≤ length rows
    some_rows_in [] items joined some = let none = ap length joined in absurd (omega arith)
    some_rows_in (row ∷ rows) items joined some = omega arith

-- ---- a level that is cut at these ends, with these parent words

pub ends_are : (tree : Kind) (items : List Item) (most : ℕ) (ends : List ℕ) → most ≡ inner_slots (kind_width tree) (finds_room tree) → ends ≡ ends_from 0 (cut (inner_size most) items) → ends ≡ ends_from 0 (rows_of tree 1 items)
ends_are tree items most ends most_is is = is ∙ (ap (λ (n : ℕ). ends_from 0 (cut (inner_size n) items)) most_is ∙ ap (ends_from 0) (sym (inner_size_is (kind_width tree) (finds_room tree) items)))

abbrev pub view_with : Kind → RowKind → ℕ → List Item → List ℕ → List ℕ → ChunkView
view_with tree kind number items ends ps = record { tree = tree; kind = kind; number = number; items = items; from = 0; ends = ends; parents = ps }

abbrev pub above_with : Kind → RowKind → ℕ → List Item → List ℕ → List ℕ → Built
above_with tree kind number items ends ps = levels_built tree (inner_kind tree) (number + length ends) (heads_in (view_with tree kind number items ends ps))

pub record LevelFacts (tree : Kind) (h number : ℕ) (items : List Item) (kind : RowKind) (ends ps : List ℕ) : Type 0 where
  pub some : 1 ≤ length ends
  pub can : AreRows (view_with tree kind number items ends ps)
  pub long : length (chunk_words (view_with tree kind number items ends ps)) ≡ columns (kind_width tree) * length ends
  pub within : number + length ends ≤ first_row + most_rows
  pub room : columns (kind_width tree) * length ends ≤ length (levels_built tree (kind_at tree h) number items).words
  pub alone : length ends ≡ 1 → levels_built tree (kind_at tree h) number items ≡ made_of (name_at number kind) (chunk_words (view_with tree kind number items ends ps))
  pub level : (length ends ≡ 1 → ⊥) → IsLevelToNumber tree (number + length ends) (heads_in (view_with tree kind number items ends ps))
  pub several : (length ends ≡ 1 → ⊥) → levels_built tree (kind_at tree h) number items ≡ made_of (above_with tree kind number items ends ps).root (chunk_words (view_with tree kind number items ends ps) ++ (above_with tree kind number items ends ps).words)
  pub fewer : (length ends ≡ 1 → ⊥) → length (heads_in (view_with tree kind number items ends ps)) < length items

pub level_facts : (tree : Kind) (h number : ℕ) (items : List Item) (kind : RowKind) (ends ps : List ℕ) → kind ≡ kind_at tree h → IsCutLevel tree h number items → ends ≡ ends_from 0 (rows_of tree h items)
    → ((xs : List Item) → length xs ≡ length ends → ps ≡ parents_over tree (number + length ends) xs) → LevelFacts tree h number items kind ends ps
level_facts tree h number items kind ends ps kind_is level ends_is parents_is = subst (λ (k : RowKind). LevelFacts tree h number items k ends ps) (sym kind_is) (
    let rows = rows_of tree h items in
    let above = above_of tree h number items in
    let many : length ends ≡ length rows = ap length ends_is ∙ length_ends 0 rows in
    let as_many = length_heads (finds_room tree) (kind_at tree h) 0 number rows in
    let next : number + length ends ≡ number + length rows = ap (λ (n : ℕ). number + n) many in
    let ps_is : ps ≡ parents_over tree (number + length rows) above = parents_is above (as_many ∙ sym many) ∙ ap (λ (n : ℕ). parents_over tree n above) next in
    let words = words_are tree h number items level ends ps ends_is ps_is in
    let top_heads = heads_are tree h number items level ends ps ends_is in
    let all = long_words tree h number items level in
    record {
      some = omega (arith, many, some_rows_of tree h number items level);
      can = level_rows tree h number items level ends ps ends_is ps_is;
      long = ap length words ∙ (all ∙ ap (λ (n : ℕ). columns (kind_width tree) * n) (sym many));
      within = omega (arith, next, numbers_within tree h number items level);
      room = subst (λ (n : ℕ). columns (kind_width tree) * n ≤ length (levels_built tree (kind_at tree h) number items).words) (sym many) (words_below tree h number items level);
      alone = λ one. top tree h number items level (sym many ∙ one) ∙ ap (made_of (name_at number (kind_at tree h))) (sym words);
      level = λ other. subst (λ (n : ℕ). IsLevelToNumber tree n (heads_in (view_with tree (kind_at tree h) number items ends ps))) (sym next) (subst (IsLevelToNumber tree (number + length rows)) (sym top_heads) (next_level tree h number items level (λ one. other (many ∙ one))));
      several = λ other. more tree h number items level (λ one. other (many ∙ one))
          ∙ (λ i. made_of (levels_built tree (inner_kind tree) (sym next i) (sym top_heads i)).root (sym words i ++ (levels_built tree (inner_kind tree) (sym next i) (sym top_heads i)).words));
      fewer = λ other. let less = (rows_fewer tree h items level.some level.apart (ne_eqb (length rows) 1 (λ one. other (many ∙ one)))).1 in omega (arith, ap length top_heads, as_many, less);
    })

pub few_ends : (tree : Kind) (number : ℕ) (items : List Item) (ends : List ℕ) → IsLevelToNumber tree number items → ends ≡ ends_from 0 (rows_of tree 1 items) → number + length ends ≤ first_row + most_rows
few_ends tree number items ends level is =
    let many : length ends ≡ length (rows_of tree 1 items) = ap length is ∙ length_ends 0 (rows_of tree 1 items) in
    omega (arith, many, numbers_within tree 1 number items (inner_level_cut tree 0 number items level))

-- of inner rows, as the code has them: in a slice of the ends, where `count` of them were counted
pub raise_facts : (tree : Kind) (number : ℕ) (items : List Item) (kind : RowKind) (ends seen ps ps_seen : List ℕ) (count : ℕ) → kind ≡ inner_kind tree → IsLevelToNumber tree number items → ends ≡ ends_from 0 (rows_of tree 1 items)
    → seen ≡ ends → ps_seen ≡ ps → count ≡ length ends → ((xs : List Item) → length xs ≡ count → ps ≡ parents_over tree (number + count) xs) → LevelFacts tree 1 number items kind seen ps_seen
raise_facts tree number items kind ends seen ps ps_seen count kind_is level ends_is seen_is ps_is count_is parents_is =
    let many : length seen ≡ count = ap length seen_is ∙ sym count_is in
    level_facts tree 1 number items kind seen ps_seen kind_is (inner_level_cut tree 0 number items level) (seen_is ∙ ends_is)
    (λ xs long. ps_is ∙ (parents_is xs (long ∙ many) ∙ ap (λ (n : ℕ). parents_over tree (number + n) xs) (sym many)))
