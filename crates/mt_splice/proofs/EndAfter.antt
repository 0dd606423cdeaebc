-- What stands after the store that publishes, and after parent words were written.
use Rattle.mt_splice.proofs.Prelude.{slice_get, ◌≡◌, ℕ, zero, suc, ◌+◌, ◌<◌, ◌≤◌, List, ◌∷◌, Option, Some, None, Bool, true, false, refl, sym, ap, ◌∙◌, subst, inl, inr, arith, cases_Bool, Kind, Width, columns, first_row, Span, row_in, slot_column, slots_of, slot_above, Place, Root, Slot, Table, column, root_span, Tree, Rooted, Sheet, life_of, is_buried, word_at, tree_as, is_reached, map_by, with_record, with_published, life_after, Published, IsPlaceToPublish, root_of, TellsBelow, TellsGapAt, Start, tree_with, with_words, StandsAs, FewestAs, count_in, OnlyParents, IsBelow, SameSpans, is_row_of, same_spans, height_is, Shared, longest_shared, published_rows, published_width, GapsBeside, was_seen, []}
use Rattle.mt_splice.proofs.EndGaps.{AllKeep, levels_all, gaps_kept}
use Rattle.mt_splice.proofs.FewestRows.{SameNews, fewest_later}
use Rattle.mt_splice.proofs.Drafts.{same_column}
use Rattle.mt_splice.proofs.EndTrees.{placed_count, map_is, reached_count, count_reached, unreached_count, count_unreached}
use Rattle.mt_splice.proofs.KeptTrees.{KeepsAs, RowsKeep, count_then, map_then, stands_then}
use Rattle.mt_splice.proofs.EndPublish.{Finish, published, rows_same, width_same, stands_later, map_later, ledger, place_is}
use Rattle.mt_splice.proofs.EndTending.{only_rows, only_width}
use Rattle.mt_splice.proofs.StoredWords.{words_of}

-- ---- a tree whose parent words have changed

all_keep : (t : Tree) (words : List ℕ) (o : Option ℕ) → AllKeep t.table (record { width = t.table.width; words = words }) → StandsAs t o → KeepsAs t o words
all_keep t words None keep stands = stands
all_keep t words (Some h) keep stands = record { stands = stands; rows = levels_all (RowsKeep t t.table.words words) t.table (λ _ x. keep (row_in x.word)) h (root_of t) }

-- the new rows stay the fewest
fewest_kept : (is_new : ℕ → Bool) (t : Tree) (words : List ℕ) (o : Option ℕ) → AllKeep t.table (record { width = t.table.width; words = words }) → FewestAs is_new t o → FewestAs is_new (tree_with t words) o
fewest_kept is_new t words None keep few = few
fewest_kept is_new t words (Some h) keep few =
    let t' = tree_with t words in
    fewest_later is_new is_new t.gapped t.table t'.table refl h (root_of t)
    (levels_all (Shared t.table t'.table) t.table (λ _ x. same_spans t.table t'.table x refl (keep (row_in x.word))) h (root_of t))
    (levels_all (SameNews is_new is_new) t.table (λ _ x. refl) h (root_of t)) few

-- and the gap words stay right where they were
gaps_stay : (start : Start) (is_new : ℕ → Bool) (t : Tree) (words : List ℕ) (o : Option ℕ) → AllKeep t.table (record { width = t.table.width; words = words }) → StandsAs t o → GapsBeside start is_new t o → GapsBeside start is_new (tree_with t words) o
gaps_stay start is_new t words None keep stands gaps = λ _ _ _. tt
gaps_stay start is_new t words (Some h) keep stands gaps = λ index from to. gaps_kept is_new index t words keep h (root_of t) stands.rows (gaps index from to)

-- each row stands where it stood, and what is below it is the same
below_kept : (t t' : Table) → ((x : Span) → SameSpans t t' x) → (d : ℕ) (top x : Span) → IsBelow t d top x → IsBelow t' d top x
below_kept t t' same zero top x is = is
below_kept t t' same (suc d) top x is = (is.0, (is.1.0, is.1.1, ap (λ (l : List Span). slice_get l is.1.0) (same top) ∙ is.1.2, below_kept t t' same d is.1.1 x is.1.3))

tells_kept : (kind : Kind) (t : Rooted) (words : List ℕ) (o : Option ℕ) (word gap : ℕ) → AllKeep t.table (record { width = t.table.width; words = words }) → StandsAs (tree_as kind t) o → StandsAs (tree_as kind (with_words t words)) o → TellsBelow kind t word gap
    → TellsBelow kind (with_words t words) word gap
tells_kept kind t words None word gap keep stands stands' tells = absurd (let some = placed_count (tree_as kind t) None tells.height tells.row stands tells.stands in omega arith)
tells_kept kind t words (Some h) word gap keep stands stands' tells =
    let t' = with_words t words in
    let same : (x : Span) → SameSpans t.table t'.table x = λ x. same_spans t.table t'.table x refl (keep (row_in x.word)) in
    record {
      height = tells.height;
      row = tells.row;
      stands = record {
        depth = tells.stands.depth;
        below = below_kept t.table t'.table same tells.stands.depth (root_span t.table t.root) tells.row tells.stands.below;
        levels = tells.stands.levels ∙ (height_is (tree_as kind t) h stands ∙ sym (height_is (tree_as kind t') h stands'));
      };
      named = tells.named;
      longest = λ gapped. tells.longest gapped ∙ sym (longest_shared t.table t'.table tells.height (tells.row ∷ []) (levels_all (Shared t.table t'.table) t.table (λ _ x. same x) tells.height (tells.row ∷ [])));
    }

module _ (t : Tree) (words : List ℕ) (o : Option ℕ) (keep : AllKeep t.table (record { width = t.table.width; words = words })) (stands : StandsAs t o) where
  abbrev other : Tree
  other = tree_with t words

  other_stands : StandsAs other o
  other_stands = stands_then t o words (all_keep t words o keep stands)

  other_count : (p : ℕ → Span → Bool) → count_in p other o ≡ count_in p t o
  other_count p = count_then t o words p (all_keep t words o keep stands)

  other_map : map_by (words_of other) ≡ map_by (words_of t)
  other_map = map_is other o other_stands ∙ (map_then t o words (all_keep t words o keep stands) ∙ sym (map_is t o stands))

  other_reached : (row : ℕ) → is_reached (words_of other) row ≡ is_reached (words_of t) row
  other_reached row =
      let same = other_count (is_row_of row) in
      elim (cases_Bool (is_reached (words_of t) row)) [
        | inl is ↦ (let some = reached_count t o row stands is in count_reached other o row other_stands (omega arith) ∙ sym is)
        | inr not ↦ (let none = unreached_count t o row stands not in count_unreached other o row other_stands (omega arith) ∙ sym not)
      ]

-- ---- the outcome

-- what has become of the rows and the words when the word is published, and parent words are written
pub record Outcome (f : Finish) (s' : Sheet) : Type 0 where
  pub rest : s' ≡ record f.before.sheet { tree = s'.tree; published = true; lives = s'.lives; buried = s'.buried; told = with_record f.before.sheet.told f.call f.reply; reads = s'.reads }
  pub stands : StandsAs (tree_as f.before.kind s'.tree) f.may.new
  pub fewest : FewestAs (was_seen f.may.taken) (tree_as f.before.kind s'.tree) f.may.new
  pub gaps : GapsBeside f.start (was_seen f.may.taken) (tree_as f.before.kind s'.tree) f.may.new
  pub rows : s'.tree.rows ≡ f.before.sheet.tree.rows
  pub width : s'.tree.table.width ≡ f.before.sheet.tree.table.width
  pub root : s'.tree.root ≡ (published f).root
  pub map : map_by s'.tree ≡ f.start.map
  pub reached : (row : ℕ) → is_reached s'.tree row ≡ is_reached (published f) row
  pub lives : (row : ℕ) → first_row ≤ row → row < first_row + f.before.sheet.tree.rows → life_of s'.lives row ≡ life_after f.sheet (published f) row
  pub buried : (row : ℕ) → first_row ≤ row → row < first_row + f.before.sheet.tree.rows → is_buried s'.buried row ≡ false
  pub at : (row col : ℕ) → f.top.place ≡ Slot row col → word_at s'.tree row col ≡ f.top.word
  pub kept : (row col : ℕ) → 0 < col → col < columns f.before.sheet.tree.table.width → column s'.tree.table row col ≡ column (published f).table row col

-- the column of a slot place is one of a row, and not that of its parent word
pub above_in : (s : Sheet) (place : Place) → IsPlaceToPublish s place → (row col : ℕ) → place ≡ Slot row col → (0 < col) × (col < columns s.tree.table.width)
above_in s Root at row col is = absurd (cc)
above_in s (Slot r c) at row col is =
    let cols : c ≡ col = cc in
    let column_is : c ≡ slot_column (slots_of s.tree.table.width at.2.kind) at.2.slot = at.2.column in
    let some = slot_above s.tree.table.width at.2.kind at.2.slot in
    subst (λ (n : ℕ). (0 < n) × (n < columns s.tree.table.width)) cols (omega arith, at.0.column)

module _ (f : Finish) (s₁ s₂ : Sheet) (done : Published f.sheet s₁ f.top.place f.top.word f.call f.reply) (only : OnlyParents s₁ s₂) where
  tree₁ : s₁.tree ≡ published f
  tree₁ = ap (λ (x : Sheet). x.tree) done.rest

  width₁ : s₁.tree.table.width ≡ f.sheet.tree.table.width
  width₁ = ap (λ (v : Rooted). v.table.width) tree₁ ∙ published_width f.sheet.tree f.top.place f.top.word

  abbrev t₁ : Tree
  t₁ = tree_as f.before.kind s₁.tree

  -- the tree then, by the words at the end
  abbrev t₂ : Tree
  t₂ = tree_with (tree_as f.before.kind s₁.tree) s₂.tree.table.words

  keep : AllKeep t₁.table t₂.table
  keep r c above within = sym (ap (λ (v : Rooted). column v.table r c) only.tree) ∙ only.kept r c above within

  stands₁ : StandsAs t₁ f.may.new
  stands₁ = subst (λ (v : Rooted). StandsAs (tree_as f.before.kind v) f.may.new) (sym tree₁) (stands_later f)

  fewest₁ : FewestAs (was_seen f.may.taken) t₁ f.may.new
  fewest₁ = subst (λ (v : Rooted). FewestAs (was_seen f.may.taken) (tree_as f.before.kind v) f.may.new) (sym tree₁) f.may.replaced.fewest

  gaps₁ : GapsBeside f.start (was_seen f.may.taken) t₁ f.may.new
  gaps₁ = subst (λ (v : Rooted). GapsBeside f.start (was_seen f.may.taken) (tree_as f.before.kind v) f.may.new) (sym tree₁) f.may.gaps

  -- the sheet at the start, but for what the writes have changed
  before_is : f.sheet ≡ record f.before.sheet { tree = f.sheet.tree; lives = f.sheet.lives; buried = f.sheet.buried; reads = f.sheet.reads }
  before_is = ap (λ (x : Sheet). record x { tree = f.sheet.tree; lives = f.sheet.lives; buried = f.sheet.buried; reads = f.sheet.reads }) (ledger f).rest

  published_is : s₁ ≡ record f.before.sheet { tree = s₁.tree; published = true; lives = s₁.lives; buried = s₁.buried; told = with_record f.before.sheet.told f.call f.reply; reads = s₁.reads }
  published_is =
      let all = done.rest ∙ ap (λ (x : Sheet). record x { tree = published f; published = true; lives = s₁.lives; buried = s₁.buried; told = with_record x.told f.call f.reply }) before_is in
      let reads : f.sheet.reads ≡ s₁.reads = sym (ap (λ (x : Sheet). x.reads) done.rest) in
      all ∙ (λ i. record f.before.sheet { tree = sym tree₁ i; published = true; lives = s₁.lives; buried = s₁.buried; told = with_record f.before.sheet.told f.call f.reply; reads = reads i })

  later_is : s₂ ≡ record s₁ { tree = s₂.tree; reads = s₂.reads }
  later_is = ap (λ (x : Sheet). record x { tree = s₂.tree; reads = s₂.reads }) only.rest

  rest₂ : s₂ ≡ record f.before.sheet { tree = s₂.tree; published = true; lives = s₂.lives; buried = s₂.buried; told = with_record f.before.sheet.told f.call f.reply; reads = s₂.reads }
  rest₂ =
      let lives : s₁.lives ≡ s₂.lives = sym (ap (λ (x : Sheet). x.lives) only.rest) in
      let buried : s₁.buried ≡ s₂.buried = sym (ap (λ (x : Sheet). x.buried) only.rest) in
      later_is
      ∙ (ap (λ (x : Sheet). record x { tree = s₂.tree; reads = s₂.reads }) published_is
      ∙ (λ i. record f.before.sheet { tree = s₂.tree; published = true; lives = lives i; buried = buried i; told = with_record f.before.sheet.told f.call f.reply; reads = s₂.reads }))

  word_in : (place : Place) → IsPlaceToPublish f.sheet place → (row col : ℕ) → place ≡ Slot row col → word_at (with_published f.sheet.tree place f.top.word) row col ≡ f.top.word
  word_in Root at row col is = absurd (cc)
  word_in (Slot r c) at row col is =
      let rows : r ≡ row = cc in let cols : c ≡ col = cc in
      (λ i. word_at (with_published f.sheet.tree (Slot r c) f.top.word) (sym rows i) (sym cols i))
      ∙ same_column f.sheet.tree.table.width f.sheet.tree.table.words r (first_row + f.sheet.tree.rows) c f.top.word at.0.column at.0.last (ledger f).whole.words

  pub outcome : Outcome f s₂
  outcome = record {
    rest = rest₂;
    stands = subst (λ (v : Rooted). StandsAs (tree_as f.before.kind v) f.may.new) (sym only.tree) (other_stands t₁ s₂.tree.table.words f.may.new keep stands₁);
    fewest = subst (λ (v : Rooted). FewestAs (was_seen f.may.taken) (tree_as f.before.kind v) f.may.new) (sym only.tree) (fewest_kept (was_seen f.may.taken) t₁ s₂.tree.table.words f.may.new keep fewest₁);
    gaps = subst (λ (v : Rooted). GapsBeside f.start (was_seen f.may.taken) (tree_as f.before.kind v) f.may.new) (sym only.tree) (gaps_stay f.start (was_seen f.may.taken) t₁ s₂.tree.table.words f.may.new keep stands₁ gaps₁);
    rows = only_rows s₁ s₂ only ∙ (ap (λ (v : Rooted). v.rows) tree₁ ∙ (published_rows f.sheet.tree f.top.place f.top.word ∙ rows_same f));
    width = only_width s₁ s₂ only ∙ (width₁ ∙ width_same f);
    root = ap (λ (v : Rooted). v.root) only.tree ∙ ap (λ (v : Rooted). v.root) tree₁;
    map = ap map_by only.tree ∙ (other_map t₁ s₂.tree.table.words f.may.new keep stands₁ ∙ (ap map_by tree₁ ∙ map_later f));
    reached = λ row.
        ap (λ (v : Rooted). is_reached v row) only.tree ∙ (other_reached t₁ s₂.tree.table.words f.may.new keep stands₁ row ∙ ap (λ (v : Rooted). is_reached v row) tree₁);
    lives = λ row first last.
        ap (λ (x : Sheet). life_of x.lives row) later_is ∙ done.lives row first (subst (λ (n : ℕ). row < first_row + n) (sym (rows_same f)) last);
    buried = λ row first last.
        ap (λ (x : Sheet). is_buried x.buried row) later_is ∙ done.buried row first (subst (λ (n : ℕ). row < first_row + n) (sym (rows_same f)) last);
    kept = λ row col above within.
        only.kept row col above (subst (λ (v : Width). col < columns v) (sym (width₁ ∙ width_same f)) within) ∙ ap (λ (v : Rooted). column v.table row col) tree₁;
    at = λ row col is.
        (let above = above_in f.sheet f.top.place (place_is f) row col is in
        only.kept row col above.0 (subst (λ (v : Width). col < columns v) (sym width₁) above.1)
        ∙ (ap (λ (v : Rooted). column v.table row col) tree₁ ∙ word_in f.top.place (place_is f) row col is));
  }

  -- what is told of the row that was published
  pub told_after : (row col gap : ℕ) → f.top.place ≡ Slot row col → TellsBelow f.before.kind (published f) f.top.word gap → TellsGapAt f.before.kind s₂.tree f.top.place gap
  told_after row col gap is tells =
      let there = subst (λ (v : Rooted). TellsBelow f.before.kind v f.top.word gap) (sym tree₁) tells in
      let later = tells_kept f.before.kind s₁.tree s₂.tree.table.words f.may.new f.top.word gap keep stands₁ (other_stands t₁ s₂.tree.table.words f.may.new keep stands₁) there in
      let now = subst (λ (v : Rooted). TellsBelow f.before.kind v f.top.word gap) (sym only.tree) later in
      subst (λ (p : Place). TellsGapAt f.before.kind s₂.tree p gap) (sym is) (subst (λ (w : ℕ). TellsBelow f.before.kind s₂.tree w gap) (sym (outcome.at row col is)) now)
