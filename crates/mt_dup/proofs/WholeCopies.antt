-- A whole tree is copied.
use Rattle.mt_dup.proofs.Prelude.{◌≡◌, ◌≢◌, ◌⊎◌, ℕ, ◌+◌, ◌<◌, ◌≤◌, ◌==◌, List, [], ◌∷◌, ◌++◌, Some, false, length, map, refl, sym, ap, ◌∙◌, subst, inl, inr, arith, lt-ltb, eq-eqb, append_assoc, nat_lt, AllByRecursion, range_with_len, ltb-true, length-map, finds_room, Kind, Width, deepest, first_row, kind_width, RowKind, Span, row_in, named_kind, Root, Table, column, root_span, Levels, level, one_if, map_in, reached_in, height_in, Tree, IsRow, IsTended, Stands, IsLawful, kind_at, Rooted, Sheet, OnlyReads, IsWhole, tree_as, with_published, map_by, is_reached, IsReached, IsLawfulOf, StandsAt, root_of, ranges_by_depth, levels_pair, all_both, level_rows, tally-append, levels_here, once_in, same_tree, with_new_row, IsRowCopy, IsCopy, names_from, MayCopy, AreNumbered, IsCopied, AreCopied, LeavesCopy}
use Rattle.mt_rows.proofs.Reached as reached
use Rattle.mt_dup.proofs.Names.{names_none}
use Rattle.mt_dup.proofs.NewNumbers.{times_of, number_in, number_zero, numbered_on, numbered_once, IsGiven, all_given, given_inside, given_outside, numbered_in_order}
use Rattle.mt_dup.proofs.TreeNames.{may_copy, rows_named, holds_below}
use Rattle.mt_dup.proofs.MovedTree as moved

abbrev pub all_names : Sheet → List ℕ
all_names s = names_from s.tree.table deepest s.tree.root

abbrev pub copied_to : Sheet → ℕ → Rooted
copied_to d root = with_published d.tree Root root

-- what a copy has come to, of so many rows
pub record Facts (kind : Kind) (s d : Sheet) (root count : ℕ) : Type 0 where
  pub copy : IsCopy s.tree (copied_to d root)
  pub order : reached_in d.tree.table root ≡ range_with_len first_row count
  pub same_map : map_by (copied_to d root) ≡ map_by s.tree
  pub lawful : IsLawfulOf (copied_to d root) kind
  pub inside : (row : ℕ) → first_row ≤ row → row < first_row + count → IsReached (copied_to d root) row
  pub outside : (row : ℕ) → (row < first_row) ⊎ (first_row + count ≤ row) → is_reached (copied_to d root) row ≡ false

-- ---- before the copy

zero_may : (t : Rooted) → MayCopy t deepest 0
unfolding MayCopy
zero_may t = refl

pub tree_may : (kind : Kind) (s : Sheet) → IsWhole s → IsLawfulOf s.tree kind → MayCopy s.tree deepest s.tree.root
tree_may kind s whole lawful = elim lawful.words [
  | inl empty ↦ subst (MayCopy s.tree deepest) (sym empty) (zero_may s.tree)
  | inr (h, stands, one, tended) ↦ may_copy (tree_as kind s.tree) whole.words deepest h (root_span s.tree.table s.tree.root) stands.low stands.rows tended
]

-- so many names as rows that are reached
pub names_many : (kind : Kind) (s : Sheet) → IsWhole s → IsLawfulOf s.tree kind → length (all_names s) ≡ length (reached_in s.tree.table s.tree.root)
names_many kind s whole lawful = elim lawful.words [
  | inl empty ↦ none (s.tree.root) empty
  | inr (h, stands, one, tended) ↦
      sym (length-map (all_names s) row_in) ∙ ap length (rows_named (tree_as kind s.tree) whole.words deepest h (root_span s.tree.table s.tree.root) stands.low stands.rows)
]
  where
    none : (root : ℕ) → root ≡ 0 → length (names_from s.tree.table deepest root) ≡ length (reached_in s.tree.table root)
    none root empty = subst (λ (r : ℕ). length (names_from s.tree.table deepest r) ≡ length (reached_in s.tree.table r)) (sym empty) (ap length (names_none s.tree.table deepest 0 refl))

-- ---- behind it

module _ (kind : Kind) (s d : Sheet) (root : ℕ) (whole : IsWhole s) (new_whole : IsWhole d) (width : s.tree.table.width ≡ kind_width kind)
    (one_width : d.tree.table.width ≡ s.tree.table.width) (room : length (all_names s) ≤ d.tree.rows) (copy : LeavesCopy s.tree.table d.tree.table first_row (record { depth = deepest; word = s.tree.root; parent = 1 }) root) where
  abbrev t : Tree
  t = tree_as kind s.tree

  abbrev names : List ℕ
  names = all_names s

  abbrev rows : List ℕ
  rows = reached_in s.tree.table s.tree.root

  abbrev number : ℕ → ℕ
  number = number_in rows

  abbrev after : Rooted
  after = copied_to d root

  -- the copy's words as those of a table of the same width
  abbrev words : Table
  words = record { width = s.tree.table.width; words = d.tree.table.words }

  table_is : d.tree.table ≡ words
  table_is = ap (λ (v : Width). record { width = v; words = d.tree.table.words }) one_width

  reached_by : (row count : ℕ) → times_of row (reached_in after.table after.root) ≡ count → is_reached after row ≡ nat_lt 0 count
  reached_by row count is = ap (nat_lt 0) is

  -- ---- the empty tree

  empty_facts : s.tree.root ≡ 0 → Facts kind s d root (length names)
  empty_facts empty = record {
    copy = record {
      width = one_width;
      number = λ r. r;
      none = refl;
      rows = ap (reached_in d.tree.table) root_zero ∙ sym (ap (λ (r : ℕ). map (λ (n : ℕ). n) (reached_in s.tree.table r)) empty);
      once = λ row other one two same. same;
      root = root_zero ∙ sym (ap (with_new_row (λ r. r)) empty);
      words = λ h x k at. absurd (let levels = at.levels in let low = ap (height_in s.tree.table) empty in omega arith);
    };
    order = ap (reached_in d.tree.table) root_zero ∙ sym (ap (range_with_len first_row) no_names);
    same_map = ap (map_in d.tree.table) root_zero ∙ sym (ap (map_in s.tree.table) empty);
    lawful = record { width = one_width ∙ width; words = inl root_zero };
    inside = λ row low high. absurd (let few = no_names in omega arith);
    outside = λ row out. ap (λ (r : ℕ). is_reached (record { rows = d.tree.rows; table = d.tree.table; root = r }) row) root_zero;
  }
    where
      names_empty : names ≡ []
      names_empty = ap (names_from s.tree.table deepest) empty ∙ names_none s.tree.table deepest 0 refl

      no_names : length names ≡ 0
      no_names = ap length names_empty

      root_zero : root ≡ 0
      root_zero = (copy (λ r. r) refl (subst (AreNumbered (λ r. r) first_row) (sym names_empty) tt) (λ some. absurd (some empty))).0 ∙ ap (with_new_row (λ r. r)) empty

  -- ---- a tree with rows

  module _ (h : ℕ) (stands : Stands t h) (one : column s.tree.table (row_in s.tree.root) 0 ≡ 1) (tended : Levels (IsTended t) s.tree.table h (root_span s.tree.table s.tree.root ∷ [])) where
    top : Span
    top = root_span s.tree.table s.tree.root

    named_rows : map row_in names ≡ rows
    named_rows = rows_named t whole.words deepest h (root_span s.tree.table s.tree.root) stands.low stands.rows

    there : (row : ℕ) → 1 ≤ times_of row rows → row ≢ 0
    there row some = let tallied = reached.tally_reached t h stands row in let low = (reached.reached_number t h stands row (omega arith)).0 in λ zero_is. omega arith

    each_there : (front back : List ℕ) → rows ≡ front ++ back → AllByRecursion (λ (r : ℕ). r ≢ 0) back
    each_there front [] parts = tt
    each_there front (r ∷ back) parts = (
      there r (let whole_is = ap (times_of r) parts ∙ tally-append (λ (q : ℕ). q == r) front (r ∷ back) in let here = ap one_if (eq-eqb r r refl) in omega arith),
      each_there (front ++ (r ∷ [])) back (parts ∙ sym (append_assoc front (r ∷ []) back)),
    )

    numbered : AreNumbered number first_row names
    numbered = numbered_on names [] rows first_row (sym named_rows) refl (λ row. once_in t h row stands) (subst (AllByRecursion (λ (r : ℕ). r ≢ 0)) (sym named_rows) (each_there [] rows refl))

    parent_is : 1 ≡ with_new_row number (column s.tree.table (row_in s.tree.root) 0)
    parent_is = let none = number_zero rows in let same : with_new_row number 1 ≡ 1 = omega (arith, none) in sym (ap (with_new_row number) one ∙ same)

    copied : (root ≡ with_new_row number s.tree.root) × AreCopied number s.tree.table words names
    copied =
        let all = copy number (number_zero rows) numbered (λ some. parent_is) in
        (all.0, subst (λ (w : Table). AreCopied number s.tree.table w names) table_is all.1)

    abbrev Both : ℕ → Type 0
    Both word = IsCopied number s.tree.table words word × IsGiven number first_row (first_row + d.tree.rows) word

    both : AllByRecursion Both names
    both = all_both (IsCopied number s.tree.table words) (IsGiven number first_row (first_row + d.tree.rows)) Both (λ word c g. (c, g)) names copied.1 (all_given number first_row (first_row + d.tree.rows) names (omega arith) numbered)

    abbrev Moved : ℕ → Span → Type 0
    Moved = moved.IsMoved t number (number_zero rows) d.tree.rows new_whole.few d.tree.table.words

    levels : Levels Moved s.tree.table h (root_span s.tree.table s.tree.root ∷ [])
    levels = levels_pair (IsRow t) (λ (k : ℕ) (x : Span). Both x.word) Moved s.tree.table
        (λ k x row given. record { row = row; copy = given.0 (kind_at kind k) row.name.named; first = given.1.0; last = given.1.1 }) h (root_span s.tree.table s.tree.root ∷ []) stands.rows
        (holds_below t whole.words Both deepest h (root_span s.tree.table s.tree.root) stands.low stands.rows both)

    abbrev later : Tree
    later = moved.later t number (number_zero rows) d.tree.rows new_whole.few d.tree.table.words

    later_is : later ≡ tree_as kind after
    later_is = λ i. record { rows = d.tree.rows; gapped = finds_room kind; table = sym table_is i; root = sym copied.0 i }

    later_stands : Stands later h
    later_stands = record { low = stands.low; rows = moved.levels_moved t number (number_zero rows) d.tree.rows new_whole.few d.tree.table.words h (root_span s.tree.table s.tree.root ∷ []) levels }

    top_moved : Moved h (root_span s.tree.table s.tree.root)
    top_moved = (levels_here Moved s.tree.table h (root_span s.tree.table s.tree.root ∷ []) levels).0

    later_lawful : IsLawful later
    later_lawful = inr (
      h,
      later_stands,
      ap (λ (r : ℕ). column words r 0) (moved.row_moved t number (number_zero rows) d.tree.rows new_whole.few d.tree.table.words h (root_span s.tree.table s.tree.root) top_moved) ∙ (top_moved.copy.parent ∙ sym parent_is),
      moved.levels_tended t number (number_zero rows) d.tree.rows new_whole.few d.tree.table.words h (root_span s.tree.table s.tree.root ∷ []) levels tended,
    )

    later_rows : reached_in later.table later.root ≡ map number rows
    later_rows = moved.rows_moved t number (number_zero rows) d.tree.rows new_whole.few d.tree.table.words deepest h (root_span s.tree.table s.tree.root) stands.low levels

    rows_are : reached_in after.table after.root ≡ map number rows
    rows_are = ap (λ (x : Tree). reached_in x.table x.root) (sym later_is) ∙ later_rows

    tally_is : (row : ℕ) → times_of row (reached_in after.table after.root) ≡ times_of row (map number (map row_in names))
    tally_is row = ap (times_of row) (rows_are ∙ ap (map number) (sym named_rows))

    row_copied : (k : ℕ) (x : Span) (row_kind : RowKind) → StandsAt s.tree k x → named_kind x.word ≡ Some row_kind → IsRowCopy number s.tree.table after.table row_kind (row_in x.word)
    row_copied k x row_kind at named =
        let on = reached.on_level t h stands k x at in
        let here : Moved k x = reached.all_one_of (Moved k) (level s.tree.table on.depth (root_of t)) x (level_rows Moved s.tree.table on.depth k h (root_of t) on.height levels) on.one in
        let same : kind_at kind k ≡ row_kind = (let both_named = sym here.row.name.named ∙ named in cc) in
        subst (λ (w : Table). IsRowCopy number s.tree.table w row_kind (row_in x.word)) (sym table_is) (subst (λ (q : RowKind). IsRowCopy number s.tree.table words q (row_in x.word)) same here.copy)

    some_facts : Facts kind s d root (length names)
    some_facts = record {
      copy = record {
        width = one_width;
        number = number;
        none = number_zero rows;
        rows = rows_are;
        once = λ row other one two same.
            let first = ltb-true 0 (times_of row rows) one in let second = ltb-true 0 (times_of other rows) two in
            numbered_once rows row other (there row first) (there other second) first second same;
        root = copied.0;
        words = row_copied;
      };
      order = rows_are ∙ (ap (map number) (sym named_rows) ∙ numbered_in_order number first_row names numbered);
      same_map =
          ap (λ (x : Tree). map_in x.table x.root) (sym later_is)
          ∙ (ranges_by_depth later deepest h (root_span later.table later.root) stands.low later_stands.rows
          ∙ (moved.map_moved t number (number_zero rows) d.tree.rows new_whole.few d.tree.table.words h (root_span s.tree.table s.tree.root ∷ []) levels
          ∙ sym (ranges_by_depth t deepest h (root_span s.tree.table s.tree.root) stands.low stands.rows)));
      lawful = record { width = one_width ∙ width; words = subst IsLawful later_is later_lawful };
      inside = λ row low high. let some = given_inside number first_row row names numbered low high in lt-ltb 0 (times_of row (reached_in after.table after.root)) (omega (arith, tally_is row));
      outside = λ row out. reached_by row 0 (tally_is row ∙ given_outside number first_row row names numbered out);
    }

  pub facts : IsLawful t → Facts kind s d root (length names)
  facts (inl empty) = empty_facts empty
  facts (inr (h, stands, one, tended)) = some_facts h stands one tended

-- ---- as the walk is called

module _ (s s' : Sheet) (word : ℕ) (reads : OnlyReads s s') (word_is : word ≡ s.tree.root) where
  pub names_same : names_from s'.tree.table deepest word ≡ all_names s
  names_same = ap (λ (x : Rooted). names_from x.table deepest word) (same_tree s s' reads) ∙ ap (names_from s.tree.table deepest) word_is

  pub may_same : MayCopy s.tree deepest s.tree.root → MayCopy s'.tree deepest word
  may_same may = subst (λ (x : Rooted). MayCopy x deepest word) (sym (same_tree s s' reads)) (subst (MayCopy s.tree deepest) (sym word_is) may)

  pub facts_of : (kind : Kind) (d : Sheet) (from root : ℕ) → IsWhole s → IsWhole d → IsLawfulOf s.tree kind → d.tree.table.width ≡ s.tree.table.width → length (all_names s) ≤ d.tree.rows → from ≡ first_row
      → LeavesCopy s'.tree.table d.tree.table from (record { depth = deepest; word = word; parent = 1 }) root → Facts kind s d root (length (all_names s))
  facts_of kind d from root whole new_whole lawful one_width room begins copy =
      facts kind s d root whole new_whole lawful.width one_width room
      (subst (λ (n : ℕ). LeavesCopy s.tree.table d.tree.table n (record { depth = deepest; word = s.tree.root; parent = 1 }) root) begins
      (subst (λ (n : ℕ). LeavesCopy s.tree.table d.tree.table from (record { depth = deepest; word = n; parent = 1 }) root) word_is
      (subst (λ (x : Rooted). LeavesCopy x.table d.tree.table from (record { depth = deepest; word = word; parent = 1 }) root) (same_tree s s' reads) copy))) lawful.words
