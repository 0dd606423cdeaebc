-- A draft, a burying and a tending leave the words a tree: they keep all laws but those of parents and gaps.
use Rattle.mt_life.proofs.Prelude.{◌≡◌, ◌≢◌, ℕ, zero, suc, ◌<◌, Bool, true, false, List, length, Some, refl, sym, ap, ◌∙◌, subst, inl, inr, ⊎_elim, arith, cases_eq, Kind, finds_room, columns, Gapped, row_in, dead_mark, gap_column, slots_of, Span, spans_in, SameColumns, SameSpans, Tree, HasWords, IsTree, IsRow, Stands, kind_at, kind_on, Rooted, Sheet, IsPlace, IsFree, MayBury, MayTend, IsGapOf, life_of, with_word, drafted, after_bury, tended, tree_as, tree_on, IsTreeOf, root_of, same_spans, spans_stay, row_stays, levels_pair, Shared, levels_shared, with_words, row_keeps, Extent, Moment, state_of, IsFull, spans_at, IsLive, Child, Known}
use Rattle.mt_life.proofs.Alike.{spans_named}
use Rattle.mt_life.proofs.Fitting.{all_fit}
use Rattle.mt_life.proofs.Writing.{gap_fits, gap_row, row_others, col_others}

-- a row whose columns stay
keeps : (t : Tree) (words : List ℕ) (k : ℕ) (x : Span) → IsRow t k x → SameColumns t.table (with_words t words t.root).table (columns t.table.width) (row_in x.word)
    → IsRow (with_words t words t.root) k x × SameSpans t.table (with_words t words t.root).table x
keeps t words k x row same = (row_keeps t words t.root k x same row, same_spans t.table (with_words t words t.root).table x refl same)

-- a row in which a gap word is stored
gap_keeps : (gaps : Bool) (t : Rooted) (row col slot word k : ℕ) (x : Span) → row_in x.word ≡ row → col ≡ gap_column (slots_of t.table.width Gapped) slot
    → HasWords (tree_on gaps t) → IsRow (tree_on gaps t) k x → kind_on gaps k ≡ Gapped → slot < length (spans_in t.table x)
    → IsRow (tree_on gaps (with_word t row col word)) k x × SameSpans t.table (with_word t row col word).table x
gap_keeps gaps t row col slot word zero x is at has law gapped used = absurd cc
gap_keeps false t row col slot word (suc k) x is at has law gapped used = absurd cc
gap_keeps true t row col slot word (suc k) x is at has law gapped used =
    subst (λ (q : ℕ × ℕ). IsRow (tree_on true (with_word t q.0 q.1 word)) (suc k) x × SameSpans t.table (with_word t q.0 q.1 word).table x)
    (λ i. (is i, sym at i))
    (row_stays t k slot word x has law used, spans_stay t k slot word x has law used)

module _ (kind : Kind) (s : Sheet) (e : ℕ → Extent) (m : ℕ → Moment) (known : Known kind (state_of s) e m) where
  abbrev T : Tree
  T = tree_as kind s.tree

  abbrev Fits : ℕ → Span → Type 0
  Fits k x = Child kind s.tree.rows s.lives e IsLive k x

  -- words that keep each row that is reached keep the tree
  stands_still : (words : List ℕ) → let t' = with_words T words T.root in
      ((k : ℕ) (x : Span) → IsRow T k x → Fits k x → IsRow t' k x × SameSpans T.table t'.table x) → IsTree T → IsTree t'
  stands_still words each tree = ⊎_elim
      (λ (empty : s.tree.root ≡ 0). inl empty)
      (λ (some : s.tree.root ≢ 0). ⊎_elim
      (λ (empty : s.tree.root ≡ 0). inl empty)
      (λ (at : (h : ℕ) × Stands T h).
      let t' = with_words T words T.root in
      let fits = all_fit kind (state_of s) e m known at.0 at.1 some in
      inr (
        at.0,
        record {
          low = at.1.low;
          rows = levels_shared (IsRow t') T.table t'.table at.0 (root_of T)
              (levels_pair (IsRow T) Fits (Shared T.table t'.table) T.table (λ k x law fit. (each k x law fit).1) at.0 (root_of T) at.1.rows fits)
              (levels_pair (IsRow T) Fits (IsRow t') T.table (λ k x law fit. (each k x law fit).0) at.0 (root_of T) at.1.rows fits);
        },
      ))
      tree)
      (cases_eq s.tree.root 0)

  pub draft_stands : (row col word : ℕ) → IsPlace s.tree row col → IsFree s.cleared (life_of s.lives row) → IsTreeOf s.tree kind → IsTreeOf (drafted s row col word).tree kind
  draft_stands row col word at free tree = record {
    width = tree.width;
    words = stands_still (drafted s row col word).tree.table.words
        (λ k x law fits. keeps T (drafted s row col word).tree.table.words k x law
        (λ c above inside. row_others s.tree row col word at (row_in x.word) c (λ here. subst (IsFree s.cleared) (ap (life_of s.lives) (sym here) ∙ fits.life) free) inside))
        tree.words;
  }

  pub bury_stands : (row : ℕ) → MayBury s row → IsTreeOf s.tree kind → IsTreeOf (after_bury s row).tree kind
  bury_stands row may tree = record {
    width = tree.width;
    words = stands_still (after_bury s row).tree.table.words
        (λ k x law fits. keeps T (after_bury s row).tree.table.words k x law
        (λ c above inside. col_others s.tree row 0 (dead_mark row) may.at (row_in x.word) c (λ zero_col. omega arith) inside))
        tree.words;
  }

  -- a row of the number of one whose gap is tended has its spans
  gap_used : (row col k : ℕ) (x : Span) (gap : IsGapOf s.tree row col) → Fits k x → row_in x.word ≡ row → gap.slot < length (spans_in s.tree.table x)
  gap_used row col k x gap fits is =
      let there = gap_fits kind (state_of s) e m known row col gap in
      let same : spans_in s.tree.table x ≡ spans_in s.tree.table gap.at =
      sym (spans_named kind s.tree.table k x fits.named)
      ∙ (ap (spans_at kind s.tree.table (row_in x.word)) (sym fits.extent)
      ∙ (ap (λ (r : ℕ). spans_at kind s.tree.table r (e r)) (is ∙ sym gap.number)
      ∙ (ap (spans_at kind s.tree.table (row_in gap.at.word)) there.1.extent
      ∙ spans_named kind s.tree.table there.0 gap.at there.1.named))) in
      subst (λ (xs : List Span). gap.slot < length xs) (sym same) gap.used

  pub tend_stands : (row col word : ℕ) → IsFull (state_of s) → MayTend s row col word → IsTreeOf s.tree kind → IsTreeOf (tended s row col word).tree kind
  tend_stands row col word full may tree = record {
    width = tree.width;
    words = stands_still (tended s row col word).tree.table.words
        (λ k x law fits. ⊎_elim
        (λ (parent : col ≡ 0). keeps T (tended s row col word).tree.table.words k x law (λ c above inside. col_others s.tree row col word may.at (row_in x.word) c (λ is. omega arith) inside))
        (λ (gap : IsGapOf s.tree row col). ⊎_elim
        (λ (here : row_in x.word ≡ row).
        let gapped : kind_at kind k ≡ Gapped =
        let some : Some (kind_at kind k) ≡ Some Gapped = ap (λ (n : Extent). Some (kind_at kind n.level)) (sym fits.extent) ∙ (ap (λ (r : ℕ). Some (kind_at kind (e r).level)) here ∙ gap_row kind (state_of s) e m known row col gap) in cc in
        gap_keeps (finds_room kind) s.tree row col gap.slot word k x here gap.column full.words law gapped (gap_used row col k x gap fits here))
        (λ (apart : row_in x.word ≢ row). keeps T (tended s row col word).tree.table.words k x law (λ c above inside. row_others s.tree row col word may.at (row_in x.word) c apart inside))
        (cases_eq (row_in x.word) row))
        may.column)
        tree.words;
  }
