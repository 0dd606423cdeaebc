-- The names that the walk of a copy comes to in a tree are those of the rows that are reached.
use Rattle.mt_dup.proofs.Prelude.{◌≡◌, ℕ, zero, suc, ◌+◌, ◌<◌, List, [], ◌∷◌, ◌++◌, Option, map, replicate, refl, sym, ap, ◌∙◌, subst, arith, append-nil, AllByRecursion, flat_map, map-append, all_front, all_back, RowKind, row_in, named_kind, Span, Table, spans_in, Levels, rows_of, Tree, HasWords, IsRow, IsTended, ParentsFrom, Rooted, by_leaf, by_inner, levels_join, levels_front, levels_back, names_are, levels_none, children_hold, names_by, names_from, ParentsAre, MayCopy, MayCopyBy}
use Rattle.mt_dup.proofs.Names.{names_none}

abbrev pub rooted : Tree → Rooted
rooted t = record { rows = t.rows; table = t.table; root = t.root }

pub children_join : (P : ℕ → Span → Type 0) (t : Table) (h : ℕ) (x : Span) → P (suc h) x → Levels P t h (spans_in t x) → Levels P t (suc h) (x ∷ [])
children_join P t h x here below = ((here, tt), subst (Levels P t h) (sym (append-nil (spans_in t x))) below)

zeros_may : (t : Rooted) (depth n : ℕ) → AllByRecursion (MayCopy t depth) (replicate n 0)
unfolding MayCopy
zeros_may t depth zero = tt
zeros_may t zero (suc n) = (refl, zeros_may t zero n)
zeros_may t (suc depth) (suc n) = (refl, zeros_may t (suc depth) n)

zeros_none : (t : Table) (depth n : ℕ) → flat_map (names_from t depth) (replicate n 0) ≡ []
zeros_none t depth zero = refl
zeros_none t depth (suc n) = let first = names_none t depth 0 refl in rw first (zeros_none t depth n)

zeros_parents : (t : Table) (row slot n : ℕ) → ParentsAre t row slot (replicate n 0)
zeros_parents t row slot zero = tt
zeros_parents t row slot (suc n) = ((λ some. absurd (some refl)), zeros_parents t row (slot + 1) n)

parents_are : (t : Table) (row slot n : ℕ) (xs : List Span) → ParentsFrom t row slot xs → ParentsAre t row slot (map (λ (x : Span). x.word) xs ++ replicate n 0)
parents_are t row slot n [] parents = zeros_parents t row slot n
parents_are t row slot n (x ∷ xs) parents = ((λ some. parents.0), parents_are t row (slot + 1) n xs parents.1)

module _ (t : Tree) (has : HasWords t) where
  abbrev words_and : ℕ → List Span → List ℕ
  words_and n xs = map (λ (x : Span). x.word) xs ++ replicate n 0

  -- ---- what is named from a row on

  leaf_names : (depth : ℕ) (x : Span) → IsRow t zero x → names_from t.table (suc depth) x.word ≡ x.word ∷ []
  unfolding names_from
  leaf_names depth x row = ap (λ (k : Option RowKind). names_by (names_from t.table depth) t.table x.word k) row.name.named

  inner_names : (depth h : ℕ) (x : Span) → IsRow t (suc h) x → (n : ℕ) × (names_from t.table (suc depth) x.word ≡ x.word ∷ flat_map (names_from t.table depth) (words_and n (spans_in t.table x)))
  unfolding names_from
  inner_names depth h x row =
      let names = names_are t h x has row in
      (names.0, ap (λ (k : Option RowKind). names_by (names_from t.table depth) t.table x.word k) row.name.named ∙ ap (λ (l : List ℕ). x.word ∷ flat_map (names_from t.table depth) l) names.1)

  -- ---- the tree may be copied

  abbrev MayOne : ℕ → ℕ → Span → Type 0
  MayOne depth h x = Levels (IsRow t) t.table h (x ∷ []) → Levels (IsTended t) t.table h (x ∷ []) → MayCopy (rooted t) depth x.word

  may_list : (depth h n : ℕ) → ((x : Span) → MayOne depth h x) → (xs : List Span) → Levels (IsRow t) t.table h xs → Levels (IsTended t) t.table h xs → AllByRecursion (MayCopy (rooted t) depth) (words_and n xs)
  may_list depth h n each [] rows tended = zeros_may (rooted t) depth n
  may_list depth h n each (x ∷ xs) rows tended = (
    each x (levels_front (IsRow t) t.table h (x ∷ []) xs rows) (levels_front (IsTended t) t.table h (x ∷ []) xs tended),
    may_list depth h n each xs (levels_back (IsRow t) t.table h (x ∷ []) xs rows) (levels_back (IsTended t) t.table h (x ∷ []) xs tended),
  )

  pub may_copy : (depth h : ℕ) (x : Span) → h < depth → MayOne depth h x
  unfolding MayCopy
  may_copy zero h x deep rows tended = absurd (omega arith)
  may_copy (suc depth) zero x deep rows tended = subst (MayCopyBy (MayCopy (rooted t) depth) (rooted t) x.word) (sym rows.0.name.named) (rows.0.name.in_table, (tt, tt))
  may_copy (suc depth) (suc h) x deep rows tended =
      let names = names_are t h x has rows.0.0 in
      let parents = parents_are t.table (row_in x.word) 0 names.0 (spans_in t.table x) tended.0.0.parent in
      let below = may_list depth h names.0 (λ y. may_copy depth h y (omega arith)) (spans_in t.table x) (children_hold (IsRow t) t.table h x rows) (children_hold (IsTended t) t.table h x tended) in
      subst (MayCopyBy (MayCopy (rooted t) depth) (rooted t) x.word) (sym rows.0.0.name.named)
      (rows.0.0.name.in_table, (subst (ParentsAre t.table (row_in x.word) 0) (sym names.1) parents, subst (AllByRecursion (MayCopy (rooted t) depth)) (sym names.1) below))

  -- ---- the rows that are named are those that are reached

  abbrev RowsOne : ℕ → ℕ → Span → Type 0
  RowsOne depth h x = Levels (IsRow t) t.table h (x ∷ []) → map row_in (names_from t.table depth x.word) ≡ rows_of t.table depth x

  rows_list : (depth h n : ℕ) → ((x : Span) → RowsOne depth h x) → (xs : List Span) → Levels (IsRow t) t.table h xs → map row_in (flat_map (names_from t.table depth) (words_and n xs)) ≡ flat_map (rows_of t.table depth) xs
  rows_list depth h n each [] rows = ap (map row_in) (zeros_none t.table depth n)
  rows_list depth h n each (x ∷ xs) rows =
      let first = each x (levels_front (IsRow t) t.table h (x ∷ []) xs rows) in
      let behind = rows_list depth h n each xs (levels_back (IsRow t) t.table h (x ∷ []) xs rows) in
      map-append row_in (names_from t.table depth x.word) (flat_map (names_from t.table depth) (words_and n xs)) ∙ (λ i. first i ++ behind i)

  pub rows_named : (depth h : ℕ) (x : Span) → h < depth → RowsOne depth h x
  rows_named zero h x deep rows = absurd (omega arith)
  rows_named (suc depth) zero x deep rows =
      ap (map row_in) (leaf_names depth x rows.0) ∙ sym (by_leaf (named_kind x.word) (row_in x.word ∷ []) (row_in x.word ∷ flat_map (rows_of t.table depth) (spans_in t.table x)) rows.0.name.named)
  rows_named (suc depth) (suc h) x deep rows =
      let names = inner_names depth h x rows.0.0 in
      let below = rows_list depth h names.0 (λ y. rows_named depth h y (omega arith)) (spans_in t.table x) (children_hold (IsRow t) t.table h x rows) in
      ap (map row_in) names.1
      ∙ (ap (λ (l : List ℕ). row_in x.word ∷ l) below ∙ sym (by_inner t.gapped (named_kind x.word) (row_in x.word ∷ []) (row_in x.word ∷ flat_map (rows_of t.table depth) (spans_in t.table x)) rows.0.0.name.named))

  -- ---- what holds of all names holds of the rows of all levels

  module _ (Q : ℕ → Type 0) where
    abbrev Each : ℕ → Span → Type 0
    Each h x = Q x.word

    abbrev HoldsOne : ℕ → ℕ → Span → Type 0
    HoldsOne depth h x = Levels (IsRow t) t.table h (x ∷ []) → AllByRecursion Q (names_from t.table depth x.word) → Levels Each t.table h (x ∷ [])

    holds_list : (depth h n : ℕ) → ((x : Span) → HoldsOne depth h x) → (xs : List Span) → Levels (IsRow t) t.table h xs → AllByRecursion Q (flat_map (names_from t.table depth) (words_and n xs)) → Levels Each t.table h xs
    holds_list depth h n each [] rows all = levels_none Each t.table h
    holds_list depth h n each (x ∷ xs) rows all =
        levels_join Each t.table h (x ∷ []) xs
        (each x (levels_front (IsRow t) t.table h (x ∷ []) xs rows) (all_front Q (names_from t.table depth x.word) (flat_map (names_from t.table depth) (words_and n xs)) all))
        (holds_list depth h n each xs (levels_back (IsRow t) t.table h (x ∷ []) xs rows) (all_back Q (names_from t.table depth x.word) (flat_map (names_from t.table depth) (words_and n xs)) all))

    pub holds_below : (depth h : ℕ) (x : Span) → h < depth → HoldsOne depth h x
    holds_below zero h x deep rows all = absurd (omega arith)
    holds_below (suc depth) zero x deep rows all = ((subst (AllByRecursion Q) (leaf_names depth x rows.0) all).0, tt)
    holds_below (suc depth) (suc h) x deep rows all =
        let names = inner_names depth h x rows.0.0 in
        let all' = subst (AllByRecursion Q) names.1 all in
        children_join Each t.table h x all'.0 (holds_list depth h names.0 (λ y. holds_below depth h y (omega arith)) (spans_in t.table x) (children_hold (IsRow t) t.table h x rows) all'.1)
