-- Items that tell their gaps: at a later moment, side by side, and in the rows of the tree as it was.
use Rattle.mt_splice.proofs.Prelude.{refl, ◌≡◌, ℕ, Bool, true, false, List, ◌∷◌, ◌++◌, take, drop, sym, ap, ◌∙◌, subst, inl, inr, arith, map-append, take-map, drop-map, Item, RowKind, Leaf, Inner, Gapped, Span, spans_from, spans-take, Table, inner_of, Levels, Tree, IsLawful, IsTended, Stands, GapLaw, longest_below, root_of, levels_map, height_in, height_is, Start, Before, IsStartOf, beside_items, longest_holes, TellGaps, HadGaps, []}

-- ---- side by side

pub tells_append : (kind : RowKind) (t : Table) (h lo mid : ℕ) (xs ys : List Item) → spans_from lo (xs ++ ys) ≡ spans_from lo xs ++ spans_from mid ys → TellGaps kind t h lo xs → TellGaps kind t h mid ys → TellGaps kind t h lo (xs ++ ys)
tells_append Leaf t h lo mid xs ys spans front back = tt
tells_append Inner t h lo mid xs ys spans front back = tt
tells_append Gapped t h lo mid xs ys spans front back =
    map-append (λ (x : Item). x.gap) xs ys
    ∙ ((λ i. front i ++ back i)
    ∙ (sym (map-append (λ (x : Span). longest_below t h (x ∷ [])) (spans_from lo xs) (spans_from mid ys)) ∙ ap (longest_holes t h) (sym spans)))

pub tells_take : (kind : RowKind) (t : Table) (h lo k : ℕ) (xs : List Item) → TellGaps kind t h lo xs → TellGaps kind t h lo (take k xs)
tells_take Leaf t h lo k xs told = tt
tells_take Inner t h lo k xs told = tt
tells_take Gapped t h lo k xs told =
    sym (take-map (λ (x : Item). x.gap) k xs)
    ∙ (ap (take k) told ∙ (take-map (λ (x : Span). longest_below t h (x ∷ [])) k (spans_from lo xs) ∙ ap (longest_holes t h) (sym (spans-take k lo xs))))

pub tells_drop : (kind : RowKind) (t : Table) (h lo mid k : ℕ) (xs : List Item) → spans_from mid (drop k xs) ≡ drop k (spans_from lo xs) → TellGaps kind t h lo xs → TellGaps kind t h mid (drop k xs)
tells_drop Leaf t h lo mid k xs spans told = tt
tells_drop Inner t h lo mid k xs spans told = tt
tells_drop Gapped t h lo mid k xs spans told =
    sym (drop-map (λ (x : Item). x.gap) k xs)
    ∙ (ap (drop k) told ∙ (drop-map (λ (x : Span). longest_below t h (x ∷ [])) k (spans_from lo xs) ∙ ap (longest_holes t h) (sym spans)))

-- ---- those of two rows

pub inner_beside : (gapped : Bool) (xs ys : List Item) → beside_items (inner_of gapped) xs ys ≡ xs ++ ys
inner_beside false xs ys = refl
inner_beside true xs ys = refl

-- ---- between two calls all rows keep the law of gaps

pub gaps_were : {b : Before} {start : Start} → IsStartOf b start → Stands start.tree start.height → HadGaps start
gaps_were {b} {start} was stands = by start.tree (subst IsLawful (sym was.tree) was.kept.lawful.words) stands
  where
    by : (t : Tree) {h : ℕ} → IsLawful t → Stands t h → Levels (GapLaw t) t.table h (root_of t)
    by t {h} (inl empty) stands = let none : height_in t.table t.root ≡ 0 = ap (height_in t.table) empty in let some = height_is t h stands in absurd (omega arith)
    by t {h} (inr (k, stood, parent, tended)) stands =
        let same : k ≡ h = (let one = height_is t k stood in let two = height_is t h stands in omega arith) in
        subst (λ (j : ℕ). Levels (GapLaw t) t.table j (root_of t)) same (levels_map (IsTended t) (GapLaw t) t.table (λ _ x both. both.gaps) k (root_of t) tended)
