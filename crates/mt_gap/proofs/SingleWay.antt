-- A search that goes into one row of each level meets no row with none to go into, or with more.
use Rattle.mt_gap.proofs.Prelude.{◌≡◌, ◌≢◌, ℕ, zero, suc, List, [], ◌∷◌, Option, Some, None, length, sym, ap, ◌∙◌, subst, arith, RowKind, Leaf, Gapped, Span, Rooted, row_in, named_kind, root_span, Child, Side, Window, children_in, children_by, row_children, asked_for, IsSearchedBelow, GoesOneWay, IsOneWay, IfSome}
use Rattle.mt_gap.specs.declared.ways.Below.TheVariants as below_row

module _ (side : Side) (w : Window) (t t' : Rooted) (same : t' ≡ t) (x : Span) (gapped : named_kind x.word ≡ Some Gapped) (row : ℕ) (number : row ≡ row_in x.word) where
  abbrev xs : List Child
  xs = row_children t'.table row Gapped x.first x.last

  asked_are : asked_for side w xs ≡ asked_for side w (children_in t.table x)
  asked_are = ap (asked_for side w) ((λ i. row_children (same i).table (number i) Gapped x.first x.last) ∙ ap (λ (k : Option RowKind). children_by t.table k x) (sym gapped))

  one_child : (levels : ℕ) → GoesOneWay side w t.table levels x → (child : Child) × (asked_for side w xs ≡ child ∷ []) × ((d : ℕ) × GoesOneWay side w t.table d child.span)
  one_child zero leaf = absurd (let clash : Some Gapped ≡ Some Leaf = sym gapped ∙ leaf in cc)
  one_child (suc d) goes = (goes.1.0, asked_are ∙ goes.1.1, (d, goes.1.2))

  pub one_not_none : IsSearchedBelow side w xs below_row.Nothing → (levels : ℕ) → GoesOneWay side w t.table levels x → ⊥
  one_not_none none levels goes =
      let one = one_child levels goes in
      let long = ap length (sym one.1 ∙ none) in
      omega (arith, long)

  pub one_not_more : IsSearchedBelow side w xs below_row.More → (levels : ℕ) → GoesOneWay side w t.table levels x → ⊥
  one_not_more more levels goes =
      let one = one_child levels goes in
      let long = ap length one.1 in
      omega (arith, more, long)

  pub one_goes_on : (slot : ℕ) (y : Span) → IsSearchedBelow side w xs (below_row.One slot y) → (levels : ℕ) → GoesOneWay side w t.table levels x → (d : ℕ) × GoesOneWay side w t.table d y
  one_goes_on slot y found levels goes =
      let one = one_child levels goes in
      let both : one.0 ∷ [] ≡ found.child ∷ [] = sym one.1 ∙ found.alone in
      let child : one.0 ≡ found.child = cc in
      (one.2.0, subst (λ (z : Span). GoesOneWay side w t.table one.2.0 z) (ap (λ (c : Child). c.span) child ∙ found.is) one.2.1)

-- a tree that a search goes down is not empty
pub one_way_full : (side : Side) (w : Window) (t : Rooted) → IsOneWay side w t → t.root ≢ 0
one_way_full side w t one = λ empty. by one.0 one.1 (ap named_kind empty)
  where
    by : (levels : ℕ) → GoesOneWay side w t.table levels (root_span t.table t.root) → named_kind t.root ≡ None → ⊥
    by zero leaf none = let clash : Some Leaf ≡ None = sym leaf ∙ none in cc
    by (suc d) goes none = let clash : Some Gapped ≡ None = sym goes.0 ∙ none in cc

pub some_if : {A : Type 0} {P Q : Type 0} (o : Option A) → (P → Q) → IfSome o (λ _. P) → IfSome o (λ _. Q)
some_if None more is = tt
some_if (Some x) more is = more is

pub some_two : {A : Type 0} {P Q R : Type 0} (o : Option A) → (P → Q → R) → IfSome o (λ _. P) → IfSome o (λ _. Q) → IfSome o (λ _. R)
some_two None more one two = tt
some_two (Some x) more one two = more one two
