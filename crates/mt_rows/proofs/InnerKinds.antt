-- The inner rows of a tree are no leaves.
use Rattle.mt_rows.proofs.Prelude.{◌≡◌, ◌≢◌, ℕ, zero, suc, Bool, true, false, Some, refl, Leaf, inner_of, kind_on}

pub inner_no_leaf : (gapped : Bool) → inner_of gapped ≢ Leaf
inner_no_leaf false = λ e. cc
inner_no_leaf true = λ e. cc

-- nor are they named as leaves
pub inner_not_named : (gapped : Bool) → Some (inner_of gapped) ≢ Some Leaf
inner_not_named gapped = λ same. inner_no_leaf gapped (let is : inner_of gapped ≡ Leaf = cc in is)

-- leaves stand lowest
pub leaf_low : (gapped : Bool) (h : ℕ) → kind_on gapped h ≡ Leaf → h ≡ 0
leaf_low gapped zero is = refl
leaf_low gapped (suc h) is = absurd (inner_no_leaf gapped is)
