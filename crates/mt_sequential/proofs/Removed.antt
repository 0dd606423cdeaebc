-- A tree that is taken out of a list, or lent, and put back; and what a player does that only reads a tree which is lent.
use Rattle.mt_sequential.proofs.Prelude.{◌≡◌, ℕ, zero, suc, ◌<◌, List, [], ◌∷◌, ◌++◌, Some, length, get_or, sym, ap, ◌∙◌, subst, arith, insert, remove, slice_get, slice_set, Entry, PlayerState, ReadsOnly, TreeState}

pub put_back : {X : Type 0} (xs : List X) (i : ℕ) (x : X) → i < length xs → x ≡ get_or xs i x → insert (remove xs i) i x ≡ xs
put_back [] i x within is = absurd (omega arith)
put_back (y ∷ xs) zero x within is = ap (λ z. z ∷ xs) is
put_back (y ∷ xs) (suc i) x within is = ap (λ l. y ∷ l) (put_back xs i x (omega arith) is)

pub get_of : {X : Type 0} (xs : List X) (i : ℕ) (x : X) → i < length xs → x ≡ get_or xs i x → slice_get xs i ≡ Some x
get_of [] i x within is = absurd (omega arith)
get_of (y ∷ xs) zero x within is = ap (λ z. Some z) (sym is)
get_of (y ∷ xs) (suc i) x within is = get_of xs i x (omega arith) is

-- a tree that was lent and came back as it was
pub set_back : {X : Type 0} (xs : List X) (i : ℕ) (x : X) → i < length xs → x ≡ get_or xs i x → slice_set xs i x ≡ xs
set_back [] i x within is = absurd (omega arith)
set_back (y ∷ xs) zero x within is = ap (λ z. z ∷ xs) is
set_back (y ∷ xs) (suc i) x within is = ap (λ l. y ∷ l) (set_back xs i x (omega arith) is)

-- the tree of this number was lent, came back as it was, and entries of it were appended
pub only_read : (old : PlayerState) (rows tree : ℕ) (trees : List TreeState) (before after : List Entry) (t back : TreeState) (entries : TreeState → List Entry) → record { rows = rows; trees = trees; entries = before } ≡ old → tree < length old.trees → t ≡ get_or trees tree t → back ≡ t → after ≡ before ++ entries t
    → ReadsOnly old (record { rows = rows; trees = slice_set trees tree back; entries = after }) tree entries
only_read old rows tree trees before after t back entries is named lent kept told =
    let same : trees ≡ old.trees = ap (λ (p : PlayerState). p.trees) is in
    let within : tree < length trees = subst (λ (ts : List TreeState). tree < length ts) (sym same) named in
    record {
      asked = t;
      tree_is = ap (λ (ts : List TreeState). slice_get ts tree) (sym same) ∙ get_of trees tree t within lent;
      trees = ap (λ (x : TreeState). slice_set trees tree x) kept ∙ (set_back trees tree t within lent ∙ same);
      told = told ∙ ap (λ (p : PlayerState). p.entries ++ entries t) is;
    }
