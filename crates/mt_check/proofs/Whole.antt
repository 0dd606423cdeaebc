-- The answer to a check, from the walk of the root.
use Rattle.mt_check.proofs.Prelude.{◌≡◌, ◌≢◌, ℕ, ◌==◌, List, [], ◌∷◌, Some, false, refl, sym, ap, ◌∙◌, subst, Result, Ok, Err, IsOk, ◌↔◌, slice_get, ne_eqb, Kind, kind_width, deepest, Span, root_span, Tree, top_of, Rooted, tree_as, IsLawfulOf, Fault, Form, Below, faults_at, root_way, faults_in, form_of, first_or, checked, height_from, IsFaultOrBelow, below_at}
use Rattle.mt_check.proofs.Sound.{sound}
use Rattle.mt_check.proofs.Complete.{complete}

-- ---- an answer and lawful words

ok_none : (faults : List Fault) (form : Form) → IsOk (first_or faults form) → faults ≡ []
ok_none [] form ok = refl
ok_none (fault ∷ faults) form ok = absurd (cc)

none_ok : (faults : List Fault) (form : Form) → faults ≡ [] → IsOk (first_or faults form)
none_ok faults form none = subst (λ (fs : List Fault). IsOk (first_or fs form)) (sym none) refl

pub ok_lawful : (t : Rooted) (kind : Kind) (result : Result Form Fault) → t.table.width ≡ kind_width kind → result ≡ checked (tree_as kind t) → IsOk result ↔ IsLawfulOf t kind
ok_lawful t kind result wide is = (
  λ ok. record { width = wide; words = sound (tree_as kind t) (ok_none (faults_in (tree_as kind t)) (form_of (tree_as kind t)) (subst IsOk is ok)) },
  λ lawful. subst IsOk (sym is) (none_ok (faults_in (tree_as kind t)) (form_of (tree_as kind t)) (complete (tree_as kind t) lawful.words)),
)

-- ---- the answer

module _ (t : Tree) where
  pub empty_checked : t.root ≡ 0 → Ok (record { height = 0; rows = 0; ranges = 0 }) ≡ checked t
  unfolding faults_in
  empty_checked empty = ap (λ (root : ℕ). checked (record t { root = root })) (sym empty)

  module _ (some : t.root ≢ 0) where
    faults_are : faults_in t ≡ faults_at t deepest root_way (root_span t.table t.root)
    unfolding faults_in
    faults_are = let other : (t.root == 0) ≡ false = ne_eqb t.root 0 some in rw other refl

    first_err : (faults : List Fault) (form : Form) (fault : Fault) → slice_get faults 0 ≡ Some fault → Err fault ≡ first_or faults form
    first_err [] form fault first = absurd (cc)
    first_err (f ∷ faults) form fault first = let same : f ≡ fault = cc in ap (λ (f : Fault). Err f) (sym same)

    -- what the walk answers of a root that ends at the greatest index
    abbrev Answers : ℕ → Result Below Fault → Type 0
    Answers last result = let x : Span = record { first = 0; last = last; word = t.root } in IsFaultOrBelow (faults_at t deepest root_way x) (below_at t deepest x) result

    pub fault_checked : (last : ℕ) (fault : Fault) → last ≡ top_of t → Answers last (Err fault) → Err fault ≡ checked t
    fault_checked last fault top answer = first_err (faults_in t) (form_of t) fault (ap (λ (fs : List Fault). slice_get fs 0) faults_are ∙ subst (λ (n : ℕ). Answers n (Err fault)) top answer)

    pub form_checked : (last : ℕ) (below : Below) (height : ℕ) → last ≡ top_of t → Answers last (Ok below) → height ≡ height_from t → Ok (record { height = height; rows = below.rows; ranges = below.ranges }) ≡ checked t
    form_checked last below height top answer tall =
        let here = subst (λ (n : ℕ). Answers n (Ok below)) top answer in
        (λ i. Ok (record { height = tall i; rows = (here.1 i).rows; ranges = (here.1 i).ranges })) ∙ ap (λ (fs : List Fault). first_or fs (form_of t)) (sym (faults_are ∙ here.0))
