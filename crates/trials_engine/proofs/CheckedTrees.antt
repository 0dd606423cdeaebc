-- A tree that was checked keeps the laws and has the form that was told: the tests ask for no other proof of it.
use Rattle.trials_engine.proofs.Prelude.{◌≡◌, ℕ, List, [], ◌∷◌, sym, ap, ◌∙◌, subst, Ok, Kind, Root, Rooted, Sheet, OnlyReads, tree_as, with_published, IsLawfulOf, Fault, Form, checked, first_or, faults_in, form_of, same_tree}

module _ (s s' : Sheet) (root : ℕ) (kind : Kind) (reads : OnlyReads s s') (root_is : s.tree.root ≡ root) where
  tree_is : with_published s.tree Root root ≡ s'.tree
  tree_is = (λ i. record { rows = s.tree.rows; table = s.tree.table; root = sym root_is i }) ∙ sym (same_tree s s' reads)

  pub lawful_as_checked : IsLawfulOf (with_published s.tree Root root) kind → IsLawfulOf s'.tree kind
  lawful_as_checked lawful = subst (λ (t : Rooted). IsLawfulOf t kind) tree_is lawful

  pub form_as_checked : (form : Form) → Ok form ≡ checked (tree_as kind (with_published s.tree Root root)) → form ≡ form_of (tree_as kind s'.tree)
  form_as_checked form answer = by (faults_in (tree_as kind (with_published s.tree Root root))) answer ∙ ap (λ (t : Rooted). form_of (tree_as kind t)) tree_is
    where
      by : (faults : List Fault) → Ok form ≡ first_or faults (form_of (tree_as kind (with_published s.tree Root root))) → form ≡ form_of (tree_as kind (with_published s.tree Root root))
      by [] is = cc
      by (fault ∷ faults) is = absurd (cc)
