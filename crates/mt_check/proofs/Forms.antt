-- What a check of lawful words answers is their form.
use Rattle.mt_check.proofs.Prelude.{◌≡◌, ℕ, List, [], ◌∷◌, ap, ◌∙◌, Ok, Kind, Root, Rooted, Sheet, tree_as, with_published, Fault, Form, checked, first_or, faults_in, form_of}

pub form_by : (s read : Sheet) (kind : Kind) (root : ℕ) (form : Form) → read.tree ≡ s.tree → root ≡ s.tree.root → Ok form ≡ checked (tree_as kind (with_published read.tree Root root)) → form ≡ form_of (tree_as kind s.tree)
form_by s read kind root form same root_is answer = by (faults_in (tree_as kind (with_published read.tree Root root))) answer ∙ ap (λ (t : Rooted). form_of (tree_as kind t)) tree_is
  where
    tree_is : with_published read.tree Root root ≡ s.tree
    tree_is = (λ i. record { rows = (same i).rows; table = (same i).table; root = root_is i })

    by : (faults : List Fault) → Ok form ≡ first_or faults (form_of (tree_as kind (with_published read.tree Root root))) → form ≡ form_of (tree_as kind (with_published read.tree Root root))
    by [] is = cc
    by (fault ∷ faults) is = absurd (cc)
