-- What the check of rows and their walk say of an image.
use Rattle.mt_image.proofs.Prelude.{◌≡◌, ℕ, List, Option, Ok, Err, sym, ap, ◌∙◌, subst, Kind, Width, first_row, kind_width, checked, Fault, Form, reached_in, Rooted, tree_as, with_published, Root, stray_from, stray_in, lawful, placed, Broken}

pub told_fault : (kind : Kind) (t : Rooted) (root : ℕ) (e : Fault) → root ≡ t.root → Err e ≡ checked (tree_as kind (with_published t Root root)) → lawful (record { kind = kind; tree = t }) (checked (tree_as kind t)) ≡ Err (Broken e.row e.law)
told_fault kind t root e is fault =
    let there : Err e ≡ checked (tree_as kind t) = subst (λ (r : ℕ). Err e ≡ checked (tree_as kind (with_published t Root r))) is fault in
    sym (ap (lawful (record { kind = kind; tree = t })) there)

pub told_walk : (kind : Kind) (t : Rooted) (width : Width) (words : List ℕ) (root : ℕ) (form : Form) (walk : List ℕ) (found : Option ℕ) → t.table.width ≡ kind_width kind → width ≡ kind_width kind → t.table.words ≡ words → root ≡ t.root → Ok form ≡ checked (tree_as kind (with_published t Root root)) → walk ≡ reached_in (record { width = width; words = words }) root → found ≡ stray_from first_row t.rows walk → lawful (record { kind = kind; tree = t }) (checked (tree_as kind t)) ≡ placed (record { kind = kind; tree = t }) found
told_walk kind t width words root form walk found wide width_is same is fine walked finds =
    let there : Ok form ≡ checked (tree_as kind t) = subst (λ (r : ℕ). Ok form ≡ checked (tree_as kind (with_published t Root r))) is fine in
    let one : width ≡ t.table.width = width_is ∙ sym wide in
    let here : walk ≡ reached_in t.table t.root = walked ∙ (λ i. reached_in (record { width = one i; words = sym same i }) (is i)) in
    let stray : found ≡ stray_in t = finds ∙ ap (stray_from first_row t.rows) here in
    sym (ap (lawful (record { kind = kind; tree = t })) there) ∙ sym (ap (placed (record { kind = kind; tree = t })) stray)
