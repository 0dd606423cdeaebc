-- An engine that was taken apart, whose rows were read, and that was put together again.
use Rattle.mt_tree.proofs.Forms.{high_as, idle_as, lawful_as, live_as}
use Rattle.mt_c.proofs.Prelude.{◌≡◌, ◌∙◌, ℕ, Option, Some, sym, ap, subst, Result, Ok, Err, IsOk, Kind, Fault, Form, checked, form_of, form_by, Book, Root, IsLawfulOf, tree_as, with_published, OnlyReads, Rooted, Sheet, Parts, reads_through, OutForm, IsAsked, Checked, out_form, OwnTree}

pub asked_as : (e e' : Parts) (s s' : Sheet) (book : Book) (kind : Kind) → s ≡ e.sheet → book ≡ e.book → kind ≡ e.kind → OnlyReads s s' → e'.sheet ≡ s' → e'.book ≡ book → e'.kind ≡ kind → IsAsked e e'
asked_as e e' s s' book kind taken booked same reads put put_book put_kind = record {
  rest = reads_through e.sheet s s' e'.sheet taken reads put;
  book = put_book ∙ booked;
  kind = put_kind ∙ same;
}

-- what is to be said of the rows between, and of the engine after
pub ruleset put_together = (lawful_as, idle_as, high_as, live_as, asked_as)

-- what a check of lawful words answers
module _ (s read : Sheet) (kind : Kind) (root : ℕ) (same : read.tree ≡ s.tree) (root_is : root ≡ s.tree.root) where
  tree_is : with_published read.tree Root root ≡ s.tree
  tree_is = (λ i. record { rows = (same i).rows; table = (same i).table; root = root_is i })

  told : (found : Result Form Fault) → IsOk found → found ≡ checked (tree_as kind (with_published read.tree Root root)) → found ≡ Ok (form_of (tree_as kind s.tree))
  told (Ok form) ok answer = ap (λ (f : Form). Ok f) (form_by s read kind root form same root_is answer)
  told (Err fault) ok answer = absurd (cc)

  pub form_told : (found : Result Form Fault) → IsLawfulOf s.tree kind → (IsLawfulOf (with_published read.tree Root root) kind → IsOk found) → found ≡ checked (tree_as kind (with_published read.tree Root root)) → found ≡ Ok (form_of (tree_as kind s.tree))
  form_told found lawful sound answer = told found (sound (subst (λ (t : Rooted). IsLawfulOf t kind) (sym tree_is) lawful)) answer

-- the form of words that were taken out of an engine
pub form_there : (kind kind' : Kind) (s e : Sheet) (found : Result Form Fault) → found ≡ Ok (form_of (tree_as kind s.tree)) → kind ≡ kind' → s ≡ e → found ≡ Ok (form_of (tree_as kind' e.tree))
form_there kind kind' s e found is same taken = subst (λ (x : Kind × Sheet). found ≡ Ok (form_of (tree_as x.0 x.1.tree))) (λ i. (same i, taken i)) is

pub form_in : (e t : Parts) (found : Result Form Fault) → found ≡ Ok (form_of (tree_as e.kind e.sheet.tree)) → e ≡ t → found ≡ Ok (form_of (tree_as t.kind t.sheet.tree))
form_in e t found is same = subst (λ (x : Parts). found ≡ Ok (form_of (tree_as x.kind x.sheet.tree))) same is

-- what C is told of it
pub checked_open : (before after : Option OwnTree) (t t' : OwnTree) (found : Result Form Fault) (form : Form) (status : ℕ) (out : OutForm) → before ≡ Some t → after ≡ Some t' → IsAsked t.engine t'.engine → IsLawfulOf t.engine.sheet.tree t.engine.kind
    → found ≡ Ok (form_of (tree_as t.engine.kind t.engine.sheet.tree)) → found ≡ Ok form → status ≡ 0 → out ≡ out_form form → Checked before after status out
checked_open before after t t' found form status out was is asked lawful tells told number shown =
    let both : Ok form ≡ Ok (form_of (tree_as t.engine.kind t.engine.sheet.tree)) = sym told ∙ tells in
    let same : form ≡ form_of (tree_as t.engine.kind t.engine.sheet.tree) = cc in
    subst (λ (x : Option OwnTree × Option OwnTree). Checked x.0 x.1 status out) (λ i. (sym was i, sym is i)) (asked, lawful, number, shown ∙ ap out_form same)
