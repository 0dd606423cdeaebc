-- The tree that is drawn of an image has the words that stand in it.
use Rattle.mt_draw.proofs.Prelude.{◌≡◌, ℕ, zero, suc, ◌*◌, ◌<◌, ◌≤◌, List, ◌++◌, length, replicate, refl, sym, ap, ◌∙◌, inl, inr, arith, slice_index, cases_lt, ext_get_or, columns, first_row, Rooted, words_of, IsTable, Image, PictureForm, DrawnTree, IsTreeOfImage, IsTreeIn, IsPicture, table_of, dump_head, body_of, tree_text, dump_text}
use Rattle.mt_draw.specs.declared.forms.PictureForm.TheVariants as forms

zero_before : (n at : ℕ) (words : List ℕ) → at < n → slice_index (replicate n 0 ++ words) at ≡ 0
zero_before zero at words below = absurd (omega arith)
zero_before (suc n) zero words below = refl
zero_before (suc n) (suc at) words below = zero_before n at words (omega arith)

-- words that are 0 before the first row, and those of the table from there on, are those of the table
pub words_are : (t : Rooted) (words : List ℕ) → IsTable t → length words ≡ length t.table.words
    → ((at : ℕ) → at < columns t.table.width * first_row → slice_index words at ≡ 0)
    → ((at : ℕ) → columns t.table.width * first_row ≤ at → slice_index words at ≡ slice_index t.table.words at)
    → words ≡ t.table.words
words_are t words whole size zeros same =
    let before : ℕ = columns t.table.width * first_row in
    ext_get_or 0 words t.table.words size (λ at within. elim (cases_lt at before) [
      | inl low ↦ zeros at low ∙ sym (ap (λ (l : List ℕ). slice_index l at) whole.zeros ∙ zero_before before at (words_of t) low)
      | inr high ↦ same at high
    ])

-- the text of a tree in hand is that of the image that it was read from
pub text_is : (x : Image) (tree : DrawnTree) → IsTreeOfImage x tree → tree_text tree ≡ dump_text x.kind x.tree.table x.tree.root
unfolding dump_text
text_is x tree is =
    (λ i. dump_head tree.kind (is.height i) tree.root ++ body_of (table_of tree) (is.nodes i))
    ∙ (λ i. dump_text (is.kind i) (is.table i) (is.root i))

pub drawn_is : (form : PictureForm) (bytes text : List ℕ) (tree : DrawnTree) → IsTreeIn bytes tree → (form ≡ forms.Text → text ≡ tree_text tree) → IsPicture form bytes text
drawn_is form bytes text tree is told = record { image = is.image; read = is.read; told = λ asked. told asked ∙ text_is is.image tree is.is }
