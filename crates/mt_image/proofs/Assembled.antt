-- The words behind the head, and the rows made of them.
use Rattle.mt_image.proofs.Prelude.{◌≡◌, ℕ, zero, suc, ◌+◌, ◌*◌, ◌/◌, ◌%◌, ◌≤◌, List, ◌++◌, Some, Ok, Err, length, drop, replicate, refl, sym, ap, ◌∙◌, subst, arith, length-append, drop_at, length-replicate, Kind, columns, first_row, kind_width, most_rows, OnlyReads, Rooted, Sheet, IsMadeOf, tree_made, tree_as, checked, HoldImage, behind_head, image_in, lawful, number_at, numbers_from, image_tree, image_words, ImageError}
use Rattle.mt_image.proofs.Sizes.{divided, nothing_left}

pub numbers_length : (bytes : List ℕ) (at n : ℕ) → length (numbers_from bytes at n) ≡ n
unfolding numbers_from
numbers_length bytes at zero = refl
numbers_length bytes at (suc n) = ap suc (numbers_length bytes (at + 8) n)

behind : (bytes : List ℕ) (kind : Kind) (words : List ℕ) → words ≡ image_words bytes kind → drop (columns (kind_width kind) * first_row) words ≡ numbers_from bytes 32 (number_at bytes 16 * columns (kind_width kind))
behind bytes kind words is =
    ap (drop (columns (kind_width kind) * first_row)) is
    ∙ drop_at (replicate (columns (kind_width kind) * first_row) 0) (numbers_from bytes 32 (number_at bytes 16 * columns (kind_width kind))) (columns (kind_width kind) * first_row) (length-replicate {A = ℕ} (columns (kind_width kind) * first_row) 0)

many : (bytes : List ℕ) (kind : Kind) (words : List ℕ) → words ≡ image_words bytes kind → length (drop (columns (kind_width kind) * first_row) words) ≡ number_at bytes 16 * columns (kind_width kind)
many bytes kind words is = ap length (behind bytes kind words is) ∙ numbers_length bytes 32 (number_at bytes 16 * columns (kind_width kind))

pub words_size : (bytes : List ℕ) (kind : Kind) (words : List ℕ) → words ≡ image_words bytes kind → columns (kind_width kind) * first_row ≤ length words
words_size bytes kind words is =
    let whole = ap length is ∙ length-append (replicate (columns (kind_width kind) * first_row) 0) (numbers_from bytes 32 (number_at bytes 16 * columns (kind_width kind))) in
    omega (arith, whole, length-replicate {A = ℕ} (columns (kind_width kind) * first_row) 0)

pub words_whole : (bytes : List ℕ) (kind : Kind) (words : List ℕ) → words ≡ image_words bytes kind → length (drop (columns (kind_width kind) * first_row) words) % columns (kind_width kind) ≡ 0
words_whole bytes kind words is = nothing_left (kind_width kind) (number_at bytes 16) (length (drop (columns (kind_width kind) * first_row) words)) (many bytes kind words is)

pub words_few : (bytes : List ℕ) (kind : Kind) (words : List ℕ) → words ≡ image_words bytes kind → number_at bytes 16 ≤ most_rows → length (drop (columns (kind_width kind) * first_row) words) / columns (kind_width kind) ≤ most_rows
words_few bytes kind words is few = subst (λ (n : ℕ). n ≤ most_rows) (sym (divided (kind_width kind) (number_at bytes 16) (length (drop (columns (kind_width kind) * first_row) words)) (many bytes kind words is))) few

pub tree_is : (bytes : List ℕ) (kind : Kind) (root : ℕ) (words : List ℕ) (s : Sheet) → words ≡ image_words bytes kind → root ≡ number_at bytes 24
    → IsMadeOf (kind_width kind) root (drop (columns (kind_width kind) * first_row) words) s → s.tree ≡ image_tree bytes kind
tree_is bytes kind root words s is root_is made =
    let first : s.tree ≡ tree_made (kind_width kind) root (drop (columns (kind_width kind) * first_row) words) = ap (λ (x : Sheet). x.tree) made.rest in
    let rows = divided (kind_width kind) (number_at bytes 16) (length (drop (columns (kind_width kind) * first_row) words)) (many bytes kind words is) in
    let these = behind bytes kind words is in
    first ∙ (λ i. record { rows = rows i; table = record { width = kind_width kind; words = replicate (columns (kind_width kind) * first_row) 0 ++ these i }; root = root_is i })

pub still_made : (bytes : List ℕ) (kind : Kind) (root : ℕ) (words : List ℕ) (s t : Sheet) → words ≡ image_words bytes kind → root ≡ number_at bytes 24
    → IsMadeOf (kind_width kind) root (drop (columns (kind_width kind) * first_row) words) s → OnlyReads s t → HoldImage bytes kind t
still_made bytes kind root words s t is root_is made reads =
    let none : s.reads ≡ Some 0 = ap (λ (x : Sheet). x.reads) made.rest in
    let same : record t { reads = Some 0 } ≡ s = ap (λ (x : Sheet). record x { reads = Some 0 }) reads ∙ ap (λ r. record s { reads = r }) (sym none) in
    let these = behind bytes kind words is in
    subst (λ (x : Sheet). IsMadeOf (kind_width kind) (number_at bytes 24) (numbers_from bytes 32 (number_at bytes 16 * columns (kind_width kind))) x) (sym same)
    (subst (λ (r : ℕ). IsMadeOf (kind_width kind) r (numbers_from bytes 32 (number_at bytes 16 * columns (kind_width kind))) s) root_is
    (subst (λ (w : List ℕ). IsMadeOf (kind_width kind) root w s) these made))

pub image_is : (bytes : List ℕ) (kind : Kind) (t v : Rooted) → image_in bytes ≡ behind_head bytes kind → t ≡ image_tree bytes kind → v ≡ t → lawful (record { kind = kind; tree = t }) (checked (tree_as kind t)) ≡ Ok (record { kind = kind; tree = t }) → image_in bytes ≡ Ok (record { kind = kind; tree = v })
image_is bytes kind t v whole is same fine =
    let here : behind_head bytes kind ≡ lawful (record { kind = kind; tree = t }) (checked (tree_as kind t)) = (λ i. lawful (record { kind = kind; tree = sym is i }) (checked (tree_as kind (sym is i)))) in
    let there : image_in bytes ≡ Ok (record { kind = kind; tree = t }) = whole ∙ here ∙ fine in
    subst (λ (u : Rooted). image_in bytes ≡ Ok (record { kind = kind; tree = u })) (sym same) there

pub no_image_is : (bytes : List ℕ) (kind : Kind) (t : Rooted) (e : ImageError) → image_in bytes ≡ behind_head bytes kind → t ≡ image_tree bytes kind → lawful (record { kind = kind; tree = t }) (checked (tree_as kind t)) ≡ Err e → image_in bytes ≡ Err e
no_image_is bytes kind t e whole is fault =
    let here : behind_head bytes kind ≡ lawful (record { kind = kind; tree = t }) (checked (tree_as kind t)) = (λ i. lawful (record { kind = kind; tree = sym is i }) (checked (tree_as kind (sym is i)))) in
    whole ∙ here ∙ fault
