-- What is read as an image is written as the same bytes.
use Rattle.mt_image.proofs.Prelude.{◌≡◌, ℕ, zero, suc, ◌+◌, ◌-◌, ◌*◌, ◌^◌, ◌<◌, ◌≤◌, ◌==◌, Bool, true, false, List, [], ◌∷◌, ◌++◌, Option, Some, None, Result, Ok, Err, length, take, drop, replicate, codes, nat_lt, refl, sym, ap, ◌∙◌, subst, inl, inr, arith, length-append, length-drop, length-take, IsOk, AllByRecursion, find, flat_map, slice_range, w64, from_le_bytes, to_le_bytes, bytes_eq, and_parts, cases_Bool, eqb-true, ltb-false, drop-drop, drop_all, drop_at, get_or-drop, length-replicate, take-append-drop, le_bytes_8, Kind, columns, first_row, kind_width, most_rows, Fault, Form, checked, ok_lawful, Rooted, tree_as, image_of, kind_code, words_of, IsGood, IsTable, stray_in, AreBytes, Image, number_at, numbers_from, all_kinds, kind_numbered, image_tree, lawful, placed, image_length, image_of_kind, image_in}
use Rattle.mt_image.proofs.Assembled.{numbers_length}
use Rattle.mt_image.proofs.Sizes.{all_words}
use Rattle.mt_image.proofs.WalkOrder.{not_stray}

small_take : (n : ℕ) (l : List ℕ) → AreBytes l → AreBytes (take n l)
small_take zero l small i = omega arith
small_take (suc n) [] small i = omega arith
small_take (suc n) (x ∷ l) small zero = small 0
small_take (suc n) (x ∷ l) small (suc i) = small_take n l (λ k. small (suc k)) i

small_range : (bytes : List ℕ) (from to : ℕ) → AreBytes bytes → AreBytes (slice_range bytes from to)
small_range bytes from to small = small_take (to - from) (drop from bytes) (λ i. subst (λ (n : ℕ). n < 256) (sym (get_or-drop from bytes i 0)) (small (from + i)))

-- ---- numbers that are read are written as the bytes that they were read of

numbers_written : (k at : ℕ) (bytes : List ℕ) → AreBytes bytes → length bytes ≡ at + 8 * k → flat_map (to_le_bytes w64) (numbers_from bytes at k) ≡ drop at bytes
unfolding numbers_from
numbers_written zero at bytes small long = sym (drop_all at bytes (omega arith))
numbers_written (suc k) at bytes small long =
    let eight : at + 8 - at ≡ 8 = omega arith in
    let size : length (take (at + 8 - at) (drop at bytes)) ≡ 8 = omega (arith, length-take (at + 8 - at) (drop at bytes), length-drop at bytes) in
    let first : to_le_bytes w64 (number_at bytes at) ≡ slice_range bytes at (at + 8) =
    le_bytes_8 (slice_range bytes at (at + 8)) (number_at bytes at) size (small_range bytes at (at + 8) small) refl in
    let here : slice_range bytes at (at + 8) ≡ take 8 (drop at bytes) = ap (λ (n : ℕ). take n (drop at bytes)) eight in
    let behind = numbers_written k (at + 8) bytes small (omega arith) ∙ sym (drop-drop 8 at bytes) in
    let both : to_le_bytes w64 (number_at bytes at) ≡ take 8 (drop at bytes) = first ∙ here in
    (λ i. both i ++ behind i) ∙ take-append-drop 8 (drop at bytes)

-- ---- the head

find_holds : {A : Type 0} (p : A → Bool) (xs : List A) (x : A) → find p xs ≡ Some x → p x ≡ true
find_holds p [] x is = absurd (cc)
find_holds p (y ∷ xs) x is = elim (cases_Bool (p y)) [
  | inl holds ↦ let same : y ≡ x = (let found : Some y ≡ Some x = rw holds at is in cc) in subst (λ z. p z ≡ true) same holds
  | inr fails ↦ find_holds p xs x (rw fails at is)
]

kind_is : (n : ℕ) (kind : Kind) → kind_numbered n ≡ Some kind → kind_code kind ≡ n
unfolding kind_numbered
kind_is n kind is = eqb-true (kind_code kind) n (find_holds (λ (k : Kind). kind_code k == n) all_kinds kind is)

-- what is read behind the head, how many bytes there are, and that there was no reason to refuse them
record IsRead (bytes : List ℕ) (x : Image) : Type 0 where
  kind : kind_numbered (number_at bytes 8) ≡ Some x.kind
  tree : x.tree ≡ image_tree bytes x.kind
  few : number_at bytes 16 ≤ most_rows
  size : length bytes ≡ image_length x.kind (number_at bytes 16)
  lawful : IsOk (checked (tree_as x.kind x.tree))
  placed : stray_in x.tree ≡ None

by_place : (image x : Image) (o : Option ℕ) → placed image o ≡ Ok x → (image ≡ x) × (o ≡ None)
by_place image x None is = (cc, refl)
by_place image x (Some row) is = absurd (cc)

by_law : (image x : Image) (r : Result Form Fault) → lawful image r ≡ Ok x → (image ≡ x) × IsOk r × (stray_in image.tree ≡ None)
by_law image x (Ok form) is = let last = by_place image x (stray_in image.tree) is in (last.0, refl, last.1)
by_law image x (Err fault) is = absurd (cc)

by_kind : (bytes : List ℕ) (x : Image) (o : Option Kind) → kind_numbered (number_at bytes 8) ≡ o → image_of_kind bytes o ≡ Ok x → IsRead bytes x
by_kind bytes x None named is = absurd (cc)
by_kind bytes x (Some kind) named is = elim (cases_Bool (nat_lt most_rows (number_at bytes 16))) [
  | inl many ↦ absurd (let no = rw many at is in cc)
  | inr few ↦
      let sized = rw few at is in
      elim (cases_Bool (length bytes == image_length kind (number_at bytes 16))) [
        | inl long ↦
            let read = rw long at sized in
            let found = by_law (record { kind = kind; tree = image_tree bytes kind }) x (checked (tree_as kind (image_tree bytes kind))) read in
            subst (IsRead bytes) found.0 (record {
              kind = named;
              tree = refl;
              few = ltb-false most_rows (number_at bytes 16) few;
              size = eqb-true (length bytes) (image_length kind (number_at bytes 16)) long;
              lawful = found.1;
              placed = found.2;
            })
        | inr other ↦ absurd (let no = rw other at sized in cc)
      ]
]

same_bytes : (a b : List ℕ) → bytes_eq a b ≡ true → a ≡ b
same_bytes [] [] is = refl
same_bytes [] (y ∷ b) is = absurd (let no : false ≡ true = is in cc)
same_bytes (x ∷ a) [] is = absurd (let no : false ≡ true = is in cc)
same_bytes (x ∷ a) (y ∷ b) is =
    let both = and_parts (x == y) (bytes_eq a b) is in
    let first = eqb-true x y both.0 in
    let others = same_bytes a b both.1 in
    (λ i. first i ∷ others i)

in_tree : (bytes : List ℕ) (kind : Kind) → words_of (image_tree bytes kind) ≡ numbers_from bytes 32 (number_at bytes 16 * columns (kind_width kind))
in_tree bytes kind =
    drop_at (replicate (columns (kind_width kind) * first_row) 0) (numbers_from bytes 32 (number_at bytes 16 * columns (kind_width kind))) (columns (kind_width kind) * first_row)
    (length-replicate {A = ℕ} (columns (kind_width kind) * first_row) 0)

written_again : (bytes : List ℕ) (x : Image) → AreBytes bytes → take 8 bytes ≡ codes "mtimage1" → IsRead bytes x → image_of x.kind x.tree ≡ bytes
unfolding numbers_from
written_again bytes x small text read =
    let m = number_at bytes 16 * columns (kind_width x.kind) in
    let words : words_of x.tree ≡ numbers_from bytes 32 m = ap words_of read.tree ∙ in_tree bytes x.kind in
    let rows : x.tree.rows ≡ number_at bytes 16 = ap (λ t. t.rows) read.tree in
    let root : x.tree.root ≡ number_at bytes 24 = ap (λ t. t.root) read.tree in
    let code : kind_code x.kind ≡ number_at bytes 8 = kind_is (number_at bytes 8) x.kind read.kind in
    let long : length bytes ≡ 8 + 8 * suc (suc (suc m)) = (let size = read.size in omega arith) in
    let parts : image_of x.kind x.tree ≡ codes "mtimage1" ++ flat_map (to_le_bytes w64) (number_at bytes 8 ∷ (number_at bytes 16 ∷ (number_at bytes 24 ∷ numbers_from bytes 32 m))) =
    (λ i. codes "mtimage1" ++ flat_map (to_le_bytes w64) (code i ∷ (rows i ∷ (root i ∷ words i)))) in
    let behind : flat_map (to_le_bytes w64) (number_at bytes 8 ∷ (number_at bytes 16 ∷ (number_at bytes 24 ∷ numbers_from bytes 32 m))) ≡ drop 8 bytes = numbers_written (suc (suc (suc m))) 8 bytes small long in
    parts ∙ ((λ i. sym text i ++ behind i) ∙ take-append-drop 8 bytes)

-- ---- all that is read

all_read : (bytes : List ℕ) (x : Image) → image_in bytes ≡ Ok x → (take 8 bytes ≡ codes "mtimage1") × IsRead bytes x
unfolding image_in
all_read bytes x is = elim (cases_Bool (nat_lt (length bytes) 32)) [
  | inl short ↦ absurd (let no = rw short at is in cc)
  | inr long ↦
      let inner = rw long at is in
      elim (cases_Bool (bytes_eq (take 8 bytes) (codes "mtimage1"))) [
        | inl text ↦ (same_bytes (take 8 bytes) (codes "mtimage1") text, by_kind bytes x (kind_numbered (number_at bytes 8)) refl (rw text at inner))
        | inr other ↦ absurd (let no = rw other at inner in cc)
      ]
]

pub read_is_image : (bytes : List ℕ) (x : Image) → AreBytes bytes → image_in bytes ≡ Ok x → image_of x.kind x.tree ≡ bytes
read_is_image bytes x small is = let read = all_read bytes x is in written_again bytes x small read.0 read.1

number_small : (bytes : List ℕ) (at : ℕ) → AreBytes bytes → number_at bytes at < 2 ^ 64
number_small bytes at small = by_bytes (slice_range bytes at (at + 8)) (small_range bytes at (at + 8) small)
  where
    by_bytes : (bs : List ℕ) → AreBytes bs → from_le_bytes w64 bs < 2 ^ 64
    by_bytes bs each = omega (arith, each 0, each 1, each 2, each 3, each 4, each 5, each 6, each 7)

numbers_small : (bytes : List ℕ) (at n : ℕ) → AreBytes bytes → AllByRecursion (λ k. k < 2 ^ 64) (numbers_from bytes at n)
unfolding numbers_from
numbers_small bytes at zero small = tt
numbers_small bytes at (suc n) small = (number_small bytes at small, numbers_small bytes (at + 8) n small)

-- the tree in the bytes has a word for each column
table_read : (bytes : List ℕ) (kind : Kind) → AreBytes bytes → number_at bytes 16 ≤ most_rows → IsTable (image_tree bytes kind)
table_read bytes kind small few =
    let n = number_at bytes 16 * columns (kind_width kind) in
    let words = numbers_from bytes 32 n in
    let many = numbers_length bytes 32 n in
    let before = length-replicate {A = ℕ} (columns (kind_width kind) * first_row) 0 in
    let behind = in_tree bytes kind in
    record {
      few = few;
      size =
          length-append (replicate (columns (kind_width kind) * first_row) 0) words
          ∙ ((λ i. before i + length words) ∙ all_words (kind_width kind) (number_at bytes 16) (length words) many);
      zeros = ap (λ (l : List ℕ). replicate (columns (kind_width kind) * first_row) 0 ++ l) (sym behind);
      root = number_small bytes 24 small;
      small = subst (AllByRecursion (λ k. k < 2 ^ 64)) (sym behind) (numbers_small bytes 32 n small);
    }

pub read_is_good : (bytes : List ℕ) (x : Image) → AreBytes bytes → image_in bytes ≡ Ok x → IsGood x.kind x.tree
read_is_good bytes x small is =
    let read = (all_read bytes x is).1 in
    let wide = ap (λ (t : Rooted). t.table.width) read.tree in
    let lawful = (ok_lawful x.tree x.kind (checked (tree_as x.kind x.tree)) wide refl).0 read.lawful in
    record { whole = subst IsTable (sym read.tree) (table_read bytes x.kind small read.few); lawful = lawful; order = not_stray x.kind x.tree lawful read.placed }
