-- What is written is the image of a copy in the order of the walk.
use Rattle.mt_image.proofs.Prelude.{◌≡◌, ℕ, zero, suc, ◌-◌, ◌*◌, ◌^◌, ◌<◌, ◌≤◌, false, List, [], ◌∷◌, ◌++◌, length, take, drop, replicate, codes, refl, sym, ap, ◌∙◌, subst, inl, inr, arith, append_assoc, length-drop, slice_index, AllByRecursion, flat_map, range_with_len, w64, to_le_bytes, cases_Bool, cases_lt, ltb-true, ext_get_or, length-map, take_all, Kind, columns, first_row, kind_width, most_rows, Root, reached_in, Rooted, Sheet, IsWhole, with_published, map_by, is_reached, IsLawfulOf, MayPlant, AreInOrder, IsCopy, IsNewBut, image_parts, kind_code, tree_with_words, words_of, IsOrderedCopy}
use Rattle.mt_image.proofs.FewReached.{few_reached, reached_inside}
use Rattle.mt_image.proofs.Places.{times_of}
use Rattle.mt_image.proofs.Sizes.{before_rows, long_enough}

-- no more rows are copied than can be named
pub few_live : (kind : Kind) (s : Sheet) → IsWhole s → IsLawfulOf s.tree kind → length (reached_in s.tree.table s.tree.root) ≤ most_rows
few_live kind s whole lawful = let few = few_reached kind s.tree lawful in let most = whole.few in omega arith

-- ---- lists of words

zeros_first : (n : ℕ) (words : List ℕ) → n ≤ length words → ((at : ℕ) → at < n → slice_index words at ≡ 0) → words ≡ replicate n 0 ++ drop n words
zeros_first zero words long zeros = refl
zeros_first (suc n) [] long zeros = absurd (omega arith)
zeros_first (suc n) (x ∷ words) long zeros =
    let first : x ≡ 0 = zeros 0 (omega arith) in
    let others = zeros_first n words (omega arith) (λ at below. zeros (suc at) (omega arith)) in
    (λ i. first i ∷ others i)

all_small : (n : ℕ) (words : List ℕ) → AllByRecursion (λ k. k < 2 ^ 64) words → AllByRecursion (λ k. k < 2 ^ 64) (drop n words)
all_small zero words small = small
all_small (suc n) [] small = tt
all_small (suc n) (x ∷ words) small = all_small n words small.1

-- ---- the copy

module _ (kind : Kind) (t : Rooted) (d : Sheet) (root live rows : ℕ) (words : List ℕ) (whole : IsWhole d) (many : rows ≡ live) (count : live ≡ length (reached_in t.table t.root)) (copied : IsCopy t (with_published d.tree Root root))
    (in_order : AreInOrder (with_published d.tree Root root)) (same_map : map_by (with_published d.tree Root root) ≡ map_by t) (may : MayPlant kind d root) (new : IsNewBut (with_published d.tree Root root) rows d) where
  abbrev copy : Rooted
  copy = with_published d.tree Root root

  abbrev before : ℕ
  before = columns d.tree.table.width * first_row

  -- no row before the first is reached
  unreached : (row : ℕ) → row < first_row → is_reached copy row ≡ false
  unreached row low = elim (cases_Bool (is_reached copy row)) [
    | inl found ↦ absurd (let some = ltb-true 0 (times_of row (reached_in copy.table copy.root)) found in let place = reached_inside kind copy may.lawful row (omega arith) in let first = place.0 in omega arith)
    | inr other ↦ other
  ]

  zero_before : (at : ℕ) → at < before → slice_index d.tree.table.words at ≡ 0
  zero_before at below =
      let place = before_rows d.tree.table.width at below in
      ap (slice_index d.tree.table.words) place.4 ∙ new.zeros place.0 place.1 (unreached place.0 place.2) place.3

  rows_are : d.tree.rows ≡ live
  rows_are = ap (λ (x : Sheet). x.tree.rows) new.rest ∙ many

  -- the words that are taken out of the copy's table
  module _ (size : length words ≡ length d.tree.table.words) (zeros : (at : ℕ) → at < before → slice_index words at ≡ 0) (same : (at : ℕ) → before ≤ at → slice_index words at ≡ slice_index d.tree.table.words at) where
    words_are : d.tree.table.words ≡ words
    words_are = ext_get_or 0 d.tree.table.words words (sym size) (λ at within. elim (cases_lt at before) [
      | inl low ↦ zero_before at low ∙ sym (zeros at low)
      | inr high ↦ sym (same at high)
    ])

    copy_is : copy ≡ tree_with_words kind live root words
    copy_is = (λ i. record { rows = rows_are i; table = record { width = may.lawful.width i; words = words_are i }; root = root })

    pub ordered : root < 2 ^ 64 → AllByRecursion (λ n. n < 2 ^ 64) words → IsOrderedCopy kind t (tree_with_words kind live root words)
    ordered root_small small = subst (IsOrderedCopy kind t) copy_is record {
      good = record {
        whole = record {
          few = whole.few;
          size = whole.words;
          zeros = zeros_first before d.tree.table.words (long_enough d.tree.table.width d.tree.rows (length d.tree.table.words) whole.words) zero_before;
          root = root_small;
          small = all_small before d.tree.table.words (subst (AllByRecursion (λ n. n < 2 ^ 64)) (sym words_are) small);
        };
        lawful = may.lawful;
        order = in_order ∙ ap (range_with_len first_row) (ap length copied.rows ∙ (length-map (reached_in t.table t.root) copied.number ∙ (sym count ∙ sym rows_are)));
      };
      copied = copied;
      same_map = same_map;
    }

-- ---- the bytes

-- the text, the head's numbers, and the words from the first row on
pub all_written : (kind : Kind) (rows root code cols : ℕ) (text head bytes words seen : List ℕ) → cols ≡ columns (kind_width kind) → seen ≡ words → code ≡ kind_code kind
    → text ≡ codes "mtimage1" → head ≡ text ++ flat_map (to_le_bytes w64) (code ∷ (rows ∷ (root ∷ [])))
    → bytes ≡ head ++ flat_map (to_le_bytes w64) (take (length seen - cols * first_row) (drop (cols * first_row) seen))
    → bytes ≡ image_parts kind rows root (words_of (tree_with_words kind rows root words))
all_written kind rows root code cols text head bytes words seen cols_is seen_is code_is text_is head_is bytes_is =
    let before = columns (kind_width kind) * first_row in
    let rest : take (length words - before) (drop before words) ≡ drop before words = take_all (length words - before) (drop before words) (omega (arith, length-drop before words)) in
    bytes_is
    ∙ ((λ i. head ++ flat_map (to_le_bytes w64) (take (length (seen_is i) - cols_is i * first_row) (drop (cols_is i * first_row) (seen_is i))))
    ∙ ((λ i. (head_is ∙ (λ j. text_is j ++ flat_map (to_le_bytes w64) (code_is j ∷ (rows ∷ (root ∷ []))))) i ++ flat_map (to_le_bytes w64) (rest i))
    ∙ append_assoc (codes "mtimage1") (flat_map (to_le_bytes w64) (kind_code kind ∷ (rows ∷ (root ∷ [])))) (flat_map (to_le_bytes w64) (drop before words))))
