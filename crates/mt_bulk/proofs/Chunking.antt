-- Chunks that follow each other are one chunk: their words, and their items on the level above, stand one behind another.
use Rattle.mt_bulk.proofs.Prelude.{◌≡◌, ℕ, zero, suc, ◌+◌, ◌-◌, ◌<◌, ◌≤◌, List, [], ◌∷◌, ◌++◌, length, take, drop, refl, sym, ap, ◌∙◌, subst, arith, length-take, length-drop, slice_index, drop-drop, take-append-drop, Kind, finds_room, kind_width, Item, RowKind, heads, words_of, AreRows, CanFill, ChunkView, begins_at, heads_in, chunk_part, place_at, rows_between, chunk_words}
use Rattle.mt_bulk.proofs.Joining.{behind_rows, heads_in_chunks, words_in_chunks}
use Rattle.mt_bulk.proofs.Filling.{row_ends, take_both}

-- ---- parts of a list

pub part_parts : {A : Type 0} → (xs : List A) (a b c : ℕ) → a ≤ b → b ≤ c → take (c - a) (drop a xs) ≡ take (b - a) (drop a xs) ++ take (c - b) (drop b xs)
part_parts xs a b c low high =
    let both : b - a + (c - b) ≡ c - a = omega arith in
    let place : a + (b - a) ≡ b = omega arith in
    (λ i. take (sym both i) (drop a xs))
    ∙ (take_both (b - a) (c - b) (drop a xs)
    ∙ ap (λ (l : List _). take (b - a) (drop a xs) ++ take (c - b) l) (drop-drop (b - a) a xs ∙ (λ i. drop (place i) xs)))

pub length_part : {A : Type 0} → (xs : List A) (a b : ℕ) → a ≤ b → b ≤ length xs → length (take (b - a) (drop a xs)) ≡ b - a
length_part xs a b low high = omega (arith, length-take (b - a) (drop a xs), length-drop a xs)

-- ---- the place behind rows

abbrev pub end_after : ℕ → List ℕ → ℕ
end_after from [] = from
end_after from (end ∷ ends) = end_after end ends

pub end_after_both : (from : ℕ) (xs ys : List ℕ) → end_after from (xs ++ ys) ≡ end_after (end_after from xs) ys
end_after_both from [] ys = refl
end_after_both from (x ∷ xs) ys = end_after_both x xs ys

place_next : (at from : ℕ) (ends : List ℕ) → at < length ends → slice_index ends at ≡ end_after from (take (suc at) ends)
place_next at from [] within = absurd (omega arith)
place_next zero from (x ∷ ends) within = refl
place_next (suc at) from (x ∷ ends) within = place_next at x ends (omega arith)

pub place_is : (at : ℕ) (ends : List ℕ) → at ≤ length ends → place_at ends at ≡ end_after 0 (take at ends)
place_is zero ends within = refl
place_is (suc at) ends within = place_next at 0 ends (omega arith)

pub place_onward : (ends : List ℕ) (a b : ℕ) → a ≤ b → b ≤ length ends → end_after (place_at ends a) (take (b - a) (drop a ends)) ≡ place_at ends b
place_onward ends a b low high =
    let both : a + (b - a) ≡ b = omega arith in
    ap (λ (n : ℕ). end_after n (take (b - a) (drop a ends))) (place_is a ends (omega arith))
    ∙ (sym (end_after_both 0 (take a ends) (take (b - a) (drop a ends)))
    ∙ (ap (end_after 0) (sym (take_both a (b - a) ends) ∙ (λ i. take (both i) ends)) ∙ sym (place_is b ends high)))

-- ---- rows in chunks

pub rows_both : (items : List Item) (from : ℕ) (xs ys : List ℕ) → rows_between items from (xs ++ ys) ≡ rows_between items from xs ++ rows_between items (end_after from xs) ys
rows_both items from [] ys = refl
rows_both items from (x ∷ xs) ys = ap (λ (l : List (List Item)). take (x - from) (drop from items) ∷ l) (rows_both items x xs ys)

pub length_rows : (items : List Item) (from : ℕ) (ends : List ℕ) → length (rows_between items from ends) ≡ length ends
length_rows items from [] = refl
length_rows items from (x ∷ ends) = ap suc (length_rows items x ends)

pub behind_is : (tree : Kind) (kind : RowKind) (items : List Item) (from : ℕ) (ends : List ℕ) → CanFill tree kind items from ends → behind_rows (begins_at items from) (rows_between items from ends) ≡ begins_at items (end_after from ends)
behind_is tree kind items from [] fill = refl
behind_is tree kind items from (end ∷ ends) fill =
    ap (λ (n : ℕ). behind_rows n (rows_between items end ends)) (row_ends items from end (begins_at items from) fill.0 fill.1) ∙ behind_is tree kind items end ends fill.4

pub fill_front : (tree : Kind) (kind : RowKind) (items : List Item) (from : ℕ) (xs ys : List ℕ) → CanFill tree kind items from (xs ++ ys) → CanFill tree kind items from xs
fill_front tree kind items from [] ys fill = tt
fill_front tree kind items from (x ∷ xs) ys fill = (fill.0, fill.1, fill.2, fill.3, fill_front tree kind items x xs ys fill.4)

pub fill_back : (tree : Kind) (kind : RowKind) (items : List Item) (from : ℕ) (xs ys : List ℕ) → CanFill tree kind items from (xs ++ ys) → CanFill tree kind items (end_after from xs) ys
fill_back tree kind items from [] ys fill = fill
fill_back tree kind items from (x ∷ xs) ys fill = fill_back tree kind items x xs ys fill.4

-- ---- parts of a chunk of all leaves

module _ (c : ChunkView) (whole : AreRows c) (start : c.from ≡ 0) where
  abbrev part : ℕ → ℕ → ChunkView
  part a b = chunk_part c a b

  fill_part : (a b : ℕ) → a ≤ b → b ≤ length c.ends → CanFill c.tree c.kind c.items (place_at c.ends a) (take (b - a) (drop a c.ends))
  fill_part a b low high =
      let all = subst (λ (n : ℕ). CanFill c.tree c.kind c.items n c.ends) start whole.fill in
      let up : take b c.ends ++ drop b c.ends ≡ c.ends = take-append-drop b c.ends in
      let front = fill_front c.tree c.kind c.items 0 (take b c.ends) (drop b c.ends) (subst (CanFill c.tree c.kind c.items 0) (sym up) all) in
      let both : a + (b - a) ≡ b = omega arith in
      let cut : take b c.ends ≡ take a c.ends ++ take (b - a) (drop a c.ends) = (λ i. take (sym both i) c.ends) ∙ take_both a (b - a) c.ends in
      subst (λ (n : ℕ). CanFill c.tree c.kind c.items n (take (b - a) (drop a c.ends))) (sym (place_is a c.ends (omega arith)))
      (fill_back c.tree c.kind c.items 0 (take a c.ends) (take (b - a) (drop a c.ends)) (subst (CanFill c.tree c.kind c.items 0) cut front))

  pub part_rows : (a b : ℕ) → a ≤ b → b ≤ length c.ends → AreRows (part a b)
  part_rows a b low high =
      let first = whole.first in
      let named = whole.named in
      let parents = whole.parents in
      record {
        rise = whole.rise;
        fill = fill_part a b low high;
        parents = length_part c.parents a b low (omega arith) ∙ sym (length_part c.ends a b low high);
        first = omega arith;
        named = omega (arith, length_part c.ends a b low high);
      }

  pub words_parts : (a b d : ℕ) → a ≤ b → b ≤ d → d ≤ length c.ends → chunk_words (part a d) ≡ chunk_words (part a b) ++ chunk_words (part b d)
  words_parts a b d low middle high =
      let parents = whole.parents in
      let width = kind_width c.tree in
      let place = place_onward c.ends a b low (omega arith) in
      let ps = part_parts c.parents a b d low middle in
      let es = part_parts c.ends a b d low middle in
      let rows = ap (rows_between c.items (place_at c.ends a)) es
      ∙ (rows_both c.items (place_at c.ends a) (take (b - a) (drop a c.ends)) (take (d - b) (drop b c.ends))
      ∙ ap (λ (n : ℕ). rows_between c.items (place_at c.ends a) (take (b - a) (drop a c.ends)) ++ rows_between c.items n (take (d - b) (drop b c.ends))) place) in
      (λ i. words_of width c.kind (ps i) (rows i))
      ∙ words_in_chunks width c.kind (take (b - a) (drop a c.parents)) (take (d - b) (drop b c.parents)) (rows_between c.items (place_at c.ends a) (take (b - a) (drop a c.ends))) (rows_between c.items (place_at c.ends b) (take (d - b) (drop b c.ends)))
      (length_part c.parents a b low (omega arith) ∙ sym (length_rows c.items (place_at c.ends a) (take (b - a) (drop a c.ends)) ∙ length_part c.ends a b low (omega arith)))

  pub heads_parts : (a b d : ℕ) → a ≤ b → b ≤ d → d ≤ length c.ends → heads_in (part a d) ≡ heads_in (part a b) ++ heads_in (part b d)
  heads_parts a b d low middle high =
      let gapped = finds_room c.tree in
      let place = place_onward c.ends a b low (omega arith) in
      let es = part_parts c.ends a b d low middle in
      let xs = rows_between c.items (place_at c.ends a) (take (b - a) (drop a c.ends)) in
      let ys = rows_between c.items (place_at c.ends b) (take (d - b) (drop b c.ends)) in
      let rows = ap (rows_between c.items (place_at c.ends a)) es
      ∙ (rows_both c.items (place_at c.ends a) (take (b - a) (drop a c.ends)) (take (d - b) (drop b c.ends))
      ∙ ap (λ (n : ℕ). xs ++ rows_between c.items n (take (d - b) (drop b c.ends))) place) in
      let behind : behind_rows (begins_at c.items (place_at c.ends a)) xs ≡ begins_at c.items (place_at c.ends b) = behind_is c.tree c.kind c.items (place_at c.ends a) (take (b - a) (drop a c.ends)) (fill_part a b low (omega arith)) ∙ ap (begins_at c.items) place in
      let many = length_rows c.items (place_at c.ends a) (take (b - a) (drop a c.ends)) ∙ length_part c.ends a b low (omega arith) in
      let number : c.number + a + length xs ≡ c.number + b = omega arith in
      ap (heads gapped c.kind (begins_at c.items (place_at c.ends a)) (c.number + a)) rows
      ∙ (heads_in_chunks gapped c.kind (begins_at c.items (place_at c.ends a)) (c.number + a) xs ys
      ∙ (λ i. heads gapped c.kind (begins_at c.items (place_at c.ends a)) (c.number + a) xs ++ heads gapped c.kind (behind i) (number i) ys))
