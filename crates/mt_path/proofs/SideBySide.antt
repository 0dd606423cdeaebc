-- Ways to many indexes, level by level: which words they come to, and when these are the words of leaves.
use Rattle.mt_path.proofs.Prelude.{◌≡◌, ◌≢◌, OnlyReads, ℕ, suc, ◌+◌, ◌-◌, ◌<◌, ◌≤◌, List, [], ◌∷◌, ◌++◌, Some, IsSome, is_some, take, drop, append_assoc, length, refl, sym, ap, ◌∙◌, subst, arith, Kind, greatest, deepest, RowKind, Leaf, Span, named_kind, slots_of, slot_column, column, IsTreeOf, tree_as, Rooted, Sheet, loaded, root_span, IsPlace, Row, Found, handle_in, Handle, path_in, slot_for, span_at, row_on, row_as, spans_of, IsFoundSlot, IsOnWay, IsLawfulRow, get_or_at, IsLevel, word_on, words_in, words_on, IsSlotFor, row_at, drop_more, get_or-map, length-map, length-take-le, set_at, take_more, All, replicate, slice_index, slice_index_or, slice_set}
use Rattle.std.proofs.lemmas.List.Elements.{All-tail}
use Rattle.mt_rows.specs.Laws as laws
use Rattle.mt_path.proofs.Groups.{found_here, sought}
use Rattle.mt_path.proofs.Middles.{lawful_row}
use Rattle.mt_path.proofs.Steps.{row_next}
use Rattle.mt_path.proofs.TreePaths.{levels, lawful}
use Rattle.mt_path.proofs.Ways.{at_end, covers, place, row_named, row_on_top, some_root, some_tree, span_same, inner_above}

-- nodes were only read, and there are as many words as indexes
pub record OnlyReadsFor (s s' : Sheet) (words indexes : List ℕ) : Type 0 where
  pub reads : OnlyReads s s'
  pub size : length words ≡ length indexes

-- ---- the words of a level

module _ (t : Rooted) (kind : Kind) (tree : IsTreeOf t kind) (root : t.root ≢ 0) where
  stands : (h : ℕ) × laws.Stands (tree_as kind t) h
  stands = some_tree (tree_as kind t) tree.words root

  abbrev high : ℕ
  high = stands.0

  all_long : (index : ℕ) → index ≤ greatest t.table.width → length (path_in t.table t.root index) ≡ high + 1
  all_long index within = levels (tree_as kind t) stands.0 stands.1 index within

  -- the node there has the kind of its level
  kind_there : (depth index : ℕ) → depth ≤ high → index ≤ greatest t.table.width → named_kind (word_on t depth index) ≡ Some (laws.kind_on (tree_as kind t).gapped (high - depth))
  kind_there depth index low within = (lawful (tree_as kind t) stands.0 stands.1 index depth (high - depth) within (omega arith)).name.named

  low_there : (depth : ℕ) → depth < length (path_in t.table t.root 0) → depth ≤ high
  low_there depth low = let long = all_long 0 (omega arith) in omega arith

  pub begins_low : 0 < length (path_in t.table t.root 0)
  begins_low = let long = all_long 0 (omega arith) in omega arith

  pub shallow : (depth : ℕ) → depth < length (path_in t.table t.root 0) → depth < deepest
  shallow depth low = let few = low_there depth low in let least = stands.1.low in omega arith

  pub is_name : (depth index : ℕ) → depth < length (path_in t.table t.root 0) → index ≤ greatest t.table.width → IsSome (named_kind (word_on t depth index))
  is_name depth index low within = ap is_some (kind_there depth index (low_there depth low) within)

  pub is_level : (depth index : ℕ) (row : RowKind) → depth < length (path_in t.table t.root 0) → index ≤ greatest t.table.width → named_kind (word_on t depth index) ≡ Some row → IsLevel t depth row
  is_level depth index row low within named =
      let few = low_there depth low in
      record { low = low; named = kind_there depth 0 few (omega arith) ∙ (sym (kind_there depth index few within) ∙ named) }

-- ---- a level down

module _ (t : Rooted) (kind : Kind) (tree : IsTreeOf t kind) (depth : ℕ) (row : RowKind) (level : IsLevel t depth row) (index : ℕ) (within : index ≤ greatest t.table.width) where
  some : t.root ≢ 0
  some = some_root t 0 depth level.low

  pub name_there : named_kind (word_on t depth index) ≡ Some row
  name_there =
      let few = low_there t kind tree some depth level.low in
      kind_there t kind tree some depth index few within ∙ (sym (kind_there t kind tree some depth 0 few (omega arith)) ∙ level.named)

  abbrev x : Span
  x = row_on t.table depth (root_span t.table t.root) index

  abbrev node : Row
  node = row_as x row

  pub way : IsOnWay t index depth node
  way = record {
    low = (let long = all_long t kind tree some index within in let few = low_there t kind tree some depth level.low in omega arith);
    named = row_named x row name_there;
  }

  law : IsLawfulRow t.table node
  law = lawful_row t kind tree index within depth node way

  over : index ≤ node.max
  over = covers t kind tree index within depth node way

  pub place_there : IsPlace t node.number 0
  place_there = place t kind tree index within depth node way

  -- the slot that was found in the node of that number is the one on the way
  pub slot_is : (number slot : ℕ) → number ≡ node.number → IsSlotFor t.table number row index slot → slot ≡ slot_for (spans_of t.table node) index
  slot_is number slot same finds =
      finds x.first x.last (subst (λ (n : ℕ). IsLawfulRow t.table (row_at n row x.first x.last)) (sym same) law) over
      ∙ ap (λ (n : ℕ). slot_for (spans_of t.table (row_at n row x.first x.last)) index) same

  module _ (slot : ℕ) (is : slot ≡ slot_for (spans_of t.table node) index) where
    abbrev found : Found
    found = record { step = record { row = node.number; slot = slot; min = node.min; max = node.max }; first = (span_at (spans_of t.table node) slot).first; last = (span_at (spans_of t.table node) slot).last }

    at : IsFoundSlot t.table node index found
    at = found_here t.table node (sought t.table node law) index over slot found.first found.last found is refl refl refl

    pub slot_low : slot < slots_of t.table.width row
    slot_low = at.used

    pub next_word : column t.table node.number (slot_column (slots_of t.table.width row) slot) ≡ word_on t (depth + 1) index
    next_word =
        let next : suc depth ≡ depth + 1 = omega arith in
        ap (λ (s : Span). s.word) (span_same t.table x index node found way.named at
        ∙ (sym (row_next (tree_as kind t) depth (root_span t.table t.root) index) ∙ ap (λ (d : ℕ). row_on t.table d (root_span t.table t.root) index) next))

  -- below a leaf stands what the index holds
  pub leaf_word : row ≡ Leaf → word_on t (depth + 1) index ≡ (handle_in t index).span.word
  leaf_word leaf =
      let slot = slot_for (spans_of t.table node) index in
      let end = at_end t kind tree index within depth node way (found slot refl) (at slot refl) leaf in
      sym (next_word slot refl) ∙ (ap (λ (k : RowKind). column t.table node.number (slot_column (slots_of t.table.width k) slot)) leaf ∙ ap (λ (h : Handle). h.span.word) end.handle)

  -- above a leaf there is a level below
  pub goes_on : row ≢ Leaf → depth + 1 < length (path_in t.table t.root 0)
  goes_on other =
      let above = inner_above (tree_as kind t) (stands t kind tree some).0 (stands t kind tree some).1 index within depth node way other in
      let long = all_long t kind tree some 0 (omega arith) in
      omega arith

-- ---- lists of words

-- every way begins with the root's word
words_begin : (t : Rooted) (indexes : List ℕ) → replicate (length indexes) t.root ≡ words_on t 0 indexes
words_begin t [] = refl
words_begin t (index ∷ indexes) = λ i. (ap (λ (x : Span). x.word) (sym (row_on_top t.table (root_span t.table t.root) index))) i ∷ words_begin t indexes i

pub names_begin : (s s' : Sheet) (indexes old new : List ℕ) (root : ℕ) → length old ≡ length indexes → root ≡ s.tree.root → s' ≡ loaded s → new ≡ replicate (length old) root → new ≡ words_on s'.tree 0 indexes
names_begin s s' indexes old new root long is reads filled =
    filled ∙ ((λ i. replicate (long i) (is i)) ∙ (words_begin s.tree indexes ∙ ap (λ (t : Rooted). words_on t 0 indexes) (sym (ap (λ (x : Sheet). x.tree) reads))))

pub first_word : (t : Rooted) (depth : ℕ) (indexes words : List ℕ) → 0 < length indexes → words ≡ words_on t depth indexes → slice_index words 0 ≡ word_on t depth (slice_index indexes 0)
first_word t depth indexes words some are = ap (λ (l : List ℕ). slice_index l 0) are ∙ get_or-map (λ (index : ℕ). word_on t depth index) indexes 0 0 0 some

pub words_end : (t : Rooted) (kind : Kind) → IsTreeOf t kind → (depth : ℕ) → IsLevel t depth Leaf → (indexes : List ℕ) → All (λ (index : ℕ). index ≤ greatest t.table.width) indexes → words_on t (depth + 1) indexes ≡ words_in t indexes
words_end t kind tree depth level [] within = refl
words_end t kind tree depth level (index ∷ indexes) within =
    λ i. leaf_word t kind tree depth Leaf level index (within 0 0 (omega arith)) refl i ∷ words_end t kind tree depth level indexes (All-tail (λ (i : ℕ). i ≤ greatest t.table.width) index indexes within) i

-- so many words have gone a level down, and one more does
module _ (t : Rooted) (depth : ℕ) (indexes old new : List ℕ) (k : ℕ) (low : k < length indexes) (were : old ≡ words_on t depth indexes) (are : new ≡ take k (words_on t (depth + 1) indexes) ++ drop k old) where
  long : length old ≡ length indexes
  long = ap length were ∙ length-map indexes (λ (index : ℕ). word_on t depth index)

  rest : new ≡ take k (words_on t (depth + 1) indexes) ++ (slice_index old k ∷ drop (k + 1) old)
  rest = are ∙ ap (λ (l : List ℕ). take k (words_on t (depth + 1) indexes) ++ l) (drop_more old k 0 (let all = long in omega arith))

  front : length (take k (words_on t (depth + 1) indexes)) ≡ k
  front = length-take-le k (words_on t (depth + 1) indexes) (let all = length-map indexes (λ (index : ℕ). word_on t (depth + 1) index) in omega arith)

  -- the one that goes next is where it was
  pub next_name : slice_index new k ≡ word_on t depth (slice_index indexes k)
  next_name =
      ap (λ (l : List ℕ). slice_index l k) rest
      ∙ (get_or_at (take k (words_on t (depth + 1) indexes)) (slice_index old k) (drop (k + 1) old) 0 k front
      ∙ (ap (λ (l : List ℕ). slice_index l k) were ∙ get_or-map (λ (index : ℕ). word_on t depth index) indexes k 0 0 low))

  pub word_more : (word : ℕ) → word ≡ word_on t (depth + 1) (slice_index indexes k) → slice_set new k word ≡ take (k + 1) (words_on t (depth + 1) indexes) ++ drop (k + 1) old
  word_more word is =
      let xs = words_on t (depth + 1) indexes in
      let all = length-map indexes (λ (index : ℕ). word_on t (depth + 1) index) in
      let here : word ≡ slice_index_or xs k word = is ∙ sym (get_or-map (λ (index : ℕ). word_on t (depth + 1) index) indexes k 0 word low) in
      ap (λ (l : List ℕ). slice_set l k word) rest
      ∙ (set_at (take k xs) (slice_index old k) (drop (k + 1) old) word k front
      ∙ (sym (append_assoc (take k xs) (word ∷ []) (drop (k + 1) old))
      ∙ ap (λ (l : List ℕ). l ++ drop (k + 1) old) (ap (λ (y : ℕ). take k xs ++ (y ∷ [])) here ∙ sym (take_more xs k word (omega arith)))))
