-- Rows of a chunk, one after another: what each begins with, and what is behind it.
use Rattle.mt_bulk.proofs.Prelude.{◌≡◌, ℕ, zero, suc, ◌+◌, ◌-◌, ◌<◌, ◌≤◌, Bool, List, [], ◌∷◌, ◌++◌, length, map, take, drop, refl, sym, ap, ◌∙◌, subst, arith, length-take, length-drop, append_assoc, zero-add, slice_index, slice_index_or, drop_more, take-append-drop, Kind, columns, Width, Item, RowKind, end_of, row_words, RiseFrom, name_at, slots_of, gaps_of, after, after-append, after_some, gap_below, heads, words_of, CanFill, begins_at, rows_between}
use Rattle.mt_bulk.proofs.Rows.{rise_front}

-- ---- where rows begin

take_none : {A : Type 0} → (n : ℕ) → ◌≡◌ {A = List A} (take n []) []
take_none zero = refl
take_none (suc n) = refl

pub take_both : {A : Type 0} → (f n : ℕ) (items : List A) → take (f + n) items ≡ take f items ++ take n (drop f items)
take_both {A} zero n items = ap (λ (k : ℕ). take k items) (zero-add n)
take_both {A} (suc f) n [] = let more : suc f + n ≡ suc (f + n) = omega arith in ap (λ (k : ℕ). take {A = A} k []) more ∙ sym (take_none n)
take_both {A} (suc f) n (x ∷ items) = let more : suc f + n ≡ suc (f + n) = omega arith in ap (λ (k : ℕ). take k (x ∷ items)) more ∙ ap (λ (l : List A). x ∷ l) (take_both f n items)

begins_after : (at lo : ℕ) (items : List Item) → at < length items → slice_index (map (λ x. x.last) items) at + 1 ≡ after lo (take (suc at) items)
begins_after at lo [] within = absurd (omega arith)
begins_after zero lo (x ∷ items) within = refl
begins_after (suc at) lo (x ∷ items) within = begins_after at (x.last + 1) items (omega arith)

pub begins_is : (at : ℕ) (items : List Item) → at ≤ length items → begins_at items at ≡ after 0 (take at items)
begins_is zero items within = refl
begins_is (suc at) items within = begins_after at 0 items (omega arith)

-- the index behind a row is that at which the next begins
pub row_ends : (items : List Item) (from end d : ℕ) → from < end → end ≤ length items → end_of d (take (end - from) (drop from items)) + 1 ≡ begins_at items end
row_ends items from end d some within =
    let both : from + (end - from) ≡ end = omega arith in
    let long = length-drop from items in
    let row = take (end - from) (drop from items) in
    let many : 1 ≤ length row = omega (arith, length-take (end - from) (drop from items)) in
    sym (begins_is end items within
    ∙ (ap (λ (n : ℕ). after 0 (take n items)) (sym both)
    ∙ (ap (after 0) (take_both from (end - from) items)
    ∙ (after-append 0 (take from items) row ∙ after_some (after 0 (take from items)) d row many))))

pub length_row_between : (items : List Item) (from end : ℕ) → from < end → end ≤ length items → length (take (end - from) (drop from items)) ≡ end - from
length_row_between items from end some within = omega (arith, length-take (end - from) (drop from items), length-drop from items)

-- ---- they rise

rise_behind : (from lo : ℕ) (items : List Item) → RiseFrom lo items → RiseFrom (after lo (take from items)) (drop from items)
rise_behind zero lo items rise = rise
rise_behind (suc from) lo [] rise = tt
rise_behind (suc from) lo (x ∷ items) rise = rise_behind from (x.last + 1) items rise.1

pub row_rises : (items : List Item) (from end : ℕ) → from < end → end ≤ length items → RiseFrom 0 items → RiseFrom (begins_at items from) (take (end - from) (drop from items))
row_rises items from end some within rise =
    let behind = subst (λ (n : ℕ). RiseFrom n (drop from items)) (sym (begins_is from items (omega arith))) (rise_behind from 0 items rise) in
    rise_front (begins_at items from) (take (end - from) (drop from items)) (drop (end - from) (drop from items))
    (subst (RiseFrom (begins_at items from)) (sym (take-append-drop (end - from) (drop from items))) behind)

-- the items before the last end below the last
pub rise_next : (items : List Item) (lo at : ℕ) (none : Item) → RiseFrom lo items → suc at < length items → (slice_index_or items at none).last + 1 ≤ (slice_index_or items (suc at) none).last
rise_next [] lo at none rise within = absurd (omega arith)
rise_next (x ∷ []) lo at none rise within = absurd (omega arith)
rise_next (x ∷ y ∷ items) lo zero none rise within = rise.1.0
rise_next (x ∷ y ∷ items) lo (suc at) none rise within = rise_next (y ∷ items) (x.last + 1) at none rise.1 (omega arith)

pub last_at : (items : List Item) (at : ℕ) (none : Item) → at < length items → slice_index (map (λ x. x.last) items) at ≡ (slice_index_or items at none).last
last_at [] at none within = absurd (omega arith)
last_at (x ∷ items) zero none within = refl
last_at (x ∷ items) (suc at) none within = last_at items at none (omega arith)

pub first_below : (items : List Item) (from : ℕ) (none : Item) → 1 ≤ from → from < length items → RiseFrom 0 items → (slice_index_or items (from - 1) none).last < (slice_index_or items from none).last
first_below items from none some within rise =
    let place : suc (from - 1) ≡ from = omega arith in
    let low = rise_next items 0 (from - 1) none rise (omega arith) in
    let high = ap (λ (n : ℕ). (slice_index_or items n none).last) place in
    omega arith

pub begins_last : (items : List Item) (from : ℕ) (none : Item) → 1 ≤ from → from < length items → (slice_index_or items (from - 1) none).last + 1 ≡ begins_at items from
begins_last items zero none some within = absurd (omega arith)
begins_last items (suc from) none some within =
    let place : suc from - 1 ≡ from = omega arith in
    sym (ap (λ (n : ℕ). n + 1) (last_at items from none (omega arith)) ∙ ap (λ (n : ℕ). (slice_index_or items n none).last + 1) (sym place))

-- ---- a row more

pub next_fill : (tree : Kind) (kind : RowKind) (items : List Item) (from at : ℕ) (ends : List ℕ) → at < length ends → CanFill tree kind items from (drop at ends) → CanFill tree kind items from (slice_index ends at ∷ drop (at + 1) ends)
next_fill tree kind items from at ends within fill = subst (CanFill tree kind items from) (drop_more ends at 0 within) fill

pub next_words : (width : Width) (kind : RowKind) (items : List Item) (from at : ℕ) (parents ends : List ℕ) → at < length ends → length parents ≡ length ends
    → words_of width kind (drop at parents) (rows_between items from (drop at ends))
    ≡ row_words (columns width) (slots_of width kind) (gaps_of width kind) (slice_index parents at) (take (slice_index ends at - from) (drop from items)) ++ words_of width kind (drop (at + 1) parents) (rows_between items (slice_index ends at) (drop (at + 1) ends))
next_words width kind items from at parents ends within same =
    let p = drop_more parents at 0 (omega arith) in
    let e = drop_more ends at 0 within in
    (λ i. words_of width kind (p i) (rows_between items from (e i)))

pub next_heads : (gapped : Bool) (kind : RowKind) (items : List Item) (from at number : ℕ) (ends : List ℕ) → at < length ends → from < slice_index ends at → slice_index ends at ≤ length items
    → heads gapped kind (begins_at items from) (number + at) (rows_between items from (drop at ends))
    ≡ record { last = end_of (begins_at items from) (take (slice_index ends at - from) (drop from items)); word = name_at (number + at) kind; gap = gap_below gapped kind (begins_at items from) (take (slice_index ends at - from) (drop from items)) }
    ∷ heads gapped kind (begins_at items (slice_index ends at)) (number + (at + 1)) (rows_between items (slice_index ends at) (drop (at + 1) ends))
next_heads gapped kind items from at number ends within some inside =
    let e = drop_more ends at 0 within in
    let end = slice_index ends at in
    let row = take (end - from) (drop from items) in
    let head : Item = record { last = end_of (begins_at items from) row; word = name_at (number + at) kind; gap = gap_below gapped kind (begins_at items from) row } in
    let behind = row_ends items from end (begins_at items from) some inside in
    let next : number + at + 1 ≡ number + (at + 1) = omega arith in
    (λ i. heads gapped kind (begins_at items from) (number + at) (rows_between items from (e i)))
    ∙ (λ i. head ∷ heads gapped kind (behind i) (next i) (rows_between items end (drop (at + 1) ends)))

pub step_words : (W width : Width) → W ≡ width → (kind : RowKind) (items : List Item) (from at : ℕ) (parents ends : List ℕ) → at < length ends → length parents ≡ length ends
    → (old new whole : List ℕ) → new ≡ old ++ row_words (columns W) (slots_of W kind) (gaps_of W kind) (slice_index parents at) (take (slice_index ends at - from) (drop from items))
    → old ++ words_of width kind (drop at parents) (rows_between items from (drop at ends)) ≡ whole
    → new ++ words_of width kind (drop (at + 1) parents) (rows_between items (slice_index ends at) (drop (at + 1) ends)) ≡ whole
step_words W width is kind items from at parents ends within same old new whole pushed told =
    let rest = words_of width kind (drop (at + 1) parents) (rows_between items (slice_index ends at) (drop (at + 1) ends)) in
    let row = take (slice_index ends at - from) (drop from items) in
    ap (λ (l : List ℕ). l ++ rest) pushed
    ∙ (append_assoc old (row_words (columns W) (slots_of W kind) (gaps_of W kind) (slice_index parents at) row) rest
    ∙ ((λ i. old ++ (row_words (columns (is i)) (slots_of (is i) kind) (gaps_of (is i) kind) (slice_index parents at) row ++ rest))
    ∙ (ap (λ (l : List ℕ). old ++ l) (sym (next_words width kind items from at parents ends within same)) ∙ told)))

pub step_heads : (G gapped : Bool) → G ≡ gapped → (kind : RowKind) (items : List Item) (from at number F : ℕ) (ends : List ℕ) → at < length ends → from < slice_index ends at → slice_index ends at ≤ length items → F ≡ begins_at items from
    → (old new whole : List Item) → new ≡ old ++ record { last = end_of F (take (slice_index ends at - from) (drop from items)); word = name_at (number + at) kind; gap = gap_below G kind F (take (slice_index ends at - from) (drop from items)) } ∷ []
    → old ++ heads gapped kind (begins_at items from) (number + at) (rows_between items from (drop at ends)) ≡ whole
    → new ++ heads gapped kind (begins_at items (slice_index ends at)) (number + (at + 1)) (rows_between items (slice_index ends at) (drop (at + 1) ends)) ≡ whole
step_heads G gapped is kind items from at number F ends within some inside first old new whole pushed told =
    let rest = heads gapped kind (begins_at items (slice_index ends at)) (number + (at + 1)) (rows_between items (slice_index ends at) (drop (at + 1) ends)) in
    let row = take (slice_index ends at - from) (drop from items) in
    ap (λ (l : List Item). l ++ rest) pushed
    ∙ (append_assoc old (record { last = end_of F row; word = name_at (number + at) kind; gap = gap_below G kind F row } ∷ []) rest
    ∙ ((λ i. old ++ (record { last = end_of (first i) row; word = name_at (number + at) kind; gap = gap_below (is i) kind (first i) row } ∷ rest))
    ∙ (ap (λ (l : List Item). old ++ l) (sym (next_heads gapped kind items from at number ends within some inside)) ∙ told)))
