-- Lines of a listing, one behind the other, stand at the front of a text in one way.
use Rattle.mt_told.proofs.Prelude.{◌≡◌, ℕ, ◌+◌, ◌<◌, List, ◌∷◌, ◌++◌, Option, Some, None, IfNone, length, get_or, drop, append_assoc, sym, ap, ◌∙◌, flat_map, append_cancel_left, drop_more, Range, Listing, listing_text, range_line, head_line}

-- ---- ranges

-- what stands in front of all lines is what stands in front of those that are left
pub record RangesGoOn (text rest : List ℕ) (ranges : List Range) (i : ℕ) : Type 0 where
  pub some : (end : List ℕ) → rest ≡ flat_map range_line (drop i ranges) ++ end → text ≡ flat_map range_line ranges ++ end
  pub only : (end : List ℕ) → text ≡ flat_map range_line ranges ++ end → rest ≡ flat_map range_line (drop i ranges) ++ end

module _ (text rest : List ℕ) (ranges : List Range) (i : ℕ) (so_far : RangesGoOn text rest ranges i) (r : Range) (within : i < length ranges) (is : r ≡ get_or ranges i r) where
  left : (end : List ℕ) → flat_map range_line (drop i ranges) ++ end ≡ range_line r ++ (flat_map range_line (drop (i + 1) ranges) ++ end)
  left end =
      ap (λ (rs : List Range). flat_map range_line rs ++ end) (drop_more ranges i r within ∙ ap (λ (x : Range). x ∷ drop (i + 1) ranges) (sym is))
      ∙ append_assoc (range_line r) (flat_map range_line (drop (i + 1) ranges)) end

  pub ranges_stop : ((end : List ℕ) → rest ≡ range_line r ++ end → ⊥) → (end : List ℕ) → text ≡ flat_map range_line ranges ++ end → ⊥
  ranges_stop none end whole = none (flat_map range_line (drop (i + 1) ranges) ++ end) (so_far.only end whole ∙ left end)

  pub ranges_go_on : (mid : List ℕ) → rest ≡ range_line r ++ mid → RangesGoOn text mid ranges (i + 1)
  ranges_go_on mid at = record {
    some = λ end h. so_far.some end (at ∙ (ap (λ (t : List ℕ). range_line r ++ t) h ∙ sym (left end)));
    only = λ end whole. append_cancel_left (range_line r) mid (flat_map range_line (drop (i + 1) ranges) ++ end) (sym at ∙ (so_far.only end whole ∙ left end));
  }

-- ---- a listing

listing_right : (l : Listing) (rest : List ℕ) → listing_text l ++ rest ≡ head_line l.name l.kind (length l.ranges) ++ (flat_map range_line l.ranges ++ rest)
listing_right l rest = simp append_assoc

pub no_head : (l : Listing) (text : List ℕ) → ((rest : List ℕ) → text ≡ head_line l.name l.kind (length l.ranges) ++ rest → ⊥) → (rest : List ℕ) → text ≡ listing_text l ++ rest → ⊥
no_head l text none rest is = none (flat_map range_line l.ranges ++ rest) (is ∙ listing_right l rest)

if_none : {A : Type 0} {P Q : Type 0} (found : Option A) → (P → Q) → IfNone found P → IfNone found Q
if_none None more h = more h
if_none (Some x) more h = tt

pub no_listing : {A : Type 0} (l : Listing) (text lines : List ℕ) (found : Option A) → text ≡ head_line l.name l.kind (length l.ranges) ++ lines → IfNone found ((rest : List ℕ) → lines ≡ flat_map range_line l.ranges ++ rest → ⊥) → IfNone found ((rest : List ℕ) → text ≡ listing_text l ++ rest → ⊥)
no_listing l text lines found at none =
    if_none found (λ (h : (rest : List ℕ) → lines ≡ flat_map range_line l.ranges ++ rest → ⊥) rest is.
    h rest (append_cancel_left (head_line l.name l.kind (length l.ranges)) lines (flat_map range_line l.ranges ++ rest) (sym at ∙ (is ∙ listing_right l rest)))) none
