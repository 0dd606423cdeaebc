-- A text is one listing, and shows at one line that it is none.
use Rattle.mt_told.proofs.Prelude.{◌≡◌, ℕ, ◌<◌, ◌≤◌, List, [], ◌∷◌, length, sym, ap, ◌∙◌, inl, inr, arith, flat_map, cases_lt, length-append, Kind, Range, Listing, range_text, listing_text, range_line, head_text, AreSmall, BeginsListing, IsBadAt, IsInForm}
use Rattle.mt_told.proofs.Bad.{head_good, head_of, whole}
use Rattle.mt_told.proofs.FirstLines.{heads_apart}
use Rattle.mt_told.proofs.RangeLines.{filled, one_range, ranges_apart}

cons_is : (r s : Range) (a b : List Range) → r ≡ s → a ≡ b → r ∷ a ≡ s ∷ b
cons_is r s a b first rest = cc

one_list : (a b : List Range) → AreSmall a → AreSmall b → flat_map range_line a ≡ flat_map range_line b → a ≡ b
one_list [] [] left right same = cc
one_list [] (s ∷ b) left right same = absurd (filled s (flat_map range_line b) (sym same))
one_list (r ∷ a) [] left right same = absurd (filled r (flat_map range_line a) same)
one_list (r ∷ a) (s ∷ b) left right same =
    cons_is r s a b (one_range r s _ _ left.0 right.0 same) (one_list a b left.1 right.1 (ranges_apart r s _ _ left.0 right.0 same))

abbrev of_parts : List ℕ → Kind → List Range → Listing
of_parts name kind ranges = record { name = name; kind = kind; ranges = ranges }

listing_is : (a b : Listing) → a.name ≡ b.name → a.kind ≡ b.kind → a.ranges ≡ b.ranges → a ≡ b
listing_is a b name kind ranges =
    ap (λ (n : List ℕ). of_parts n a.kind a.ranges) name ∙ (ap (λ (k : Kind). of_parts b.name k a.ranges) kind ∙ ap (λ (rs : List Range). of_parts b.name b.kind rs) ranges)

pub one_listing : (a b : Listing) → IsInForm a → IsInForm b → listing_text a ≡ listing_text b → a ≡ b
one_listing a b left right same =
    let one = heads_apart (head_of a) (head_of b) _ _ (head_good a left) (head_good b right) (sym (whole a) ∙ (same ∙ whole b)) in
    listing_is a b one.name one.kind (one_list a.ranges b.ranges left.small right.small one.rest)

pub one_line : (text : List ℕ) (m n : ℕ) → IsBadAt text m → IsBadAt text n → m ≡ n
one_line text m n left right = elim (cases_lt m n) [
  | inl less ↦ absurd (apart m n left right less)
  | inr not_less ↦ elim (cases_lt n m) [ inl less ↦ absurd (apart n m right left less) | inr not_more ↦ omega (arith, not_less, not_more) ]
]
  where
    apart : (m n : ℕ) → IsBadAt text m → IsBadAt text n → m < n → ⊥
    apart m n left right less =
        let never : BeginsListing text → ⊥ = λ begins. omega (arith, left.short begins, right.short begins, less) in
        left.with_it never (right.before m less)

each_has_a_line : (ranges : List Range) → length ranges ≤ length (flat_map range_line ranges)
each_has_a_line [] = omega arith
each_has_a_line (r ∷ ranges) =
    let more = each_has_a_line ranges in
    omega (arith, more, length-append (range_line r) (flat_map range_line ranges), length-append (range_text r) (10 ∷ []))

-- a listing has no more ranges than its text has bytes
pub few_ranges : (l : Listing) → length l.ranges ≤ length (listing_text l)
few_ranges l = omega (arith, each_has_a_line l.ranges, ap length (whole l), length-append (head_text (head_of l)) (flat_map range_line l.ranges))
