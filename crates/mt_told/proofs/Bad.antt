-- Where what is read ends, it shows that the text is no listing.
use Rattle.mt_told.proofs.Prelude.{◌≡◌, ◌≢◌, ℕ, zero, suc, ◌+◌, ◌-◌, ◌≤◌, ◌<◌, ◌^◌, true, List, [], ◌∷◌, ◌++◌, codes, length, take, drop, append_assoc, refl, sym, ap, ◌∙◌, subst, inl, inr, arith, replicate, take-append-drop, ◌==◌, flat_map, eqb-true, ltb-true, flat_map-append, append-nil, length-append, length-replicate, Range, range_text, Listing, listing_text, range_line, AreRangesBefore, BeginsWithNoHead, BeginsWithNoRange, IsHead, IsHeadBefore, HasNoByte, head_text, AreSmall, BeginsListing, IsBadAt, IsInForm, IsListing, ended_lines, first_lines, ListingHead}
use Rattle.mt_base.specs.declared.kinds.Kind.TheVariants as kinds
use Rattle.mt_told.proofs.FirstLines.{head_in_line, head_is_line, head_words, heads_apart}
use Rattle.mt_told.proofs.Lines.{HasLine, ended_behind, ended_of_ranges, few_of_ranges, first_line, first_of_piece, firsts_behind, firsts_of_ranges, none_ended}
use Rattle.mt_told.proofs.RangeLines.{range_in_line, ranges_apart}
use Rattle.mt_told.proofs.Words.{apart}

-- ---- a listing's text

abbrev pub head_of : Listing → ListingHead
head_of l = record { name = l.name; kind = l.kind; count = length l.ranges }

abbrev listed : ListingHead → List Range → Listing
listed h ranges = record { name = h.name; kind = h.kind; ranges = ranges }

pub head_good : (l : Listing) → IsInForm l → IsHead (head_of l)
head_good l form = record { named = form.named; small = form.counted }

pub whole : (l : Listing) → listing_text l ≡ head_text (head_of l) ++ flat_map range_line l.ranges
whole l = simp append_assoc

-- ---- what a listing goes on with

pub record GoesOn (count : ℕ) (done : List Range) (behind : List ℕ) : Type 0 where
  pub left : List Range
  pub counted : length done + length left ≡ count
  pub small : AreSmall left
  pub is : behind ≡ flat_map range_line left

ranges_go_on : (done all : List Range) (behind : List ℕ) → AreSmall done → AreSmall all → flat_map range_line done ++ behind ≡ flat_map range_line all → GoesOn (length all) done behind
ranges_go_on [] all behind small all_small is = record { left = all; counted = omega arith; small = all_small; is = is }
ranges_go_on (r ∷ done) [] behind small all_small is = absurd (too_long (range_text r) (flat_map range_line done ++ behind) (sym (simp append_assoc) ∙ is))
  where
    too_long : (words rest : List ℕ) → words ++ (10 ∷ rest) ≡ [] → ⊥
    too_long words rest none = let long = ap length none in absurd (omega (arith, long, length-append words (10 ∷ rest)))
ranges_go_on (r ∷ done) (s ∷ all) behind small all_small is =
    let rest : flat_map range_line done ++ behind ≡ flat_map range_line all = ranges_apart r s _ _ small.0 all_small.0 (sym (append_assoc (range_line r) (flat_map range_line done) behind) ∙ is) in
    let more = ranges_go_on done all behind small.1 all_small.1 rest in
    record { left = more.left; counted = omega (arith, more.counted); small = more.small; is = more.is }

-- a listing whose text begins with a first line and these ranges
goes_on : (h : ListingHead) (done : List Range) (behind : List ℕ) → IsHead h → AreSmall done → IsListing (head_text h ++ (flat_map range_line done ++ behind)) → GoesOn h.count done behind
goes_on h done behind good small (l, (form, is)) =
    let one = heads_apart h (head_of l) _ _ good (head_good l form) (is ∙ whole l) in
    subst (λ (n : ℕ). GoesOn n done behind) (sym one.count) (ranges_go_on done l.ranges behind small form.small one.rest)

-- ---- a first line that is ended is one of these lines, whatever stands behind it

goes_wrong : (text words rest more : List ℕ) → HasNoByte 10 words → text ≡ words ++ (10 ∷ rest) → BeginsWithNoRange text → BeginsWithNoRange (words ++ (10 ∷ more))
goes_wrong text words rest more one is none r end small same =
    let line : words ≡ range_text r = (apart 10 words (range_text r) more end one (range_in_line r small) (same ∙ append_assoc (range_text r) (10 ∷ []) end)).0 in
    none r rest small (is ∙ (ap (λ (w : List ℕ). w ++ (10 ∷ rest)) line ∙ sym (append_assoc (range_text r) (10 ∷ []) rest)))

head_goes_wrong : (text words rest more : List ℕ) → HasNoByte 10 words → text ≡ words ++ (10 ∷ rest) → BeginsWithNoHead text → BeginsWithNoHead (words ++ (10 ∷ more))
head_goes_wrong text words rest more one is none h end good same =
    let line : words ≡ head_words h = (apart 10 words (head_words h) more end one (head_in_line h good) (same ∙ (ap (λ (t : List ℕ). t ++ end) (head_is_line h) ∙ append_assoc (head_words h) (10 ∷ []) end))).0 in
    none h rest good (is ∙ (ap (λ (w : List ℕ). w ++ (10 ∷ rest)) line ∙ (sym (append_assoc (head_words h) (10 ∷ []) rest) ∙ ap (λ (t : List ℕ). t ++ rest) (sym (head_is_line h)))))

-- ---- nothing begins a listing

begins_nothing : BeginsListing []
begins_nothing =
    let l : Listing = record { name = codes "a"; kind = kinds.Range; ranges = [] } in
    (listing_text l, (l, (record { named = refl; counted = ltb-true 0 (2 ^ 64) refl; small = tt }, refl)))

no_head_is_none : (text : List ℕ) → BeginsWithNoHead text → IsListing text → ⊥
no_head_is_none text none (l, (form, is)) = none (head_of l) (flat_map range_line l.ranges) (head_good l form) (is ∙ whole l)

pub no_head : (text : List ℕ) → BeginsWithNoHead text → IsBadAt text 1
no_head text none = record {
  none = no_head_is_none text none;
  short = λ begins. (elim (first_line text) [
    | inl piece ↦ ap (λ (n : ℕ). n + 1) (sym (none_ended text piece))
    | inr line ↦ absurd (behind line (line.rest ++ begins.0) (subst IsListing (ap (λ (t : List ℕ). t ++ begins.0) line.is ∙ append_assoc line.words (10 ∷ line.rest) begins.0) begins.1))
  ]);
  with_it = λ never begins. (elim (first_line text) [
    | inl piece ↦ never (subst BeginsListing (first_of_piece text 0 piece) begins)
    | inr line ↦ behind line begins.0 (subst IsListing (ap (λ (t : List ℕ). t ++ begins.0) (ap (first_lines 1) line.is ∙ firsts_behind line.words line.rest 0 line.one) ∙ append_assoc line.words (10 ∷ []) begins.0) begins.1)
  ]);
  before = before;
}
  where
    before : (n : ℕ) → n < 1 → BeginsListing (first_lines n text)
    before zero least = begins_nothing
    before (suc n) least = absurd (omega (arith, least))

    behind : (line : HasLine text) (more : List ℕ) → IsListing (line.words ++ (10 ∷ more)) → ⊥
    behind line more = no_head_is_none (line.words ++ (10 ∷ more)) (head_goes_wrong text line.words line.rest more line.one line.is none)

-- ---- a first line and some ranges were read

-- the range that stands for those to come
abbrev zeros : Range
zeros = record { first = 0; last = 0; entry = 0 }

-- the ranges that were read, and such ones up to this count
abbrev filled_up : ℕ → List Range → List Range
filled_up count done = done ++ replicate (count - length done) zeros

zeros_small : (n : ℕ) → AreSmall (replicate n zeros)
zeros_small zero = tt
zeros_small (suc n) = ((ltb-true 0 (2 ^ 64) refl, ltb-true 0 (2 ^ 64) refl, ltb-true 0 (2 ^ 64) refl), zeros_small n)

small_append : (a b : List Range) → AreSmall a → AreSmall b → AreSmall (a ++ b)
small_append [] b left right = right
small_append (r ∷ a) b left right = (left.0, small_append a b left.1 right)

module _ (text lines rest : List ℕ) (h : ListingHead) (done : List Range) (head : IsHeadBefore text h lines) (read : AreRangesBefore lines done rest) (few : length done ≤ h.count) where
  is_text : text ≡ head_text h ++ (flat_map range_line done ++ rest)
  is_text = head.printed ∙ ap (λ (t : List ℕ). head_text h ++ t) read.printed

  with_more : (more : List ℕ) → text ++ more ≡ head_text h ++ (flat_map range_line done ++ (rest ++ more))
  with_more more = ap (λ (t : List ℕ). t ++ more) is_text ∙ simp append_assoc

  -- the first lines of the text, behind those that were read
  firsts : (n : ℕ) → first_lines (suc (length done + n)) text ≡ head_text h ++ (flat_map range_line done ++ first_lines n rest)
  firsts n =
      ap (first_lines (suc (length done + n))) (is_text ∙ (ap (λ (t : List ℕ). t ++ (flat_map range_line done ++ rest)) (head_is_line h) ∙ append_assoc (head_words h) (10 ∷ []) (flat_map range_line done ++ rest)))
      ∙ (firsts_behind (head_words h) (flat_map range_line done ++ rest) (length done + n) (head_in_line h head.head)
      ∙ (ap (λ (t : List ℕ). head_words h ++ (10 ∷ t)) (firsts_of_ranges done rest n read.small)
      ∙ (sym (append_assoc (head_words h) (10 ∷ []) (flat_map range_line done ++ first_lines n rest)) ∙ ap (λ (t : List ℕ). t ++ (flat_map range_line done ++ first_lines n rest)) (sym (head_is_line h)))))

  few_firsts : (n : ℕ) → n ≤ length done → first_lines (suc n) text ≡ head_text h ++ flat_map range_line (take n done)
  few_firsts n within =
      ap (first_lines (suc n)) (is_text ∙ (ap (λ (t : List ℕ). t ++ (flat_map range_line done ++ rest)) (head_is_line h) ∙ append_assoc (head_words h) (10 ∷ []) (flat_map range_line done ++ rest)))
      ∙ (firsts_behind (head_words h) (flat_map range_line done ++ rest) n (head_in_line h head.head)
      ∙ (ap (λ (t : List ℕ). head_words h ++ (10 ∷ t)) (few_of_ranges done rest n read.small within)
      ∙ (sym (append_assoc (head_words h) (10 ∷ []) (flat_map range_line (take n done))) ∙ ap (λ (t : List ℕ). t ++ flat_map range_line (take n done)) (sym (head_is_line h)))))

  ended : ended_lines text ≡ 1 + (length done + ended_lines rest)
  ended =
      let line = ap ended_lines (is_text ∙ (ap (λ (t : List ℕ). t ++ (flat_map range_line done ++ rest)) (head_is_line h) ∙ append_assoc (head_words h) (10 ∷ []) (flat_map range_line done ++ rest)))
      ∙ ended_behind (head_words h) (flat_map range_line done ++ rest) (head_in_line h head.head) in
      let more = ended_of_ranges done rest read.small in
      omega (arith, line, more)

  -- what was read begins a listing
  as_many : length (filled_up h.count done) ≡ h.count
  as_many = omega (arith, few, length-append done (replicate (h.count - length done) zeros), length-replicate (h.count - length done) zeros)

  all_in_form : IsInForm (listed h (filled_up h.count done))
  all_in_form = record {
    named = head.head.named;
    counted = let small = head.head.small in omega (arith, small, as_many);
    small = small_append done (replicate (h.count - length done) zeros) read.small (zeros_small (h.count - length done));
  }

  begins_with : (n : ℕ) → BeginsListing (head_text h ++ flat_map range_line (take n done))
  begins_with n =
      let more : List ℕ = flat_map range_line (drop n done ++ replicate (h.count - length done) zeros) in
      let parts : take n done ++ (drop n done ++ replicate (h.count - length done) zeros) ≡ (filled_up h.count done) =
      sym (append_assoc (take n done) (drop n done) (replicate (h.count - length done) zeros)) ∙ ap (λ (rs : List Range). rs ++ replicate (h.count - length done) zeros) (take-append-drop n done) in
      let ranges : flat_map range_line (take n done) ++ more ≡ flat_map range_line (filled_up h.count done) =
      sym (flat_map-append range_line (take n done) (drop n done ++ replicate (h.count - length done) zeros)) ∙ ap (flat_map range_line) parts in
      let heads : head_text h ≡ head_text (head_of (listed h (filled_up h.count done))) = ap (λ (n : ℕ). head_text (record { name = h.name; kind = h.kind; count = n })) (sym as_many) in (
        more,
        (
          listed h (filled_up h.count done),
          (
            all_in_form,
            append_assoc (head_text h) (flat_map range_line (take n done)) more
                ∙ (ap (λ (t : List ℕ). head_text h ++ t) ranges
                ∙ (ap (λ (t : List ℕ). t ++ flat_map range_line (filled_up h.count done)) heads ∙ sym (whole (listed h (filled_up h.count done))))),
          ),
        ),
      )

  before : (n : ℕ) → n < length done + 2 → BeginsListing (first_lines n text)
  before zero least = begins_nothing
  before (suc n) least = subst BeginsListing (sym (few_firsts n (omega (arith, least)))) (begins_with n)

  module _ (unless : length done < h.count → BeginsWithNoRange rest) (more_is : length done ≡ h.count → rest ≢ []) where
    -- no listing goes on so
    never : (behind : List ℕ) → (length done < h.count → BeginsWithNoRange behind) → (length done ≡ h.count → behind ≢ []) → IsListing (head_text h ++ (flat_map range_line done ++ behind)) → ⊥
    never behind no_range some listing = go (goes_on h done behind head.head read.small listing)
      where
        go : GoesOn h.count done behind → ⊥
        go g = ends g.left g.counted g.small g.is
          where
            ends : (left : List Range) → length done + length left ≡ h.count → AreSmall left → behind ≡ flat_map range_line left → ⊥
            ends [] counted small is = some (omega (arith, counted)) is
            ends (r ∷ left) counted small is = no_range (omega (arith, counted)) r (flat_map range_line left) small.0 is

    filled : (words more : List ℕ) → words ++ (10 ∷ more) ≢ []
    filled words more none = let long = ap length none in absurd (omega (arith, long, length-append words (10 ∷ more)))

    behind_line : (line : HasLine rest) (more : List ℕ) → IsListing (head_text h ++ (flat_map range_line done ++ (line.words ++ (10 ∷ more)))) → ⊥
    behind_line line more = never (line.words ++ (10 ∷ more)) (λ less. goes_wrong rest line.words line.rest more line.one line.is (unless less)) (λ all. filled line.words more)

    plus_two : (n : ℕ) → n + 2 ≡ suc (n + 1)
    plus_two n = omega arith

    shows_behind : IsBadAt text (length done + 2)
    shows_behind = record {
      none = λ listing. never rest unless more_is (subst IsListing is_text listing);
      short = λ begins. (elim (first_line rest) [
        | inl piece ↦ omega (arith, ended, none_ended rest piece)
        | inr line ↦ absurd (behind_line line (line.rest ++ begins.0) (subst IsListing
            (with_more begins.0 ∙ ap (λ (t : List ℕ). head_text h ++ (flat_map range_line done ++ t)) (ap (λ (t : List ℕ). t ++ begins.0) line.is ∙ append_assoc line.words (10 ∷ line.rest) begins.0)) begins.1))
      ]);
      with_it = λ stops begins. (elim (first_line rest) [
        | inl piece ↦ stops (subst BeginsListing
            (ap (λ (n : ℕ). first_lines n text) (plus_two (length done)) ∙ (firsts 1 ∙ (ap (λ (t : List ℕ). head_text h ++ (flat_map range_line done ++ t)) (first_of_piece rest 0 piece) ∙ sym is_text))) begins)
        | inr line ↦ behind_line line begins.0 (subst IsListing
            (ap (λ (t : List ℕ). t ++ begins.0) (ap (λ (n : ℕ). first_lines n text) (plus_two (length done)) ∙ (firsts 1 ∙ ap (λ (t : List ℕ). head_text h ++ (flat_map range_line done ++ t)) (ap (first_lines 1) line.is ∙ firsts_behind line.words line.rest 0 line.one))) ∙ simp append_assoc) begins.1)
      ]);
      before = before;
    }

    -- where so many ranges were found
    pub no_more : (found : ℕ) → found ≡ length done → IsBadAt text (found + 2)
    no_more found is = subst (λ (n : ℕ). IsBadAt text (n + 2)) (sym is) shows_behind

-- ---- and all of it

gone : (rest : List ℕ) → true ≡ (length rest == 0) → rest ≡ []
gone [] empty = refl
gone (byte ∷ rest) empty = let none : length (byte ∷ rest) ≡ 0 = eqb-true (length (byte ∷ rest)) 0 (sym empty) in absurd (omega (arith, none))

pub in_form : (text lines rest : List ℕ) (h : ListingHead) (done ranges : List Range) → IsHeadBefore text h lines → AreRangesBefore lines done rest → true ≡ (length rest == 0) → length done ≡ h.count → ranges ≡ done
    → IsInForm (listed h ranges) × (text ≡ listing_text (listed h ranges))
in_form text lines rest h done ranges head read empty all are =
    let heads : head_text h ≡ head_text (head_of (listed h done)) = ap (λ (n : ℕ). head_text (record { name = h.name; kind = h.kind; count = n })) (sym all) in
    let small = head.head.small in
    let last : flat_map range_line done ++ rest ≡ flat_map range_line done = ap (λ (t : List ℕ). flat_map range_line done ++ t) (gone rest empty) ∙ append-nil (flat_map range_line done) in
    subst (λ (rs : List Range). IsInForm (listed h rs) × (text ≡ listing_text (listed h rs))) (sym are) (
      record { named = head.head.named; counted = omega (arith, small, all); small = read.small },
      head.printed ∙ (ap (λ (t : List ℕ). head_text h ++ t) (read.printed ∙ last) ∙ (ap (λ (t : List ℕ). t ++ flat_map range_line done) heads ∙ sym (whole (listed h done)))),
    )
