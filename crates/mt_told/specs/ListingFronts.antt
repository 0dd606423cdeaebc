-- What the text of a listing begins with: words, the first line, and lines of ranges.
-- Source: this project's own.
use Rattle.std.specs.Prelude.{◌≡◌, ℕ, ◌<◌, ◌^◌, true, List, ◌∷◌, ◌++◌, Some, flat_map}
use Rattle.mt_told.specs.Prelude.{Kind, Range, kind_text, is_name, range_line}
use Rattle.mt_told.specs.Comparing.{head_line}
use Rattle.mt_told.specs.Fronts.{HasNoByte}
use Rattle.mt_told.specs.Telling.{IsSmallRange}
use Rattle.mt_told.specs.Listings.{AreSmall}
use Rattle.mt_told.specs.declared.heads.ListingHead.{ListingHead}

-- a word without spaces stands in front, before a space and the rest
pub record IsWordBefore (text word rest : List ℕ) : Type 0 where
  pub printed : text ≡ word ++ (32 ∷ rest)
  pub spaceless : HasNoByte 32 word

-- a name does, and no other name
pub record IsNameBefore (text name rest : List ℕ) : Type 0 where
  pub named : is_name name ≡ true
  pub printed : text ≡ name ++ (32 ∷ rest)
  pub only : (other r : List ℕ) → is_name other ≡ true → text ≡ other ++ (32 ∷ r) → (other ≡ name) × (r ≡ rest)

-- a kind does, and no other kind
pub record IsKindBefore (text : List ℕ) (kind : Kind) (rest : List ℕ) : Type 0 where
  pub printed : text ≡ kind_text kind ++ (32 ∷ rest)
  pub only : (other : Kind) (r : List ℕ) → text ≡ kind_text other ++ (32 ∷ r) → (other ≡ kind) × (r ≡ rest)

-- ---- lines

abbrev pub head_text : ListingHead → List ℕ
head_text h = head_line h.name h.kind h.count

pub record IsHead (h : ListingHead) : Type 0 where
  pub named : is_name h.name ≡ true
  pub small : h.count < 2 ^ 64

-- the text begins with the first line of a listing, before the rest
pub record IsHeadBefore (text : List ℕ) (h : ListingHead) (rest : List ℕ) : Type 0 where
  pub head : IsHead h
  pub printed : text ≡ head_text h ++ rest

abbrev pub BeginsWithNoHead : List ℕ → Type 0
BeginsWithNoHead text = (h : ListingHead) (rest : List ℕ) → IsHead h → text ≡ head_text h ++ rest → ⊥

-- the line of a range does
pub record IsRangeLineBefore (text : List ℕ) (r : Range) (rest : List ℕ) : Type 0 where
  pub small : IsSmallRange (Some r)
  pub printed : text ≡ range_line r ++ rest

abbrev pub BeginsWithNoRange : List ℕ → Type 0
BeginsWithNoRange text = (r : Range) (rest : List ℕ) → IsSmallRange (Some r) → text ≡ range_line r ++ rest → ⊥

-- the lines of these ranges do
pub record AreRangesBefore (text : List ℕ) (ranges : List Range) (rest : List ℕ) : Type 0 where
  pub small : AreSmall ranges
  pub printed : text ≡ flat_map range_line ranges ++ rest
