-- Which texts are listings, which ones begin a listing, and at which line it shows that a text is neither.
-- Source: this project's own, the form in which its program lists a tree.
use Rattle.std.specs.Prelude.{◌≡◌, ◌==◌, ℕ, zero, suc, ◌<◌, ◌+◌, ◌^◌, true, List, [], ◌∷◌, ◌++◌, Some, filter, length, if◌then◌else◌}
use Rattle.std.specs.List.{AllByRecursion}
use Rattle.mt_told.specs.Prelude.{Range, Listing, is_name, listing_text}
use Rattle.mt_told.specs.Telling.{IsSmallRange}
use Rattle.mt_told.specs.declared.errors.ListingError.{ListingError}
use Rattle.mt_told.specs.declared.errors.ListingError.TheVariants.{Bad, NoMemory}

-- numbers of 64 bits
abbrev pub AreSmall : List Range → Type 0
AreSmall ranges = AllByRecursion (λ (r : Range). IsSmallRange (Some r)) ranges

-- a listing that a text can be: of a name, with numbers of 64 bits. The order of the ranges is no part of the form.
pub record IsInForm (l : Listing) : Type 0 where
  pub named : is_name l.name ≡ true
  pub counted : length l.ranges < 2 ^ 64
  pub small : AreSmall l.ranges

-- the text is a listing
abbrev pub IsListing : List ℕ → Type 0
IsListing text = (l : Listing) × (IsInForm l × (text ≡ listing_text l))

-- with more bytes after it, the text would be a listing
abbrev pub BeginsListing : List ℕ → Type 0
BeginsListing text = (more : List ℕ) × IsListing (text ++ more)

-- the first `n` lines of a text, each with its LF, if it has one
abbrev pub first_lines : ℕ → List ℕ → List ℕ
first_lines zero text = []
first_lines (suc n) [] = []
first_lines (suc n) (byte ∷ text) = byte ∷ (if byte == 10 then first_lines n text else first_lines (suc n) text)

-- how many lines of a text are ended
abbrev pub ended_lines : List ℕ → ℕ
ended_lines text = length (filter (λ byte. byte == 10) text)

-- The text is no listing, and that shows at this line. Where more would make a listing of it, that is the line which is
-- not ended, or which is to come. Else it is the first line with which the text begins no listing any more.
pub record IsBadAt (text : List ℕ) (line : ℕ) : Type 0 where
  pub none : IsListing text → ⊥
  pub short : BeginsListing text → line ≡ ended_lines text + 1
  pub with_it : (BeginsListing text → ⊥) → BeginsListing (first_lines line text) → ⊥
  pub before : (n : ℕ) → n < line → BeginsListing (first_lines n text)

-- what a refusal says
abbrev pub IsRefusedListing : List ℕ → ListingError → Type 0
IsRefusedListing text (Bad line) = IsBadAt text line
IsRefusedListing text NoMemory = Unit {0}
