-- Listings of which a tree is built, or none is, and the place of a range as a line of the text.
use Rattle.mt_program.proofs.Prelude.{◌≡◌, ℕ, ◌+◌, ◌<◌, ◌≤◌, ◌^◌, Bool, true, false, List, [], ◌∷◌, Option, Some, None, length, ap, refl, arith, if◌then◌else◌, nat_lt, Kind, Range, most_rows, TookTurns, refusal, refused_by, rows_in, is_misplaced, misplaced, misplaced_from, IsInForm, IsRefusedListing, ListingError, few_ranges, Listing, listing_text, IsBulkImage, FailsOn, failure_of_listing, IsBuiltImage, IsBuiltBy, IsUnbuilt, IsUnbuiltAt}
use Rattle.mt_bulk.specs.declared.errors.BulkError.TheVariants as errors
use Rattle.mt_told.specs.declared.errors.ListingError.TheVariants as listings
use Rattle.mt_program.specs.declared.failures.Unbuilt.TheVariants as unbuilt

-- it is the place of one of the ranges
within_from : (kind : Kind) (at low place : ℕ) (m : List Range) → misplaced_from kind at low m ≡ Some place → place < at + length m
within_from kind at low place [] is = absurd (cc)
within_from kind at low place (r ∷ m) is = go (is_misplaced kind low r) (λ later. within_from kind (at + 1) (r.last + 1) place m later) is
  where
    go : (b : Bool) → (misplaced_from kind (at + 1) (r.last + 1) m ≡ Some place → place < at + 1 + length m)
        → (if b then Some at else misplaced_from kind (at + 1) (r.last + 1) m) ≡ Some place → place < at + length (r ∷ m)
    go true more here = let same : at ≡ place = cc in omega (arith, same)
    go false more later = omega (arith, more later)

within : (kind : Kind) (m : List Range) (at : ℕ) → refusal kind m ≡ Some (errors.Order at) → at < length m
unfolding refusal
within kind m at is = go (misplaced kind m) refl is
  where
    go : (found : Option ℕ) → misplaced kind m ≡ found → refused_by found (rows_in kind m) ≡ Some (errors.Order at) → at < length m
    go (Some place) found same = let one : place ≡ at = cc in omega (arith, one, within_from kind 0 0 place m found)
    go None found same = absurd (none (nat_lt most_rows (rows_in kind m)) same)
      where
        none : (b : Bool) → (if b then Some (errors.TooMany (rows_in kind m)) else None) ≡ Some (errors.Order at) → ⊥
        none true other = cc
        none false other = cc

-- a line of the listing has this number
pub place_fits : (l : Listing) (bytes : List ℕ) (at : ℕ) → bytes ≡ listing_text l → refusal l.kind l.ranges ≡ Some (errors.Order at) → length bytes < 2 ^ 32 → at + 2 < 2 ^ 64
place_fits l bytes at text is short = omega (arith, within l.kind l.ranges at is, few_ranges l, ap length text, short)

-- ---- what comes of a listing

pub is_built : (l : Listing) (bytes image : List ℕ) → IsInForm l → bytes ≡ listing_text l → refusal l.kind l.ranges ≡ None → IsBulkImage l.kind l.ranges image → IsBuiltImage bytes image
is_built l bytes image form text fits is = (l, record { form = form; text = text }, fits, is)

pub is_built_by : (l : Listing) (bytes : List ℕ) (passed : ℕ → ℕ → Type 0) (workers : ℕ) → IsInForm l → bytes ≡ listing_text l → (1 ≤ length l.ranges → TookTurns passed workers)
    → IsBuiltBy passed workers bytes
is_built_by l bytes passed workers form text took = (l, record { form = form; text = text }, took)

pub out_of_order : (l : Listing) (bytes : List ℕ) (at : ℕ) → IsInForm l → bytes ≡ listing_text l → refusal l.kind l.ranges ≡ Some (errors.Order at) → IsUnbuiltAt bytes (at + 2) unbuilt.Order
out_of_order l bytes at form text is = (l, at, record { form = form; text = text }, is, refl)

pub too_many_rows : (l : Listing) (bytes : List ℕ) (rows : ℕ) → IsInForm l → bytes ≡ listing_text l → refusal l.kind l.ranges ≡ Some (errors.TooMany rows) → IsUnbuiltAt bytes 1 unbuilt.Rows
too_many_rows l bytes rows form text is = (l, rows, record { form = form; text = text }, is, refl)

pub no_listing : (bytes : List ℕ) (error : ListingError) → IsRefusedListing bytes error → FailsOn IsUnbuilt bytes (failure_of_listing error)
no_listing bytes (listings.Bad line) is = is
no_listing bytes listings.NoMemory is = tt

-- what building a tree of a listing asks for
pub ruleset building = (place_fits, is_built, is_built_by, out_of_order, too_many_rows, no_listing)
