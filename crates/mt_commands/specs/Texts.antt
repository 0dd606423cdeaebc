-- What the texts are that the program prints.
-- Source: this project's own; a run is that of the log's definitions.
use Rattle.std.specs.Prelude.{◌≡◌, ℕ, List, [], ◌∷◌, ◌++◌, Ok, codes}
use Rattle.mt_commands.specs.Prelude.{kind_width, most_rows, Kind, Range, bulk, IsImageOf, Image, image_in, Transcript, log_text, IsRun, listing_text, made, counted, summary_text, AllTurned, tree_made, map_by, Rooted}

-- this is the text of the log that is made from a number (seed)
abbrev pub IsMadeText : ℕ → ℕ → ℕ → List ℕ → Type 0
IsMadeText number steps lanes text = text ≡ log_text (made number steps lanes)

-- this is the summary, with its LF, of a run of the log that is made from a number (seed) for one lane, over trees with as many
-- nodes as a tree may have
abbrev pub IsTrialText : ℕ → ℕ → List ℕ → Type 0
IsTrialText number steps text = (t : Transcript) × IsRun (made number steps 1) most_rows t × (text ≡ summary_text (counted steps t) ++ 10 ∷ [])

-- the steps of that log were done by a lane that took both turns of each
abbrev pub IsTurnedTrial : (ℕ → ℕ → Type 0) → ℕ → ℕ → Type 0
IsTurnedTrial passed number steps = AllTurned passed (made number steps 1).lines

-- the bytes are an image, and this is the listing of its tree, under the name `image`
abbrev pub IsImageListing : List ℕ → List ℕ → Type 0
IsImageListing bytes text = (x : Image) × (image_in bytes ≡ Ok x) × (text ≡ listing_text (record { name = codes "image"; kind = x.kind; ranges = map_by x.tree }))

-- the tree of bulk's words
abbrev pub bulk_tree : Kind → List Range → Rooted
bulk_tree kind ranges = tree_made (kind_width kind) (bulk kind ranges).root (bulk kind ranges).words

-- the bytes are the image of the tree that is bulk-built from the ranges, and it represents exactly these
pub record IsBulkImage (kind : Kind) (ranges : List Range) (bytes : List ℕ) : Type 0 where
  pub of : IsImageOf kind (bulk_tree kind ranges) bytes
  pub map : map_by (bulk_tree kind ranges) ≡ ranges
