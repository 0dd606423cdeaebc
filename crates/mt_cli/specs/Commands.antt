-- Which lists of words are commands, and which commands they are.
-- Source: this project's own, the command line of its program.
use Rattle.std.specs.Prelude.{◌≤◌, ℕ, List, [], ◌∷◌, Option, Some, None, drop, take, codes, if◌then◌else◌, option_map, option_and_then, bytes_eq}
use Rattle.mt_base.specs.Names.{most_rows, fewest_rows, most_lanes, most_steps}
use Rattle.mt_cli.specs.Numbers.{greatest_number, most_index, most_workers, number_in}
use Rattle.mt_cli.specs.declared.commands.Command.{Command}
use Rattle.mt_cli.specs.declared.commands.Command.TheVariants.{Bulk, Ids, Image, Make, Replay, Show, Trial, Verify}

-- as many nodes as a word says
abbrev pub rows_word : List ℕ → Option ℕ
rows_word word = number_in fewest_rows most_rows word

-- `--rows=N` in one word
abbrev pub in_one_word : List ℕ → Option ℕ
in_one_word word = if bytes_eq (take 7 word) (codes "--rows=") then rows_word (drop 7 word) else None

-- `--rows N` in two words
abbrev pub in_two_words : List ℕ → List ℕ → Option ℕ
in_two_words option word = if bytes_eq option (codes "--rows") then rows_word word else None

-- the number of nodes after `replay`, `verify` or `image`: as many as a tree may have, if no word says another
abbrev pub rows_said : List (List ℕ) → Option ℕ
rows_said [] = Some most_rows
rows_said (word ∷ []) = in_one_word word
rows_said (option ∷ word ∷ []) = in_two_words option word
rows_said (first ∷ second ∷ third ∷ words) = None

abbrev pub make_with : List ℕ → List ℕ → List ℕ → Option Command
make_with number steps lanes = option_and_then (λ n. option_and_then (λ s. option_map (Make n s) (number_in 1 most_lanes lanes))
    (number_in 1 most_steps steps)) (number_in 0 greatest_number number)

-- `make NUMBER STEPS LANES`
abbrev pub make_of : List (List ℕ) → Option Command
make_of (number ∷ steps ∷ lanes ∷ []) = make_with number steps lanes
make_of words = None

abbrev pub trial_with : List ℕ → List ℕ → Option Command
trial_with number steps = option_and_then (λ n. option_map (Trial n) (number_in 1 most_steps steps)) (number_in 0 greatest_number number)

-- `trial NUMBER STEPS`
abbrev pub trial_of : List (List ℕ) → Option Command
trial_of (number ∷ steps ∷ []) = trial_with number steps
trial_of words = None

-- `show` and no word more
abbrev pub show_of : List (List ℕ) → Option Command
show_of [] = Some Show
show_of (word ∷ words) = None

abbrev pub bulk_with : List ℕ → Option Command
bulk_with workers = option_map Bulk (number_in 1 most_workers workers)

-- `bulk WORKERS`
abbrev pub bulk_of : List (List ℕ) → Option Command
bulk_of (workers ∷ []) = bulk_with workers
bulk_of words = None

-- LO is at most HI, and DROP at most STEPS
abbrev pub ids_with : List ℕ → List ℕ → List ℕ → List ℕ → Option Command
ids_with lo hi steps drops = option_and_then (λ l. option_and_then (λ h. option_and_then (λ s. option_map (Ids l h s) (number_in 1 s drops))
    (number_in 1 most_steps steps)) (number_in l most_index hi)) (number_in 0 most_index lo)

-- `ids LO HI STEPS DROP`
abbrev pub ids_of : List (List ℕ) → Option Command
ids_of (lo ∷ hi ∷ steps ∷ drops ∷ []) = ids_with lo hi steps drops
ids_of words = None

-- the command that the words after the program's name are, if they are one
abbrev pub command_of : List (List ℕ) → Option Command
command_of [] = None
command_of (word ∷ words) = if bytes_eq word (codes "replay") then option_map Replay (rows_said words)
    else (if bytes_eq word (codes "make") then make_of words
    else (if bytes_eq word (codes "trial") then trial_of words
    else (if bytes_eq word (codes "verify") then option_map Verify (rows_said words)
    else (if bytes_eq word (codes "image") then option_map Image (rows_said words)
    else (if bytes_eq word (codes "show") then show_of words
    else (if bytes_eq word (codes "bulk") then bulk_of words
    else (if bytes_eq word (codes "ids") then ids_of words else None)))))))

-- the numbers of a command lie within their limits
abbrev pub IsWithin : Command → Type 0
IsWithin (Replay rows) = (fewest_rows ≤ rows) × (rows ≤ most_rows)
IsWithin (Make number steps lanes) = (number ≤ greatest_number) × (1 ≤ steps) × (steps ≤ most_steps) × (1 ≤ lanes) × (lanes ≤ most_lanes)
IsWithin (Trial number steps) = (number ≤ greatest_number) × (1 ≤ steps) × (steps ≤ most_steps)
IsWithin (Verify rows) = (fewest_rows ≤ rows) × (rows ≤ most_rows)
IsWithin (Image rows) = (fewest_rows ≤ rows) × (rows ≤ most_rows)
IsWithin Show = Unit {0}
IsWithin (Bulk workers) = (1 ≤ workers) × (workers ≤ most_workers)
IsWithin (Ids lo hi steps drops) = (lo ≤ hi) × (hi ≤ most_index) × (1 ≤ steps) × (steps ≤ most_steps) × (1 ≤ drops) × (drops ≤ steps)
