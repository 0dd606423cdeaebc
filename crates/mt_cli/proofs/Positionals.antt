-- `make`, `trial`, `show`, `bulk` and `ids` and the words after them: which of them `clap` refuses, and what it tells of the others.
use Rattle.mt_cli.proofs.Prelude.{◌≡◌, ◌⊎◌, ℕ, false, List, [], ◌∷◌, Option, Some, None, refl, sym, subst, inl, inr, codes, fold, step_fault, Kinds, Shape, Held, Row, Step, Text, Walk, after_step, arg_by_long, finished, idle, plain_word, value, walked, CommandLine, AsWritten, clap_on_literals, bulk_of, ids_of, make_of, show_of, trial_of, bulk_in, ids_in, is_end_of_options, make_in, trial_in, is_number, Command, Show}
use Rattle.mt_cli.proofs.Agreements.{Agrees, HasNoEnd}
use Rattle.mt_cli.proofs.NoCommands.{bulk_no_workers, ids_no_drop, ids_no_hi, ids_no_lo, ids_no_steps, make_no_lanes, make_no_number, make_no_steps, trial_no_number, trial_no_steps}
use Rattle.mt_cli.proofs.Refusals.{IsRefused}
use Rattle.mt_cli.proofs.Shapes.{bulk_no_shorts, bulk_shape, ids_no_shorts, ids_shape, make_no_shorts, make_shape, show_no_shorts, show_shape, trial_no_shorts, trial_shape}
use Rattle.mt_cli.proofs.Sorts.{IsValue, NoShorts, held, is_flags, is_long, is_value, sort_of}
use Rattle.mt_cli.proofs.Walks.{at, fault_from, flags_refused, long_refused, value_from, value_refused, value_walked}

-- nothing has a long name
abbrev NoLongs : Shape → Type 0
NoLongs s = (name : Text) → arg_by_long s.rules name ≡ None

-- a word that is refused whatever follows is no number
pub record IsLost (s : Shape) (rows : List Row) (pending : Option (Text × List Text)) (position : ℕ) (word : Text) : Type 0 where
  pub lost : (words : List Text) → IsRefused (fault_from s (at (held rows pending) idle position) (word ∷ words))
  pub no_number : is_number word ≡ false

-- a word is taken as a value, or refused
taken_or_lost : (s : Shape) → NoShorts s → NoLongs s → (word : Text) → is_end_of_options word ≡ false → (rows : List Row) (pending : Option (Text × List Text)) (position : ℕ)
    → IsValue word ⊎ IsLost s rows pending position word
taken_or_lost s no_shorts no_longs word end rows pending position = elim (sort_of word end) [
  | is_long name v _ is _ _ digits ↦ inr (record { lost = long_refused s no_shorts word end rows pending idle position name v is (rw (no_longs name) tt); no_number = digits })
  | is_flags refused digits ↦ inr (record { lost = flags_refused s no_shorts word end rows pending idle position refused; no_number = digits })
  | is_value is ↦ inl is
]

-- the row of a word
abbrev row : Text → Text → Row
row name word = record { id = name; values = word ∷ []; count = None; source = Some CommandLine; reading = AsWritten }

abbrev number_id : Text
number_id = codes "number"

abbrev steps_id : Text
steps_id = codes "steps"

abbrev lanes_id : Text
lanes_id = codes "lanes"

-- no word, one, two and three were met
abbrev none : Walk
none = at (held [] None) idle 1

abbrev one : Text → Walk
one number = at (held [] (Some (number_id, number ∷ []))) idle 2

abbrev two : Text → Text → Walk
two number steps = at (held (row number_id number ∷ []) (Some (steps_id, steps ∷ []))) idle 3

abbrev three : Text → Text → Text → Walk
three number steps lanes = at (held (row number_id number ∷ row steps_id steps ∷ []) (Some (lanes_id, lanes ∷ []))) idle 4

-- no word more is taken
module _ (s : Shape) (no_shorts : NoShorts s) (no_longs : NoLongs s) where
  full_lost : (rows : List Row) (pending : Option (Text × List Text)) (position : ℕ) → IsRefused (step_fault s position (held rows pending) value)
      → (word : Text) (words : List Text) → HasNoEnd (word ∷ words) → IsRefused (fault_from s (at (held rows pending) idle position) (word ∷ words))
  full_lost rows pending position stray word words (end, ends) = elim (taken_or_lost s no_shorts no_longs word end rows pending position) [
    | inl is ↦ value_refused s no_shorts word end rows pending idle position is stray words
    | inr is ↦ is.lost words
  ]

-- the walk's end, where it begins here
abbrev rows_from : Shape → Walk → List Text → List Row
rows_from s w words = finished s.rules (fold (walked s.rules []) w words).held

-- one word more is taken, or is no number and refused
module _ (s : Shape) (no_shorts : NoShorts s) (no_longs : NoLongs s) (told : List Row → Option Command) (wanted : Option Command) where
  next_agrees : (rows : List Row) (pending : Option (Text × List Text)) (position : ℕ) (word : Text) (words : List Text) → is_end_of_options word ≡ false
      → let before : Walk = at (held rows pending) idle position in let m : Held × Step = plain_word s.rules idle word (held rows pending) in let after : Walk = after_step s.rules word before m.0 m.1 in
      step_fault s position m.0 m.1 ≡ [] → Agrees (fault_from s after words) (told (rows_from s after words)) wanted → (is_number word ≡ false → wanted ≡ None)
      → Agrees (fault_from s before (word ∷ words)) (told (rows_from s before (word ∷ words))) wanted
  next_agrees rows pending position word words end free agrees lost = elim (taken_or_lost s no_shorts no_longs word end rows pending position) [
    | inl is ↦
        let before : Walk = at (held rows pending) idle position in
        let m : Held × Step = plain_word s.rules idle word (held rows pending) in
        let after : Walk = after_step s.rules word before m.0 m.1 in
        subst (λ (w : Walk). Agrees (fault_from s before (word ∷ words)) (told (rows_from s w words)) wanted) (sym (value_walked s no_shorts word end rows pending idle position is))
        (subst (λ (kinds : Kinds). Agrees kinds (told (rows_from s after words)) wanted) (sym (value_from s no_shorts word end rows pending idle position is free words)) agrees)
    | inr is ↦ inr (is.lost words, lost is.no_number)
  ]

abbrev MakeAgrees : Walk → List Text → List Text → Type 0
MakeAgrees w words all = Agrees (fault_from make_shape w words) (make_in (rows_from make_shape w words)) (make_of all)

make_no_longs : NoLongs make_shape
make_no_longs name = refl

make_three : (number steps lanes : Text) (words : List Text) → HasNoEnd words → MakeAgrees (three number steps lanes) words (number ∷ steps ∷ lanes ∷ words)
unfolding clap_on_literals
make_three number steps lanes [] ends = inl (refl, refl)
make_three number steps lanes (word ∷ words) ends = inr (
  full_lost make_shape make_no_shorts make_no_longs (row number_id number ∷ row steps_id steps ∷ []) (Some (lanes_id, lanes ∷ [])) 4 tt word words ends,
  refl,
)

make_two : (number steps : Text) (words : List Text) → HasNoEnd words → MakeAgrees (two number steps) words (number ∷ steps ∷ words)
unfolding clap_on_literals
make_two number steps [] ends = inr (tt, refl)
make_two number steps (word ∷ words) (end, ends) =
    next_agrees make_shape make_no_shorts make_no_longs make_in (make_of (number ∷ steps ∷ word ∷ words)) (row number_id number ∷ []) (Some (steps_id, steps ∷ [])) 3 word words end refl
    (make_three number steps word words ends) (make_no_lanes number steps word words)

make_one : (number : Text) (words : List Text) → HasNoEnd words → MakeAgrees (one number) words (number ∷ words)
unfolding clap_on_literals
make_one number [] ends = inr (tt, refl)
make_one number (word ∷ words) (end, ends) =
    next_agrees make_shape make_no_shorts make_no_longs make_in (make_of (number ∷ word ∷ words)) [] (Some (number_id, number ∷ [])) 2 word words end refl (make_two number word words ends) (make_no_steps number word words)

pub make_agrees : (words : List Text) → HasNoEnd words → MakeAgrees none words words
unfolding clap_on_literals
make_agrees [] ends = inr (tt, refl)
make_agrees (word ∷ words) (end, ends) = next_agrees make_shape make_no_shorts make_no_longs make_in (make_of (word ∷ words)) [] None 1 word words end refl (make_one word words ends) (make_no_number word words)

abbrev TrialAgrees : Walk → List Text → List Text → Type 0
TrialAgrees w words all = Agrees (fault_from trial_shape w words) (trial_in (rows_from trial_shape w words)) (trial_of all)

trial_no_longs : NoLongs trial_shape
trial_no_longs name = refl

trial_two : (number steps : Text) (words : List Text) → HasNoEnd words → TrialAgrees (two number steps) words (number ∷ steps ∷ words)
unfolding clap_on_literals
trial_two number steps [] ends = inl (refl, refl)
trial_two number steps (word ∷ words) ends = inr (
  full_lost trial_shape trial_no_shorts trial_no_longs (row number_id number ∷ []) (Some (steps_id, steps ∷ [])) 3 tt word words ends,
  refl,
)

trial_one : (number : Text) (words : List Text) → HasNoEnd words → TrialAgrees (one number) words (number ∷ words)
unfolding clap_on_literals
trial_one number [] ends = inr (tt, refl)
trial_one number (word ∷ words) (end, ends) =
    next_agrees trial_shape trial_no_shorts trial_no_longs trial_in (trial_of (number ∷ word ∷ words)) [] (Some (number_id, number ∷ [])) 2 word words end refl (trial_two number word words ends) (trial_no_steps number word words)

pub trial_agrees : (words : List Text) → HasNoEnd words → TrialAgrees none words words
unfolding clap_on_literals
trial_agrees [] ends = inr (tt, refl)
trial_agrees (word ∷ words) (end, ends) = next_agrees trial_shape trial_no_shorts trial_no_longs trial_in (trial_of (word ∷ words)) [] None 1 word words end refl (trial_one word words ends) (trial_no_number word words)

show_no_longs : NoLongs show_shape
show_no_longs name = refl

pub show_agrees : (words : List Text) → HasNoEnd words → Agrees (fault_from show_shape none words) (Some Show) (show_of words)
unfolding clap_on_literals
show_agrees [] ends = inl (refl, refl)
show_agrees (word ∷ words) ends = inr (full_lost show_shape show_no_shorts show_no_longs [] None 1 tt word words ends, refl)

-- these words were met, and this one after them
abbrev filled : List Row → Text → Text → ℕ → Walk
filled rows name word position = at (held rows (Some (name, word ∷ []))) idle position

abbrev BulkAgrees : Walk → List Text → List Text → Type 0
BulkAgrees w words all = Agrees (fault_from bulk_shape w words) (bulk_in (rows_from bulk_shape w words)) (bulk_of all)

bulk_no_longs : NoLongs bulk_shape
bulk_no_longs name = refl

bulk_one : (workers : Text) (words : List Text) → HasNoEnd words → BulkAgrees (filled [] (codes "workers") workers 2) words (workers ∷ words)
unfolding clap_on_literals
bulk_one workers [] ends = inl (refl, refl)
bulk_one workers (word ∷ words) ends = inr (full_lost bulk_shape bulk_no_shorts bulk_no_longs [] (Some (codes "workers", workers ∷ [])) 2 tt word words ends, refl)

pub bulk_agrees : (words : List Text) → HasNoEnd words → BulkAgrees none words words
unfolding clap_on_literals
bulk_agrees [] ends = inr (tt, refl)
bulk_agrees (word ∷ words) (end, ends) = next_agrees bulk_shape bulk_no_shorts bulk_no_longs bulk_in (bulk_of (word ∷ words)) [] None 1 word words end refl (bulk_one word words ends) (bulk_no_workers word words)

abbrev IdsAgrees : Walk → List Text → List Text → Type 0
IdsAgrees w words all = Agrees (fault_from ids_shape w words) (ids_in (rows_from ids_shape w words)) (ids_of all)

ids_no_longs : NoLongs ids_shape
ids_no_longs name = refl

abbrev lo_row : Text → List Row
lo_row lo = row (codes "lo") lo ∷ []

abbrev hi_rows : Text → Text → List Row
hi_rows lo hi = row (codes "lo") lo ∷ row (codes "hi") hi ∷ []

abbrev steps_rows : Text → Text → Text → List Row
steps_rows lo hi steps = row (codes "lo") lo ∷ row (codes "hi") hi ∷ row steps_id steps ∷ []

ids_four : (lo hi steps drops : Text) (words : List Text) → HasNoEnd words → IdsAgrees (filled (steps_rows lo hi steps) (codes "drop") drops 5) words (lo ∷ hi ∷ steps ∷ drops ∷ words)
unfolding clap_on_literals
ids_four lo hi steps drops [] ends = inl (refl, refl)
ids_four lo hi steps drops (word ∷ words) ends = inr (
  full_lost ids_shape ids_no_shorts ids_no_longs (steps_rows lo hi steps) (Some (codes "drop", drops ∷ [])) 5 tt word words ends,
  refl,
)

ids_three : (lo hi steps : Text) (words : List Text) → HasNoEnd words → IdsAgrees (filled (hi_rows lo hi) steps_id steps 4) words (lo ∷ hi ∷ steps ∷ words)
unfolding clap_on_literals
ids_three lo hi steps [] ends = inr (tt, refl)
ids_three lo hi steps (word ∷ words) (end, ends) =
    next_agrees ids_shape ids_no_shorts ids_no_longs ids_in (ids_of (lo ∷ hi ∷ steps ∷ word ∷ words)) (hi_rows lo hi) (Some (steps_id, steps ∷ [])) 4 word words end refl
    (ids_four lo hi steps word words ends) (ids_no_drop lo hi steps word words)

ids_two : (lo hi : Text) (words : List Text) → HasNoEnd words → IdsAgrees (filled (lo_row lo) (codes "hi") hi 3) words (lo ∷ hi ∷ words)
unfolding clap_on_literals
ids_two lo hi [] ends = inr (tt, refl)
ids_two lo hi (word ∷ words) (end, ends) =
    next_agrees ids_shape ids_no_shorts ids_no_longs ids_in (ids_of (lo ∷ hi ∷ word ∷ words)) (lo_row lo) (Some (codes "hi", hi ∷ [])) 3 word words end refl
    (ids_three lo hi word words ends) (ids_no_steps lo hi word words)

ids_one : (lo : Text) (words : List Text) → HasNoEnd words → IdsAgrees (filled [] (codes "lo") lo 2) words (lo ∷ words)
unfolding clap_on_literals
ids_one lo [] ends = inr (tt, refl)
ids_one lo (word ∷ words) (end, ends) =
    next_agrees ids_shape ids_no_shorts ids_no_longs ids_in (ids_of (lo ∷ word ∷ words)) [] (Some (codes "lo", lo ∷ [])) 2 word words end refl (ids_two lo word words ends) (ids_no_hi lo word words)

pub ids_agrees : (words : List Text) → HasNoEnd words → IdsAgrees none words words
unfolding clap_on_literals
ids_agrees [] ends = inr (tt, refl)
ids_agrees (word ∷ words) (end, ends) = next_agrees ids_shape ids_no_shorts ids_no_longs ids_in (ids_of (word ∷ words)) [] None 1 word words end refl (ids_one word words ends) (ids_no_lo word words)
