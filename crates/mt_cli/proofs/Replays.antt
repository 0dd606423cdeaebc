-- `replay`, `verify` or `image` and the words after it: which of them `clap` refuses, and what it tells of the others.
use Rattle.mt_cli.proofs.Prelude.{◌≡◌, ◌∙◌, ◌⊎◌, ℕ, Bool, true, false, List, [], ◌∷◌, ◌++◌, Option, Some, None, refl, sym, ap, ap₂, subst, inl, inr, codes, true≢false, take-append-drop, take, drop, length, bytes_eq, after_first, before_first, position_or_len, ◌==◌, option_map, bytes_eq-Decides, take_all, passes_at_first, split_at_first, cases_lt, eqb-true, long_fault, long_of, Shape, finished, Row, Text, Walk, arg_by_long, idle, option, rows_after, CommandLine, AsWritten, clap_on_literals, rows_said, is_end_of_options, rows_given, Command}
use Rattle.mt_cli.proofs.Agreements.{Agrees, HasNoEnd}
use Rattle.mt_cli.proofs.NoCommands.{no_rows}
use Rattle.mt_cli.proofs.Refusals.{IsRefused}
use Rattle.mt_cli.proofs.Shapes.{rows_no_shorts, rows_shape}
use Rattle.mt_cli.proofs.Sorts.{NoShorts, held, is_flags, is_long, is_value, sort_of}
use Rattle.mt_cli.proofs.Walks.{at, fault_from, flags_refused, long_refused, long_walked, refused_later, value_from, value_refused, value_walked}

abbrev rows_id : Text
rows_id = codes "rows"

-- what is held where the option was given
abbrev given : Text → List Row
given word = record { id = rows_id; values = word ∷ []; count = None; source = Some CommandLine; reading = AsWritten } ∷ []

-- nothing was met; the option waits for its word; it has it; it was given; it was given and waits again; it has a second word
abbrev start : Walk
start = at (held [] None) idle 1

abbrev begun : Walk
begun = at (held [] (Some (rows_id, []))) (option rows_id) 1

abbrev full : Text → Walk
full word = at (held [] (Some (rows_id, word ∷ []))) idle 1

abbrev done : Text → Walk
done word = at (held (given word) None) idle 1

abbrev reopened : Text → Walk
reopened word = at (held (given word) (Some (rows_id, []))) (option rows_id) 1

abbrev refilled : Text → Text → Walk
refilled word second = at (held (given word) (Some (rows_id, second ∷ []))) idle 1

-- a name that is the option's comes of one of its two forms
named : (rest : Text) → rows_id ≡ before_first (λ x. x == 61) rest
    → (bytes_eq (take 7 (45 ∷ 45 ∷ rest)) (codes "--rows=") ≡ true) ⊎ (bytes_eq (45 ∷ 45 ∷ rest) (codes "--rows") ≡ true)
named rest is = elim (cases_lt (position_or_len (λ x. x == 61) rest) (length rest)) [
  | inl within ↦
      let after : Text = after_first (λ x. x == 61) rest in
      let parts : rest ≡ rows_id ++ 61 ∷ after = split_at_first (λ x. x == 61) rest 0 within
      ∙ ap₂ (λ (a : Text) (b : ℕ). a ++ (b ∷ after)) (sym is) (eqb-true _ 61 (passes_at_first (λ x. x == 61) rest 0 within)) in
      inl (ap (λ (r : Text). bytes_eq (take 7 (45 ∷ 45 ∷ r)) (codes "--rows=")) parts)
  | inr past ↦
      let whole : rest ≡ rows_id = sym (take_all (position_or_len (λ x. x == 61) rest) rest past) ∙ sym is in
      inr (ap (λ (r : Text). bytes_eq (45 ∷ 45 ∷ r) (codes "--rows")) whole)
]

other_name : (word name rest : Text) → word ≡ 45 ∷ 45 ∷ rest → name ≡ before_first (λ x. x == 61) rest → bytes_eq (take 7 word) (codes "--rows=") ≡ false → bytes_eq word (codes "--rows") ≡ false
    → (t : Bool) → bytes_eq rows_id name ≡ t → t ≡ false
other_name word name rest is first one two false e = refl
other_name word name rest is first one two true e = elim (named rest ((bytes_eq-Decides rows_id name).0 e ∙ first)) [
  | inl same ↦ absurd (true≢false (sym same ∙ (ap (λ (w : Text). bytes_eq (take 7 w) (codes "--rows=")) (sym is) ∙ one)))
  | inr same ↦ absurd (true≢false (sym same ∙ (ap (λ (w : Text). bytes_eq w (codes "--rows")) (sym is) ∙ two)))
]

-- a word, whose option the words after it may name, and what is done with so many rows
module _ (verb : Text) (does : ℕ → Command) where
  abbrev shape : Shape
  shape = rows_shape verb

  no_shorts : NoShorts shape
  no_shorts = rows_no_shorts verb

  abbrev IsLost : Walk → List Text → Type 0
  IsLost w words = IsRefused (fault_from shape w words)

  module _ (rows : List Row) (v : Option Text) where
    -- an option of another name is refused, whatever is held
    stranger : (name : Text) (pending : Option (Text × List Text)) → bytes_eq rows_id name ≡ false → IsRefused (long_fault shape.rules false (arg_by_long shape.rules name) v (held rows pending))
    stranger name pending other = rw other tt

  -- the option is refused where what waits is
  waits_long : (word : Text) (name : Text) (v : Option Text) (t : Bool) → bytes_eq rows_id name ≡ t
      → IsRefused (long_fault shape.rules false (arg_by_long shape.rules name) v (held (given word) (Some (rows_id, []))))
  waits_long word name v false other = stranger (given word) v name (Some (rows_id, [])) other
  waits_long word name None true same = rw same tt
  waits_long word name (Some x) true same = rw same tt

  second_long : (word second : Text) (name : Text) (v : Option Text) (t : Bool) → bytes_eq rows_id name ≡ t
      → IsRefused (long_fault shape.rules false (arg_by_long shape.rules name) v (held (given word) (Some (rows_id, second ∷ []))))
  second_long word second name v false other = stranger (given word) v name (Some (rows_id, second ∷ [])) other
  second_long word second name None true same = rw same tt
  second_long word second name (Some x) true same = rw same tt

  refilled_lost : (word second : Text) (words : List Text) → HasNoEnd words → IsLost (refilled word second) words
  unfolding clap_on_literals
  refilled_lost word second [] ends = tt
  refilled_lost word second (next ∷ words) (end, ends) = elim (sort_of next end) [
    | is_long name v _ is _ _ _ ↦ long_refused shape no_shorts next end (given word) (Some (rows_id, second ∷ [])) idle 1 name v is (second_long word second name v (bytes_eq rows_id name) refl) words
    | is_flags refused _ ↦ flags_refused shape no_shorts next end (given word) (Some (rows_id, second ∷ [])) idle 1 refused words
    | is_value is ↦ value_refused shape no_shorts next end (given word) (Some (rows_id, second ∷ [])) idle 1 is tt words
  ]

  reopened_lost : (word : Text) (words : List Text) → HasNoEnd words → IsLost (reopened word) words
  unfolding clap_on_literals
  reopened_lost word [] ends = tt
  reopened_lost word (next ∷ words) (end, ends) = elim (sort_of next end) [
    | is_long name v _ is _ _ _ ↦ long_refused shape no_shorts next end (given word) (Some (rows_id, [])) (option rows_id) 1 name v is (waits_long word name v (bytes_eq rows_id name) refl) words
    | is_flags refused _ ↦ flags_refused shape no_shorts next end (given word) (Some (rows_id, [])) (option rows_id) 1 refused words
    | is_value is ↦ refused_later shape (reopened word) (refilled word next) next words
        (value_walked shape no_shorts next end (given word) (Some (rows_id, [])) (option rows_id) 1 is) (refilled_lost word next words ends)
  ]

  -- after the option was given, or has its word, each further word is refused sooner or later
  done_long : (word next : Text) (words : List Text) → is_end_of_options next ≡ false → HasNoEnd words → (name : Text) (v : Option Text) → long_of next ≡ Some (name, v)
      → (t : Bool) → bytes_eq rows_id name ≡ t → IsLost (done word) (next ∷ words)
  unfolding clap_on_literals
  done_long word next words end ends name v is false other =
      long_refused shape no_shorts next end (given word) None idle 1 name v is (stranger (given word) v name None other) words
  done_long word next words end ends name (Some x) is true same =
      long_refused shape no_shorts next end (given word) None idle 1 name (Some x) is (rw same tt) words
  done_long word next words end ends name None is true same =
      refused_later shape (done word) (reopened word) next words (long_walked shape no_shorts next end (given word) None idle 1 name None is ∙ rw same refl) (reopened_lost word words ends)

  done_lost : (word next : Text) (words : List Text) → HasNoEnd (next ∷ words) → IsLost (done word) (next ∷ words)
  unfolding clap_on_literals
  done_lost word next words (end, ends) = elim (sort_of next end) [
    | is_long name v _ is _ _ _ ↦ done_long word next words end ends name v is (bytes_eq rows_id name) refl
    | is_flags refused _ ↦ flags_refused shape no_shorts next end (given word) None idle 1 refused words
    | is_value is ↦ value_refused shape no_shorts next end (given word) None idle 1 is tt words
  ]

  full_long : (word next : Text) (words : List Text) → is_end_of_options next ≡ false → HasNoEnd words → (name : Text) (v : Option Text) → long_of next ≡ Some (name, v)
      → (t : Bool) → bytes_eq rows_id name ≡ t → IsLost (full word) (next ∷ words)
  unfolding clap_on_literals
  full_long word next words end ends name v is false other =
      long_refused shape no_shorts next end [] (Some (rows_id, word ∷ [])) idle 1 name v is (stranger [] v name (Some (rows_id, word ∷ [])) other) words
  full_long word next words end ends name (Some x) is true same =
      long_refused shape no_shorts next end [] (Some (rows_id, word ∷ [])) idle 1 name (Some x) is (rw same tt) words
  full_long word next words end ends name None is true same =
      refused_later shape (full word) (reopened word) next words (long_walked shape no_shorts next end [] (Some (rows_id, word ∷ [])) idle 1 name None is ∙ rw same refl) (reopened_lost word words ends)

  full_lost : (word next : Text) (words : List Text) → HasNoEnd (next ∷ words) → IsLost (full word) (next ∷ words)
  unfolding clap_on_literals
  full_lost word next words (end, ends) = elim (sort_of next end) [
    | is_long name v _ is _ _ _ ↦ full_long word next words end ends name v is (bytes_eq rows_id name) refl
    | is_flags refused _ ↦ flags_refused shape no_shorts next end [] (Some (rows_id, word ∷ [])) idle 1 refused words
    | is_value is ↦ value_refused shape no_shorts next end [] (Some (rows_id, word ∷ [])) idle 1 is tt words
  ]

  begun_long : (name : Text) (v : Option Text) (t : Bool) → bytes_eq rows_id name ≡ t
      → IsRefused (long_fault shape.rules false (arg_by_long shape.rules name) v (held [] (Some (rows_id, []))))
  begun_long name v false other = stranger [] v name (Some (rows_id, [])) other
  begun_long name None true same = rw same tt
  begun_long name (Some x) true same = rw same tt

  abbrev AgreesOn : List Text → Type 0
  AgreesOn words = Agrees (fault_from shape start words) (option_map does (rows_given (rows_after shape.rules [] words))) (option_map does (rows_said words))

  -- `--rows=N`
  in_one : (n : Text) (words : List Text) → HasNoEnd words → AgreesOn ((codes "--rows=" ++ n) ∷ words)
  unfolding clap_on_literals
  in_one n [] ends = inl (refl, refl)
  in_one n (next ∷ []) ends = inr (refused_later shape start (done n) (codes "--rows=" ++ n) (next ∷ []) refl (done_lost n next [] ends), refl)
  in_one n (next ∷ more ∷ words) ends = inr (refused_later shape start (done n) (codes "--rows=" ++ n) (next ∷ more ∷ words) refl (done_lost n next (more ∷ words) ends), refl)

  starts_rows : (words : List Text) → fault_from shape start (codes "--rows" ∷ words) ≡ fault_from shape begun words
  unfolding clap_on_literals
  starts_rows words = refl

  -- `--rows N`
  in_two : (words : List Text) → HasNoEnd words → AgreesOn (codes "--rows" ∷ words)
  unfolding clap_on_literals
  in_two [] ends = inr (tt, refl)
  in_two (next ∷ []) (end, ends) = elim (sort_of next end) [
    | is_long name v _ is _ _ digits ↦ inr (
      subst IsRefused (sym (starts_rows (next ∷ []))) (long_refused shape no_shorts next end [] (Some (rows_id, [])) (option rows_id) 1 name v is (begun_long name v (bytes_eq rows_id name) refl) []),
      ap (option_map does) (no_rows next digits),
    )
    | is_flags refused digits ↦ inr (
      subst IsRefused (sym (starts_rows (next ∷ []))) (flags_refused shape no_shorts next end [] (Some (rows_id, [])) (option rows_id) 1 refused []),
      ap (option_map does) (no_rows next digits),
    )
    | is_value is ↦ inl (
      starts_rows (next ∷ []) ∙ value_from shape no_shorts next end [] (Some (rows_id, [])) (option rows_id) 1 is refl [],
      ap (λ (w : Walk). option_map does (rows_given (finished shape.rules w.held))) (value_walked shape no_shorts next end [] (Some (rows_id, [])) (option rows_id) 1 is),
    )
  ]
  in_two (next ∷ more ∷ words) (end, ends) = inr (
    subst IsRefused (sym (starts_rows (next ∷ more ∷ words))) (elim (sort_of next end) [
      | is_long name v _ is _ _ digits ↦ long_refused shape no_shorts next end [] (Some (rows_id, [])) (option rows_id) 1 name v is (begun_long name v (bytes_eq rows_id name) refl) (more ∷ words)
      | is_flags refused digits ↦ flags_refused shape no_shorts next end [] (Some (rows_id, [])) (option rows_id) 1 refused (more ∷ words)
      | is_value is ↦ refused_later shape begun (full next) next (more ∷ words) (value_walked shape no_shorts next end [] (Some (rows_id, [])) (option rows_id) 1 is)
          (full_lost next more words ends)
    ]),
    refl,
  )

  no_command : (word : Text) (words : List Text) → bytes_eq (take 7 word) (codes "--rows=") ≡ false → bytes_eq word (codes "--rows") ≡ false → rows_said (word ∷ words) ≡ None
  no_command word [] one two = rw one refl
  no_command word (next ∷ []) one two = rw two refl
  no_command word (next ∷ more ∷ words) one two = refl

  -- any other word
  in_none : (word : Text) (words : List Text) → is_end_of_options word ≡ false → bytes_eq (take 7 word) (codes "--rows=") ≡ false → bytes_eq word (codes "--rows") ≡ false → AgreesOn (word ∷ words)
  unfolding clap_on_literals
  in_none word words end one two = inr (
    elim (sort_of word end) [
      | is_long name v rest is split first _ ↦ long_refused shape no_shorts word end [] None idle 1 name v is
          (stranger [] v name None (other_name word name rest split first one two (bytes_eq rows_id name) refl)) words
      | is_flags refused _ ↦ flags_refused shape no_shorts word end [] None idle 1 refused words
      | is_value is ↦ value_refused shape no_shorts word end [] None idle 1 is tt words
    ],
    ap (option_map does) (no_command word words one two),
  )

  pub rows_agree : (words : List Text) → HasNoEnd words → AgreesOn words
  unfolding clap_on_literals
  rows_agree [] ends = inl (refl, refl)
  rows_agree (word ∷ words) (end, ends) = go (bytes_eq (take 7 word) (codes "--rows=")) refl (bytes_eq word (codes "--rows")) refl
    where
      go : (one : Bool) → bytes_eq (take 7 word) (codes "--rows=") ≡ one → (two : Bool) → bytes_eq word (codes "--rows") ≡ two → AgreesOn (word ∷ words)
      go true one two e = subst (λ (w : Text). AgreesOn (w ∷ words)) (ap (λ (front : Text). front ++ drop 7 word) (sym ((bytes_eq-Decides (take 7 word) (codes "--rows=")).0 one)) ∙ take-append-drop 7 word) (in_one (drop 7 word) words ends)
      go false one true two = subst (λ (w : Text). AgreesOn (w ∷ words)) (sym ((bytes_eq-Decides word (codes "--rows")).0 two)) (in_two words ends)
      go false one false two = in_none word words end one two
