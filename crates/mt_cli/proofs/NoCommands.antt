-- Lists of words that are no command for a word in them.
use Rattle.mt_cli.proofs.Prelude.{◌≡◌, ◌⊎◌, ◌||◌, ℕ, Bool, true, false, List, [], ◌∷◌, Option, Some, None, refl, ap, subst, sym, inl, inr, codes, true≢false, if◌then◌else◌, option_and_then, option_map, list_any, bytes_eq, bytes_eq-Decides, bulk_of, command_of, ids_of, in_two_words, make_of, rows_said, rows_word, show_of, trial_of, is_end_of_options, greatest_number, is_number, most_index, number_in, Ids, Image, Make, Replay, Trial, Verify, most_lanes, most_steps}

abbrev Text : Type 0
Text = List ℕ

pub no_rows : (word : Text) → is_number word ≡ false → rows_word word ≡ None
no_rows word is = rw is refl

pub make_no_number : (number : Text) (words : List Text) → is_number number ≡ false → make_of (number ∷ words) ≡ None
make_no_number number [] is = refl
make_no_number number (steps ∷ []) is = refl
make_no_number number (steps ∷ lanes ∷ []) is = rw is refl
make_no_number number (steps ∷ lanes ∷ more ∷ words) is = refl

pub make_no_steps : (number steps : Text) (words : List Text) → is_number steps ≡ false → make_of (number ∷ steps ∷ words) ≡ None
make_no_steps number steps [] is = refl
make_no_steps number steps (lanes ∷ []) is = elim (number_in 0 greatest_number number) as (λ o. option_and_then (λ n. option_and_then (λ s. option_map (Make n s) (number_in 1 most_lanes lanes)) (number_in 1 most_steps steps)) o ≡ None) [
  | None ↦ refl
  | Some n ↦ rw is refl
]
make_no_steps number steps (lanes ∷ more ∷ words) is = refl

pub make_no_lanes : (number steps lanes : Text) (words : List Text) → is_number lanes ≡ false → make_of (number ∷ steps ∷ lanes ∷ words) ≡ None
make_no_lanes number steps lanes [] is = elim (number_in 0 greatest_number number) as (λ o. option_and_then (λ n. option_and_then (λ s. option_map (Make n s) (number_in 1 most_lanes lanes)) (number_in 1 most_steps steps)) o ≡ None) [
  | None ↦ refl
  | Some n ↦ elim (number_in 1 most_steps steps) as (λ o. option_and_then (λ s. option_map (Make n s) (number_in 1 most_lanes lanes)) o ≡ None) [ None ↦ refl | Some s ↦ rw is refl ]
]
make_no_lanes number steps lanes (more ∷ words) is = refl

pub trial_no_number : (number : Text) (words : List Text) → is_number number ≡ false → trial_of (number ∷ words) ≡ None
trial_no_number number [] is = refl
trial_no_number number (steps ∷ []) is = rw is refl
trial_no_number number (steps ∷ more ∷ words) is = refl

pub trial_no_steps : (number steps : Text) (words : List Text) → is_number steps ≡ false → trial_of (number ∷ steps ∷ words) ≡ None
trial_no_steps number steps [] is = elim (number_in 0 greatest_number number) as (λ o. option_and_then (λ n. option_map (Trial n) (number_in 1 most_steps steps)) o ≡ None) [ None ↦ refl | Some n ↦ rw is refl ]
trial_no_steps number steps (more ∷ words) is = refl

pub bulk_no_workers : (workers : Text) (words : List Text) → is_number workers ≡ false → bulk_of (workers ∷ words) ≡ None
bulk_no_workers workers [] is = rw is refl
bulk_no_workers workers (more ∷ words) is = refl

-- of two, the second is none
none_behind : {X Y : Type 0} (o : Option X) (f : X → Option Y) → ((x : X) → f x ≡ None) → option_and_then f o ≡ None
none_behind None f none = refl
none_behind (Some x) f none = none x

pub ids_no_lo : (lo : Text) (words : List Text) → is_number lo ≡ false → ids_of (lo ∷ words) ≡ None
ids_no_lo lo [] is = refl
ids_no_lo lo (hi ∷ []) is = refl
ids_no_lo lo (hi ∷ steps ∷ []) is = refl
ids_no_lo lo (hi ∷ steps ∷ drops ∷ []) is = rw is refl
ids_no_lo lo (hi ∷ steps ∷ drops ∷ more ∷ words) is = refl

pub ids_no_hi : (lo hi : Text) (words : List Text) → is_number hi ≡ false → ids_of (lo ∷ hi ∷ words) ≡ None
ids_no_hi lo hi [] is = refl
ids_no_hi lo hi (steps ∷ []) is = refl
ids_no_hi lo hi (steps ∷ drops ∷ []) is = none_behind (number_in 0 most_index lo) _ (λ l. rw is refl)
ids_no_hi lo hi (steps ∷ drops ∷ more ∷ words) is = refl

pub ids_no_steps : (lo hi steps : Text) (words : List Text) → is_number steps ≡ false → ids_of (lo ∷ hi ∷ steps ∷ words) ≡ None
ids_no_steps lo hi steps [] is = refl
ids_no_steps lo hi steps (drops ∷ []) is = none_behind (number_in 0 most_index lo) _ (λ l. none_behind (number_in l most_index hi) _ (λ h. rw is refl))
ids_no_steps lo hi steps (drops ∷ more ∷ words) is = refl

pub ids_no_drop : (lo hi steps drops : Text) (words : List Text) → is_number drops ≡ false → ids_of (lo ∷ hi ∷ steps ∷ drops ∷ words) ≡ None
ids_no_drop lo hi steps drops [] is =
    none_behind (number_in 0 most_index lo) _ (λ l. none_behind (number_in l most_index hi) _ (λ h. none_behind (number_in 1 most_steps steps) _ (λ s. rw is refl)))
ids_no_drop lo hi steps drops (more ∷ words) is = refl

-- ---- `--`

or_cases : (a b : Bool) → (a || b) ≡ true → (a ≡ true) ⊎ (b ≡ true)
or_cases true b e = inl refl
or_cases false b e = inr e

no_number : (word : Text) → is_end_of_options word ≡ true → is_number word ≡ false
no_number word end = ap is_number ((bytes_eq-Decides word (codes "--")).0 end)

abbrev HasEnd : List Text → Type 0
HasEnd words = list_any is_end_of_options words ≡ true

-- one of two that are none
chosen : {X : Type 0} (b : Bool) (x y : Option X) → x ≡ None → y ≡ None → (if b then x else y) ≡ None
chosen true x y no_x no_y = no_x
chosen false x y no_x no_y = no_y

end_in_rows : (words : List Text) → HasEnd words → rows_said words ≡ None
end_in_rows [] ends = absurd (true≢false (sym ends))
end_in_rows (word ∷ []) ends = elim (or_cases _ _ ends) [
  | inl end ↦ subst (λ (w : Text). rows_said (w ∷ []) ≡ None) (sym ((bytes_eq-Decides word (codes "--")).0 end)) refl
  | inr end ↦ absurd (true≢false (sym end))
]
end_in_rows (option ∷ word ∷ []) ends = elim (or_cases _ _ ends) [
  | inl end ↦ subst (λ (w : Text). in_two_words w word ≡ None) (sym ((bytes_eq-Decides option (codes "--")).0 end)) refl
  | inr rest ↦ elim (or_cases _ _ rest) [
    | inl end ↦ chosen (bytes_eq option (codes "--rows")) (rows_word word) None (no_rows word (no_number word end)) refl
    | inr end ↦ absurd (true≢false (sym end))
  ]
]
end_in_rows (first ∷ second ∷ third ∷ words) ends = refl

end_in_make : (words : List Text) → HasEnd words → make_of words ≡ None
end_in_make [] ends = refl
end_in_make (number ∷ []) ends = refl
end_in_make (number ∷ steps ∷ []) ends = refl
end_in_make (number ∷ steps ∷ lanes ∷ []) ends = elim (or_cases _ _ ends) [
  | inl end ↦ make_no_number number (steps ∷ lanes ∷ []) (no_number number end)
  | inr rest ↦ elim (or_cases _ _ rest) [
    | inl end ↦ make_no_steps number steps (lanes ∷ []) (no_number steps end)
    | inr last ↦ elim (or_cases _ _ last) [ inl end ↦ make_no_lanes number steps lanes [] (no_number lanes end) | inr end ↦ absurd (true≢false (sym end)) ]
  ]
]
end_in_make (number ∷ steps ∷ lanes ∷ more ∷ words) ends = refl

end_in_trial : (words : List Text) → HasEnd words → trial_of words ≡ None
end_in_trial [] ends = refl
end_in_trial (number ∷ []) ends = refl
end_in_trial (number ∷ steps ∷ []) ends = elim (or_cases _ _ ends) [
  | inl end ↦ trial_no_number number (steps ∷ []) (no_number number end)
  | inr rest ↦ elim (or_cases _ _ rest) [ inl end ↦ trial_no_steps number steps [] (no_number steps end) | inr end ↦ absurd (true≢false (sym end)) ]
]
end_in_trial (number ∷ steps ∷ more ∷ words) ends = refl

end_in_show : (words : List Text) → HasEnd words → show_of words ≡ None
end_in_show [] ends = absurd (true≢false (sym ends))
end_in_show (word ∷ words) ends = refl

end_in_bulk : (words : List Text) → HasEnd words → bulk_of words ≡ None
end_in_bulk [] ends = refl
end_in_bulk (workers ∷ []) ends = elim (or_cases _ _ ends) [ inl end ↦ bulk_no_workers workers [] (no_number workers end) | inr end ↦ absurd (true≢false (sym end)) ]
end_in_bulk (workers ∷ more ∷ words) ends = refl

end_in_ids : (words : List Text) → HasEnd words → ids_of words ≡ None
end_in_ids [] ends = refl
end_in_ids (lo ∷ []) ends = refl
end_in_ids (lo ∷ hi ∷ []) ends = refl
end_in_ids (lo ∷ hi ∷ steps ∷ []) ends = refl
end_in_ids (lo ∷ hi ∷ steps ∷ drops ∷ []) ends = elim (or_cases _ _ ends) [
  | inl end ↦ ids_no_lo lo (hi ∷ steps ∷ drops ∷ []) (no_number lo end)
  | inr rest ↦ elim (or_cases _ _ rest) [
    | inl end ↦ ids_no_hi lo hi (steps ∷ drops ∷ []) (no_number hi end)
    | inr later ↦ elim (or_cases _ _ later) [
      | inl end ↦ ids_no_steps lo hi steps (drops ∷ []) (no_number steps end)
      | inr last ↦ elim (or_cases _ _ last) [ inl end ↦ ids_no_drop lo hi steps drops [] (no_number drops end) | inr end ↦ absurd (true≢false (sym end)) ]
    ]
  ]
]
end_in_ids (lo ∷ hi ∷ steps ∷ drops ∷ more ∷ words) ends = refl

-- a list with `--` is no command
pub ended : (words : List Text) → HasEnd words → command_of words ≡ None
ended [] ends = refl
ended (word ∷ words) ends = elim (or_cases _ _ ends) [
  | inl end ↦ subst (λ (w : Text). command_of (w ∷ words) ≡ None) (sym ((bytes_eq-Decides word (codes "--")).0 end)) refl
  | inr rest ↦
      chosen (bytes_eq word (codes "replay")) (option_map Replay (rows_said words)) _ (ap (option_map Replay) (end_in_rows words rest))
      (chosen (bytes_eq word (codes "make")) (make_of words) _ (end_in_make words rest)
      (chosen (bytes_eq word (codes "trial")) (trial_of words) _ (end_in_trial words rest)
      (chosen (bytes_eq word (codes "verify")) (option_map Verify (rows_said words)) _ (ap (option_map Verify) (end_in_rows words rest))
      (chosen (bytes_eq word (codes "image")) (option_map Image (rows_said words)) _ (ap (option_map Image) (end_in_rows words rest))
      (chosen (bytes_eq word (codes "show")) (show_of words) _ (end_in_show words rest)
      (chosen (bytes_eq word (codes "bulk")) (bulk_of words) _ (end_in_bulk words rest)
      (chosen (bytes_eq word (codes "ids")) (ids_of words) None (end_in_ids words rest) refl)))))))
]
