-- How a walk over the words of a subcommand goes on, and where it is refused.
use Rattle.mt_cli.proofs.Prelude.{◌≡◌, ◌∙◌, ℕ, false, List, [], ◌∷◌, Option, Some, None, refl, sym, ap, ap₂, subst, fold, long_of, check_fault, defaults_fault, long_fault, settle_fault, step_fault, turn_fault, walk_fault, word_fault, Kinds, or_else, Shape, Held, Row, Step, Text, Waiting, Walk, after_step, arg_by_long, finished, idle, long_word, option, plain_word, positional, settled, subcommand_met, walked, is_end_of_options}
use Rattle.mt_cli.proofs.Refusals.{IsRefused, or_else_nested, refused_first, refused_second}
use Rattle.mt_cli.proofs.Sorts.{IsFlags, IsValue, NoShorts, held}

-- between two words
abbrev pub at : Held → Waiting → ℕ → Walk
at h waiting position = record { held = h; waiting = waiting; position = position; is_trailing = false; stopped = None }

no_subcommand : (waiting : Waiting) (word : Text) → subcommand_met [] waiting word ≡ None
no_subcommand idle word = refl
no_subcommand (option id) word = refl
no_subcommand positional word = refl

-- why the end of the words is refused, by what is held there
abbrev pub end_fault : Shape → Held → Kinds
end_fault s h = or_else (settle_fault s.rules s.args_override_self h) (or_else (defaults_fault (settled s.rules h).rows s.rules) (check_fault s (finished s.rules h) false))

-- why the words from here on are refused
abbrev pub fault_from : Shape → Walk → List Text → Kinds
fault_from s w words = or_else (walk_fault s [] w words) (end_fault s (fold (walked s.rules []) w words).held)

module _ (s : Shape) where
  pub from_next : (w : Walk) (word : Text) (words : List Text) → fault_from s w (word ∷ words) ≡ or_else (turn_fault s [] w word) (fault_from s (walked s.rules [] w word) words)
  unfolding walk_fault
  from_next w word words = or_else_nested (turn_fault s [] w word) (walk_fault s [] (walked s.rules [] w word) words) _

  pub refused_here : (w : Walk) (word : Text) (words : List Text) → IsRefused (turn_fault s [] w word) → IsRefused (fault_from s w (word ∷ words))
  refused_here w word words refused = subst IsRefused (sym (from_next w word words)) (refused_first _ _ refused)

  pub refused_later : (w next : Walk) (word : Text) (words : List Text) → walked s.rules [] w word ≡ next → IsRefused (fault_from s next words) → IsRefused (fault_from s w (word ∷ words))
  refused_later w next word words is refused =
      subst IsRefused (sym (from_next w word words)) (refused_second (turn_fault s [] w word) _ (subst (λ v. IsRefused (fault_from s v words)) (sym is) refused))

  module _ (no_shorts : NoShorts s) (word : Text) (end : is_end_of_options word ≡ false) (rows : List Row) (pending : Option (Text × List Text)) (waiting : Waiting) (position : ℕ) where
    -- a word that is refused by itself
    pub flags_refused : IsFlags word → (words : List Text) → IsRefused (fault_from s (at (held rows pending) waiting position) (word ∷ words))
    flags_refused flags words = refused_here (at (held rows pending) waiting position) word words
        (refused_first _ _ (flags s [] waiting rows pending no_shorts (no_subcommand waiting word)))

    -- an option, by what it is told of its value
    pub long_refused : (name : Text) (v : Option Text) → long_of word ≡ Some (name, v)
        → IsRefused (long_fault s.rules s.args_override_self (arg_by_long s.rules name) v (held rows pending))
        → (words : List Text) → IsRefused (fault_from s (at (held rows pending) waiting position) (word ∷ words))
    long_refused name v is refused words = refused_here (at (held rows pending) waiting position) word words
        (refused_first (word_fault s [] false waiting word (held rows pending)) _ (rw (no_subcommand waiting word, end, is) refused))

    pub long_walked : (name : Text) (v : Option Text) → long_of word ≡ Some (name, v)
        → walked s.rules [] (at (held rows pending) waiting position) word
        ≡ after_step s.rules word (at (held rows pending) waiting position) (long_word s.rules waiting word name v (held rows pending)).0 (long_word s.rules waiting word name v (held rows pending)).1
    unfolding walked
    long_walked name v is = rw (no_subcommand waiting word, end, is) refl

    -- a value
    abbrev pub taken : Held × Step
    taken = plain_word s.rules waiting word (held rows pending)

    pub value_turn : IsValue word → turn_fault s [] (at (held rows pending) waiting position) word ≡ step_fault s position taken.0 taken.1
    value_turn is =
        let v = is s [] waiting position rows pending no_shorts (no_subcommand waiting word) in
        ap₂ (λ (kinds : Kinds) (m : Held × Step). or_else kinds (step_fault s position m.0 m.1)) v.taken v.met

    pub value_walked : IsValue word → walked s.rules [] (at (held rows pending) waiting position) word ≡ after_step s.rules word (at (held rows pending) waiting position) taken.0 taken.1
    unfolding walked
    value_walked is =
        let v = is s [] waiting position rows pending no_shorts (no_subcommand waiting word) in
        ap (λ (m : Held × Step). after_step s.rules word (at (held rows pending) waiting position) m.0 m.1) v.met

    pub value_refused : IsValue word → IsRefused (step_fault s position taken.0 taken.1) → (words : List Text)
        → IsRefused (fault_from s (at (held rows pending) waiting position) (word ∷ words))
    value_refused is refused words = refused_here (at (held rows pending) waiting position) word words (subst IsRefused (sym (value_turn is)) refused)

    -- a value that is taken
    pub value_from : IsValue word → step_fault s position taken.0 taken.1 ≡ [] → (words : List Text)
        → fault_from s (at (held rows pending) waiting position) (word ∷ words)
        ≡ fault_from s (after_step s.rules word (at (held rows pending) waiting position) taken.0 taken.1) words
    value_from is none words =
        from_next (at (held rows pending) waiting position) word words
        ∙ ap₂ (λ (kinds : Kinds) (w : Walk). or_else kinds (fault_from s w words)) (value_turn is ∙ none) (value_walked is)
