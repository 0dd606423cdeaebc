-- What `clap` makes of the words is what they are.
use Rattle.mt_cli.proofs.Prelude.{◌≡◌, ◌≢◌, ◌∙◌, Bool, true, false, List, [], ◌∷◌, ◌++◌, Option, Some, None, is_some, refl, sym, ap, ap₂, subst, inl, inr, codes, true≢false, list_any, bytes_eq, or_parts, bytes_eq-Decides, check_fault, defaults_fault, entered_fault, fault_of, is_simple_and_free, settle_fault, step_fault, turn_fault, walk_fault, word_fault, HasKind, Kinds, or_else, App, HasMatchesOf, Shape, built, entered, names_of, subcommand_of, subcommand_rows_of, kind_of, Held, Names, Step, Text, Walk, finished, idle, nothing_held, settled, subcommand_met, walk, walk_from, walked, Error, OutOfMemory, ArgMatches, clap_on_literals, walk_stopped, command_of, command_met, grammar, is_end_of_options, Command, Image, Replay, Verify}
use Rattle.mt_cli.proofs.Agreements.{Agrees, HasNoEnd}
use Rattle.mt_cli.proofs.Positionals.{bulk_agrees, ids_agrees, make_agrees, show_agrees, trial_agrees}
use Rattle.mt_cli.proofs.Refusals.{IsRefused, or_else_none, refused_first}
use Rattle.mt_cli.proofs.Replays.{rows_agree}
use Rattle.mt_cli.proofs.Shapes.{bulk_shape, ids_shape, make_shape, rows_shape, show_shape, simple, simple_and_free, trial_shape}
use Rattle.mt_cli.proofs.Sorts.{NoShorts, held, is_flags, is_long, is_value, sort_of}
use Rattle.mt_cli.proofs.Walks.{at, fault_from}

abbrev top : Shape
top = (built grammar).top

abbrev names : Names
names = names_of (built grammar)

abbrev start : Walk
start = walk_from nothing_held

-- where a subcommand was met
abbrev met : Text → List Text → Walk
met name words = record start { stopped = Some (name, words) }

-- after a subcommand no word is refused above it
left_alone : (name : Text) (seen words : List Text) → walk_fault top names (met name seen) words ≡ []
unfolding walk_fault walked
left_alone name seen [] = refl
left_alone name seen (word ∷ words) = left_alone name (seen ++ word ∷ []) words

-- what is refused behind the walk
abbrev behind : Walk → Kinds
behind w = or_else (entered_fault (built grammar) w.stopped) (or_else (settle_fault top.rules top.args_override_self w.held)
    (or_else (defaults_fault (settled top.rules w.held).rows top.rules) (check_fault top (finished top.rules w.held) (is_some (entered (built grammar) w.stopped)))))

agrees_by : (a b : Kinds) (m n wanted : Option Command) → a ≡ b → m ≡ n → Agrees b n wanted → Agrees a m wanted
agrees_by a b m n wanted faults mets agrees = subst (λ (x : Kinds). Agrees x m wanted) (sym faults) (subst (λ (x : Option Command). Agrees b x wanted) (sym mets) agrees)

abbrev AgreesOn : List Text → Type 0
AgreesOn words = Agrees (fault_of grammar words) (command_met (subcommand_of grammar words)) (command_of words)

abbrev told : Walk → Option Command
told w = command_met (entered (built grammar) w.stopped)

-- the words after a command's word are left to it
module _ (words : List Text) where
  after_name : (name : Text) (fault : Kinds) → let above : Walk = walk top.rules names nothing_held (name ∷ words) in above ≡ met name words
      → fault_of grammar (name ∷ words) ≡ or_else (walk_fault top names (met name []) words) (behind above) → behind (met name words) ≡ fault → Agrees fault (told (met name words)) (command_of (name ∷ words))
      → Agrees (fault_of grammar (name ∷ words)) (told (walk top.rules names nothing_held (name ∷ words))) (command_of (name ∷ words))
  after_name name fault walked whole left agrees =
      agrees_by _ _ _ _ (command_of (name ∷ words)) (whole ∙ (ap₂ (λ (kinds : Kinds) (w : Walk). or_else kinds (behind w)) (left_alone name [] words) walked ∙ left)) (ap told walked) agrees

  after_replay : HasNoEnd words → AgreesOn (codes "replay" ∷ words)
  unfolding clap_on_literals
  after_replay ends =
      let fault : Kinds = fault_from (rows_shape (codes "replay")) (at (held [] None) idle 1) words in
      after_name (codes "replay") fault (sym (walk_stopped top.rules names start (codes "replay") [] words)) refl (or_else_none fault) (rows_agree (codes "replay") Replay words ends)

  after_verify : HasNoEnd words → AgreesOn (codes "verify" ∷ words)
  unfolding clap_on_literals
  after_verify ends =
      let fault : Kinds = fault_from (rows_shape (codes "verify")) (at (held [] None) idle 1) words in
      after_name (codes "verify") fault (sym (walk_stopped top.rules names start (codes "verify") [] words)) refl (or_else_none fault) (rows_agree (codes "verify") Verify words ends)

  after_image : HasNoEnd words → AgreesOn (codes "image" ∷ words)
  unfolding clap_on_literals
  after_image ends =
      let fault : Kinds = fault_from (rows_shape (codes "image")) (at (held [] None) idle 1) words in
      after_name (codes "image") fault (sym (walk_stopped top.rules names start (codes "image") [] words)) refl (or_else_none fault) (rows_agree (codes "image") Image words ends)

  after_show : HasNoEnd words → AgreesOn (codes "show" ∷ words)
  unfolding clap_on_literals
  after_show ends =
      let fault : Kinds = fault_from show_shape (at (held [] None) idle 1) words in
      after_name (codes "show") fault (sym (walk_stopped top.rules names start (codes "show") [] words)) refl (or_else_none fault) (show_agrees words ends)

  after_bulk : HasNoEnd words → AgreesOn (codes "bulk" ∷ words)
  unfolding clap_on_literals
  after_bulk ends =
      let fault : Kinds = fault_from bulk_shape (at (held [] None) idle 1) words in
      after_name (codes "bulk") fault (sym (walk_stopped top.rules names start (codes "bulk") [] words)) refl (or_else_none fault) (bulk_agrees words ends)

  after_ids : HasNoEnd words → AgreesOn (codes "ids" ∷ words)
  unfolding clap_on_literals
  after_ids ends =
      let fault : Kinds = fault_from ids_shape (at (held [] None) idle 1) words in
      after_name (codes "ids") fault (sym (walk_stopped top.rules names start (codes "ids") [] words)) refl (or_else_none fault) (ids_agrees words ends)

  after_make : HasNoEnd words → AgreesOn (codes "make" ∷ words)
  unfolding clap_on_literals
  after_make ends =
      let fault : Kinds = fault_from make_shape (at (held [] None) idle 1) words in
      after_name (codes "make") fault (sym (walk_stopped top.rules names start (codes "make") [] words)) refl (or_else_none fault) (make_agrees words ends)

  after_trial : HasNoEnd words → AgreesOn (codes "trial" ∷ words)
  unfolding clap_on_literals
  after_trial ends =
      let fault : Kinds = fault_from trial_shape (at (held [] None) idle 1) words in
      after_name (codes "trial") fault (sym (walk_stopped top.rules names start (codes "trial") [] words)) refl (or_else_none fault) (trial_agrees words ends)

top_no_shorts : NoShorts top
top_no_shorts x = refl

differs : (a b : Text) → bytes_eq a b ≡ false → bytes_eq b a ≡ false
differs a b e = go (bytes_eq b a) refl
  where
    go : (t : Bool) → bytes_eq b a ≡ t → t ≡ false
    go false same = refl
    go true same = absurd (true≢false (sym ((bytes_eq-Decides a b).1 (sym ((bytes_eq-Decides b a).0 same))) ∙ e))

-- a word that names no subcommand is refused
stranger : (word : Text) → is_end_of_options word ≡ false → subcommand_met names idle word ≡ None → IsRefused (turn_fault top names start word)
unfolding clap_on_literals
stranger word end none = elim (sort_of word end) [
  | is_long name v _ is _ _ _ ↦ refused_first (word_fault top names false idle word nothing_held) _ (rw (none, end, is) tt)
  | is_flags refused _ ↦ refused_first (word_fault top names false idle word nothing_held) _ (refused top names idle [] None top_no_shorts none)
  | is_value is ↦
      let v = is top names idle 1 [] None top_no_shorts none in
      subst IsRefused (sym (ap₂ (λ (kinds : Kinds) (m : Held × Step). or_else kinds (step_fault top 1 m.0 m.1)) v.taken v.met)) tt
]

other : (word : Text) (words : List Text) → is_end_of_options word ≡ false → bytes_eq word (codes "replay") ≡ false → bytes_eq word (codes "make") ≡ false → bytes_eq word (codes "trial") ≡ false
    → bytes_eq word (codes "verify") ≡ false → bytes_eq word (codes "image") ≡ false → bytes_eq word (codes "show") ≡ false
    → bytes_eq word (codes "bulk") ≡ false → bytes_eq word (codes "ids") ≡ false → AgreesOn (word ∷ words)
unfolding walk_fault
other word words end replay make trial verify image show bulk ids =
    let none : subcommand_met names idle word ≡ None = rw (
      differs word (codes "replay") replay,
      differs word (codes "make") make,
      differs word (codes "trial") trial,
      differs word (codes "verify") verify,
      differs word (codes "image") image,
      differs word (codes "show") show,
      differs word (codes "bulk") bulk,
      differs word (codes "ids") ids,
    ) refl in
    inr (refused_first (walk_fault top names start (word ∷ words)) _ (refused_first (turn_fault top names start word) _ (stranger word end none)), rw (replay, make, trial, verify, image, show, bulk, ids) refl)

no_words : AgreesOn []
unfolding clap_on_literals
no_words = inl (refl, refl)

pub agrees : (words : List Text) → HasNoEnd words → AgreesOn words
agrees [] ends = no_words
agrees (word ∷ words) (end, ends) =
    go (bytes_eq word (codes "replay")) refl (bytes_eq word (codes "make")) refl (bytes_eq word (codes "trial")) refl (bytes_eq word (codes "verify")) refl (bytes_eq word (codes "image")) refl (bytes_eq word (codes "show")) refl
    (bytes_eq word (codes "bulk")) refl (bytes_eq word (codes "ids")) refl
  where
    at_name : (name : Text) → bytes_eq word name ≡ true → AgreesOn (name ∷ words) → AgreesOn (word ∷ words)
    at_name name same = subst (λ (w : Text). AgreesOn (w ∷ words)) (sym ((bytes_eq-Decides word name).0 same))

    go : (a : Bool) → bytes_eq word (codes "replay") ≡ a → (b : Bool) → bytes_eq word (codes "make") ≡ b → (c : Bool) → bytes_eq word (codes "trial") ≡ c
        → (d : Bool) → bytes_eq word (codes "verify") ≡ d → (e : Bool) → bytes_eq word (codes "image") ≡ e → (f : Bool) → bytes_eq word (codes "show") ≡ f
        → (g : Bool) → bytes_eq word (codes "bulk") ≡ g → (h : Bool) → bytes_eq word (codes "ids") ≡ h → AgreesOn (word ∷ words)
    go true is b _ c _ d _ e _ f _ g _ h _ = at_name (codes "replay") is (after_replay words ends)
    go false _ true is c _ d _ e _ f _ g _ h _ = at_name (codes "make") is (after_make words ends)
    go false _ false _ true is d _ e _ f _ g _ h _ = at_name (codes "trial") is (after_trial words ends)
    go false _ false _ false _ true is e _ f _ g _ h _ = at_name (codes "verify") is (after_verify words ends)
    go false _ false _ false _ false _ true is f _ g _ h _ = at_name (codes "image") is (after_image words ends)
    go false _ false _ false _ false _ false _ true is g _ h _ = at_name (codes "show") is (after_show words ends)
    go false _ false _ false _ false _ false _ false _ true is h _ = at_name (codes "bulk") is (after_bulk words ends)
    go false _ false _ false _ false _ false _ false _ false _ true is = at_name (codes "ids") is (after_ids words ends)
    go false replay false make false trial false verify false image false show false bulk false ids = other word words end replay make trial verify image show bulk ids

no_end : (words : List Text) → list_any is_end_of_options words ≡ false → HasNoEnd words
no_end [] none = tt
no_end (word ∷ words) none =
    let parts = or_parts _ _ none in
    (parts.0, no_end words parts.1)

taken_by_grammar : (words : List Text) (m : ArgMatches) → list_any is_end_of_options words ≡ false → HasMatchesOf grammar words m → (is_simple_and_free grammar ≡ true → fault_of grammar words ≡ [])
    → command_met (subcommand_rows_of m) ≡ command_of words
taken_by_grammar words m none matches faults = elim (agrees words (no_end words none)) [
  | inl same ↦ ap command_met (matches simple).1 ∙ same.1
  | inr lost ↦ absurd (subst IsRefused (faults simple_and_free) lost.0)
]

-- what `clap` gives is what the words are
pub taken : (a : App) (words : List Text) (m : ArgMatches) → a ≡ grammar → list_any is_end_of_options words ≡ false → HasMatchesOf a words m → (is_simple_and_free a ≡ true → fault_of a words ≡ [])
    → command_met (subcommand_rows_of m) ≡ command_of words
taken a words m is none matches faults =
    taken_by_grammar words m none (subst (λ (x : App). HasMatchesOf x words m) is matches) (subst (λ (x : App). is_simple_and_free x ≡ true → fault_of x words ≡ []) is faults)

refused_by_grammar : (words : List Text) (e : Error) → list_any is_end_of_options words ≡ false → (is_simple_and_free grammar ≡ true → HasKind (fault_of grammar words) e) → kind_of e ≢ OutOfMemory
    → None ≡ command_of words
refused_by_grammar words e none kinds memory = elim (agrees words (no_end words none)) [
  | inl same ↦ elim (subst (λ (x : Kinds). HasKind x e) same.0 (kinds simple_and_free)) [ inl out ↦ absurd (memory out) | inr among ↦ absurd among ]
  | inr lost ↦ sym lost.1
]

-- what `clap` refuses, but for want of memory, is no command
pub refused : (a : App) (words : List Text) (e : Error) → a ≡ grammar → list_any is_end_of_options words ≡ false → (is_simple_and_free a ≡ true → HasKind (fault_of a words) e) → kind_of e ≢ OutOfMemory
    → None ≡ command_of words
refused a words e is none kinds memory = refused_by_grammar words e none (subst (λ (x : App). is_simple_and_free x ≡ true → HasKind (fault_of x words) e) is kinds) memory
