-- That `clap` and the definition say the same of a list of words.
use Rattle.mt_cli.proofs.Prelude.{◌≡◌, ◌⊎◌, false, List, [], ◌∷◌, Option, None, Kinds, Text, is_end_of_options, Command}
use Rattle.mt_cli.proofs.Refusals.{IsRefused}

-- no word is `--`
abbrev pub HasNoEnd : List Text → Type 0
HasNoEnd [] = Unit {0}
HasNoEnd (word ∷ words) = (is_end_of_options word ≡ false) × HasNoEnd words

-- `clap` takes the words and tells this command, or refuses them, and they are none
abbrev pub Agrees : Kinds → Option Command → Option Command → Type 0
Agrees fault met wanted = ((fault ≡ []) × (met ≡ wanted)) ⊎ (IsRefused fault × (wanted ≡ None))
