-- What a word is to a command with no short names: an option with a long name, flags that it refuses, or a value.
use Rattle.mt_cli.proofs.Prelude.{◌≡◌, ℕ, Bool, true, false, zero, suc, List, [], ◌∷◌, length, Option, Some, None, refl, sym, ap, subst, true≢false, eqb-true, ◌==◌, slice_get, before_first, chars, long_of, name_and_value, short_of, bundle_step_fault, flags_fault, word_fault, Shape, Held, Names, Row, Rule, Text, Waiting, after_flag, arg_by_short, plain, plain_word, subcommand_met, word_met, bundle_ends, is_end_of_options, is_number}
use Rattle.mt_cli.proofs.Refusals.{IsRefused}

-- what is held between two words
abbrev pub held : List Row → Option (Text × List Text) → Held
held rows pending = record { rows = rows; pending = pending; skip = 0 }

abbrev pub NoShorts : Shape → Type 0
NoShorts s = (x : ℕ) → arg_by_short s.rules x ≡ None

-- the word is refused wherever it stands
abbrev pub IsFlags : Text → Type 0
IsFlags word = (s : Shape) (names : Names) (waiting : Waiting) (rows : List Row) (pending : Option (Text × List Text)) → NoShorts s → subcommand_met names waiting word ≡ None
    → IsRefused (word_fault s names false waiting word (held rows pending))

-- the word is a value wherever it stands
pub record IsValueAt (s : Shape) (names : Names) (waiting : Waiting) (position : ℕ) (word : Text) (h : Held) : Type 0 where
  pub taken : word_fault s names false waiting word h ≡ []
  pub met : word_met s.rules names false waiting position word h ≡ plain_word s.rules waiting word h

abbrev pub IsValue : Text → Type 0
IsValue word = (s : Shape) (names : Names) (waiting : Waiting) (position : ℕ) (rows : List Row) (pending : Option (Text × List Text)) → NoShorts s → subcommand_met names waiting word ≡ None
    → IsValueAt s names waiting position word (held rows pending)

pub data Sort (word : Text) : Type 0 where
  is_long : (name : Text) (value : Option Text) (rest : Text) → long_of word ≡ Some (name, value) → word ≡ 45 ∷ 45 ∷ rest → name ≡ before_first (λ x. x == 61) rest → is_number word ≡ false → Sort word
  is_flags : IsFlags word → is_number word ≡ false → Sort word
  is_value : IsValue word → Sort word

no_flag : (word : Text) → is_end_of_options word ≡ false → long_of word ≡ None → short_of word ≡ None → IsValue word
no_flag word end long short s names waiting position rows pending none sub = record { taken = rw (sub, end, long, short) refl; met = rw (sub, end, long, short) refl }

flags_end : (c : List Rule) (again : Bool) (k : ℕ) (flags : Text) (skip : ℕ) (h : Held) → slice_get (chars flags) 0 ≡ None → flags_fault c again k flags skip h ≡ []
unfolding flags_fault
flags_end c again zero flags skip h none = refl
flags_end c again (suc k) flags skip h none = ap (λ o. bundle_step_fault c again o flags skip h (flags_fault c again k)) none

flags_refused : (c : List Rule) (again : Bool) (k : ℕ) (flags : Text) (h : Held) (x : ℕ) → slice_get (chars flags) 0 ≡ Some x → arg_by_short c x ≡ None
    → IsRefused (flags_fault c again (suc k) flags 0 h)
unfolding flags_fault
flags_refused c again k flags h x is none = rw (is, none) tt

module _ (byte : ℕ) (bytes : Text) (word : Text) (end : is_end_of_options word ≡ false) (no_long : long_of word ≡ None) (short : short_of word ≡ Some (byte ∷ bytes)) where
  -- bytes that spell no character are taken as a value
  spells_none : slice_get (chars (byte ∷ bytes)) 0 ≡ None → IsValue word
  spells_none none s names waiting position rows pending _ sub = record {
    taken = rw (sub, end, no_long, short) (flags_end s.rules s.args_override_self (length (byte ∷ bytes)) (byte ∷ bytes) 0 (held rows pending) none);
    met = rw (sub, end, no_long, short) (ap (λ m. after_flag s.rules waiting word m.0 m.1) (sym (bundle_ends s.rules (length (byte ∷ bytes)) (byte ∷ bytes) 0 plain (held rows pending) (sym none))));
  }

  spells : (x : ℕ) → slice_get (chars (byte ∷ bytes)) 0 ≡ Some x → IsFlags word
  spells x is s names waiting rows pending none sub = rw (sub, end, no_long, short) (flags_refused s.rules s.args_override_self (length bytes) (byte ∷ bytes) (held rows pending) x is (none x))

  spelt : (first : Option ℕ) → slice_get (chars (byte ∷ bytes)) 0 ≡ first → is_number word ≡ false → Sort word
  spelt None is no_number = is_value (spells_none is)
  spelt (Some x) is no_number = is_flags (spells x is) no_number

two_hyphens : (bytes : Text) → is_end_of_options (45 ∷ 45 ∷ bytes) ≡ false → Sort (45 ∷ 45 ∷ bytes)
two_hyphens [] end = absurd (true≢false end)
two_hyphens (byte ∷ bytes) end = is_long (name_and_value (byte ∷ bytes)).0 (name_and_value (byte ∷ bytes)).1 (byte ∷ bytes) refl refl refl refl

hyphen : (bytes : Text) → is_end_of_options (45 ∷ bytes) ≡ false → Sort (45 ∷ bytes)
hyphen [] end = is_value (no_flag (45 ∷ []) end refl refl)
hyphen (byte ∷ bytes) end = go (byte == 45) refl
  where
    go : (t : Bool) → (byte == 45) ≡ t → Sort (45 ∷ byte ∷ bytes)
    go false is = spelt byte bytes (45 ∷ byte ∷ bytes) end (rw is refl) (rw is refl) (slice_get (chars (byte ∷ bytes)) 0) refl refl
    go true is = subst (λ b. is_end_of_options (45 ∷ b ∷ bytes) ≡ false → Sort (45 ∷ b ∷ bytes)) (sym (eqb-true byte 45 is)) (two_hyphens bytes) end

pub sort_of : (word : Text) → is_end_of_options word ≡ false → Sort word
sort_of [] end = is_value (no_flag [] end refl refl)
sort_of (byte ∷ bytes) end = go (byte == 45) refl
  where
    go : (t : Bool) → (byte == 45) ≡ t → Sort (byte ∷ bytes)
    go false is = is_value (no_flag (byte ∷ bytes) end (rw is refl) (rw is refl))
    go true is = subst (λ b. is_end_of_options (b ∷ bytes) ≡ false → Sort (b ∷ bytes)) (sym (eqb-true byte 45 is)) (hyphen bytes) end
