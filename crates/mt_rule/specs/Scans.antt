-- What the section words of all handles show, loaded one after another.
-- Source: this project's own; the kernel frees nodes when every reader has left its RCU read-side section.
use Rattle.std.specs.Prelude.{◌≡◌, ℕ, ◌+◌, ◌-◌, ◌/◌, ◌^◌, ◌≤◌, ◌==◌, List, [], ◌∷◌, Some, None, drop, length, map, nat_lt, if◌then◌else◌}
use Rattle.mt_rule.specs.Prelude.{Scan}
use Rattle.mt_rule.specs.declared.views.SectionWord.{SectionWord}

-- no section is open
abbrev pub none_open : Scan
none_open = record { least = 2 ^ 64 - 1; by = None }

-- The section word of a handle counts if it is open at an epoch below all earlier ones.
abbrev pub lesser : ℕ → ℕ → Scan → Scan
lesser pass word scan = if word == 0 then scan else (if nat_lt (word / 2) scan.least then record { least = word / 2; by = Some (record { pass = pass; epoch = word / 2 }) } else scan)

-- The words are those of the handles from this one on. The result is the least epoch at which a section is open, and the first
-- handle that has it.
abbrev pub least_from : ℕ → List ℕ → Scan → Scan
least_from pass [] scan = scan
least_from pass (word ∷ words) scan = least_from (pass + 1) words (lesser pass word scan)

abbrev pub scan_of : List ℕ → Scan
scan_of words = least_from 0 words none_open

-- the words of the handles from this one on, one of each
abbrev pub words_from : ℕ → List ℕ → List SectionWord
words_from pass [] = []
words_from pass (word ∷ words) = record { pass = pass; word = word } ∷ words_from (pass + 1) words

-- the last section words that were loaded, this many, and what they were
abbrev pub last_loaded : ℕ → List SectionWord → List SectionWord
last_loaded n sections = drop (length sections - n) sections

abbrev pub loaded_word : SectionWord → ℕ
loaded_word s = s.word

abbrev pub last_words : ℕ → List SectionWord → List ℕ
last_words n sections = map loaded_word (last_loaded n sections)

-- The last section words that were loaded are one of each handle, in turn, and this is what they show.
pub record IsScanOf (sections : List SectionWord) (passes : ℕ) (scan : Scan) : Type 0 where
  pub many : passes ≤ length sections
  pub turns : last_loaded passes sections ≡ words_from 0 (last_words passes sections)
  pub found : scan ≡ scan_of (last_words passes sections)
