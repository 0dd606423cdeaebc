-- What the writer knows after a scan of all section words (the readers' epochs).
-- Source: this project's own; the kernel frees nodes when every reader has left its RCU read-side section.
use Rattle.std.specs.Prelude.{◌≡◌, ◌⊎◌, ℕ, ◌+◌, ◌-◌, ◌*◌, ◌^◌, ◌≤◌, ◌==◌, List, [], ◌∷◌, ◌++◌, Some, None, Bool, true, false, ◌&&◌, ◌||◌, Option, length, slice_index, slice_set}
use Rattle.mt_pen.specs.Prelude.{Holder, Scan, PenPart, PassPart, section_word, scan_of, words_from, raised, with_loaded}

-- which epochs are known to be cleared, and which sections were found open, after the words of the handles from this one on
abbrev pub cleared_from : ℕ → ℕ → List ℕ → List ℕ → List ℕ
cleared_from ended pass [] cleared = cleared
cleared_from ended pass (word ∷ words) cleared = cleared_from ended (pass + 1) words (slice_set cleared pass (raised ended (slice_index cleared pass) word))

abbrev pub loaded_from : ℕ → List ℕ → List Holder → List Holder
loaded_from pass [] loaded = loaded
loaded_from pass (word ∷ words) loaded = loaded_from (pass + 1) words (with_loaded pass word loaded)

-- what the pen (the writer's capability) knows after the section words of the first handles
abbrev pub pen_scanning : List ℕ → PenPart → PenPart
pen_scanning words p = record p {
  cleared = cleared_from p.ended 0 words p.cleared;
  loaded = loaded_from 0 words p.loaded;
  sections = p.sections ++ words_from 0 words;
}

-- A word is that of a closed section, or of one that is open at an epoch that has been reached. The word of the joined handle
-- is that of its own section.
pub record IsWordOf (p : PenPart) (q : PassPart) (pass word : ℕ) : Type 0 where
  pub closed_or_open : (word ≡ 0) ⊎ ((epoch : ℕ) × (word ≡ 2 * epoch + 1) × (epoch ≤ p.ended))
  pub own : q.number ≡ pass → word ≡ section_word q.standing

abbrev pub AreWordsFrom : PenPart → PassPart → ℕ → List ℕ → Type 0
AreWordsFrom p q pass [] = Unit {0}
AreWordsFrom p q pass (word ∷ words) = IsWordOf p q pass word × AreWordsFrom p q (pass + 1) words

-- All section words were loaded, one of each handle in turn. This is what the scan found, and what the pen knows afterwards.
pub record HasScanned (p : PenPart) (q : PassPart) (p' : PenPart) (scan : Scan) (passes : ℕ) : Type 0 where
  pub words : List ℕ
  pub count : length words ≡ passes
  pub each : AreWordsFrom p q 0 words
  pub found : scan ≡ scan_of words
  pub pen : p' ≡ pen_scanning words p

-- the holder is among these
abbrev pub is_among : Holder → List Holder → Bool
is_among h [] = false
is_among h (x ∷ xs) = ((x.pass == h.pass) && (x.epoch == h.epoch)) || is_among h xs

abbrev pub is_loaded : Option Holder → List Holder → Bool
is_loaded None loaded = true
is_loaded (Some h) loaded = is_among h loaded

-- the epoch of the holder, and the greatest number if there is none
abbrev pub epoch_told : Option Holder → ℕ
epoch_told None = 2 ^ 64 - 1
epoch_told (Some h) = h.epoch
