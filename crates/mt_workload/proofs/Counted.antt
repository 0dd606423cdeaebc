-- A summary that is counted entry by entry.
use Rattle.mt_workload.proofs.Prelude.{◌≡◌, ℕ, ◌+◌, ◌<◌, Bool, true, false, List, length, take, cond, codes, get_or, arith, refl, sym, ap, ◌∙◌, bytes_eq, count_by-le-length, count_by_more_no, count_by_more_yes, Entry, AreBelow, with_one_counted, said_word, times_told, told}

-- no word is told more often than there are entries
few_times : (word : List ℕ) (entries : List Entry) (bound : ℕ) → length entries < bound → times_told word entries < bound
few_times word entries bound few = let most = count_by-le-length (λ (e : Entry). bytes_eq (said_word e.said) word) entries in omega arith

pub few_told : (steps : ℕ) (entries : List Entry) (bound : ℕ) → length entries < bound → AreBelow bound (told steps entries)
few_told steps entries bound few = record {
  ok = few_times (codes "ok") entries bound few;
  start = few_times (codes "start") entries bound few;
  was = few_times (codes "was") entries bound few;
  none = few_times (codes "none") entries bound few;
  exists = few_times (codes "exists") entries bound few;
  invalid = few_times (codes "invalid") entries bound few;
  busy = few_times (codes "busy") entries bound few;
  nomem = few_times (codes "nomem") entries bound few;
  entry = few_times (codes "entry") entries bound few;
  range = few_times (codes "range") entries bound few;
}

-- one more entry is told by its word
more_by : (word : List ℕ) (i : ℕ) (entries : List Entry) (entry : Entry) (same : Bool) → bytes_eq (said_word entry.said) word ≡ same → i < length entries → entry ≡ get_or entries i entry → times_told word (take (i + 1) entries) ≡ cond same (times_told word (take i entries) + 1) (times_told word (take i entries))
more_by word i entries entry true is within at = count_by_more_yes (λ (e : Entry). bytes_eq (said_word e.said) word) entries i entry within (ap (λ (e : Entry). bytes_eq (said_word e.said) word) (sym at) ∙ is)
more_by word i entries entry false is within at = count_by_more_no (λ (e : Entry). bytes_eq (said_word e.said) word) entries i entry within (ap (λ (e : Entry). bytes_eq (said_word e.said) word) (sym at) ∙ is)

more : (word : List ℕ) (i : ℕ) (entries : List Entry) (entry : Entry) → i < length entries → entry ≡ get_or entries i entry → times_told word (take (i + 1) entries) ≡ cond (bytes_eq (said_word entry.said) word) (times_told word (take i entries) + 1) (times_told word (take i entries))
more word i entries entry within at = more_by word i entries entry (bytes_eq (said_word entry.said) word) refl within at

pub told_more : (steps i : ℕ) (entries : List Entry) (entry : Entry) → i < length entries → entry ≡ get_or entries i entry → told steps (take (i + 1) entries) ≡ with_one_counted (said_word entry.said) (told steps (take i entries))
told_more steps i entries entry within at =
    rw (more (codes "ok") i entries entry within at, more (codes "start") i entries entry within at, more (codes "was") i entries entry within at, more (codes "none") i entries entry within at, more (codes "exists") i entries entry within at, more (codes "invalid") i entries entry within at, more (codes "busy") i entries entry within at, more (codes "nomem") i entries entry within at, more (codes "entry") i entries entry within at, more (codes "range") i entries entry within at) refl
