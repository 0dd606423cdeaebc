-- One step of a scan, and what is told of the rest of it.
use Rattle.mt_sequential.proofs.Prelude.{◌≡◌, ℕ, suc, List, [], ◌∷◌, ◌++◌, Option, Some, None, sym, ap, ◌∙◌, append_assoc, Range, answer, Entry, find_at, place_after, TreeState, read_entry, scan_entries, entries_behind}

module _ (line : ℕ) (t : TreeState) (max k left : ℕ) (at : Option ℕ) (more : k ≡ suc left) (before after : List Entry) (told : after ≡ before ++ read_entry line t (find_at at max) ∷ []) where
  rest_is : (value : Option Range) → value ≡ answer t.map.ranges (find_at at max) → scan_entries line t max k at ≡ read_entry line t (find_at at max) ∷ entries_behind (scan_entries line t max left) max value
  rest_is value is = ap (λ (n : ℕ). scan_entries line t max n at) more ∙ ap (λ (v : Option Range). read_entry line t (find_at at max) ∷ entries_behind (scan_entries line t max left) max v) (sym is)

  pub scan_ends : None ≡ answer t.map.ranges (find_at at max) → after ≡ before ++ scan_entries line t max k at
  scan_ends is = told ∙ ap (λ (es : List Entry). before ++ es) (sym (rest_is None is))

  pub scan_goes_on : (r : Range) (all : List Entry) → Some r ≡ answer t.map.ranges (find_at at max) → all ≡ after ++ scan_entries line t max left (place_after max r) → all ≡ before ++ scan_entries line t max k at
  scan_goes_on r all is behind =
      behind ∙ (ap (λ (es : List Entry). es ++ scan_entries line t max left (place_after max r)) told
      ∙ (append_assoc before (read_entry line t (find_at at max) ∷ []) (scan_entries line t max left (place_after max r)) ∙ ap (λ (es : List Entry). before ++ es) (sym (rest_is (Some r) is))))
