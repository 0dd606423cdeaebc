use Rattle.mt_log.proofs.Prelude.{◌≡◌, ◌⊎◌, ℕ, ◌+◌, ◌<◌, ◌≤◌, Bool, true, false, List, [], ◌∷◌, Ok, Err, Result, length, arith, refl, cond, ap, length-append, slice_split, onto_first, Why, NoNewline, Item, fault_at, on_line, ◌>>=◌, ReadSoFar, is_skipped, after_skipped, after_item, after_line, after_pieces, log_of_pieces, headed, version_in, item_of, fields_of}

-- there is a first part
some_part : (p : ℕ → Bool) (xs : List ℕ) → (part : List ℕ) × (parts : List (List ℕ)) × (slice_split p xs ≡ part ∷ parts)
some_part p [] = ([], [], refl)
some_part p (x ∷ xs) =
    let others = some_part p xs in
    elim (p x) as (λ b. (part : List ℕ) × (parts : List (List ℕ)) × (cond b ([] ∷ slice_split p xs) (onto_first x (slice_split p xs)) ≡ part ∷ parts)) [
      | true ↦ ([], slice_split p xs, refl)
      | false ↦ (x ∷ others.0, others.1, ap (onto_first x) others.2)
    ]

before_piece : (r : ReadSoFar) (line piece : List ℕ) (pieces : List (List ℕ)) → after_pieces r (line ∷ piece ∷ pieces) ≡ (after_line r line >>= λ s. after_pieces s (piece ∷ pieces))
before_piece r [] piece pieces = refl
before_piece r (b ∷ line) piece pieces = refl

-- a line with a piece behind it is read first
pub first_line : (p : ℕ → Bool) (r : ReadSoFar) (line rest : List ℕ) → after_pieces r (line ∷ slice_split p rest) ≡ (after_line r line >>= λ s. after_pieces s (slice_split p rest))
first_line p r line rest = let first = some_part p rest in rw first.2 (before_piece r line first.0 first.1)

-- behind the last LF nothing may come
pub last_piece : (r : ReadSoFar) (rest : List ℕ) → length rest ≡ 0 → after_pieces r (rest ∷ []) ≡ Ok r
last_piece r [] h = refl
last_piece r (b ∷ rest) h = absurd (omega arith)

pub left_over : (r : ReadSoFar) (rest : List ℕ) → 0 < length rest → after_pieces r (rest ∷ []) ≡ Err (fault_at r.next NoNewline)
left_over r [] h = absurd (omega arith)
left_over r (b ∷ rest) h = refl

-- there are these versions
abbrev pub IsVersion : ℕ → Type 0
IsVersion version = (version ≡ 1) ⊎ (version ≡ 2)

headed_by : (header piece : List ℕ) (pieces : List (List ℕ)) → log_of_pieces (header ∷ piece ∷ pieces) ≡ headed (version_in header) (piece ∷ pieces)
headed_by [] piece pieces = refl
headed_by (b ∷ header) piece pieces = refl

-- behind the first line, which names the version, stand the others
pub behind_header : (p : ℕ → Bool) (header rest : List ℕ) → log_of_pieces (header ∷ slice_split p rest) ≡ headed (version_in header) (slice_split p rest)
behind_header p header rest = let first = some_part p rest in rw first.2 (headed_by header first.0 first.1)

grown : (r s : ReadSoFar) (skipped : Bool) (said : Result Item Why) → cond skipped (Ok (after_skipped r)) (on_line r.next said >>= λ item. Ok (after_item r item)) ≡ Ok s → (s.next ≡ r.next + 1) × (length s.lines ≤ length r.lines + 1)
grown r s true said h = let is : after_skipped r ≡ s = (cc) in rw (← is) (refl, omega arith)
grown r s false (Ok item) h = let is : after_item r item ≡ s = (cc) in rw (← is) (refl, omega (arith, length-append r.lines (record { number = r.next; item = item } ∷ [])))
grown r s false (Err why) h = (cc)

-- a line that is read counts, and says one thing at the most
pub one_more : (r s : ReadSoFar) (line : List ℕ) → after_line r line ≡ Ok s → (s.next ≡ r.next + 1) × (length s.lines ≤ length r.lines + 1)
one_more r s line h = grown r s (is_skipped line) (item_of r (fields_of line)) h

-- what is read of the pieces, from the first to the last
pub ruleset pieces_read = (first_line, one_more, last_piece, left_over)
