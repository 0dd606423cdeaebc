-- Lines that are left from a place on: the next one, and the room that they take.
use Rattle.mt_desks.proofs.Prelude.{◌≡◌, ℕ, zero, suc, ◌+◌, ◌<◌, true, List, [], ◌∷◌, Some, length, drop, slice_get, arith, sym, ap, ◌∙◌, subst, slice_get_within, get_or_from_slice_get, Line, NamesBelow, is_step, room_for, room_of, AreLines}

pub line_at : (lines : List Line) (s : ℕ) (line : Line) (rest : List Line) → drop s lines ≡ line ∷ rest → slice_get lines s ≡ Some line
line_at [] zero line rest is = absurd (omega (arith, ap length is))
line_at [] (suc s) line rest is = absurd (omega (arith, ap length is))
line_at (x ∷ lines) zero line rest is = ap (λ (z : List Line). slice_get z 0) is
line_at (x ∷ lines) (suc s) line rest is = line_at lines s line rest is

pub behind_line : (lines : List Line) (s : ℕ) (line : Line) (rest : List Line) → drop s lines ≡ line ∷ rest → rest ≡ drop (s + 1) lines
behind_line [] zero line rest is = absurd (omega (arith, ap length is))
behind_line [] (suc s) line rest is = absurd (omega (arith, ap length is))
behind_line (x ∷ lines) zero line rest is = sym (ap (drop 1) is)
behind_line (x ∷ lines) (suc s) line rest is = let e : suc s + 1 ≡ suc (s + 1) = omega arith in rw e (behind_line lines s line rest is)

pub is_line : (count : ℕ) (lines : List Line) (s : ℕ) (line : Line) (rest : List Line) → drop s lines ≡ line ∷ rest → AreLines count lines → NamesBelow count line.item × (is_step line.item ≡ true)
is_line count lines s line rest is are =
    let at : slice_get lines s ≡ Some line = line_at lines s line rest is in
    subst (λ (z : Line). NamesBelow count z.item × (is_step z.item ≡ true)) (get_or_from_slice_get lines s line line at) (are s line (slice_get_within lines s line at))

pub room_from : (lines : List Line) (s : ℕ) (line : Line) (rest : List Line) → drop s lines ≡ line ∷ rest → room_of (drop s lines) ≡ room_for line.item + room_of (drop (s + 1) lines)
room_from lines s line rest is = ap room_of is ∙ ap (λ (z : List Line). room_for line.item + room_of z) (behind_line lines s line rest is)

pub some_left : (lines : List Line) (s : ℕ) → s < length lines → drop s lines ≡ [] → ⊥
some_left [] s below is = absurd (omega (arith, below))
some_left (x ∷ lines) zero below is = absurd (omega (arith, ap length is))
some_left (x ∷ lines) (suc s) below is = some_left lines s (omega (arith, below)) is
