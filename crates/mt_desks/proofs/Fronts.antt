-- How the front of a room is counted, and one more line is put back.
use Rattle.mt_desks.proofs.Prelude.{◌≡◌, ◌≢◌, ℕ, zero, suc, ◌+◌, ◌<◌, List, [], ◌∷◌, ◌++◌, true, false, length, drop, get_or, slice_set, arith, refl, ap, ◌∙◌, drop-cons, append_assoc, eq-eqb, ne_eqb, Entry, Line, lane_after, is_step, first_entries, front_len, in_turn, rest_of, room_at}

pub front_more : (line : ℕ) (room : List Entry) (i : ℕ) (d : Entry) → i < length room → (get_or room i d).line ≡ line → i + front_len line (drop i room) ≡ i + 1 + front_len line (drop (i + 1) room)
front_more line [] i d l same = absurd (omega arith)
front_more line (e ∷ room) zero d l same = rw (eq-eqb e.line line same) (omega arith)
front_more line (e ∷ room) (suc i) d l same = let h : i + front_len line (drop i room) ≡ i + 1 + front_len line (drop (i + 1) room) = front_more line room i d (omega arith) same in let e : suc i + 1 ≡ suc (i + 1) = omega arith in rw e (omega (arith, h))

pub front_stop : (line : ℕ) (room : List Entry) (i : ℕ) (d : Entry) → i < length room → (get_or room i d).line ≢ line → i + front_len line (drop i room) ≡ i
front_stop line [] i d l other = absurd (omega arith)
front_stop line (e ∷ room) zero d l other = rw (ne_eqb e.line line other) (omega arith)
front_stop line (e ∷ room) (suc i) d l other = omega (arith, front_stop line room i d (omega arith) other)

pub front_end : (line : ℕ) (room : List Entry) (i : ℕ) → i ≡ length room → i + front_len line (drop i room) ≡ i
front_end line [] i e = rw e refl
front_end line (x ∷ room) i e = let h : length room + front_len line (drop (length room) room) ≡ length room = front_end line room (length room) refl in rw e (omega (arith, h))

-- one more line is put back
next_line : (lines : List Line) (i : ℕ) (d : Line) → i < length lines → drop i lines ≡ get_or lines i d ∷ drop (i + 1) lines
next_line lines i d l = let e : suc i ≡ i + 1 = omega arith in drop-cons lines i d l ∙ ap (λ (k : ℕ). get_or lines i d ∷ drop k lines) e

pub turn_taken : (lines : List Line) (i : ℕ) (d : Line) (here : ℕ) (rooms rooms' : List (List Entry)) (items items' : List Entry) → i < length lines → is_step (get_or lines i d).item ≡ true
    → items' ≡ items ++ first_entries (get_or lines i d).number (room_at rooms here) → rooms' ≡ slice_set rooms here (rest_of (get_or lines i d).number (room_at rooms here))
    → items' ++ in_turn (lane_after here (get_or lines i d).item) (drop (i + 1) lines) rooms' ≡ items ++ in_turn here (drop i lines) rooms
turn_taken lines i d here rooms rooms' items items' l step told left = rw (next_line lines i d l, step, told, left) (append_assoc items (first_entries (get_or lines i d).number (room_at rooms here)) _)

pub turn_skipped : (lines : List Line) (i : ℕ) (d : Line) (here : ℕ) (rooms : List (List Entry)) → i < length lines → is_step (get_or lines i d).item ≡ false
    → in_turn (lane_after here (get_or lines i d).item) (drop (i + 1) lines) rooms ≡ in_turn here (drop i lines) rooms
turn_skipped lines i d here rooms l other = rw (next_line lines i d l, other) refl
