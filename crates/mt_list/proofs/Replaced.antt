-- A part of a list replaced in place: what is too much is put in behind, what is too little is closed up.
use Rattle.mt_list.proofs.Prelude.{◌≡◌, ℕ, ◌+◌, ◌-◌, ◌<◌, ◌≤◌, List, [], ◌∷◌, ◌++◌, min, length, take, drop, get_or, insert, arith, sym, ap, ◌∙◌, append_assoc, length-append, copy_within, take-append-drop, length-take, take_at, drop_at, take_more, take_all, take_rest, length-take-le, length-drop, take-append-le, drop-drop, take-take, Range}

-- ---- pieces put in one by one

-- the next piece goes behind those before it
pub one_more_piece : (old pieces now : List Range) (at i : ℕ) (x : Range) → at ≤ length old → i < length pieces → x ≡ get_or pieces i x → now ≡ take at old ++ (take i pieces ++ drop at old) → insert now (at + i) x ≡ take at old ++ (take (i + 1) pieces ++ drop at old)
one_more_piece old pieces now at i x room within is so_far =
    let front : List Range = take at old ++ take i pieces in
    let long : length front ≡ at + i = omega (arith, length-append (take at old) (take i pieces), length-take-le at old room, length-take-le i pieces (omega arith)) in
    let parts : now ≡ front ++ drop at old = so_far ∙ sym (append_assoc (take at old) (take i pieces) (drop at old)) in
    let below : take (at + i) now ≡ front = ap (take (at + i)) parts ∙ take_at front (drop at old) (at + i) long in
    let behind : drop (at + i) now ≡ drop at old = ap (drop (at + i)) parts ∙ drop_at front (drop at old) (at + i) long in
    let more : take (i + 1) pieces ≡ take i pieces ++ x ∷ [] = take_more pieces i x within ∙ ap (λ z. take i pieces ++ z ∷ []) (sym is) in
    rw (below, behind, more, append_assoc (take i pieces) (x ∷ []) (drop at old)) (append_assoc (take at old) (take i pieces) (x ∷ drop at old))

pub no_piece : (old pieces : List Range) (at : ℕ) → old ≡ take at old ++ (take 0 pieces ++ drop at old)
no_piece old pieces at = sym (take-append-drop at old)

pub all_pieces : (pieces : List Range) (i : ℕ) → length pieces ≤ i → take i pieces ≡ pieces
all_pieces pieces i past = take_all i pieces past

pub ruleset inserting = (one_more_piece, no_piece, all_pieces)

-- ---- a part closed up

pub closing : (xs now : List Range) (start end len : ℕ) → start ≤ end → end ≤ length xs → len ≡ length xs → now ≡ copy_within xs end len start → take (len - (end - start)) now ≡ take start xs ++ drop end xs
closing xs now start end len order bound whole is =
    let back : take (len - end) (drop end xs) ≡ drop end xs = rw whole (take_rest xs end) in
    let kept : List Range = take start xs ++ drop end xs in
    let long : length kept ≡ len - (end - start) = omega (arith, length-append (take start xs) (drop end xs), length-take-le start xs (omega arith), length-drop end xs) in
    rw (is, back) (take_at kept (drop (start + (len - end)) xs) (len - (end - start)) long)

-- ---- all of it

replaced_parts : (old front more one two three : List Range) (start end : ℕ) → start ≤ end → end ≤ length old → start + length front ≤ end
    → one ≡ take end old ++ (more ++ drop end old) → two ≡ take start one ++ (front ++ drop (start + length front) one) → three ≡ take (start + length front) two ++ drop end two
    → three ≡ take start old ++ ((front ++ more) ++ drop end old)
replaced_parts old front more one two three start end order bound fits e1 e2 e3 =
    let n : ℕ = start + length front in
    let head : List Range = take start one ++ front in
    let upto : length (take end old) ≡ end = length-take-le end old bound in
    let rest : List Range = more ++ drop end old in
    let below : take start one ≡ take start old = ap (take start) e1 ∙ (take-append-le start (take end old) rest (omega (arith, upto)) ∙ take-take start end old order) in
    let behind : drop end one ≡ rest = ap (drop end) e1 ∙ drop_at (take end old) rest end upto in
    let longer : length one ≡ end + length rest = ap length e1 ∙ (length-append (take end old) rest ∙ ap (λ k. k + length rest) upto) in
    let long : length head ≡ n = omega (arith, length-append (take start one) front, length-take-le start one (omega (arith, longer))) in
    let parts : two ≡ head ++ drop n one = e2 ∙ sym (append_assoc (take start one) front (drop n one)) in
    let first : take n two ≡ head = ap (take n) parts ∙ take_at head (drop n one) n long in
    let from : n + (end - n) ≡ end = omega arith in
    let skip : drop n two ≡ drop n one = ap (drop n) parts ∙ drop_at head (drop n one) n long in
    let last : drop end two ≡ drop end one =
    ap (λ k. drop k two) (sym from) ∙ (sym (drop-drop (end - n) n two) ∙ (ap (drop (end - n)) skip ∙ (drop-drop (end - n) n one ∙ ap (λ k. drop k one) from))) in
    e3 ∙ (ap (λ z. z ++ drop end two) first ∙ (ap (λ z. head ++ z) (last ∙ behind) ∙ (ap (λ z. (z ++ front) ++ rest) below
    ∙ (append_assoc (take start old) front rest ∙ ap (λ z. take start old ++ z) (sym (append_assoc front more (drop end old)))))))

pub replaced : (old pieces front more one two three : List Range) (start end n : ℕ) → start ≤ end → end ≤ length old → front ≡ take n pieces → more ≡ drop n pieces → n ≡ min (length pieces) (end - start)
    → one ≡ take end old ++ (more ++ drop end old) → two ≡ take start one ++ (front ++ drop (start + length front) one) → three ≡ take (start + length front) two ++ drop end two
    → three ≡ take start old ++ (pieces ++ drop end old)
replaced old pieces front more one two three start end n order bound f m cut e1 e2 e3 =
    let whole : front ++ more ≡ pieces = rw (f, m) (take-append-drop n pieces) in
    let long : length front ≤ end - start = omega (arith, ap length f, length-take n pieces, cut) in
    replaced_parts old front more one two three start end order bound (omega arith) e1 e2 e3 ∙ ap (λ z. take start old ++ (z ++ drop end old)) whole
