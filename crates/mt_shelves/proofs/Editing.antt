-- What edits of shelves make of all ranges.
use Rattle.mt_shelves.proofs.Prelude.{◌≡◌, ℕ, zero, suc, ◌+◌, ◌-◌, ◌<◌, ◌≤◌, List, [], ◌∷◌, ◌++◌, length, filter, map, min, take, drop, set, insert, remove, get_or, nat_lt, refl, sym, ap, ◌∙◌, subst, arith, append_assoc, add-one, length-append, slice_range, drop-append-add, take-append_seam, le-ltb, lt-ltb, append-nil, drop-drop, drop-set-lt, drop_more, length-take-le, map-append, take-append-drop, take-set, take_more_set, filter-append, Range, IsMapFrom, cut_above, cut_below, over, part_stored, parts_above, parts_below, IsMapFrom-front, all_parts_above, no_part_below, AllFilled, AreRising, BeginAbove, EndBelow, IsBrought, joined}
use Rattle.mt_shelves.proofs.LyingBeside.{filled_at, joined-append, joined_drop, joined_parts, rise_back, rise_front}
use Rattle.mt_shelves.proofs.MapParts.{IsMapFrom-back}

-- a shelf that is cut in two, the second of which is put behind it
cut_in_two : (shelves : List (List Range)) (at : ℕ) (d s t : List Range) → at < length shelves → s ++ t ≡ get_or shelves at d → joined (insert (set shelves at s) (suc at) t) ≡ joined shelves
cut_in_two [] at d s t within same = absurd (omega (arith, within))
cut_in_two (x ∷ shelves) zero d s t within same = sym (append_assoc s t (joined shelves)) ∙ ap (λ (l : List Range). l ++ joined shelves) same
cut_in_two (x ∷ shelves) (suc at) d s t within same = ap (λ (l : List Range). x ++ l) (cut_in_two shelves at d s t (omega (arith, within)) same)

pub halved : (shelves : List (List Range)) (at n : ℕ) (d : List Range) → at < length shelves → joined (insert (set shelves at (take n (get_or shelves at d))) (at + 1) (drop n (get_or shelves at d))) ≡ joined shelves
halved shelves at n d within =
    ap (λ i. joined (insert (set shelves at (take n (get_or shelves at d))) i (drop n (get_or shelves at d)))) (add-one at)
    ∙ cut_in_two shelves at d (take n (get_or shelves at d)) (drop n (get_or shelves at d)) within (take-append-drop n (get_or shelves at d))

-- ---- shelves brought onto one

pub slice_rises : (shelves : List (List Range)) (start end : ℕ) → IsMapFrom 0 (joined shelves) → IsMapFrom 0 (joined (slice_range shelves start end))
slice_rises shelves start end rise = rise_front (drop start shelves) (end - start) (rise_back shelves start rise)

-- ---- which shelves are filled

filled_take : (shelves : List (List Range)) (n : ℕ) → AllFilled shelves → AllFilled (take n shelves)
filled_take [] zero filled = tt
filled_take [] (suc n) filled = tt
filled_take (s ∷ shelves) zero filled = tt
filled_take (s ∷ shelves) (suc n) filled = (filled.0, filled_take shelves n filled.1)

filled_drop : (shelves : List (List Range)) (n : ℕ) → AllFilled shelves → AllFilled (drop n shelves)
filled_drop [] zero filled = tt
filled_drop [] (suc n) filled = tt
filled_drop (s ∷ shelves) zero filled = filled
filled_drop (s ∷ shelves) (suc n) filled = filled_drop shelves n filled.1

filled_both : (xs ys : List (List Range)) → AllFilled xs → AllFilled ys → AllFilled (xs ++ ys)
filled_both [] ys one two = two
filled_both (x ∷ xs) ys one two = (one.0, filled_both xs ys one.1 two)

pub filled_front : (shelves : List (List Range)) (at : ℕ) (s : List Range) → AllFilled shelves → AllFilled (take at (set shelves at s))
filled_front shelves at s filled = subst AllFilled (sym (take-set shelves at s)) (filled_take shelves at filled)

pub filled_back : (shelves : List (List Range)) (at : ℕ) (s : List Range) → AllFilled shelves → AllFilled (drop (at + 1) (set shelves at s))
filled_back shelves at s filled = subst AllFilled (sym (drop-set-lt (at + 1) shelves at s (omega arith))) (filled_drop shelves (at + 1) filled)

-- ---- what was brought onto one shelf

pub brought : (shelves new : List (List Range)) (start end : ℕ) → start < end → end ≤ length shelves → AreRising shelves → new ≡ take start shelves ++ (joined (slice_range shelves start end) ∷ drop end shelves) → IsBrought shelves start end new
brought shelves new start end order bound rising is = subst (IsBrought shelves start end) (sym is) (record {
  joined = all;
  rising = record {
    rise = subst (IsMapFrom 0) (sym all) rising.rise;
    filled = filled_both (take start shelves) (joined (slice_range shelves start end) ∷ drop end shelves) (filled_take shelves start rising.filled) (some, filled_drop shelves end rising.filled);
  };
  within = omega (arith, length-append (take start shelves) (joined (slice_range shelves start end) ∷ drop end shelves), many);
  front = ap (λ n. take n (take start shelves ++ (joined (slice_range shelves start end) ∷ drop end shelves))) (sym many) ∙ take-append_seam (take start shelves) (joined (slice_range shelves start end) ∷ drop end shelves);
  back =
      ap (λ n. drop n (take start shelves ++ (joined (slice_range shelves start end) ∷ drop end shelves))) (ap (λ n. n + 1) (sym many)) ∙ drop-append-add (take start shelves) (joined (slice_range shelves start end) ∷ drop end shelves) 1;
})
  where
    many : length (take start shelves) ≡ start
    many = length-take-le start shelves (omega (arith, order, bound))

    behind : drop (end - start) (drop start shelves) ≡ drop end shelves
    behind = let sum : start + (end - start) ≡ end = omega (arith, order) in drop-drop (end - start) start shelves ∙ ap (λ n. drop n shelves) sum

    all : joined (take start shelves ++ (joined (slice_range shelves start end) ∷ drop end shelves)) ≡ joined shelves
    all =
        joined-append (take start shelves) (joined (slice_range shelves start end) ∷ drop end shelves)
        ∙ (ap (λ (l : List (List Range)). joined (take start shelves) ++ (joined (slice_range shelves start end) ++ joined l)) (sym behind)
        ∙ (ap (λ (l : List Range). joined (take start shelves) ++ l) (joined_parts (drop start shelves) (end - start)) ∙ joined_parts shelves start))

    some : 0 < length (joined (slice_range shelves start end))
    some =
        let next : end - start ≡ suc (end - start - 1) = omega (arith, order) in
        let front : drop start shelves ≡ get_or shelves start [] ∷ drop (start + 1) shelves = drop_more shelves start [] (omega (arith, order, bound)) in
        let taken : joined (slice_range shelves start end) ≡ get_or shelves start [] ++ joined (take (end - start - 1) (drop (start + 1) shelves)) = ap (λ (l : List (List Range)). joined (take (end - start) l)) front ∙ ap (λ n. joined (take n (get_or shelves start [] ∷ drop (start + 1) shelves))) next in
        omega (arith, ap length taken, length-append (get_or shelves start []) (joined (take (end - start - 1) (drop (start + 1) shelves))), filled_at shelves start [] (omega (arith, order, bound)) rising.filled)

pub put_together : (shelves : List (List Range)) (start end : ℕ) (s : List Range) → start < end → end ≤ length shelves → take (start + 1) (set shelves start s) ++ drop end (set shelves start s) ≡ take start shelves ++ (s ∷ drop end shelves)
put_together shelves start end s order bound =
    (λ k. take_more_set shelves start s (omega (arith, order, bound)) k ++ drop-set-lt end shelves start s order k) ∙ append_assoc (take start shelves) (s ∷ []) (drop end shelves)

-- ---- parts of shelves

pub fewer_below : (shelves : List (List Range)) (index m n : ℕ) → EndBelow index (joined (take n shelves)) → m ≤ n → EndBelow index (joined (take m shelves))
fewer_below [] index zero n below le = tt
fewer_below [] index (suc m) n below le = tt
fewer_below (s ∷ shelves) index zero n below le = tt
fewer_below (s ∷ shelves) index (suc m) zero below le = absurd (omega (arith, le))
fewer_below (s ∷ shelves) index (suc m) (suc n) below le =
    all_append s (joined (take m shelves)) (all_front s (joined (take n shelves)) below) (fewer_below shelves index m n (all_back s (joined (take n shelves)) below) (omega (arith, le)))
  where
    all_front : (xs ys : List Range) → EndBelow index (xs ++ ys) → EndBelow index xs
    all_front [] ys all = tt
    all_front (x ∷ xs) ys all = (all.0, all_front xs ys all.1)

    all_back : (xs ys : List Range) → EndBelow index (xs ++ ys) → EndBelow index ys
    all_back [] ys all = all
    all_back (x ∷ xs) ys all = all_back xs ys all.1

    all_append : (xs ys : List Range) → EndBelow index xs → EndBelow index ys → EndBelow index (xs ++ ys)
    all_append [] ys one two = two
    all_append (x ∷ xs) ys one two = (one.0, all_append xs ys one.1 two)

pub fewer_above : (shelves : List (List Range)) (index m n : ℕ) → BeginAbove index (joined (drop m shelves)) → m ≤ n → BeginAbove index (joined (drop n shelves))
fewer_above [] index m zero above le = tt
fewer_above [] index m (suc n) above le = tt
fewer_above (s ∷ shelves) index zero zero above le = above
fewer_above (s ∷ shelves) index zero (suc n) above le = fewer_above shelves index 0 n (all_back s (joined shelves) above) (omega arith)
  where
    all_back : (xs ys : List Range) → BeginAbove index (xs ++ ys) → BeginAbove index ys
    all_back [] ys all = all
    all_back (x ∷ xs) ys all = all_back xs ys all.1
fewer_above (s ∷ shelves) index (suc m) zero above le = absurd (omega (arith, le))
fewer_above (s ∷ shelves) index (suc m) (suc n) above le = fewer_above shelves index m n above (omega (arith, le))

-- ---- a shelf that holds nothing, and one that does

pub none_removed : (shelves : List (List Range)) (at : ℕ) (d : List Range) → at < length shelves → length (get_or shelves at d) ≡ 0 → joined (remove shelves at) ≡ joined shelves
none_removed [] at d within none = absurd (omega (arith, within))
none_removed ([] ∷ shelves) zero d within none = refl
none_removed ((r ∷ s) ∷ shelves) zero d within none = absurd (omega (arith, none))
none_removed (s ∷ shelves) (suc at) d within none = ap (λ (l : List Range). s ++ l) (none_removed shelves at d (omega (arith, within)) none)

pub all_filled : (shelves : List (List Range)) (at : ℕ) (d : List Range) → at < length shelves → AllFilled (take at shelves) → 0 < length (get_or shelves at d) → AllFilled (drop (at + 1) shelves) → AllFilled shelves
all_filled [] at d within front some back = absurd (omega (arith, within))
all_filled (s ∷ shelves) zero d within front some back = (some, back)
all_filled (s ∷ shelves) (suc at) d within front some back =
    let one : suc at + 1 ≡ suc (at + 1) = omega arith in
    (front.0, all_filled shelves at d (omega (arith, within)) front.1 some (subst (λ n. AllFilled (drop n (s ∷ shelves))) one back))

-- ---- a store and an erase on one shelf

-- all ranges, by the shelf at a place
pub joined_at : (shelves : List (List Range)) (at : ℕ) (d : List Range) → at < length shelves → joined shelves ≡ joined (take at shelves) ++ (get_or shelves at d ++ joined (drop (at + 1) shelves))
joined_at shelves at d within = sym (joined_parts shelves at) ∙ ap (λ (l : List Range). joined (take at shelves) ++ l) (joined_drop shelves at d within)

pub joined_set : (shelves : List (List Range)) (at : ℕ) (s : List Range) → at < length shelves → joined (set shelves at s) ≡ joined (take at shelves) ++ (s ++ joined (drop (at + 1) shelves))
joined_set [] at s within = absurd (omega (arith, within))
joined_set (x ∷ shelves) zero s within = refl
joined_set (x ∷ shelves) (suc at) s within =
    let one : suc at + 1 ≡ suc (at + 1) = omega arith in
    ap (λ (l : List Range). x ++ l) (joined_set shelves at s (omega (arith, within))) ∙ (sym (append_assoc x (joined (take at shelves)) (s ++ joined (drop (at + 1) shelves))) ∙ ap (λ n. joined (x ∷ take at shelves) ++ (s ++ joined (drop n (x ∷ shelves)))) (sym one))

below_whole : (m : List Range) (low first : ℕ) → IsMapFrom low m → EndBelow first m → parts_below m first ≡ m
below_whole [] low first rise ends = refl
below_whole (r ∷ m) low first rise ends =
    let whole : min r.last (first - 1) ≡ r.last = omega (arith, ends.0) in
    rw (lt-ltb r.first first (omega (arith, rise.1, ends.0)), whole) (ap (λ (rest : List Range). r ∷ rest) (below_whole m (r.last + 1) first rise.3 ends.1))

none_above : (m : List Range) (first last : ℕ) → first ≤ last → EndBelow first m → parts_above m last ≡ []
none_above [] first last le ends = refl
none_above (r ∷ m) first last le ends = rw (le-ltb last r.last (omega (arith, le, ends.0))) (none_above m first last le ends.1)

pub from_above : (m : List Range) (low index : ℕ) → IsMapFrom low m → BeginAbove index m → IsMapFrom (index + 1) m
from_above [] low index rise above = tt
from_above (r ∷ m) low index rise above = (omega (arith, above.0), rise.1, rise.2, rise.3)

below-append : (xs ys : List Range) (first : ℕ) → parts_below (xs ++ ys) first ≡ parts_below xs first ++ parts_below ys first
below-append xs ys first = ap (map (cut_below first)) (filter-append (λ (r : Range). nat_lt r.first first) xs ys) ∙ map-append (cut_below first) (filter (λ (r : Range). nat_lt r.first first) xs) (filter (λ (r : Range). nat_lt r.first first) ys)

above-append : (xs ys : List Range) (last : ℕ) → parts_above (xs ++ ys) last ≡ parts_above xs last ++ parts_above ys last
above-append xs ys last = ap (map (cut_above last)) (filter-append (λ (r : Range). nat_lt last r.last) xs ys) ∙ map-append (cut_above last) (filter (λ (r : Range). nat_lt last r.last) xs) (filter (λ (r : Range). nat_lt last r.last) ys)

-- a store leaves what lies below it and above it
over_between : (front m back : List Range) (first last entry : ℕ) → first ≤ last → IsMapFrom 0 (front ++ (m ++ back)) → EndBelow first front → BeginAbove last back → over (front ++ (m ++ back)) first last entry ≡ front ++ (over m first last entry ++ back)
over_between front m back first last entry le rise ends begins =
    let rise_back : IsMapFrom 0 back = IsMapFrom-back 0 m back (IsMapFrom-back 0 front (m ++ back) rise) in
    let above : IsMapFrom (last + 1) back = from_above back 0 last rise_back begins in
    let below : parts_below (front ++ (m ++ back)) first ≡ front ++ (parts_below m first ++ []) =
    below-append front (m ++ back) first
    ∙ ((λ k. below_whole front 0 first (IsMapFrom-front 0 front (m ++ back) rise) ends k ++ below-append m back first k) ∙ ap (λ (l : List Range). front ++ (parts_below m first ++ l)) (no_part_below back (last + 1) first (omega (arith, le)) above)) in
    let behind : parts_above (front ++ (m ++ back)) last ≡ [] ++ (parts_above m last ++ back) =
    above-append front (m ++ back) last
    ∙ ((λ k. none_above front first last le ends k ++ above-append m back last k) ∙ ap (λ (l : List Range). [] ++ (parts_above m last ++ l)) (all_parts_above back (last + 1) last (omega arith) above)) in
    (λ k. below k ++ (part_stored first last entry ++ behind k)) ∙ regrouped (parts_below m first) (part_stored first last entry) (parts_above m last)
  where
    regrouped : (below stored above : List Range) → (front ++ (below ++ [])) ++ (stored ++ (above ++ back)) ≡ front ++ ((below ++ (stored ++ above)) ++ back)
    regrouped below stored above = simp (append_assoc, append-nil)

pub over_there : (shelves : List (List Range)) (at : ℕ) (d s : List Range) (first last entry : ℕ) → at < length shelves → first ≤ last → AreRising shelves → EndBelow first (joined (take at shelves)) → BeginAbove last (joined (drop (at + 1) shelves)) → s ≡ over (get_or shelves at d) first last entry
    → joined (set shelves at s) ≡ over (joined shelves) first last entry
over_there shelves at d s first last entry within le rising ends begins is =
    joined_set shelves at s within
    ∙ (ap (λ (l : List Range). joined (take at shelves) ++ (l ++ joined (drop (at + 1) shelves))) is
    ∙ (sym (over_between (joined (take at shelves)) (get_or shelves at d) (joined (drop (at + 1) shelves)) first last entry le (subst (IsMapFrom 0) (joined_at shelves at d within) rising.rise) ends begins)
    ∙ ap (λ (m : List Range). over m first last entry) (sym (joined_at shelves at d within))))
