-- A log by stretches of its lines, one behind another.
use Rattle.mt_linearize.proofs.Prelude.{◌≡◌, ◌≢◌, ℕ, ◌+◌, ◌<◌, Bool, false, List, [], ◌∷◌, ◌++◌, Option, Some, length, map, arith, refl, sym, ap, ◌∙◌, subst, append_assoc, length-append, inl, inr, AllByRecursion, option_to_list, cases_Bool, length-map, Item, Tree, Lane, Join, Dup, Line, AreInPlaceFrom, IsInPlace, phase_after, stepped_after, stepped_from, least_behind, Asked, Step, AreDone, asked_from, is_answered, lane_after, lane_of, steps_of, AreNamedFrom, CopyOf, Declared, Empty, IsReadable, NamesBelow, NumbersRiseFrom, count_after, declared_by, renamed, trees_from, trees_of, asked_by, lane_behind, phase_behind, Pairs, most_lanes}
use Rattle.mt_linearize.proofs.LanePasses.{some_at}

-- ---- one stretch behind another

pub asked_append : (lane phase : ℕ) (xs ys : List Line) → asked_from lane phase (xs ++ ys) ≡ asked_from lane phase xs ++ asked_from (lane_behind lane xs) (phase_behind phase xs) ys
asked_append lane phase [] ys = refl
asked_append lane phase (x ∷ xs) ys = elim (cases_Bool (is_answered x.item)) [
  | inl t ↦ rw t (ap (λ z. record { line = x.number; lane = lane_of lane x.item; phase = phase; item = x.item } ∷ z) (asked_append (lane_after lane x.item) (phase_after phase x.item) xs ys))
  | inr f ↦ rw f (asked_append (lane_after lane x.item) (phase_after phase x.item) xs ys)
]

asked_one : (lane phase : ℕ) (line : Line) → asked_from lane phase (line ∷ []) ≡ asked_by lane phase line
asked_one lane phase line = elim (cases_Bool (is_answered line.item)) [
  | inl t ↦ rw t refl
  | inr f ↦ rw f refl
]

pub asked_behind : (xs ys : List Line) → steps_of (xs ++ ys) ≡ steps_of xs ++ asked_from (lane_behind 0 xs) (phase_behind 0 xs) ys
asked_behind xs ys = asked_append 0 0 xs ys

pub asked_more : (lines : List Line) (line : Line) → steps_of (lines ++ line ∷ []) ≡ steps_of lines ++ asked_by (lane_behind 0 lines) (phase_behind 0 lines) line
asked_more lines line = asked_append 0 0 lines (line ∷ []) ∙ ap (λ z. steps_of lines ++ z) (asked_one (lane_behind 0 lines) (phase_behind 0 lines) line)

pub trees_append : (trees : List Declared) (phase : ℕ) (xs ys : List Line) → trees_from trees phase (xs ++ ys) ≡ trees_from (trees_from trees phase xs) (phase_behind phase xs) ys
trees_append trees phase [] ys = refl
trees_append trees phase (x ∷ xs) ys = trees_append (trees ++ option_to_list (declared_by trees phase x.item)) (phase_after phase x.item) xs ys

pub trees_behind : (xs ys : List Line) → trees_of (xs ++ ys) ≡ trees_from (trees_of xs) (phase_behind 0 xs) ys
trees_behind xs ys = trees_append [] 0 xs ys

pub trees_more : (lines : List Line) (line : Line) → trees_of (lines ++ line ∷ []) ≡ trees_of lines ++ option_to_list (declared_by (trees_of lines) (phase_behind 0 lines) line.item)
trees_more lines line = trees_append [] 0 lines (line ∷ [])

pub lane_append : (lane : ℕ) (xs ys : List Line) → lane_behind lane (xs ++ ys) ≡ lane_behind (lane_behind lane xs) ys
lane_append lane [] ys = refl
lane_append lane (x ∷ xs) ys = lane_append (lane_after lane x.item) xs ys

pub lane_more : (lines : List Line) (line : Line) → lane_behind 0 (lines ++ line ∷ []) ≡ lane_after (lane_behind 0 lines) line.item
lane_more lines line = lane_append 0 lines (line ∷ [])

pub phase_append : (phase : ℕ) (xs ys : List Line) → phase_behind phase (xs ++ ys) ≡ phase_behind (phase_behind phase xs) ys
phase_append phase [] ys = refl
phase_append phase (x ∷ xs) ys = phase_append (phase_after phase x.item) xs ys

pub phase_more : (lines : List Line) (line : Line) → phase_behind 0 (lines ++ line ∷ []) ≡ phase_after (phase_behind 0 lines) line.item
phase_more lines line = phase_append 0 lines (line ∷ [])

pub stepped_append : (stepped : Bool) (xs ys : List Line) → stepped_from stepped (xs ++ ys) ≡ stepped_from (stepped_from stepped xs) ys
stepped_append stepped [] ys = refl
stepped_append stepped (x ∷ xs) ys = stepped_append (stepped_after stepped x.item) xs ys

pub stepped_more : (lines : List Line) (line : Line) → stepped_from false (lines ++ line ∷ []) ≡ stepped_after (stepped_from false lines) line.item
stepped_more lines line = stepped_append false lines (line ∷ [])

pub done_append : (asked others : List Asked) (steps more : List Step) → AreDone asked steps → AreDone others more → AreDone (asked ++ others) (steps ++ more)
done_append [] others steps more d e = subst (λ (z : List Step). AreDone others (z ++ more)) (sym d) e
done_append (a ∷ asked) others steps more d e = (
  d.0,
  d.1 ++ more,
  ap (λ z. z ++ more) d.2 ∙ append_assoc d.0 d.1 more,
  d.3,
  done_append asked others d.1 more d.4 e,
)

-- ---- a log that can be read

pub placed_there : (stepped : Bool) (xs ys : List Line) → AreInPlaceFrom stepped (xs ++ ys) → AreInPlaceFrom (stepped_from stepped xs) ys
placed_there stepped [] ys h = h
placed_there stepped (x ∷ xs) ys h = placed_there (stepped_after stepped x.item) xs ys h.1

pub line_placed : (lines rest : List Line) (line : Line) → IsReadable (lines ++ line ∷ rest) → IsInPlace (stepped_from false lines) line.item
line_placed lines rest line r = (placed_there false lines (line ∷ rest) r.placed).0

-- how many trees are declared behind a line
pushed_long : {X : Type 0} (xs : List X) (o : Option X) (x : X) → o ≡ Some x → length (xs ++ option_to_list o) ≡ length xs + 1
pushed_long xs o x is = rw is (length-append xs (x ∷ []))

unpushed_long : {X : Type 0} (xs : List X) → length (xs ++ []) ≡ length xs
unpushed_long xs = omega (arith, length-append xs [])

pub one_declared : (trees : List Declared) (phase : ℕ) (item : Item) → NamesBelow (length trees) item → length (trees ++ option_to_list (declared_by trees phase item)) ≡ count_after (length trees) item
one_declared trees phase (Tree name kind) named = pushed_long trees (declared_by trees phase (Tree name kind)) (record { tree = record { name = name; kind = kind }; opening = Empty }) refl
one_declared trees phase (Dup from name) named =
    let f = some_at (map (λ (d : Declared). d.tree) trees) from (omega (arith, named, length-map trees (λ (d : Declared). d.tree))) in
    pushed_long trees (declared_by trees phase (Dup from name)) (record { tree = renamed name f.0; opening = CopyOf from phase }) (rw f.1 refl)
one_declared trees phase item named = unpushed_long trees

pub named_there : (trees : List Declared) (phase : ℕ) (xs ys : List Line) → AreNamedFrom (length trees) (xs ++ ys) → AreNamedFrom (length (trees_from trees phase xs)) ys
named_there trees phase [] ys h = h
named_there trees phase (x ∷ xs) ys h =
    let more : List Declared = trees ++ option_to_list (declared_by trees phase x.item) in
    named_there more (phase_after phase x.item) xs ys (subst (λ (n : ℕ). AreNamedFrom n (xs ++ ys)) (sym (one_declared trees phase x.item h.0)) h.1)

pub line_named : (lines rest : List Line) (line : Line) → IsReadable (lines ++ line ∷ rest) → NamesBelow (length (trees_of lines)) line.item
line_named lines rest line r = (named_there [] 0 lines (line ∷ rest) r.named).0

pub next_lane : (count lane : ℕ) (item : Item) → lane < most_lanes → NamesBelow count item → lane_after lane item < most_lanes
next_lane count lane (Lane other) l named = named
next_lane count lane Join l named = omega arith
next_lane count lane item l named = l

lanes_named : (count lane : ℕ) (xs ys : List Line) → lane < most_lanes → AreNamedFrom count (xs ++ ys) → lane_behind lane xs < most_lanes
lanes_named count lane [] ys l h = l
lanes_named count lane (x ∷ xs) ys l h = lanes_named (count_after count x.item) (lane_after lane x.item) xs ys (next_lane count lane x.item l h.0) h.1

pub line_lane : (lines rest : List Line) → IsReadable (lines ++ rest) → lane_behind 0 lines < most_lanes
line_lane lines rest r = lanes_named 0 0 lines rest (omega arith) r.named

-- ---- numbers that rise

rising_front : (least : ℕ) (xs ys : List Line) → NumbersRiseFrom least (xs ++ ys) → NumbersRiseFrom least xs
rising_front least [] ys h = tt
rising_front least (x ∷ xs) ys h = (h.0, rising_front (x.number + 1) xs ys h.1)

rising_behind : (least : ℕ) (xs ys : List Line) → NumbersRiseFrom least (xs ++ ys) → NumbersRiseFrom (least_behind least xs) ys
rising_behind least [] ys h = h
rising_behind least (x ∷ xs) ys h = rising_behind (x.number + 1) xs ys h.1

none_below : (number least : ℕ) (lines : List Line) → number < least → NumbersRiseFrom least lines → AllByRecursion (λ (b : Line). b.number ≢ number) lines
none_below number least [] below h = tt
none_below number least (b ∷ lines) below h = (λ same. absurd (omega (arith, below, h.0, same)), none_below number (b.number + 1) lines (omega (arith, below, h.0)) h.1)

pub numbers_apart : (least : ℕ) (lines : List Line) → NumbersRiseFrom least lines → Pairs (λ (a b : Line). b.number ≢ a.number) lines
numbers_apart least [] h = tt
numbers_apart least (a ∷ lines) h = (none_below a.number (a.number + 1) lines (omega arith) h.1, numbers_apart (a.number + 1) lines h.1)

pub stretch_apart : (front lines rest : List Line) → IsReadable (front ++ lines ++ rest) → Pairs (λ (a b : Line). b.number ≢ a.number) lines
stretch_apart front lines rest r =
    numbers_apart (least_behind 2 front) lines (rising_behind 2 front lines (rising_front 2 (front ++ lines) rest r.rising))
