-- A transcript of a run tells as many calls as its log asks for, and as many reads as there are points.
use Rattle.mt_verify.proofs.Prelude.{◌≡◌, ◌∙◌, ◌+◌, ◌++◌, ℕ, zero, suc, Bool, true, false, List, [], ◌∷◌, length, map, Option, Some, None, refl, sym, ap, subst, arith, length-append, if◌then◌else◌, filter, map-append, filter-append, filter_map-append, Range, Item, Tree, Join, Dup, Check, Write, Ask, Scan, Line, Log, Entry, Transcript, phase_after, AreDone, Asked, ScanGoesOnFrom, IsDone, IsRun, AreScanSteps, Looked, Step, asked_from, entry_of, find_at, is_answered, lane_after, lane_of, place_after, place_within, step_of, steps_of, asks_call, count_of_calls, tells_call, tells_read, IsPointList, point_of, points_of}
use Rattle.mt_log.specs.declared.lines.Item.TheVariants.{Lane}
use Rattle.mt_verify.specs.Tellings.{reads_told}

-- how many of the steps are told so
abbrev told : (Entry → Bool) → List Step → ℕ
told p steps = length (filter p (map entry_of steps))

told_more : (p : Entry → Bool) (xs ys : List Step) → told p (xs ++ ys) ≡ told p xs + told p ys
told_more p xs ys =
    ap (λ (l : List Entry). length (filter p l)) (map-append entry_of xs ys)
    ∙ (ap (λ (l : List Entry). length l) (filter-append p (map entry_of xs) (map entry_of ys)) ∙ length-append (filter p (map entry_of xs)) (filter p (map entry_of ys)))

points_more : (xs ys : List Step) → length (points_of (xs ++ ys)) ≡ length (points_of xs) + length (points_of ys)
points_more xs ys = ap (λ (l : List ℕ). length l) (filter_map-append (λ s. point_of s.outcome) xs ys) ∙ length-append (points_of xs) (points_of ys)

abbrev a_call : Entry → Bool
a_call e = tells_call e.said

abbrev a_read : Entry → Bool
a_read e = tells_read e.said

-- the steps tell so many calls, and as many reads as they have points
abbrev IsCounted : ℕ → List Step → Type 0
IsCounted calls steps = (told a_call steps ≡ calls) × (told a_read steps ≡ length (points_of steps))

both : (m n : ℕ) (xs ys : List Step) → IsCounted m xs → IsCounted n ys → IsCounted (m + n) (xs ++ ys)
both m n xs ys (calls, reads) (calls', reads') = (
  omega (arith, told_more a_call xs ys, calls, calls'),
  omega (arith, told_more a_read xs ys, points_more xs ys, reads, reads'),
)

none_counted : (steps : List Step) → steps ≡ [] → IsCounted 0 steps
none_counted steps is = subst (IsCounted 0) (sym is) (refl, refl)

goes_on : (a : Asked) (tree max count : ℕ) (value : Option Range) (rest : List Step) → ((at : Option ℕ) (steps : List Step) → AreScanSteps a tree max count at steps → IsCounted 0 steps)
    → ScanGoesOnFrom (AreScanSteps a tree max count) max value rest → IsCounted 0 rest
goes_on a tree max count None rest counted on = none_counted rest on
goes_on a tree max count (Some r) rest counted on = counted (place_after max r) rest on

scan_counted : (a : Asked) (tree max count : ℕ) (at : Option ℕ) (steps : List Step) → AreScanSteps a tree max count at steps → IsCounted 0 steps
scan_counted a tree max zero at steps is = none_counted steps is
scan_counted a tree max (suc count) at steps (lo, hi, k, value, rest, is, on) =
    let first : Step = step_of a tree (Looked lo hi k (find_at at max) value) in
    let others = goes_on a tree max count value rest (λ place more. scan_counted a tree max count place more) on in
    subst (IsCounted 0) (sym is) (both 0 0 (first ∷ []) rest (refl, refl) others)

abbrev calls_in : Item → ℕ
calls_in item = if asks_call item then 1 else 0

done_counted : (a : Asked) (item : Item) (steps : List Step) → IsDone a item steps → IsCounted (calls_in item) steps
done_counted a (Tree name kind) steps is = none_counted steps is
done_counted a (Lane lane) steps is = none_counted steps is
done_counted a Join steps is = none_counted steps is
done_counted a (Dup from name) steps (ranges, is) = subst (IsCounted 0) (sym is) (refl, refl)
done_counted a (Check tree) steps (ranges, is) = subst (IsCounted 0) (sym is) (refl, refl)
done_counted a (Write tree call) steps (number, reply, is) = subst (IsCounted 1) (sym is) (refl, refl)
done_counted a (Ask tree query) steps (lo, hi, k, value, is) = subst (IsCounted 0) (sym is) (refl, refl)
done_counted a (Scan tree index max count) steps is = scan_counted a tree max count (place_within index max) steps is

-- how many pass, with one more in front
one_more : {X : Type 0} (p : X → Bool) (x : X) (xs : List X) → length (filter p (x ∷ xs)) ≡ (if p x then 1 else 0) + length (filter p xs)
one_more {X} p x xs = go (p x) refl
  where
    go : (b : Bool) → p x ≡ b → length (filter p (x ∷ xs)) ≡ (if p x then 1 else 0) + length (filter p xs)
    go true is = rw is (omega arith)
    go false is = rw is (omega arith)

abbrev asks : Asked → Bool
asks a = asks_call a.item

all_counted : (asked : List Asked) (steps : List Step) → AreDone asked steps → IsCounted (length (filter asks asked)) steps
all_counted [] steps is = none_counted steps is
all_counted (a ∷ asked) steps (mine, rest, is, done, others) =
    let counted = both (calls_in a.item) (length (filter asks asked)) mine rest (done_counted a a.item mine done) (all_counted asked rest others) in
    subst (λ (n : ℕ). IsCounted n steps) (sym (one_more asks a asked)) (subst (IsCounted (calls_in a.item + length (filter asks asked))) (sym is) counted)

-- a line, which is answered or not
answered : (item : Item) (line lane phase : ℕ) (rest : List Asked)
    → length (filter asks (if is_answered item then (record { line = line; lane = lane_of lane item; phase = phase; item = item }) ∷ rest else rest)) ≡ calls_in item + length (filter asks rest)
answered (Tree name kind) line lane phase rest = omega arith
answered (Lane other) line lane phase rest = omega arith
answered Join line lane phase rest = omega arith
answered (Dup from name) line lane phase rest = omega arith
answered (Check tree) line lane phase rest = omega arith
answered (Write tree call) line lane phase rest = omega arith
answered (Ask tree query) line lane phase rest = omega arith
answered (Scan tree index max count) line lane phase rest = omega arith

lines_counted : (lane phase : ℕ) (lines : List Line) → length (filter asks (asked_from lane phase lines)) ≡ length (filter (λ l. asks_call l.item) lines)
lines_counted lane phase [] = refl
lines_counted lane phase (line ∷ lines) =
    answered line.item line.number lane phase (asked_from (lane_after lane line.item) (phase_after phase line.item) lines)
    ∙ (ap (λ (n : ℕ). calls_in line.item + n) (lines_counted (lane_after lane line.item) (phase_after phase line.item) lines)
    ∙ sym (one_more (λ l. asks_call l.item) line lines))

-- as many calls are told as the log asks for
pub calls_are_asked : (log : Log) (rows : ℕ) (t : Transcript) → IsRun log rows t → count_of_calls t ≡ length (filter (λ l. asks_call l.item) log.lines)
calls_are_asked log rows t (steps, trees, run) =
    ap (λ (es : List Entry). length (filter a_call es)) run.told ∙ ((all_counted (steps_of log.lines) steps run.asked).0 ∙ lines_counted 0 0 log.lines)

-- and as many reads as there are points
pub reads_are_points : (log : Log) (rows : ℕ) (t : Transcript) (points : List ℕ) → IsPointList log rows t points → reads_told t ≡ length points
reads_are_points log rows t points p =
    ap (λ (es : List Entry). length (filter a_read es)) p.run.told ∙ ((all_counted (steps_of log.lines) p.steps p.run.asked).1 ∙ ap (λ (l : List ℕ). length l) (sym p.list))
