-- The reads of steps that are filled in are those of the lanes, with their numbers; each is right, and they keep the order.
use Rattle.mt_verify.proofs.Prelude.{◌≡◌, ℕ, zero, suc, ◌+◌, ◌<◌, ◌≤◌, ◌==◌, true, List, [], ◌∷◌, Option, Some, None, length, map, slice_get, get_or, refl, sym, ap, ◌∙◌, subst, inl, inr, arith, All, AllByRecursion, AllPairs, cons_option, slice_index, length-map, All-from_recursion, recursion_from_All, cases_Bool, eq-eqb, all_map, History, map_at, is_read, ToldLine, What, Wrote, Got, Copied, Lawful, ToldRead, AreLeastOf, IsTrueOn, point_of, points_of, lo_of, read_number, look_of, looks_on, points_on, InNumbers, calls_of_phases_before, is_got, number_for, numbers_behind, read_by, read_in, reads_count, reads_told}
use Rattle.mt_verify.proofs.Runs.{all_at}
use Rattle.mt_verify.proofs.Filled.{AreRight, EachLater, EndsBefore, EndsIn, HasNumber, IsReadOn, IsRight, ReadsRise, filled, history_in, outcome_in, step_in}
use Rattle.mt_verify.proofs.Found.{AllReadsOn, AllReadsRise, IsRightCall, IsRightLine}

-- ---- the lists of a lane

-- what a lane is told of its reads, and their numbers
abbrev pub first_of : ToldRead × ℕ → ToldRead
first_of r = r.0

abbrev pub second_of : ToldRead × ℕ → ℕ
second_of r = r.1

looks_by : (version : ℕ) (h : History) (before k : ℕ) (what : What) → IsRight version h before k what → (rest : List (ToldRead × ℕ)) (looks : List ToldRead) → map first_of rest ≡ looks
    → cons_option (look_of (outcome_in h before k what)) looks ≡ map first_of (cons_option (read_by what k) rest)
looks_by version h before k (Wrote number call reply) right rest looks same = sym same
looks_by version h before k (Got lo hi query told) right rest looks same =
    rw (right.3, same) refl
looks_by version h before k (Copied count) right rest looks same = sym same
looks_by version h before k (Lawful count) right rest looks same = sym same

pub filled_looks : (version : ℕ) (trees : List History) (all told : List ToldLine) (points : List ℕ) (tree lane : ℕ) → AreRight version trees all told points → looks_on tree lane (filled trees all told points) ≡ map first_of (reads_told tree lane told points)
filled_looks version trees all [] points tree lane right = refl
filled_looks version trees all (t ∷ told) points tree lane right =
    let rest = filled_looks version trees all told (numbers_behind t.what points) tree lane right.3 in
    elim (cases_Bool (t.tree == tree)) [
      | inr other ↦ rw other rest
      | inl here ↦
          elim (cases_Bool (t.lane == lane)) [
            | inr other ↦ rw (here, other) rest
            | inl own ↦ rw (here, own) (looks_by version (history_in trees t.tree) (calls_of_phases_before all t.tree t.phase) (number_for t.what points) t.what right.2 (reads_told tree lane told (numbers_behind t.what points)) (looks_on tree lane (filled trees all told (numbers_behind t.what points))) (sym rest))
          ]
    ]

points_by : (h : History) (before k : ℕ) (what : What) (rest : List (ToldRead × ℕ)) (points : List ℕ) → map second_of rest ≡ points
    → cons_option (point_of (outcome_in h before k what)) points ≡ map second_of (cons_option (read_by what k) rest)
points_by h before k (Wrote number call reply) rest points same = sym same
points_by h before k (Got lo hi query told) rest points same = rw same refl
points_by h before k (Copied count) rest points same = sym same
points_by h before k (Lawful count) rest points same = sym same

pub filled_points : (trees : List History) (all told : List ToldLine) (points : List ℕ) (tree lane : ℕ) → points_on tree lane (filled trees all told points) ≡ map second_of (reads_told tree lane told points)
filled_points trees all [] points tree lane = refl
filled_points trees all (t ∷ told) points tree lane =
    let rest = filled_points trees all told (numbers_behind t.what points) tree lane in
    elim (cases_Bool (t.tree == tree)) [
      | inr other ↦ rw other rest
      | inl here ↦
          elim (cases_Bool (t.lane == lane)) [
            | inr other ↦ rw (here, other) rest
            | inl own ↦ rw (here, own) (points_by (history_in trees t.tree) (calls_of_phases_before all t.tree t.phase) (number_for t.what points) t.what (reads_told tree lane told (numbers_behind t.what points)) (points_on tree lane (filled trees all told (numbers_behind t.what points))) (sym rest))
          ]
    ]

-- ---- each read is right

-- what holds of the reads of each lane holds of those behind the first line
reads_behind : (P : ℕ → ToldRead × ℕ → Type 0) (told : List ToldLine) (t : ToldLine) (points : List ℕ) (tree lane : ℕ) → AllByRecursion (P tree) (reads_told tree lane (t ∷ told) points) → AllByRecursion (P tree) (reads_told tree lane told (numbers_behind t.what points))
reads_behind P told t points tree lane each = behind (read_in tree lane (number_for t.what points) t) each
  where
    behind : (read : Option (ToldRead × ℕ)) → AllByRecursion (P tree) (cons_option read (reads_told tree lane told (numbers_behind t.what points))) → AllByRecursion (P tree) (reads_told tree lane told (numbers_behind t.what points))
    behind None each = each
    behind (Some r) each = each.1

own_read : (t : ToldLine) (k : ℕ) → read_in t.tree t.lane k t ≡ read_by t.what k
own_read t k = rw (eq-eqb t.tree t.tree refl, eq-eqb t.lane t.lane refl) refl

right_by : (version : ℕ) (h : History) (before : ℕ) (what : What) (points : List ℕ) (rest : List (ToldRead × ℕ)) → IsRightCall version h before what → (HasNumber what points)
    → AllByRecursion (IsReadOn h) (cons_option (read_by what (number_for what points)) rest) → IsRight version h before (number_for what points) what
right_by version h before (Wrote number call reply) points rest right has each = right
right_by version h before (Copied count) points rest right has each = right
right_by version h before (Lawful count) points rest right has each = right
right_by version h before (Got lo hi query told) [] rest right has each = absurd has
right_by version h before (Got lo hi query told) (k ∷ points) rest right has each = (each.0.from, each.0.to, each.0.within, each.0.true)

pub has_number : (what : What) (told : List ToldLine) (points : List ℕ) (t : ToldLine) → t.what ≡ what → length points ≡ reads_count (t ∷ told) → HasNumber what points × (length (numbers_behind what points) ≡ reads_count told)
has_number (Wrote number call reply) told points t is count = (tt, count ∙ rw is refl)
has_number (Copied c) told points t is count = (tt, count ∙ rw is refl)
has_number (Lawful c) told points t is count = (tt, count ∙ rw is refl)
has_number (Got lo hi query a) told [] t is count = let none : 0 ≡ suc (reads_count told) = count ∙ rw is refl in absurd (omega (arith, none))
has_number (Got lo hi query a) told (k ∷ points) t is count = let all : suc (length points) ≡ suc (reads_count told) = count ∙ rw is refl in (tt, omega (arith, all))

pub lines_right : (version : ℕ) (trees : List History) (all told : List ToldLine) (points : List ℕ) → AllByRecursion (IsRightLine version trees all) told → AllReadsOn trees told points → length points ≡ reads_count told → AreRight version trees all told points
lines_right version trees all [] [] lines reads count = refl
lines_right version trees all [] (k ∷ points) lines reads count = absurd (omega (arith, count))
lines_right version trees all (t ∷ told) points lines reads count =
    let has = has_number t.what told points t refl count in
    let own : AllByRecursion (IsReadOn (history_in trees t.tree)) (cons_option (read_by t.what (number_for t.what points)) (reads_told t.tree t.lane told (numbers_behind t.what points))) =
    subst (λ (r : Option (ToldRead × ℕ)). AllByRecursion (IsReadOn (history_in trees t.tree)) (cons_option r (reads_told t.tree t.lane told (numbers_behind t.what points)))) (own_read t (number_for t.what points)) (reads t.tree t.lane lines.0.tree) in (
      has.0,
      lines.0.tree,
      right_by version (history_in trees t.tree) (calls_of_phases_before all t.tree t.phase) t.what points (reads_told t.tree t.lane told (numbers_behind t.what points)) lines.0.right has.0 own,
      lines_right version trees all told (numbers_behind t.what points) lines.1 (λ tree lane within. reads_behind (λ tree. IsReadOn (history_in trees tree)) told t points tree lane (reads tree lane within)) has.1,
    )

-- ---- the reads keep the order of their numbers

rising_behind : (told : List ToldLine) (t : ToldLine) (points : List ℕ) (tree lane : ℕ) → EachLater ReadsRise (reads_told tree lane (t ∷ told) points) → EachLater ReadsRise (reads_told tree lane told (numbers_behind t.what points))
rising_behind told t points tree lane each = behind (read_in tree lane (number_for t.what points) t) each
  where
    behind : (read : Option (ToldRead × ℕ)) → EachLater ReadsRise (cons_option read (reads_told tree lane told (numbers_behind t.what points))) → EachLater ReadsRise (reads_told tree lane told (numbers_behind t.what points))
    behind None each = each
    behind (Some r) each = each.1

-- a later read has no lower number, and its window begins no more than one below this number
abbrev IsLater : ℕ → ℕ → What → Type 0
IsLater k m (Got lo hi query told) = (k ≤ m) × (k ≤ lo + 1)
IsLater k m (Wrote number call reply) = Unit {0}
IsLater k m (Copied count) = Unit {0}
IsLater k m (Lawful count) = Unit {0}

abbrev IsUpTo : ℕ → What → Type 0
IsUpTo k (Got lo hi query told) = k ≤ hi
IsUpTo k (Wrote number call reply) = Unit {0}
IsUpTo k (Copied count) = Unit {0}
IsUpTo k (Lawful count) = Unit {0}

abbrev IsFrom : ℕ → What → Type 0
IsFrom m (Got lo hi query told) = lo ≤ m
IsFrom m (Wrote number call reply) = Unit {0}
IsFrom m (Copied count) = Unit {0}
IsFrom m (Lawful count) = Unit {0}

up_to_of : (version : ℕ) (h : History) (before k : ℕ) (what : What) → IsRight version h before k what → IsUpTo k what
up_to_of version h before k (Got lo hi query told) right = right.1
up_to_of version h before k (Wrote number call reply) right = tt
up_to_of version h before k (Copied count) right = tt
up_to_of version h before k (Lawful count) right = tt

from_of : (version : ℕ) (h : History) (before m : ℕ) (what : What) → IsRight version h before m what → IsFrom m what
from_of version h before m (Got lo hi query told) right = right.0
from_of version h before m (Wrote number call reply) right = tt
from_of version h before m (Copied count) right = tt
from_of version h before m (Lawful count) right = tt

later_by_phase : (k m : ℕ) (w w' : What) → IsUpTo k w → is_got w ≡ true → EndsIn w w' → IsFrom m w' → IsLater k m w'
later_by_phase k m (Wrote number call reply) w' to read ends from = absurd (cc)
later_by_phase k m (Copied count) w' to read ends from = absurd (cc)
later_by_phase k m (Lawful count) w' to read ends from = absurd (cc)
later_by_phase k m (Got lo hi q a) (Got lo' hi' q' a') to read ends from = (omega (arith, to, ends, from), omega (arith, to, ends))
later_by_phase k m (Got lo hi q a) (Wrote number call reply) to read ends from = tt
later_by_phase k m (Got lo hi q a) (Copied count) to read ends from = tt
later_by_phase k m (Got lo hi q a) (Lawful count) to read ends from = tt

-- in a lane
abbrev Later : ℕ → ToldRead × ℕ → Type 0
Later k r = (k ≤ r.1) × (k ≤ r.0.lo + 1)

later_in_lane : (k m : ℕ) (w' : What) (rest : List (ToldRead × ℕ)) → AllByRecursion (Later k) (cons_option (read_by w' m) rest) → IsLater k m w'
later_in_lane k m (Got lo hi q a) rest each = each.0
later_in_lane k m (Wrote number call reply) rest each = tt
later_in_lane k m (Copied count) rest each = tt
later_in_lane k m (Lawful count) rest each = tt

pub got_of : (h : History) (before k : ℕ) (what : What) → is_read (outcome_in h before k what) ≡ is_got what
got_of h before k (Got lo hi query told) = refl
got_of h before k (Wrote number call reply) = refl
got_of h before k (Copied count) = refl
got_of h before k (Lawful count) = refl

rise_by : (h h' : History) (before before' k m : ℕ) (w w' : What) → is_got w ≡ true → is_got w' ≡ true → IsLater k m w'
    → (read_number (outcome_in h before k w) ≤ read_number (outcome_in h' before' m w')) × (read_number (outcome_in h before k w) ≤ lo_of (outcome_in h' before' m w') + 1)
rise_by h h' before before' k m (Wrote number call reply) w' read read' later = absurd (cc)
rise_by h h' before before' k m (Copied count) w' read read' later = absurd (cc)
rise_by h h' before before' k m (Lawful count) w' read read' later = absurd (cc)
rise_by h h' before before' k m (Got lo hi q a) (Wrote number call reply) read read' later = absurd (cc)
rise_by h h' before before' k m (Got lo hi q a) (Copied count) read read' later = absurd (cc)
rise_by h h' before before' k m (Got lo hi q a) (Lawful count) read read' later = absurd (cc)
rise_by h h' before before' k m (Got lo hi q a) (Got lo' hi' q' a') read read' later = later

module _ (version : ℕ) (trees : List History) (all : List ToldLine) where
  later_rise : (t : ToldLine) (k : ℕ) (told : List ToldLine) (points : List ℕ) → IsUpTo k t.what → (is_got t.what ≡ true → AllByRecursion (Later k) (reads_told t.tree t.lane told points)) → AllByRecursion (EndsBefore t) told → AreRight version trees all told points
      → AllByRecursion (InNumbers (step_in trees all k t)) (filled trees all told points)
  later_rise t k [] points to lane ends right = tt
  later_rise t k (u ∷ told) points to lane ends right =
      let m : ℕ = number_for u.what points in
      let h : History = history_in trees t.tree in
      let h' : History = history_in trees u.tree in
      let before : ℕ = calls_of_phases_before all t.tree t.phase in
      let before' : ℕ = calls_of_phases_before all u.tree u.phase in
      let rest : List (ToldRead × ℕ) = reads_told t.tree t.lane told (numbers_behind u.what points) in (
        λ tree knows read read'.
            (let got : is_got t.what ≡ true = sym (got_of h before k t.what) ∙ read in
            let got' : is_got u.what ≡ true = sym (got_of h' before' m u.what) ∙ read' in
            let later : IsLater k m u.what = elim knows [
              | inl same ↦
                  let own : read_in t.tree t.lane m u ≡ read_by u.what m = rw (eq-eqb u.tree t.tree (sym tree), eq-eqb u.lane t.lane (sym same)) refl in
                  later_in_lane k m u.what rest (subst (λ (r : Option (ToldRead × ℕ)). AllByRecursion (Later k) (cons_option r rest)) own (lane got))
              | inr lower ↦ later_by_phase k m t.what u.what to got (ends.0 tree lower) (from_of version h' before' m u.what right.2)
            ] in
            let both = rise_by h h' before before' k m t.what u.what got got' later in
            record { rise = both.0; floor = both.1 }),
        later_rise t k told (numbers_behind u.what points) to (λ got. reads_behind (λ tree. Later k) told u points t.tree t.lane (lane got)) ends.1 right.3,
      )

  pub filled_rises : (told : List ToldLine) (points : List ℕ) → AllReadsRise trees told points → EachLater EndsBefore told → AreRight version trees all told points → EachLater InNumbers (filled trees all told points)
  filled_rises [] points rises ends right = tt
  filled_rises (t ∷ told) points rises ends right =
      let k : ℕ = number_for t.what points in (
        later_rise t k told (numbers_behind t.what points) (up_to_of version (history_in trees t.tree) (calls_of_phases_before all t.tree t.phase) k t.what right.2)
            (λ got. lane_later k t.what got (subst (λ (r : Option (ToldRead × ℕ)). EachLater ReadsRise (cons_option r (reads_told t.tree t.lane told (numbers_behind t.what points)))) (own_read t k) (rises t.tree t.lane right.1)))
            ends.0 right.3,
        filled_rises told (numbers_behind t.what points) (λ tree lane within. rising_behind told t points tree lane (rises tree lane within)) ends.1 right.3,
      )
    where
      lane_later : (k : ℕ) (w : What) → is_got w ≡ true → EachLater ReadsRise (cons_option (read_by w k) (reads_told t.tree t.lane told (numbers_behind t.what points))) → AllByRecursion (Later k) (reads_told t.tree t.lane told (numbers_behind t.what points))
      lane_later k (Wrote number call reply) got each = absurd (cc)
      lane_later k (Copied count) got each = absurd (cc)
      lane_later k (Lawful count) got each = absurd (cc)
      lane_later k (Got lo hi q a) got each = all_map (ReadsRise (record { lo = lo; hi = hi; query = q; told = a }, k)) (Later k) (λ r rise. (rise.rise, rise.floor)) (reads_told t.tree t.lane told (numbers_behind t.what points)) each.0

-- ---- by places

pub pairs_of : {X : Type 0} (R : X → X → Type 0) (xs : List X) → EachLater R xs → AllPairs R xs
pairs_of R [] each i j d before within = absurd (omega (arith, within))
pairs_of R (x ∷ xs) each zero zero d before within = absurd (omega (arith, before))
pairs_of R (x ∷ xs) each zero (suc j) d before within = All-from_recursion (R x) xs each.0 j d (omega (arith, within))
pairs_of R (x ∷ xs) each (suc i) zero d before within = absurd (omega (arith, before))
pairs_of R (x ∷ xs) each (suc i) (suc j) d before within = pairs_of R xs each.1 i j d (omega (arith, before)) (omega (arith, within))

pub each_later : {X : Type 0} (R : X → X → Type 0) (xs : List X) → AllPairs R xs → EachLater R xs
each_later R [] pairs = tt
each_later R (x ∷ xs) pairs = (
  recursion_from_All (R x) xs (λ j d within. pairs 0 (suc j) d (omega arith) (omega (arith, within))),
  each_later R xs (λ i j d before within. pairs (suc i) (suc j) d (omega (arith, before)) (omega (arith, within))),
)

-- ---- the numbers, in order

points_more : (version : ℕ) (h : History) (before : ℕ) (what : What) (points rest : List ℕ) → HasNumber what points → rest ≡ numbers_behind what points → cons_option (point_of (outcome_in h before (number_for what points) what)) rest ≡ points
points_more version h before (Wrote number call reply) points rest has same = same
points_more version h before (Copied count) points rest has same = same
points_more version h before (Lawful count) points rest has same = same
points_more version h before (Got lo hi query told) [] rest has same = absurd has
points_more version h before (Got lo hi query told) (k ∷ points) rest has same = ap (λ (l : List ℕ). k ∷ l) same

pub all_points : (version : ℕ) (trees : List History) (all told : List ToldLine) (points : List ℕ) → AreRight version trees all told points → points_of (filled trees all told points) ≡ points
all_points version trees all [] points right = sym right
all_points version trees all (t ∷ told) points right =
    points_more version (history_in trees t.tree) (calls_of_phases_before all t.tree t.phase) t.what points (points_of (filled trees all told (numbers_behind t.what points))) right.0 (all_points version trees all told (numbers_behind t.what points) right.3)

-- ---- places in mapped lists

get_map : {X Y : Type 0} (f : X → Y) (xs : List X) (i : ℕ) (d : X) → i < length xs → slice_get (map f xs) i ≡ Some (f (get_or xs i d))
get_map f [] i d within = absurd (omega (arith, within))
get_map f (x ∷ xs) zero d within = refl
get_map f (x ∷ xs) (suc i) d within = get_map f xs i d (omega (arith, within))

index_map : {X : Type 0} (f : X → ℕ) (xs : List X) (i : ℕ) (d : X) → i < length xs → slice_index (map f xs) i ≡ f (get_or xs i d)
index_map f [] i d within = absurd (omega (arith, within))
index_map f (x ∷ xs) zero d within = refl
index_map f (x ∷ xs) (suc i) d within = index_map f xs i d (omega (arith, within))

-- ---- the least numbers are right, and keep their order

module _ (h : History) (xs : List (ToldRead × ℕ)) (least : AreLeastOf (map_at h) (map first_of xs) (map second_of xs)) where
  look_is : (i : ℕ) (d : ToldRead × ℕ) → i < length xs → slice_get (map first_of xs) i ≡ Some (get_or xs i d).0
  look_is i d within = get_map first_of xs i d within

  point_is : (i : ℕ) (d : ToldRead × ℕ) → i < length xs → slice_index (map second_of xs) i ≡ (get_or xs i d).1
  point_is i d within = index_map second_of xs i d within

  many : length (map first_of xs) ≡ length xs
  many = length-map xs first_of

  pub least_reads : All (λ (l : ToldRead). l.hi ≤ length h.records) (map first_of xs) → AllByRecursion (IsReadOn h) xs
  least_reads within = recursion_from_All (IsReadOn h) xs (λ i d below.
      (let is = look_is i d below in
      let at = point_is i d below in
      let low : (get_or xs i d).0.lo ≤ slice_index (map second_of xs) i = subst (λ (n : ℕ). n ≤ slice_index (map second_of xs) i) (rw is refl) (least.may.from i (omega (arith, many, below))) in
      let high : slice_index (map second_of xs) i ≤ (get_or xs i d).0.hi = subst (λ (n : ℕ). slice_index (map second_of xs) i ≤ n) (rw is refl) (least.may.to i (omega (arith, many, below))) in
      let true_there : IsTrueOn (map_at h (slice_index (map second_of xs) i)) (get_or xs i d).0 = least.may.holds i (omega (arith, many, below)) (get_or xs i d).0 is in
      record {
        from = omega (arith, low, at);
        to = omega (arith, high, at);
        within = all_at (λ (l : ToldRead). l.hi ≤ length h.records) (map first_of xs) i (get_or xs i d).0 within is;
        true = subst (λ (n : ℕ). IsTrueOn (map_at h n) (get_or xs i d).0) at true_there;
      }))

  pub least_rises : EachLater ReadsRise xs
  least_rises = each_later ReadsRise xs (λ i j d before below.
      (let is = look_is j d below in
      let at = point_is i d (omega (arith, before, below)) in
      let at' = point_is j d below in
      let up : slice_index (map second_of xs) i ≤ slice_index (map second_of xs) j = least.may.rise i j before (omega (arith, many, below)) tt in
      let low : slice_index (map second_of xs) i ≤ (get_or xs j d).0.lo + 1 = subst (λ (n : ℕ). slice_index (map second_of xs) i ≤ n + 1) (rw is refl) (least.may.floor i j before (omega (arith, many, below)) tt) in
      record { rise = omega (arith, up, at, at'); floor = omega (arith, low, at) }))
