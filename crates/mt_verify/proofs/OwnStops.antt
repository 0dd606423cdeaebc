-- The lines of one tree: their order, their stops and their windows.
use Rattle.mt_verify.proofs.Prelude.{◌≡◌, ℕ, suc, ◌+◌, ◌≤◌, ◌==◌, List, [], ◌∷◌, Option, Some, None, length, slice_get, refl, sym, ap, ◌∙◌, subst, inl, inr, arith, All, AllByRecursion, AllPairs, cons_option, filter_map, cases_Bool, cases_lt, le-ltb, lt-ltb, same_Some, ToldLine, What, Wrote, Got, Copied, Lawful, Numbered, ToldRead, Noted, Stop, AreStopsWithin, AreWithin, Lane, looks_of, lane_looks, AreNotedOf, look_told, calls_below, calls_in, line_on, lines_on, look_by_lane, looks_by_lane, stop_at, stops_told, EndsInTree, EndsWithin, DoNotFall, calls_told, numbered_of}
use Rattle.mt_verify.proofs.Filled.{EachLater}
use Rattle.mt_verify.proofs.CountedLines.{calls_of}
use Rattle.mt_verify.proofs.FilledReads.{each_later, pairs_of}
use Rattle.mt_verify.proofs.RefusedTrees.{from_kept, lane_at, line_of}
use Rattle.mt_verify.proofs.Runs.{all_at, pairs_at}

abbrev pub NoLower : ToldLine → ToldLine → Type 0
NoLower s t = s.phase ≤ t.phase

-- ---- the order of own lines

all_kept : {X Y : Type 0} (P : X → Type 0) (Q : Y → Type 0) (f : X → Option Y) → ((x : X) (y : Y) → f x ≡ Some y → P x → Q y) → (xs : List X) → AllByRecursion P xs → AllByRecursion Q (filter_map f xs)
all_kept P Q f keeps [] each = tt
all_kept P Q f keeps (z ∷ xs) each = one P Q f keeps z xs (f z) refl each.0 (all_kept P Q f keeps xs each.1)
  where
    one : {X Y : Type 0} (P : X → Type 0) (Q : Y → Type 0) (f : X → Option Y) → ((x : X) (y : Y) → f x ≡ Some y → P x → Q y) → (z : X) (xs : List X) (o : Option Y) → f z ≡ o → P z → AllByRecursion Q (filter_map f xs) → AllByRecursion Q (cons_option o (filter_map f xs))
    one P Q f keeps z xs None of here rest = rest
    one P Q f keeps z xs (Some w) of here rest = (keeps z w of here, rest)

each_kept : {X Y : Type 0} (R : X → X → Type 0) (S : Y → Y → Type 0) (f : X → Option Y) → ((x x' : X) (y y' : Y) → f x ≡ Some y → f x' ≡ Some y' → R x x' → S y y')
    → (xs : List X) → EachLater R xs → EachLater S (filter_map f xs)
each_kept R S f keeps [] each = tt
each_kept R S f keeps (x ∷ xs) each = one R S f keeps x xs (f x) refl each.0 (each_kept R S f keeps xs each.1)
  where
    one : {X Y : Type 0} (R : X → X → Type 0) (S : Y → Y → Type 0) (f : X → Option Y) → ((x x' : X) (y y' : Y) → f x ≡ Some y → f x' ≡ Some y' → R x x' → S y y') → (x : X) (xs : List X) (o : Option Y) → f x ≡ o → AllByRecursion (R x) xs → EachLater S (filter_map f xs) → EachLater S (cons_option o (filter_map f xs))
    one R S f keeps x xs None of here rest = rest
    one R S f keeps x xs (Some y) of here rest = (all_kept (R x) (S y) f (λ x' y' of' r. keeps x x' y y' of of' r) xs here, rest)

pub own_rises : (tree : ℕ) (told : List ToldLine) → AllPairs NoLower told → AllPairs NoLower (lines_on tree told)
own_rises tree told rises = pairs_of NoLower (lines_on tree told) (each_kept NoLower NoLower (line_on tree) (λ x x' y y' of of' low. omega (arith, low, ap (λ (t : ToldLine). t.phase) (line_of tree x y of).1, ap (λ (t : ToldLine). t.phase) (line_of tree x' y' of').1)) told (each_later NoLower told rises))

-- ---- stops

more_below : (own : List ToldLine) (p q : ℕ) → p ≤ q → calls_below own p ≤ calls_below own q
more_below [] p q le = omega arith
more_below (t ∷ own) p q le =
    let rest = more_below own p q le in
    elim (cases_lt t.phase p) [
      | inl low ↦ rw (lt-ltb t.phase p low, lt-ltb t.phase q (omega (arith, low, le))) (omega (arith, rest))
      | inr high ↦ rw (le-ltb t.phase p high) (omega (arith, rest))
    ]

stop_place : (at : ℕ) (w : What) (s : Stop) → stop_at at w ≡ Some s → s.at ≡ at
stop_place at (Wrote number call reply) s is = absurd (cc)
stop_place at (Got lo hi query told) s is = absurd (cc)
stop_place at (Copied count) s is = sym (ap (λ (x : Stop). x.at) (same_Some (record { at = at; count = count }) s is))
stop_place at (Lawful count) s is = sym (ap (λ (x : Stop). x.at) (same_Some (record { at = at; count = count }) s is))

pub stops_rise : (own : List ToldLine) → AllPairs NoLower own → DoNotFall (stops_told own)
stops_rise own rises i j s t before is at =
    pairs_at (λ (x : Stop) (y : Stop). x.at ≤ y.at) (stops_told own) i j s t (pairs_of (λ (x : Stop) (y : Stop). x.at ≤ y.at) (stops_told own)
    (each_kept NoLower (λ (x : Stop) (y : Stop). x.at ≤ y.at) (λ (u : ToldLine). stop_at (calls_below own u.phase) u.what)
    (λ x x' y y' of of' low. omega (arith, more_below own x.phase x'.phase low, stop_place (calls_below own x.phase) x.what y of, stop_place (calls_below own x'.phase) x'.what y' of')) own (each_later NoLower own rises))) before is at

below_all : (own : List ToldLine) (p : ℕ) → calls_below own p ≤ calls_of own
below_all [] p = omega arith
below_all (t ∷ own) p =
    let rest = below_all own p in
    elim (cases_lt t.phase p) [
      | inl low ↦ rw (lt-ltb t.phase p low) (omega (arith, rest))
      | inr high ↦ rw (le-ltb t.phase p high) (omega (arith, rest))
    ]

pub own_calls : (tree : ℕ) (told : List ToldLine) → calls_of (lines_on tree told) ≡ length (calls_told tree told)
own_calls tree [] = refl
own_calls tree (t ∷ told) = elim (cases_Bool (t.tree == tree)) [
  | inr other ↦ rw other (own_calls tree told)
  | inl here ↦ rw here (by_what t.what (own_calls tree told))
]
  where
    by_what : (w : What) → calls_of (lines_on tree told) ≡ length (calls_told tree told) → calls_in w + calls_of (lines_on tree told) ≡ length (cons_option (numbered_of t.lane t.phase w) (calls_told tree told))
    by_what (Wrote number call reply) rest = omega (arith, rest)
    by_what (Got lo hi query a) rest = omega (arith, rest)
    by_what (Copied count) rest = omega (arith, rest)
    by_what (Lawful count) rest = omega (arith, rest)

pub stops_within : (tree : ℕ) (told : List ToldLine) (count : ℕ) → count ≡ length (calls_told tree told) → AreStopsWithin count (stops_told (lines_on tree told))
stops_within tree told count many i s is =
    let k = from_kept (λ (u : ToldLine). stop_at (calls_below (lines_on tree told) u.phase) u.what) (lines_on tree told) i s is in
    omega (arith, many, stop_place (calls_below (lines_on tree told) k.item.phase) k.item.what s k.of, below_all (lines_on tree told) k.item.phase, own_calls tree told)

-- ---- windows

hi_of : (calls lane : ℕ) (t : ToldLine) (l : ToldRead) → look_by_lane lane t ≡ Some l → EndsWithin calls t.what → l.hi ≤ calls
hi_of calls lane t l is ends = elim (cases_Bool (t.lane == lane)) [
  | inr other ↦ (let none : None ≡ Some l = sym (rw other refl) ∙ is in absurd (cc))
  | inl here ↦ by_what t.what (sym (rw here refl) ∙ is) ends
]
  where
    by_what : (w : What) → look_told w ≡ Some l → EndsWithin calls w → l.hi ≤ calls
    by_what (Wrote number call reply) is ends = absurd (cc)
    by_what (Got lo hi query a) is ends = let same : record { lo = lo; hi = hi; query = query; told = a } ≡ l = same_Some _ l is in omega (arith, ends, ap (λ (x : ToldRead). x.hi) same)
    by_what (Copied count) is ends = absurd (cc)
    by_what (Lawful count) is ends = absurd (cc)

pub windows_within : (tree : ℕ) (told : List ToldLine) (lanes : List Lane) (count : ℕ) → looks_of lanes ≡ lane_looks tree told → All (EndsInTree told) told → count ≡ length (calls_told tree told) → AreWithin count lanes
windows_within tree told lanes count same ends many place lane i l is at =
    let own : slice_get (looks_by_lane (lines_on tree told) place) i ≡ Some l = ap (λ (x : List ToldRead). slice_get x i) (sym (lane_at tree place told lanes lane same is)) ∙ at in
    let k = from_kept (look_by_lane place) (lines_on tree told) i l own in
    let line = from_kept (line_on tree) told k.place k.item k.is in
    let both = line_of tree line.item k.item line.of in
    let end : EndsInTree told line.item = all_at (EndsInTree told) told line.place line.item ends line.is in
    let here : EndsWithin (length (calls_told tree told)) k.item.what = subst (λ (n : ℕ). EndsWithin (length (calls_told n told)) k.item.what) both.0 (subst (λ (t : ToldLine). EndsWithin (length (calls_told line.item.tree told)) t.what) both.1 end) in
    omega (arith, many, hi_of (length (calls_told tree told)) place k.item l k.of here)

pub as_many_noted : (told : List ToldLine) (tree : ℕ) (calls : List Numbered) (noted : List Noted) → AreNotedOf told tree calls noted → length noted ≡ length calls
as_many_noted told tree [] [] are = refl
as_many_noted told tree [] (n ∷ noted) are = absurd are
as_many_noted told tree (c ∷ calls) [] are = absurd are
as_many_noted told tree (c ∷ calls) (n ∷ noted) are = ap suc (as_many_noted told tree calls noted are.1)
