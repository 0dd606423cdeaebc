-- A tree has as many calls as its settled passes have made, and passes that made none leave it as it is.
use Rattle.mt_linearize.proofs.Prelude.{◌≡◌, ◌≢◌, ◌⊎◌, ℕ, zero, suc, ◌+◌, ◌<◌, ◌≤◌, ◌==◌, List, [], ◌∷◌, ◌++◌, Some, length, slice_get, arith, refl, sym, ap, ◌∙◌, subst, inl, inr, length-append, AllByRecursion, cases_Bool, eqb-true, eqb-false, append-nil, recursion_from_All, slice_get_within, Record, History, Pass, Begins, IsSettled, Saw, Settled, places, places_from, with_records, begins_none, begins_on, begins_long, place_taken, place_left, Step, HaveGone, OnlySaw, sum_below, outcomes_of, answers_joined, numbers_of}
use Rattle.mt_linearize.proofs.LanePasses.{all_at, some_at}
use Rattle.mt_linearize.proofs.Once.{leads_number}

-- ---- sums

pub sum_none : (n : ℕ) → sum_below n (λ (i : ℕ). 0) ≡ 0
sum_none zero = refl
sum_none (suc n) = omega (arith, sum_none n)

pub sum_same : (f g : ℕ → ℕ) (n : ℕ) → ((i : ℕ) → i < n → g i ≡ f i) → sum_below n g ≡ sum_below n f
sum_same f g zero same = refl
sum_same f g (suc n) same = omega (arith, same n (omega arith), sum_same f g n (λ i l. same i (omega arith)))

sum_both : (f g h : ℕ → ℕ) (n : ℕ) → ((i : ℕ) → i < n → h i ≡ f i + g i) → sum_below n h ≡ sum_below n f + sum_below n g
sum_both f g h zero both = refl
sum_both f g h (suc n) both = omega (arith, both n (omega arith), sum_both f g h n (λ i l. both i (omega arith)))

-- one of the numbers is one more
sum_more : (f g : ℕ → ℕ) (at n : ℕ) → at < n → ((i : ℕ) → i ≢ at → g i ≡ f i) → g at ≡ suc (f at) → sum_below n g ≡ suc (sum_below n f)
sum_more f g at zero l others own = absurd (omega arith)
sum_more f g at (suc n) l others own = elim (cases_Bool (n == at)) [
  | inl t ↦
      let here : n ≡ at = eqb-true n at t in
      let top : g n ≡ suc (f n) = rw here own in
      omega (arith, top, sum_same f g n (λ i below. others i (λ same. absurd (omega arith))))
  | inr other ↦
      let apart : n ≢ at = eqb-false n at other in
      omega (arith, others n apart, sum_more f g at n (omega (arith, apart)) others own)
]

-- ---- as many calls as the passes' own

places_long : (m n : ℕ) (rs : List Record) → AllByRecursion (λ (r : Record). r.pass < n) rs → sum_below n (λ (k : ℕ). length (places_from m k rs)) ≡ length rs
places_long m n [] theirs = sum_none n
places_long m n (r ∷ rs) theirs =
    let here : ℕ → ℕ = λ k. length (places_from m k (r ∷ rs)) in
    let rest : ℕ → ℕ = λ k. length (places_from (m + 1) k rs) in
    sum_more rest here r.pass n theirs.0 (λ k apart. ap length (place_left m k r rs (λ same. apart (sym same)))) (ap length (place_taken m r.pass r rs refl)) ∙ ap suc (places_long (m + 1) n rs theirs.1)

settled_long : (tree : History) (passes : List Pass) → IsSettled tree passes → sum_below (length passes) (λ (k : ℕ). length (places k tree.records)) ≡ length tree.records
settled_long tree passes settled = places_long 1 (length passes) tree.records (recursion_from_All _ tree.records settled.theirs)

settled_own : (tree : History) (passes : List Pass) (i : ℕ) (q : Pass) → IsSettled tree passes → slice_get passes i ≡ Some q → q.mine ≡ places i tree.records
settled_own tree passes i q settled is = all_at (λ (q : Pass). q.mine ≡ places q.number tree.records) passes i q settled.own is ∙ ap (λ (k : ℕ). places k tree.records) (settled.numbered i q is)

-- where each pass made so many calls between two settlings, the history has just those more
calls_more : (old new : History) (before between after : List Pass) (more : ℕ → List ℕ) → IsSettled old before → length between ≡ length before → ((i : ℕ) (p m : Pass) → slice_get before i ≡ Some p → slice_get between i ≡ Some m → m.mine ≡ p.mine ++ more i) → Settled new between after
    → length new.records ≡ length old.records + sum_below (length before) (λ (i : ℕ). length (more i))
calls_more old new before between after more start count went end =
    let was : ℕ → ℕ = λ i. length (places i old.records) in
    let is : ℕ → ℕ = λ i. length (places i new.records) in
    let long : length after ≡ length before = end.count ∙ count in
    let all : sum_below (length before) is ≡ sum_below (length before) was + sum_below (length before) (λ (i : ℕ). length (more i)) = sum_both was (λ (i : ℕ). length (more i)) is (length before) each in
    let first : sum_below (length before) was ≡ length old.records = settled_long old before start in
    let last : sum_below (length before) is ≡ length new.records = ap (λ (n : ℕ). sum_below n is) (sym long) ∙ settled_long new after end.settled in
    omega (arith, all, first, last)
  where
    each : (i : ℕ) → i < length before → length (places i new.records) ≡ length (places i old.records) + length (more i)
    each i l =
        let p = some_at before i l in
        let m = some_at between i (omega (arith, count)) in
        let q = some_at after i (omega (arith, count, end.count)) in
        let kept : q.0.mine ≡ m.0.mine = ap (λ (z : Pass). z.mine) (end.each i m.0 q.0 m.1 q.1).pass in
        let own : q.0.mine ≡ places i old.records ++ more i = kept ∙ (went i p.0 m.0 p.1 m.1 ∙ ap (λ (z : List ℕ). z ++ more i) (settled_own old before i p.0 start p.1)) in
        ap length (sym (settled_own new after i q.0 end.settled q.1) ∙ own) ∙ length-append (places i old.records) (more i)

pub lanes_calls : (number : ℕ) (old new : History) (answers : ℕ → List (List Step)) (before between after : List Pass) → IsSettled old before → HaveGone number old answers before between → Settled new between after → new ≡ with_records old new.records
    → length new.records ≡ length old.records + sum_below (length before) (λ (lane : ℕ). length (numbers_of (outcomes_of number lane (answers_joined (answers lane)))))
lanes_calls number old new answers before between after start gone end tree =
    calls_more old new before between after (λ (lane : ℕ). numbers_of (outcomes_of number lane (answers_joined (answers lane)))) start gone.count
    (λ lane p m was is. leads_number old p (outcomes_of number lane (answers_joined (answers lane))) m (gone.leads lane p m was is)) end

-- ---- what a pass had seen before it was settled

pub seen_begins : (new : History) (between after : List Pass) → Settled new between after → (lane : ℕ) (m : Pass) → slice_get between lane ≡ Some m → Begins m.seen new.records
seen_begins new between after end lane m is =
    let q = some_at after lane (omega (arith, end.count, slice_get_within between lane m is)) in
    subst (Begins m.seen) (all_at (λ (q : Pass). q.seen ≡ new.records) after lane q.0 end.settled.seen q.1) (end.each lane m q.0 is q.1).seen

pub seen_within : (new : History) (between after : List Pass) → Settled new between after → (lane : ℕ) (m : Pass) → slice_get between lane ≡ Some m → length m.seen ≤ length new.records
seen_within new between after end lane m is = begins_long m.seen new.records (seen_begins new between after end lane m is)

-- ---- passes that made no call

no_more : {X : Type 0} (xs ys : List X) → Begins xs ys → length ys ≤ length xs → ys ≡ xs
no_more xs ys ([], is) l = is ∙ append-nil xs
no_more {X} xs ys (x ∷ rest, is) l = absurd (omega (arith, ap length is, length-append xs (x ∷ rest)))

same_each : {X : Type 0} (xs ys : List X) → length ys ≡ length xs → ((i : ℕ) (x y : X) → slice_get xs i ≡ Some x → slice_get ys i ≡ Some y → y ≡ x) → ys ≡ xs
same_each [] [] e same = refl
same_each [] (y ∷ ys) e same = absurd (omega (arith, e))
same_each (x ∷ xs) [] e same = absurd (omega (arith, e))
same_each (x ∷ xs) (y ∷ ys) e same = rw (same 0 x y refl refl, same_each xs ys (omega (arith, e)) (λ i a b. same (suc i) a b)) refl

saw_nothing : (tree : History) (p q : Pass) → Saw tree p q → q.seen ≡ p.seen → p.ended ≡ length p.seen → q ≡ p
saw_nothing tree p q s seen ended = s.pass ∙ (ap (λ (z : List Record). record p { seen = z; ended = length z }) seen ∙ ap (λ (n : ℕ). record p { ended = n }) (sym ended))

-- a pass that at the most saw its history again
abbrev OnlySawOne : History → Pass → Pass → Type 0
OnlySawOne tree p q = (q ≡ p) ⊎ Saw tree p q

only_begins : (tree : History) (p q : Pass) → OnlySawOne tree p q → Begins p.seen q.seen
only_begins tree p q (inl same) = subst (λ (z : Pass). Begins p.seen z.seen) (sym same) (begins_none p.seen)
only_begins tree p q (inr saw) = saw.seen

only_own : (tree : History) (p q : Pass) → OnlySawOne tree p q → q.mine ≡ p.mine ++ []
only_own tree p q (inl same) = ap (λ (z : Pass). z.mine) same ∙ sym (append-nil p.mine)
only_own tree p q (inr saw) = ap (λ (z : Pass). z.mine) saw.pass ∙ sym (append-nil p.mine)

only_nothing : (tree : History) (p q : Pass) → OnlySawOne tree p q → length q.seen ≤ length p.seen → p.ended ≡ length p.seen → q ≡ p
only_nothing tree p q (inl same) l ended = same
only_nothing tree p q (inr saw) l ended = saw_nothing tree p q saw (no_more p.seen q.seen saw.seen l) ended

pub stay : (tree new : History) (before between after : List Pass) → IsSettled tree before → OnlySaw tree before between → Settled new between after → new ≡ with_records tree new.records → 0 < length before → (new ≡ tree) × (between ≡ before) × (after ≡ before)
stay tree new before between after start only end is some =
    let long : length new.records ≡ length tree.records = omega (arith, calls_more tree new before between after (λ (i : ℕ). []) start only.count (λ i p m was now. only_own tree p m (only.each i p m was now)) end, sum_none (length before)) in
    let p = some_at before 0 some in
    let m = some_at between 0 (omega (arith, only.count)) in
    let begins : Begins tree.records new.records = subst (λ (z : List Record). Begins z new.records) (seen_of 0 p.0 p.1) (begins_on p.0.seen m.0.seen new.records (only_begins tree p.0 m.0 (only.each 0 p.0 m.0 p.1 m.1)) (seen_begins new between after end 0 m.0 m.1)) in
    let same : new.records ≡ tree.records = no_more tree.records new.records begins (omega arith) in
    let halfway : between ≡ before = same_each before between only.count (λ i p m was now. kept long i p m was now) in
    (is ∙ ap (with_records tree) same, halfway, same_each before after (end.count ∙ only.count) (λ i p q was now. settled long same halfway i p q was now))
  where
    seen_of : (i : ℕ) (p : Pass) → slice_get before i ≡ Some p → p.seen ≡ tree.records
    seen_of i p was = all_at (λ (q : Pass). q.seen ≡ tree.records) before i p start.seen was

    ended_of : (i : ℕ) (p : Pass) → slice_get before i ≡ Some p → p.ended ≡ length p.seen
    ended_of i p was = all_at (λ (q : Pass). q.ended ≡ length tree.records) before i p start.ended was ∙ sym (ap length (seen_of i p was))

    kept : length new.records ≡ length tree.records → (i : ℕ) (p m : Pass) → slice_get before i ≡ Some p → slice_get between i ≡ Some m → m ≡ p
    kept long i p m was now = only_nothing tree p m (only.each i p m was now) (omega (arith, long, ap length (seen_of i p was), seen_within new between after end i m now)) (ended_of i p was)

    settled : length new.records ≡ length tree.records → new.records ≡ tree.records → between ≡ before → (i : ℕ) (p q : Pass) → slice_get before i ≡ Some p → slice_get after i ≡ Some q → q ≡ p
    settled long same halfway i p q was now =
        let between_was : slice_get between i ≡ Some p = ap (λ (z : List Pass). slice_get z i) halfway ∙ was in
        let all : q.seen ≡ new.records = all_at (λ (q : Pass). q.seen ≡ new.records) after i q end.settled.seen now in
        saw_nothing new p q (end.each i p q between_was now) (all ∙ (same ∙ sym (seen_of i p was))) (ended_of i p was)
