-- How many calls were made before a phase: as many as the tree's history then held.
use Rattle.mt_linearize.proofs.Prelude.{◌≡◌, ℕ, ◌+◌, ◌<◌, ◌≤◌, ◌==◌, ◌&&◌, nat_lt, Bool, true, false, List, [], ◌∷◌, ◌++◌, length, take, cond, arith, refl, sym, ap, ◌∙◌, subst, inl, inr, length-append, AllByRecursion, cons_option, filter, cases_Bool, lt-ltb, le-ltb, take-append-le, take_all, filter-append, Record, History, map_at, last_map, Begins, with_records, Outcome, Called, Looked, Counted, Step, calls_before, is_call, Counts, CountsAt, call_number}
use Rattle.mt_linearize.proofs.Once.{numbers_on}

abbrev called_before : ℕ → ℕ → Step → Bool
called_before tree phase s = (s.tree == tree) && (nat_lt s.phase phase && is_call s.outcome)

before_append : (xs ys : List Step) (tree phase : ℕ) → calls_before (xs ++ ys) tree phase ≡ calls_before xs tree phase + calls_before ys tree phase
before_append xs ys tree phase = ap length (filter-append (called_before tree phase) xs ys) ∙ length-append (filter (called_before tree phase) xs) (filter (called_before tree phase) ys)

none_before : (xs : List Step) (tree phase : ℕ) → AllByRecursion (λ (s : Step). phase ≤ s.phase) xs → calls_before xs tree phase ≡ 0
none_before [] tree phase h = refl
none_before (s ∷ xs) tree phase h = elim (cases_Bool (s.tree == tree)) [
  | inl t ↦ rw (t, le-ltb s.phase phase h.0) (none_before xs tree phase h.1)
  | inr f ↦ rw f (none_before xs tree phase h.1)
]

one_before : (s : Step) (o : Outcome) (xs : List Step) (ns : List ℕ) → length xs ≡ length ns → length (cond (is_call o) (s ∷ xs) xs) ≡ length (cons_option (call_number o) ns)
one_before s (Called number call reply) xs ns e = omega arith
one_before s (Looked lo hi k query value) xs ns e = e
one_before s (Counted said ranges) xs ns e = e

pub all_before : (xs : List Step) (tree phase : ℕ) → AllByRecursion (λ (s : Step). s.phase < phase) xs → calls_before xs tree phase ≡ length (numbers_on tree xs)
all_before [] tree phase h = refl
all_before (s ∷ xs) tree phase h = elim (cases_Bool (s.tree == tree)) [
  | inl t ↦ rw (t, lt-ltb s.phase phase h.0) (one_before s s.outcome (filter (called_before tree phase) xs) (numbers_on tree xs) (all_before xs tree phase h.1))
  | inr f ↦ rw f (all_before xs tree phase h.1)
]

some_before : (s : Step) (o : Outcome) (b : Bool) (xs : List Step) (ns : List ℕ) → length xs ≤ length ns → length (cond (b && is_call o) (s ∷ xs) xs) ≤ length (cons_option (call_number o) ns)
some_before s (Called number call reply) true xs ns l = omega arith
some_before s (Called number call reply) false xs ns l = omega arith
some_before s (Looked lo hi k query value) true xs ns l = l
some_before s (Looked lo hi k query value) false xs ns l = l
some_before s (Counted said ranges) true xs ns l = l
some_before s (Counted said ranges) false xs ns l = l

pub before_within : (xs : List Step) (tree phase : ℕ) → calls_before xs tree phase ≤ length (numbers_on tree xs)
before_within [] tree phase = omega arith
before_within (s ∷ xs) tree phase = elim (cases_Bool (s.tree == tree)) [
  | inl t ↦ rw t (some_before s s.outcome (nat_lt s.phase phase) (filter (called_before tree phase) xs) (numbers_on tree xs) (before_within xs tree phase))
  | inr f ↦ rw f (before_within xs tree phase)
]

-- as more steps of no earlier phases come
pub before_kept : (number : ℕ) (earlier steps : List Step) (k : ℕ) → AllByRecursion (λ (s : Step). k ≤ s.phase) steps → calls_before (earlier ++ steps) number k ≡ calls_before earlier number k
before_kept number earlier steps k later = omega (arith, before_append earlier steps number k, none_before steps number k later)

-- what the map was stays as the history goes on
pub map_stays : (tree : History) (records : List Record) (k : ℕ) → Begins tree.records records → k ≤ length tree.records → map_at (with_records tree records) k ≡ map_at tree k
map_stays tree records k b l =
    let kept : take k records ≡ take k tree.records = ap (take k) b.1 ∙ take-append-le k tree.records b.0 l in
    ap (λ (z : List Record). last_map (with_records tree z)) kept

pub whole : (tree : History) (k : ℕ) → k ≡ length tree.records → last_map tree ≡ map_at tree k
whole tree k e = ap (λ (z : List Record). last_map (with_records tree z)) (sym (take_all k tree.records (omega arith)))

counts_stay : (tree : History) (records : List Record) (k : ℕ) (o : Outcome) → Begins tree.records records → k ≤ length tree.records → CountsAt tree k o → CountsAt (with_records tree records) k o
counts_stay tree records k (Called number call reply) b l c = tt
counts_stay tree records k (Looked lo hi at query value) b l c = tt
counts_stay tree records k (Counted said ranges) b l c = c ∙ sym (map_stays tree records k b l)

counts_now : (tree : History) (records : List Record) (k : ℕ) (o : Outcome) → Begins tree.records records → k ≡ length tree.records → Counts tree o → CountsAt (with_records tree records) k o
counts_now tree records k (Called number call reply) b e c = tt
counts_now tree records k (Looked lo hi at query value) b e c = tt
counts_now tree records k (Counted said ranges) b e c = c ∙ (whole tree k e ∙ sym (map_stays tree records k b (omega arith)))

-- a step's count, in an earlier phase and in this one
pub old_count : (number : ℕ) (tree : History) (records : List Record) (earlier steps : List Step) (s : Step) → Begins tree.records records → length (numbers_on number earlier) ≡ length tree.records → AllByRecursion (λ (r : Step). s.phase ≤ r.phase) steps → CountsAt tree (calls_before earlier number s.phase) s.outcome → CountsAt (with_records tree records) (calls_before (earlier ++ steps) number s.phase) s.outcome
old_count number tree records earlier steps s b made later c =
    let least : calls_before earlier number s.phase ≤ length tree.records = omega (arith, before_within earlier number s.phase, made) in
    subst (λ (k : ℕ). CountsAt (with_records tree records) k s.outcome) (sym (before_kept number earlier steps s.phase later)) (counts_stay tree records (calls_before earlier number s.phase) s.outcome b least c)

pub new_count : (number : ℕ) (tree : History) (records : List Record) (earlier steps : List Step) (s : Step) → Begins tree.records records → length (numbers_on number earlier) ≡ length tree.records → AllByRecursion (λ (r : Step). r.phase < s.phase) earlier → AllByRecursion (λ (r : Step). s.phase ≤ r.phase) steps → Counts tree s.outcome → CountsAt (with_records tree records) (calls_before (earlier ++ steps) number s.phase) s.outcome
new_count number tree records earlier steps s b made before later c =
    counts_now tree records (calls_before (earlier ++ steps) number s.phase) s.outcome b (before_kept number earlier steps s.phase later ∙ (all_before earlier number s.phase before ∙ made)) c
