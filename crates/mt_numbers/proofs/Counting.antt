-- What a call of a pass adds to the count of its calls.
use Rattle.mt_numbers.proofs.Prelude.{All, IfErr, IfOk, MatchOption, Option, Some, None, Result, Ok, Err, is_some, map, AllByRecursion, All-from_recursion, ◌≡◌, ℕ, ◌+◌, ◌==◌, ◌≤◌, Bool, true, List, [], ◌∷◌, ◌++◌, length, length-append, if◌then◌else◌, eq-eqb, refl, sym, ap, ◌∙◌, subst, arith, Call, Erase, Reply, Record, History, Pass, Saw, Wrote, new_pass, places, places_from, Done, Worn, Tree, limit_of, opened, IsWorn, asking, count_of, gave_one, given_back_by, removed, number_taken, started, taken_by, took_one, AskedForNumber, GaveBack, KnowsItsOwn}
use Rattle.mt_base.specs.declared.kinds.Kind.TheVariants as kinds
use Rattle.mt_numbers.proofs.Telling.{asked_tells, gave_tells}

abbrev any : Record → Bool
any _ = true

count_append : (test : Record → Bool) (pass : ℕ) (xs ys : List Record) → count_of test pass (xs ++ ys) ≡ count_of test pass xs + count_of test pass ys
count_append test pass [] ys = omega arith
count_append test pass (x ∷ xs) ys = let more = count_append test pass xs ys in omega arith

at_most_all : (test : Record → Bool) (pass : ℕ) (xs : List Record) → count_of test pass xs ≤ count_of any pass xs
at_most_all test pass [] = omega arith
at_most_all test pass (x ∷ xs) = let more = at_most_all test pass xs in grind arith

as_places : (n pass : ℕ) (xs : List Record) → length (places_from n pass xs) ≡ count_of any pass xs
as_places n pass [] = refl
as_places n pass (x ∷ xs) = let more = as_places (n + 1) pass xs in grind arith

-- the last of these records is the pass's one new call
one_more : (test : Record → Bool) (n : ℕ) (mine : List ℕ) (seen others : List Record) (r : Record) → mine ≡ places r.pass seen → mine ++ n ∷ [] ≡ places r.pass ((seen ++ others) ++ r ∷ []) → count_of test r.pass ((seen ++ others) ++ r ∷ []) ≡ count_of test r.pass seen + (if test r then 1 else 0)
one_more test n mine seen others r own own' =
    let before : length mine ≡ count_of any r.pass seen = ap length own ∙ as_places 1 r.pass seen in
    let after : length (mine ++ n ∷ []) ≡ count_of any r.pass ((seen ++ others) ++ r ∷ []) = ap length own' ∙ as_places 1 r.pass ((seen ++ others) ++ r ∷ []) in
    let long : length (mine ++ n ∷ []) ≡ length mine + 1 = length-append mine (n ∷ []) in
    let all = count_append any r.pass (seen ++ others) (r ∷ []) in
    let firsts = count_append any r.pass seen others in
    let told = count_append test r.pass (seen ++ others) (r ∷ []) in
    let told_firsts = count_append test r.pass seen others in
    let few = at_most_all test r.pass others in
    let mine_is : (r.pass == r.pass) ≡ true = eq-eqb r.pass r.pass refl in
    grind arith

-- none of the new records is the pass's
none_more : (test : Record → Bool) (pass : ℕ) (mine : List ℕ) (seen others : List Record) → mine ≡ places pass seen → mine ≡ places pass (seen ++ others) → count_of test pass (seen ++ others) ≡ count_of test pass seen
none_more test pass mine seen others own own' =
    let before : length mine ≡ count_of any pass seen = ap length own ∙ as_places 1 pass seen in
    let after : length mine ≡ count_of any pass (seen ++ others) = ap length own' ∙ as_places 1 pass (seen ++ others) in
    let all = count_append any pass seen others in
    let told = count_append test pass seen others in
    let few = at_most_all test pass others in
    omega arith

-- a call of the pass is one more where it did so
called : (test : Record → Bool) (tree : History) (p q : Pass) (n : ℕ) (call : Call) (reply : Reply) → KnowsItsOwn p → Wrote tree p n call reply q → count_of test q.number q.seen ≡ count_of test p.number p.seen + (if test (record { pass = p.number; call = call; reply = reply }) then 1 else 0)
called test tree p q n call reply own w =
    let r : Record = record { pass = p.number; call = call; reply = reply } in
    let own' : p.mine ++ n ∷ [] ≡ places p.number ((p.seen ++ w.others) ++ r ∷ []) = subst (λ (s : Pass). s.mine ≡ places s.number s.seen) w.pass w.sound.own in
    subst (λ (s : Pass). count_of test s.number s.seen ≡ count_of test p.number p.seen + (if test r then 1 else 0)) (sym w.pass) (one_more test n p.mine p.seen w.others r own own')

-- what others called changes no count of the pass
saw : (test : Record → Bool) (tree : History) (p q : Pass) → KnowsItsOwn p → Saw tree p q → count_of test q.number q.seen ≡ count_of test p.number p.seen
saw test tree p q own s =
    let own' : p.mine ≡ places p.number q.seen = subst (λ (z : Pass). z.mine ≡ places z.number q.seen) s.pass s.sound.own in
    let same : count_of test q.number q.seen ≡ count_of test p.number q.seen = ap (λ (z : Pass). count_of test z.number q.seen) s.pass in
    let more : count_of test p.number q.seen ≡ count_of test p.number (p.seen ++ s.seen.0) = ap (count_of test p.number) s.seen.1 in
    same ∙ more ∙ none_more test p.number p.mine p.seen s.seen.0 own (own' ∙ ap (places p.number) s.seen.1)

-- ---- what a taker is told of its call

taken_as : (told : Option ℕ) (n n' : ℕ) → n' ≡ n + (if is_some told then 1 else 0) → MatchOption told (n' ≡ n) (λ _. n' ≡ n + 1)
taken_as None n n' more = omega arith
taken_as (Some number) n n' more = more

abbrev pub Took : Tree → Pass → Option ℕ → Pass → Type 0
Took t p told q = AskedForNumber t p told q × MatchOption told (taken_by q ≡ taken_by p) (λ _. taken_by q ≡ taken_by p + 1) × (given_back_by q ≡ given_back_by p)

took_as : (t : Tree) (p q : Pass) (answer : Result Done Worn) → KnowsItsOwn p → (opened t).kind ≡ kinds.Alloc → IfOk answer (λ d. Wrote (opened t) p d.call asking d.reply q × (d.call ≤ limit_of t)) → IfErr answer (λ w. IsWorn t p w q) → Took t p (started answer) q
took_as t p q (Ok d) own kind done worn =
    let given : given_back_by q ≡ given_back_by p + 0 = called gave_one (opened t) p q d.call asking d.reply own done.0 in (
      (Ok d, (done.0, asked_tells (opened t) p q d.call d.reply kind done.0)),
      taken_as (number_taken d.reply) (taken_by p) (taken_by q) (called took_one (opened t) p q d.call asking d.reply own done.0),
      omega arith,
    )
took_as t p q (Err w) own kind done worn = ((Err w, (worn, refl)), saw took_one (opened t) p q own worn.saw, saw gave_one (opened t) p q own worn.saw)

pub took : (t : Tree) (p q : Pass) (answer : Result Done Worn) (told : Option ℕ) → KnowsItsOwn p → (opened t).kind ≡ kinds.Alloc → IfOk answer (λ d. Wrote (opened t) p d.call asking d.reply q × (d.call ≤ limit_of t)) → IfErr answer (λ w. IsWorn t p w q) → told ≡ started answer → Took t p told q
took t p q answer told own kind done worn same = subst (λ (o : Option ℕ). Took t p o q) (sym same) (took_as t p q answer own kind done worn)

-- ---- what one is told that gives a number back

abbrev pub Gave : Tree → Pass → ℕ → Bool → Pass → Type 0
Gave t p number told q = GaveBack t p number told q × (taken_by q ≡ taken_by p) × (given_back_by q ≡ given_back_by p + (if told then 1 else 0))

gave_as : (t : Tree) (p q : Pass) (number : ℕ) (answer : Result Done Worn) → KnowsItsOwn p → IfOk answer (λ d. Wrote (opened t) p d.call (Erase number) d.reply q × (d.call ≤ limit_of t)) → IfErr answer (λ w. IsWorn t p w q) → Gave t p number (removed answer) q
gave_as t p q number (Ok d) own done worn =
    let taken : taken_by q ≡ taken_by p + 0 = called took_one (opened t) p q d.call (Erase number) d.reply own done.0 in (
      (Ok d, (done.0, gave_tells (opened t) p q number d.call d.reply done.0)),
      omega arith,
      called gave_one (opened t) p q d.call (Erase number) d.reply own done.0,
    )
gave_as t p q number (Err w) own done worn =
    let given : given_back_by q ≡ given_back_by p = saw gave_one (opened t) p q own worn.saw in
    ((Err w, (worn, refl)), saw took_one (opened t) p q own worn.saw, omega arith)

pub gave : (t : Tree) (p q : Pass) (number : ℕ) (answer : Result Done Worn) (told : Bool) → KnowsItsOwn p → IfOk answer (λ d. Wrote (opened t) p d.call (Erase number) d.reply q × (d.call ≤ limit_of t)) → IfErr answer (λ w. IsWorn t p w q) → told ≡ removed answer → Gave t p number told q
gave t p q number answer told own done worn same = subst (λ (b : Bool). Gave t p number b q) (sym same) (gave_as t p q number answer own done worn)

-- whatever a call was answered, its pass knows its own calls
pub still_own : (t : Tree) (p q : Pass) (call : Call) (answer : Result Done Worn) → IfOk answer (λ d. Wrote (opened t) p d.call call d.reply q × (d.call ≤ limit_of t)) → IfErr answer (λ w. IsWorn t p w q) → KnowsItsOwn q
still_own t p q call (Ok d) done worn = done.0.sound.own
still_own t p q call (Err w) done worn = worn.saw.sound.own

new_own : (ns : List ℕ) → AllByRecursion KnowsItsOwn (map new_pass ns)
new_own [] = tt
new_own (n ∷ ns) = (refl, new_own ns)

of_map : {P : Type 0} (knows : P → Pass) (ps : List P) → AllByRecursion KnowsItsOwn (map knows ps) → AllByRecursion (λ (p : P). KnowsItsOwn (knows p)) ps
of_map knows [] all = tt
of_map knows (p ∷ ps) all = (all.0, of_map knows ps all.1)

-- passes that have seen nothing know their own calls
pub new_passes : {P : Type 0} (knows : P → Pass) (ps : List P) (ns : List ℕ) → map knows ps ≡ map new_pass ns → All (λ (p : P). KnowsItsOwn (knows p)) ps
new_passes knows ps ns new = All-from_recursion (λ p. KnowsItsOwn (knows p)) ps (of_map knows ps (subst (AllByRecursion KnowsItsOwn) (sym new) (new_own ns)))
