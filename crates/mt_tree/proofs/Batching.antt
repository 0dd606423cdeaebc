-- Calls that are made one after another under one lock: what holds when some of them have been made.
use Rattle.mt_tree.proofs.Prelude.{◌≡◌, ℕ, suc, ◌+◌, ◌-◌, ◌<◌, ◌≤◌, List, [], ◌∷◌, ◌++◌, Result, Ok, IfOk, IfErr, length, map, set, get_or, take, take_all, refl, sym, ap, ◌∙◌, subst, arith, length-append, length-map, Call, record_of, records_of, Done, Worn, Tree, Behind, after_show, opened, limit_of, IsWorn, WasMade, WasShown, Wrote, get_or-map, get_or_default, take_more}
use Rattle.mt_base.specs.Passes as known
use Rattle.mt_tree.specs.Batches.{AreMadeFrom, LacksCalls, WereMade, told_each}

-- ---- one call more

pub made_more : (t : Tree) (n : ℕ) (p m q : known.Pass) (calls : List Call) (dones : List Done) (call : Call) (d : Done) → AreMadeFrom t n p calls dones m → WasMade t m call (Ok d) q → d.call ≡ n + length dones
    → AreMadeFrom t n p (calls ++ call ∷ []) (dones ++ d ∷ []) q
made_more t n p m q [] [] call d made was number = (q, subst (λ (x : known.Pass). WasMade t x call (Ok d) q) made was, omega (arith, number), refl)
made_more t n p m q [] (e ∷ dones) call d made was number = absurd made
made_more t n p m q (c ∷ calls) [] call d made was number = absurd made
made_more t n p m q (c ∷ calls) (e ∷ dones) call d made was number = (made.0, made.1, made.2, made_more t (n + 1) made.0 m q calls dones call d made.3 was (omega (arith, number)))

pub told_none : {A : Type 0} (told : A → Done → A) (asked : List A) → told_each told asked [] ≡ asked
told_none told [] = refl
told_none told (a ∷ asked) = refl

-- the next request is told
pub told_more : {A : Type 0} (told : A → Done → A) (asked : List A) (dones : List Done) (e : A) (d : Done) → length dones < length asked
    → set (told_each told asked dones) (length dones) (told (get_or asked (length dones) e) d) ≡ told_each told asked (dones ++ d ∷ [])
told_more {A = A} told [] dones e d low = absurd (omega arith)
told_more {A = A} told (a ∷ asked) [] e d low = ap (λ (l : List A). told a d ∷ l) (sym (told_none told asked))
told_more {A = A} told (a ∷ asked) (c ∷ dones) e d low = ap (λ (l : List A). told a c ∷ l) (told_more told asked dones e d (omega arith))

pub told_long : {A : Type 0} (told : A → Done → A) (asked : List A) (dones : List Done) → length (told_each told asked dones) ≡ length asked
told_long told [] dones = refl
told_long told (a ∷ asked) [] = refl
told_long told (a ∷ asked) (c ∷ dones) = ap suc (told_long told asked dones)

-- and stood as it was asked
pub next_asked : {A : Type 0} (told : A → Done → A) (asked : List A) (dones : List Done) (e : A) → get_or (told_each told asked dones) (length dones) e ≡ get_or asked (length dones) e
next_asked told [] dones e = refl
next_asked told (a ∷ asked) [] e = refl
next_asked told (a ∷ asked) (c ∷ dones) e = next_asked told asked dones e

-- i of the calls of these requests have been made, from the number n on
pub record Making {A : Type 0} (call : A → Call) (told : A → Done → A) (t : Tree) (n i : ℕ) (p q : known.Pass) (asked asked' : List A) : Type 0 where
  pub dones : List Done
  pub count : length dones ≡ i
  pub made : AreMadeFrom t n p (take i (map call asked)) dones q
  pub stand : asked' ≡ told_each told asked dones

pub none_made : {A : Type 0} (call : A → Call) (told : A → Done → A) (t : Tree) (n : ℕ) (p : known.Pass) (asked : List A) → Making call told t n 0 p p asked asked
none_made call told t n p asked = record { dones = []; count = refl; made = refl; stand = sym (told_none told asked) }

module _ {A : Type 0} (call : A → Call) (told : A → Done → A) (t : Tree) (n i : ℕ) (p m : known.Pass) (asked asked' : List A) (making : Making call told t n i p m asked asked') where
  pub still_long : length asked' ≡ length asked
  still_long = ap length making.stand ∙ told_long told asked making.dones

  pub as_asked : (e : A) → get_or asked' i e ≡ get_or asked i e
  as_asked e = (λ k. get_or (making.stand k) (sym making.count k) e) ∙ (next_asked told asked making.dones e ∙ ap (λ (k : ℕ). get_or asked k e) making.count)

  pub one_made : (q : known.Pass) (e : A) (d : Done) → i < length asked → WasMade t m (call (get_or asked' i e)) (Ok d) q → d.call ≡ n + i → Making call told t n (i + 1) p q asked (set asked' i (told (get_or asked' i e) d))
  one_made q e d low was number = record {
    dones = making.dones ++ d ∷ [];
    count = length-append making.dones (d ∷ []) ∙ ap (λ (k : ℕ). k + 1) making.count;
    made =
        let one : take (i + 1) (map call asked) ≡ take i (map call asked) ++ get_or (map call asked) i (call e) ∷ [] = take_more (map call asked) i (call e) (omega (arith, low, length-map asked call)) in
        let here : get_or (map call asked) i (call e) ≡ call (get_or asked i e) = get_or-map call asked i e (call e) low in
        let same : call (get_or asked' i e) ≡ call (get_or asked i e) = ap call (as_asked e) in
        subst (λ (cs : List Call). AreMadeFrom t n p cs (making.dones ++ d ∷ []) q) (sym (one ∙ ap (λ (c : Call). take i (map call asked) ++ c ∷ []) here))
        (made_more t n p m q (take i (map call asked)) making.dones (call (get_or asked i e)) d making.made (subst (λ (c : Call). WasMade t m c (Ok d) q) same was) (number ∙ ap (λ (k : ℕ). n + k) (sym making.count)));
    stand =
        let there : length making.dones < length asked = omega (arith, low, making.count) in
        (λ k. set (making.stand k) (sym making.count k) (told (as_asked e k) d)) ∙ (ap (λ (k : ℕ). set (told_each told asked making.dones) (length making.dones) (told (get_or asked k e) d)) (sym making.count) ∙ told_more told asked making.dones e d there);
  }

  pub all_made : length asked ≤ i → WereMade call told t n p asked asked' m
  all_made whole = (making.dones, subst (λ (cs : List Call). AreMadeFrom t n p cs making.dones m) (take_all i (map call asked) (omega (arith, whole, length-map asked call))) making.made, making.stand)

-- the next call was made, and its request was told, which are read at any defaults
pub next_made : {A : Type 0} (call : A → Call) (told : A → Done → A) (t : Tree) (n i : ℕ) (p m q : known.Pass) (asked asked' : List A) (x y z : A) (c : Call) (d : Done) → Making call told t n i p m asked asked'
    → i < length asked' → c ≡ call (get_or asked' i x) → z ≡ told (get_or asked' i y) d → WasMade t m c (Ok d) q → d.call ≡ n + i → Making call told t n (i + 1) p q asked (set asked' i z)
next_made {A = A} call told t n i p m q asked asked' x y z c d making low is after was number =
    let long : length asked' ≡ length asked = still_long call told t n i p m asked asked' making in
    let made : WasMade t m (call (get_or asked' i x)) (Ok d) q = subst (λ (k : Call). WasMade t m k (Ok d) q) is was in
    let same : told (get_or asked' i x) d ≡ z = ap (λ (a : A). told a d) (get_or_default asked' i x y low) ∙ sym after in
    subst (λ (a : A). Making call told t n (i + 1) p q asked (set asked' i a)) same (one_made call told t n i p m asked asked' making q x d (omega (arith, low, long)) made number)

-- ---- one call

-- where the tree may have a call more it is not worn
pub never_worn : (t : Tree) (p q : known.Pass) (b b' : Behind) (w : Worn) → length b.pen.history < limit_of t → q.seen ≡ records_of b'.pen.history → IsWorn t p w q × (b' ≡ after_show b) → ⊥
never_worn t p q b b' w room seen worn =
    let all : length q.seen ≡ limit_of t = worn.0.all in
    let same : length q.seen ≡ length b.pen.history = ap length (seen ∙ ap (λ (x : Behind). records_of x.pen.history) worn.1) ∙ length-map b.pen.history record_of in
    omega (arith, all, same, room)

-- it is then the last
pub one_longer : (t : Tree) (p q : known.Pass) (b' : Behind) (call : Call) (d : Done) → Wrote (opened t) p d.call call d.reply q → q.seen ≡ records_of b'.pen.history → length b'.pen.history ≡ d.call
one_longer t p q b' call d wrote seen =
    let long : length q.seen ≡ length (p.seen ++ wrote.others) + 1 = ap (λ (x : known.Pass). length x.seen) wrote.pass ∙ length-append (p.seen ++ wrote.others) (record { pass = p.number; call = call; reply = d.reply } ∷ []) in
    let here : length q.seen ≡ length b'.pen.history = ap length seen ∙ length-map b'.pen.history record_of in
    omega (arith, long, here, wrote.last)

-- ---- under one lock that was found free

-- what the pass knew when it took the lock is what it had known
pub made_from : {A : Type 0} (call : A → Call) (told : A → Done → A) (t : Tree) (p m q : known.Pass) (asked asked' : List A) (each : Result (Unit {0}) Worn) → m ≡ p
    → IfOk each (λ _. (n : ℕ) × WereMade call told t n m asked asked' q) → IfOk each (λ _. (n : ℕ) × WereMade call told t n p asked asked' q)
made_from call told t p m q asked asked' each same made = subst (λ (x : known.Pass). IfOk each (λ _. (n : ℕ) × WereMade call told t n x asked asked' q)) same made

pub lacks_from : {A : Type 0} (t : Tree) (p m q : known.Pass) (asked asked' : List A) (each : Result (Unit {0}) Worn) → m ≡ p
    → IfErr each (λ w. LacksCalls t m (length asked) w q × (asked' ≡ asked)) → IfErr each (λ w. LacksCalls t p (length asked) w q × (asked' ≡ asked))
lacks_from t p m q asked asked' each same lacks = subst (λ (x : known.Pass). IfErr each (λ w. LacksCalls t x (length asked) w q × (asked' ≡ asked))) same lacks

-- the tree may not have so many more
pub lacks_calls : (t : Tree) (p q : known.Pass) (b : Behind) (n : ℕ) (w : Worn) → limit_of t - length b.pen.history < n → w.calls ≡ length b.pen.history → WasShown (opened t) b.pen p q → LacksCalls t p n w q
lacks_calls t p q b n w few told shown = record {
  calls = told ∙ (sym (length-map b.pen.history record_of) ∙ sym (ap length shown.all));
  lacks = omega (arith, few, told);
  saw = shown.saw;
}
