-- A tree's settled passes stay as they are where one of them has seen the whole history by itself and all are settled again.
use Rattle.mt_replay.proofs.Prelude.{◌≡◌, ◌⊎◌, ℕ, zero, suc, ◌-◌, ◌<◌, ◌≤◌, List, [], ◌∷◌, ◌++◌, Some, length, map, take, drop, slice_get, slice_set, get_or, arith, refl, sym, ap, ◌∙◌, subst, inl, inr, Vec, Global, length-set, map-set, length-map, take-append-le, take_all, option_map, slice_get_read, slice_get-map, Record, History, Pass, IsSettled, Saw, Settled, with_records, OnlySaw, all_at, same_some, set_here, stay, seen_by}

-- how many calls the tree has is not read
saw_in : (h : History) (records : List Record) (p q : Pass) → Saw h p q → Saw (with_records h records) p q
saw_in h records p q s = record { seen = s.seen; pass = s.pass; begun = s.begun; ended = s.ended; sound = record { own = s.sound.own; legal = s.sound.legal } }

-- one of a list is another, and the others stay
one_set : {X : Type 0} (R : X → X → Type 0) (xs : List X) (at : ℕ) (p q : X) → ((x : X) → R x x) → slice_get xs at ≡ Some p → R p q → (i : ℕ) (x y : X) → slice_get xs i ≡ Some x → slice_get (slice_set xs at q) i ≡ Some y → R x y
one_set R [] at p q same is r i x y was now = absurd (cc)
one_set R (z ∷ xs) zero p q same is r zero x y was now =
    let e : p ≡ x = same_some p x (sym is ∙ was) in
    let f : q ≡ y = same_some q y now in
    subst (R x) f (subst (λ v. R v q) e r)
one_set R (z ∷ xs) zero p q same is r (suc i) x y was now = subst (R x) (same_some x y (sym was ∙ now)) (same x)
one_set R (z ∷ xs) (suc at) p q same is r zero x y was now = subst (R x) (same_some x y (sym was ∙ now)) (same x)
one_set R (z ∷ xs) (suc at) p q same is r (suc i) x y was now = one_set R xs at p q same is r i x y was now

abbrev SawOne : History → Pass → Pass → Type 0
SawOne h p q = (q ≡ p) ⊎ Saw h p q

saw_one_in : (h : History) (records : List Record) (p q : Pass) → SawOne h p q → SawOne (with_records h records) p q
saw_one_in h records p q (inl same) = inl same
saw_one_in h records p q (inr saw) = inr (saw_in h records p q saw)

pass_stays : (h : History) (old new : List Pass) (at : ℕ) (p q : Pass) → slice_get old at ≡ Some p → IsSettled (seen_by h old) old → SawOne h p q → Settled (seen_by h new) (slice_set old at q) new → (new ≡ old) × (with_records h q.seen ≡ seen_by h old)
pass_stays h [] new at p q is start one end = absurd (cc)
pass_stays h (o ∷ old) [] at p q is start one end = absurd (omega (arith, end.count, length-set (o ∷ old) at q))
pass_stays h (o ∷ old) (n ∷ new) at p q is start one end =
    let tree : History = with_records h o.seen in
    let only : OnlySaw tree (o ∷ old) (slice_set (o ∷ old) at q) = record {
      count = length-set (o ∷ old) at q;
      each = one_set (SawOne tree) (o ∷ old) at p q (λ x. inl refl) is (saw_one_in h o.seen p q one);
    } in
    let s = stay tree (with_records h n.seen) (o ∷ old) (slice_set (o ∷ old) at q) (n ∷ new) start only end refl (omega arith) in
    let same : q ≡ p = same_some q p (sym (set_here (o ∷ old) at p q is) ∙ (ap (λ (z : List Pass). slice_get z at) s.1 ∙ is)) in
    let all : p.seen ≡ o.seen = all_at (λ (z : Pass). z.seen ≡ o.seen) (o ∷ old) at p start.seen is in
    (s.2, ap (λ (z : Pass). with_records h z.seen) same ∙ ap (with_records h) all)

-- a row of passes one of which has seen the whole history, or is as it was, before all were settled
pub row_stays : {P : Type 0} (knows : P → Pass) {h : History} (row : Vec P Global) {n : ℕ} {p q : P} {between : List P} (after : List P) → 1 ≤ length row.items → n ≡ row.len → p ≡ get_or row.items (n - 1) p → IsSettled (seen_by h (map knows row.items)) (map knows row.items)
    → ((knows q ≡ knows p) ⊎ Saw h (knows p) (knows q)) → between ≡ slice_set row.items (n - 1) q → Settled (seen_by h (map knows after)) (map knows between) (map knows after)
    → (map knows (take row.len (after ++ drop (length after) (slice_set row.items (n - 1) q))) ≡ map knows row.items) × (with_records h (knows q).seen ≡ seen_by h (map knows row.items))
row_stays {P} knows {h} row {n} {p} {q} {between} after some long is start one set end =
    let within : n - 1 < length row.items = omega (arith, row.ok.0) in
    let here : slice_get (map knows row.items) (n - 1) ≡ Some (knows p) = slice_get-map knows row.items (n - 1) ∙ ap (option_map knows) (slice_get_read row.items (length row.items) (n - 1) p refl within is) in
    let s = pass_stays h (map knows row.items) (map knows after) (n - 1) (knows p) (knows q) here start one (subst (λ z. Settled (seen_by h (map knows after)) z (map knows after)) (ap (map knows) set ∙ map-set knows row.items (n - 1) q) end) in
    let as_long : length after ≡ row.len = omega (arith, end.count, length-map after knows, length-map between knows, ap length set, length-set row.items (n - 1) q, row.ok.0) in
    let back : take row.len (after ++ drop (length after) (slice_set row.items (n - 1) q)) ≡ after = take-append-le row.len after (drop (length after) (slice_set row.items (n - 1) q)) (omega (arith, as_long)) ∙ take_all row.len after (omega (arith, as_long)) in
    (ap (map knows) back ∙ s.0, s.1)
