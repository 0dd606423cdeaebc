-- A pass that has seen its tree's whole history: what a call, a read and the others' calls make of it.
use Rattle.mt_linearize.proofs.Prelude.{◌≡◌, ◌≢◌, ℕ, zero, suc, ◌+◌, ◌<◌, ◌≤◌, ◌==◌, List, [], ◌∷◌, ◌++◌, Option, Some, None, length, map, fold, take, get_or, slice_get, arith, refl, sym, ap, ◌∙◌, subst, inl, inr, length-append, IfSome, All, range_with_len, Contains, cases_Bool, eqb-true, eqb-false, append-nil, take_all, All-push, length-map-range_with_len, slice_get-get_or, Range, Call, Query, Reply, Holder, answer, Record, History, AreLegalFrom, IsAnswered, IsLegal, last_map, limits_after, map_after, Pass, IsSettled, Read, Saw, Wrote, holder_of, places, places_from, with_records, begins_none, Learns, IsNext, informed, known_to_all, with_call}
use Rattle.mt_linearize.proofs.Lists.{same_some}

-- ---- a list by numbers

ranged_at : {X : Type 0} (f : ℕ → X) (b n i : ℕ) (x : X) → slice_get (map f (range_with_len b n)) i ≡ Some x → x ≡ f (b + i)
ranged_at f b zero i x is = cc
ranged_at f b (suc n) zero x is = let e : b ≡ b + 0 = omega arith in same_some x (f b) (sym is) ∙ ap f e
ranged_at f b (suc n) (suc i) x is = let e : b + 1 + i ≡ b + suc i = omega arith in ranged_at f (b + 1) n i x is ∙ ap f e

pub numbered_at : {X : Type 0} (f : ℕ → X) (n i : ℕ) (x : X) → slice_get (map f (range_with_len 0 n)) i ≡ Some x → x ≡ f i
numbered_at f n i x is = let e : 0 + i ≡ i = omega arith in ranged_at f 0 n i x is ∙ ap f e

pub of_numbered : {X : Type 0} (P : X → Type 0) (f : ℕ → X) (n : ℕ) → ((i : ℕ) → P (f i)) → All P (map f (range_with_len 0 n))
of_numbered {X} P f n g k d l =
    let list : List X = map f (range_with_len 0 n) in
    let e : get_or list k d ≡ f k = numbered_at f n k (get_or list k d) (slice_get-get_or list k d l) in
    subst P (sym e) (g k)

-- ---- a pass's places, with one more call

places_push : (n pass : ℕ) (rs : List Record) (r : Record) → r.pass ≡ pass → places_from n pass (rs ++ r ∷ []) ≡ places_from n pass rs ++ (n + length rs) ∷ []
places_push n pass [] r e = elim (cases_Bool (r.pass == pass)) [
  | inl t ↦ let at : n + 0 ≡ n = omega arith in rw (t, at) refl
  | inr f ↦ absurd (eqb-false r.pass pass f e)
]
places_push n pass (q ∷ rs) r e =
    let at : n + suc (length rs) ≡ n + 1 + length rs = omega arith in
    elim (cases_Bool (q.pass == pass)) [
      | inl t ↦ rw (t, places_push (n + 1) pass rs r e, at) refl
      | inr f ↦ rw (f, places_push (n + 1) pass rs r e, at) refl
    ]

places_kept : (n pass : ℕ) (rs : List Record) (r : Record) → r.pass ≢ pass → places_from n pass (rs ++ r ∷ []) ≡ places_from n pass rs
places_kept n pass [] r apart = elim (cases_Bool (r.pass == pass)) [
  | inl t ↦ absurd (apart (eqb-true r.pass pass t))
  | inr f ↦ rw f refl
]
places_kept n pass (q ∷ rs) r apart = elim (cases_Bool (q.pass == pass)) [
  | inl t ↦ rw (t, places_kept (n + 1) pass rs r apart) refl
  | inr f ↦ rw (f, places_kept (n + 1) pass rs r apart) refl
]

-- ---- one more call keeps a history legal

legal_push : (h : History) (some others : List Record) (n : ℕ) (m : List Range) (rs : List Record) (r : Record) → AreLegalFrom (with_records h some) n m rs
    → IsAnswered h.kind (limits_after (with_records h others) (n + length rs)) (fold (map_after h.kind) m rs) r → AreLegalFrom (with_records h others) n m (rs ++ r ∷ [])
legal_push h some others n m [] r legal said = let e : n + 0 ≡ n = omega arith in (rw e at said, tt)
legal_push h some others n m (q ∷ rs) r legal said =
    let e : n + suc (length rs) ≡ n + 1 + length rs = omega arith in
    (legal.0, legal_push h some others (n + 1) (map_after h.kind m q) rs r legal.1 (rw e at said))

pub next_is_legal : (h : History) (r : Record) (after : List Range) → IsLegal h → IsNext h r after → IsLegal (with_call h r)
next_is_legal h r after legal next =
    let e : 0 + length h.records ≡ length h.records = omega arith in
    legal_push h h.records (h.records ++ r ∷ []) 0 h.opening h.records r legal (rw e next.answered)

-- ---- what a pass has done

pub informed_learns : (h : History) (r : Record) (i : ℕ) → r.pass ≢ i → Learns (informed h.records i) (informed (with_call h r).records i)
informed_learns h r i apart = record {
  grows = record {
    number = refl;
    seen = (r ∷ [], refl);
    mine = places_kept 1 i h.records r apart;
    opened = ([], refl);
    begun = omega arith;
    ended = omega (arith, length-append h.records (r ∷ []));
  };
  opened = refl;
}

pub informed_saw : (h : History) (r : Record) (after : List Range) (i : ℕ) → r.pass ≢ i → IsLegal h → IsNext h r after → Saw h (informed h.records i) (informed (with_call h r).records i)
informed_saw h r after i apart legal next = record {
  seen = (r ∷ [], refl);
  pass = rw (places_kept 1 i h.records r apart) refl;
  begun = omega arith;
  ended = omega (arith, length-append h.records (r ∷ []));
  sound = record { own = refl; legal = next_is_legal h r after legal next };
}

nobody_else : (by : Option Holder) (pass : ℕ) → by ≡ None → IfSome by (λ holder. holder.pass ≢ pass)
nobody_else None pass none = tt
nobody_else (Some holder) pass none = cc

pub informed_wrote : (h : History) (pass : ℕ) (call : Call) (reply : Reply) (after : List Range) → IsLegal h → IsNext h (record { pass = pass; call = call; reply = reply }) after
    → Wrote h (informed h.records pass) (length h.records + 1) call reply (informed (with_call h (record { pass = pass; call = call; reply = reply })).records pass)
informed_wrote h pass call reply after legal next =
    let r : Record = record { pass = pass; call = call; reply = reply } in
    let n : ℕ = length h.records in
    let none : h.records ++ [] ≡ h.records = append-nil h.records in
    let long : length (h.records ++ r ∷ []) ≡ n + 1 = omega (arith, length-append h.records (r ∷ [])) in
    let at : 1 + n ≡ n + 1 = omega arith in
    let mine : places_from 1 pass (h.records ++ r ∷ []) ≡ places_from 1 pass h.records ++ (n + 1) ∷ [] = places_push 1 pass h.records r refl ∙ ap (λ k. places_from 1 pass h.records ++ k ∷ []) at in
    record {
      others = [];
      pass = rw (none, mine, long) refl;
      last = rw none refl;
      begun = omega arith;
      ended = omega arith;
      sound = record { own = refl; legal = next_is_legal h r after legal next };
      by = λ closed. nobody_else (holder_of reply) pass next.unheld;
    }

pub informed_reads : (h : History) (i : ℕ) (query : Query) → IsLegal h → Read h (informed h.records i) (length h.records) (length h.records) (length h.records) query (answer (last_map h) query) (informed h.records i)
informed_reads h i query legal =
    let n : ℕ = length h.records in
    let whole : take n h.records ≡ h.records = take_all n h.records (omega arith) in
    record {
      grows = record { number = refl; seen = begins_none h.records; mine = refl; opened = ([], refl); begun = omega arith; ended = omega arith };
      true = record { from = omega arith; to = omega arith; made = omega arith; answered = ap (λ (z : List Record). answer (last_map (with_records h z)) query) (sym whole) };
      from = omega arith;
      floor = omega arith;
      before = omega arith;
      lo_known = omega arith;
      hi_known = omega arith;
      sound = record { own = refl; legal = legal };
    }

-- ---- all passes

named_by_none : (passes : List Pass) (by : Option Holder) → by ≡ None → IfSome by (λ holder. (q : Pass) × (slice_get passes holder.pass ≡ Some q) × Contains q.opened holder.epoch)
named_by_none passes None none = tt
named_by_none passes (Some holder) none = cc

-- of passes that have opened no section none is named
unnamed : (records : List Record) (passes : ℕ) (by : Option Holder) → IfSome by (λ holder. (q : Pass) × (slice_get (map (informed records) (range_with_len 0 passes)) holder.pass ≡ Some q) × Contains q.opened holder.epoch) → by ≡ None
unnamed records passes None named = refl
unnamed records passes (Some holder) (q, is, has) =
    let none : Contains [] holder.epoch = subst (λ (z : Pass). Contains z.opened holder.epoch) (numbered_at (informed records) passes holder.pass q is) has in
    absurd (omega (arith, none.1))

-- where each call was made by one of these passes, and was told of no section, they are settled
pub informed_are_settled : (passes : ℕ) (h : History) → All (λ (r : Record). r.pass < passes) h.records → All (λ (r : Record). holder_of r.reply ≡ None) h.records → IsLegal h → IsSettled h (known_to_all passes h).passes
informed_are_settled passes h theirs unheld legal = record {
  numbered = λ i q is. ap (λ (z : Pass). z.number) (numbered_at (informed h.records) passes i q is);
  seen = of_numbered (λ (q : Pass). q.seen ≡ h.records) (informed h.records) passes (λ i. refl);
  own = of_numbered (λ (q : Pass). q.mine ≡ places q.number h.records) (informed h.records) passes (λ i. refl);
  theirs = λ k d l. omega (arith, theirs k d l, length-map-range_with_len (informed h.records) 0 passes);
  begun = of_numbered (λ (q : Pass). q.begun ≤ length h.records) (informed h.records) passes (λ i. omega arith);
  ended = of_numbered (λ (q : Pass). q.ended ≡ length h.records) (informed h.records) passes (λ i. refl);
  by = λ k d l. named_by_none (known_to_all passes h).passes (holder_of (get_or h.records k d).reply) (unheld k d l);
  legal = legal;
}

pub settled_next : (passes : ℕ) (h : History) (r : Record) (after : List Range) → r.pass < passes → IsSettled h (known_to_all passes h).passes → IsNext h r after → IsSettled (with_call h r) (known_to_all passes (with_call h r)).passes
settled_next passes h r after among settled next =
    let long : length (known_to_all passes h).passes ≡ passes = length-map-range_with_len (informed h.records) 0 passes in
    informed_are_settled passes (with_call h r)
    (All-push (λ (r : Record). r.pass < passes) h.records r (λ k d l. omega (arith, long, settled.theirs k d l)) among)
    (All-push (λ (r : Record). holder_of r.reply ≡ None) h.records r (λ k d l. unnamed h.records passes (holder_of (get_or h.records k d).reply) (settled.by k d l)) next.unheld)
    (next_is_legal h r after settled.legal next)
