-- The calls of a tree stand in its history, each once, in the order of their numbers.
use Rattle.mt_linearize.proofs.Prelude.{◌≡◌, ◌≢◌, ℕ, suc, ◌+◌, ◌-◌, ◌<◌, ◌==◌, List, [], ◌∷◌, ◌++◌, Option, Some, None, length, map, get_or, slice_get, arith, refl, sym, ap, ◌∙◌, subst, append_assoc, length-append, inl, inr, if◌then◌else◌, AllByRecursion, filter_map, flat_map, cons_option, enumerate_from, range_with_len, IsPermutation, cases_Bool, eqb-true, eq-eqb, ne_eqb, append-nil, get_or_at, filter_map-append, IsPermutation-refl, IsPermutation-cons, IsPermutation-trans, IsPermutation-map, length_permutation, length-range_with_len, slice_get_within, Clear, Record, History, Pass, IsSettled, flat_same, one_more, each_once, Outcome, Called, Looked, Counted, Step, record_in, numbered_on, Does, Leads, by_lane_on, outcomes_of, Tracked, IsPhaseOn, IsRecordAt, StandsInHistory, On, OwnCalls, Tracks, call_number, numbers_of}
use Rattle.mt_base.specs.declared.replies.Reply.TheVariants as replies
use Rattle.mt_linearize.proofs.LanePasses.{Lane, lane_in}
use Rattle.mt_linearize.proofs.Lists.{same_some}

-- ---- a pass's own calls are those of its lane

does_number : (tree : History) (p : Pass) (o : Outcome) (q : Pass) → Does tree p o q → q.mine ≡ p.mine ++ numbers_of (o ∷ [])
does_number tree p (Called number call reply) q (closed, d) = ap (λ (z : Pass). z.mine) d.pass
does_number tree p (Looked lo hi k query value) q d = d.grows.mine ∙ sym (append-nil p.mine)
does_number tree p (Counted said ranges) q d = d.grows.mine ∙ sym (append-nil p.mine)

pub leads_number : (tree : History) (p : Pass) (os : List Outcome) (q : Pass) → Leads tree p os q → q.mine ≡ p.mine ++ numbers_of os
leads_number tree p [] q l = l.grows.mine ∙ sym (append-nil p.mine)
leads_number tree p (o ∷ os) q (m, n, learns, does, leads) =
    leads_number tree n os q leads ∙ (ap (λ z. z ++ numbers_of os) (does_number tree m o n does ∙ ap (λ z. z ++ numbers_of (o ∷ [])) learns.grows.mine)
    ∙ (append_assoc p.mine (numbers_of (o ∷ [])) (numbers_of os) ∙ ap (λ z. p.mine ++ z) (sym (filter_map-append call_number (o ∷ []) os))))

-- a phase adds the calls of its steps
pub phase_numbers : (number : ℕ) (earlier steps : List Step) (b a : Tracked) → IsSettled b.history b.passes → OwnCalls number earlier b.passes → IsPhaseOn number steps b a → OwnCalls number (earlier ++ steps) a.passes
phase_numbers number earlier steps b a start own ph lane q is =
    let x : Lane number steps b a lane = lane_in number steps b a lane start ph (omega (arith, ph.count, slice_get_within a.passes lane q is)) in
    let same : x.q ≡ q = same_some x.q q (sym x.is ∙ is) in
    let old : List Outcome = outcomes_of number lane earlier in
    let new : List Outcome = outcomes_of number lane steps in
    ap (λ (z : Pass). z.mine) (sym same) ∙ (leads_number b.history x.p new x.q x.leads
    ∙ (ap (λ z. z ++ numbers_of new) (own lane x.p x.was)
    ∙ (sym (filter_map-append call_number old new) ∙ ap numbers_of (sym (filter_map-append (by_lane_on number lane) earlier steps)))))

-- ---- all lanes' calls on a tree are the tree's calls

abbrev pub number_on : ℕ → Step → Option ℕ
number_on tree s = if s.tree == tree then call_number s.outcome else None

abbrev pub numbers_on : ℕ → List Step → List ℕ
numbers_on tree steps = filter_map (number_on tree) steps

abbrev mine_of : ℕ → List Step → ℕ → List ℕ
mine_of tree steps lane = numbers_of (outcomes_of tree lane steps)

other_lane : (tree lane : ℕ) (s : Step) (steps : List Step) → lane ≢ s.lane → mine_of tree (s ∷ steps) lane ≡ mine_of tree steps lane
other_lane tree lane s steps apart = elim (cases_Bool (s.tree == tree)) [
  | inl t ↦ rw (t, ne_eqb s.lane lane (λ same. apart (sym same))) refl
  | inr f ↦ rw f refl
]

-- where the first step is no call on the tree nothing changes
no_call : (tree lane : ℕ) (s : Step) (steps : List Step) → number_on tree s ≡ None → mine_of tree (s ∷ steps) lane ≡ mine_of tree steps lane
no_call tree lane s steps none = elim (cases_Bool (s.tree == tree)) [
  | inl t ↦ elim (cases_Bool (s.lane == lane)) [
    | inl l ↦ let e : call_number s.outcome ≡ None = rw t at none in rw (t, l, e) refl
    | inr f ↦ rw (t, f) refl
  ]
  | inr f ↦ rw f refl
]

a_call : (tree number : ℕ) (s : Step) (steps : List Step) → number_on tree s ≡ Some number → mine_of tree (s ∷ steps) s.lane ≡ number ∷ mine_of tree steps s.lane
a_call tree number s steps some = elim (cases_Bool (s.tree == tree)) [
  | inl t ↦ let e : call_number s.outcome ≡ Some number = rw t at some in rw (t, eq-eqb s.lane s.lane refl, e) refl
  | inr f ↦ let h : None ≡ Some number = rw f at some in cc
]

no_steps : (tree : ℕ) (lanes : List ℕ) → flat_map (λ (l : ℕ). mine_of tree [] l) lanes ≡ []
no_steps tree [] = refl
no_steps tree (l ∷ lanes) = no_steps tree lanes

mines_more : (passes tree : ℕ) (s : Step) (steps : List Step) (o : Option ℕ) → number_on tree s ≡ o → s.lane < passes → IsPermutation (flat_map (mine_of tree steps) (range_with_len 0 passes)) (numbers_on tree steps) → IsPermutation (flat_map (mine_of tree (s ∷ steps)) (range_with_len 0 passes)) (numbers_on tree (s ∷ steps))
mines_more passes tree s steps None e within rest = rw (e, flat_same (mine_of tree steps) (mine_of tree (s ∷ steps)) 0 passes (λ l h. no_call tree l s steps e)) rest
mines_more passes tree s steps (Some number) e within rest =
    let more : IsPermutation (flat_map (mine_of tree (s ∷ steps)) (range_with_len 0 passes)) (number ∷ flat_map (mine_of tree steps) (range_with_len 0 passes)) = one_more number s.lane (mine_of tree steps) (mine_of tree (s ∷ steps)) 0 passes (omega arith) (omega arith) (λ l apart. other_lane tree l s steps apart) (a_call tree number s steps e) in
    rw e (IsPermutation-trans (flat_map (mine_of tree (s ∷ steps)) (range_with_len 0 passes)) (number ∷ flat_map (mine_of tree steps) (range_with_len 0 passes)) (number ∷ numbers_on tree steps) more (IsPermutation-cons number (flat_map (mine_of tree steps) (range_with_len 0 passes)) (numbers_on tree steps) rest))

mines_are_numbers : (passes tree : ℕ) (steps : List Step) → AllByRecursion (λ (s : Step). s.lane < passes) steps → IsPermutation (flat_map (mine_of tree steps) (range_with_len 0 passes)) (numbers_on tree steps)
mines_are_numbers passes tree [] within = rw (no_steps tree (range_with_len 0 passes)) (IsPermutation-refl [])
mines_are_numbers passes tree (s ∷ steps) within = mines_more passes tree s steps (number_on tree s) refl within.0 (mines_are_numbers passes tree steps within.1)

lists_are_mines : (f : ℕ → List ℕ) (b : ℕ) (passes : List Pass) → ((i : ℕ) (q : Pass) → slice_get passes i ≡ Some q → q.mine ≡ f (b + i)) → flat_map (λ (q : Pass). q.mine) passes ≡ flat_map f (range_with_len b (length passes))
lists_are_mines f b [] own = refl
lists_are_mines f b (q ∷ passes) own =
    let at : b + 0 ≡ b = omega arith in
    let mine : q.mine ≡ f b = own 0 q refl ∙ ap f at in
    rw (mine, lists_are_mines f (b + 1) passes (λ i p is. let e : b + suc i ≡ b + 1 + i = omega arith in own (suc i) p is ∙ ap f e)) refl

-- the numbers of a tree's calls are those of its history
pub numbers_once : (passes number : ℕ) (steps : List Step) (t : Tracked) → AllByRecursion (λ (s : Step). s.lane < passes) steps → Tracks passes number steps t → IsPermutation (range_with_len 1 (length t.history.records)) (numbers_on number steps)
numbers_once passes number steps t within k =
    let own : (i : ℕ) (q : Pass) → slice_get t.passes i ≡ Some q → q.mine ≡ mine_of number steps (0 + i) = λ i q is. let e : i ≡ 0 + i = omega arith in k.own i q is ∙ ap (mine_of number steps) e in
    let same : flat_map (λ (q : Pass). q.mine) t.passes ≡ flat_map (mine_of number steps) (range_with_len 0 passes) = lists_are_mines (mine_of number steps) 0 t.passes own ∙ ap (λ n. flat_map (mine_of number steps) (range_with_len 0 n)) k.count in
    IsPermutation-trans (range_with_len 1 (length t.history.records)) (flat_map (mine_of number steps) (range_with_len 0 passes)) (numbers_on number steps)
    (subst (λ (z : List ℕ). IsPermutation (range_with_len 1 (length t.history.records)) z) same (each_once t.history t.passes k.settled))
    (mines_are_numbers passes number steps within)

pub numbers_long : (passes number : ℕ) (steps : List Step) (t : Tracked) → AllByRecursion (λ (s : Step). s.lane < passes) steps → Tracks passes number steps t → length (numbers_on number steps) ≡ length t.history.records
numbers_long passes number steps t within k = length_permutation (range_with_len 1 (length t.history.records)) (numbers_on number steps) (numbers_once passes number steps t within k) ∙ length-range_with_len 1 (length t.history.records)

-- ---- a call's record stands at its number

abbrev nobody : Record
nobody = record { pass = 0; call = Clear; reply = replies.Ok }

abbrev numbered : List Record → ℕ → ℕ × Record
numbered records number = (number, get_or records (number - 1) nobody)

stands_at : (records : List Record) (number : ℕ) (r : Record) → IsRecordAt records number r → get_or records (number - 1) nobody ≡ r
stands_at records number r s = rw s.is (get_or_at s.front r s.rest nobody (number - 1) (omega (arith, s.at)))

enumerated : (front records : List Record) (n : ℕ) → length front + 1 ≡ n → enumerate_from n records ≡ map (numbered (front ++ records)) (range_with_len n (length records))
enumerated front [] n e = refl
enumerated front (r ∷ records) n e =
    let head : get_or (front ++ r ∷ records) (n - 1) nobody ≡ r = get_or_at front r records nobody (n - 1) (omega arith) in
    let tail : enumerate_from (n + 1) records ≡ map (numbered ((front ++ r ∷ []) ++ records)) (range_with_len (n + 1) (length records)) = enumerated (front ++ r ∷ []) records (n + 1) (omega (arith, length-append front (r ∷ []))) in
    rw (head, tail, append_assoc front (r ∷ []) records) refl

number_stands : (h : History) (lane : ℕ) (o : Outcome) (ns : List ℕ) (rs : List (ℕ × Record)) → StandsInHistory h lane o → map (numbered h.records) ns ≡ rs → map (numbered h.records) (cons_option (call_number o) ns) ≡ cons_option (record_in lane o) rs
number_stands h lane (Called number call reply) ns rs holds e = let r : Record = record { pass = lane; call = call; reply = reply } in rw (stands_at h.records number r holds, e) refl
number_stands h lane (Looked lo hi k query value) ns rs holds e = e
number_stands h lane (Counted said ranges) ns rs holds e = e

numbers_stand : (tree : ℕ) (h : History) (steps : List Step) → AllByRecursion (On tree (λ (s : Step). StandsInHistory h s.lane s.outcome)) steps → map (numbered h.records) (numbers_on tree steps) ≡ filter_map (numbered_on tree) steps
numbers_stand tree h [] holds = refl
numbers_stand tree h (s ∷ steps) holds = elim (cases_Bool (s.tree == tree)) [
  | inl t ↦ rw t (number_stands h s.lane s.outcome (numbers_on tree steps) (filter_map (numbered_on tree) steps) (holds.0 (eqb-true s.tree tree t)) (numbers_stand tree h steps holds.1))
  | inr f ↦ rw f (numbers_stand tree h steps holds.1)
]

-- so the calls themselves are its records
pub calls_stand_once : (passes number : ℕ) (steps : List Step) (t : Tracked) → AllByRecursion (λ (s : Step). s.lane < passes) steps → Tracks passes number steps t → IsPermutation (enumerate_from 1 t.history.records) (filter_map (numbered_on number) steps)
calls_stand_once passes number steps t within k =
    let records : List Record = t.history.records in
    let first : enumerate_from 1 records ≡ map (numbered records) (range_with_len 1 (length records)) = enumerated [] records 1 refl in
    let last : map (numbered records) (numbers_on number steps) ≡ filter_map (numbered_on number) steps = numbers_stand number t.history steps k.holds in
    rw (first, ← last) (IsPermutation-map (numbered records) (range_with_len 1 (length records)) (numbers_on number steps) (numbers_once passes number steps t within k))
