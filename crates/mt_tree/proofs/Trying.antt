-- A pass that has gone for the lock is one of its tree's, and knows what it knew.
use Rattle.mt_tree.proofs.Prelude.{◌≡◌, ℕ, zero, suc, ◌≤◌, ◌<◌, List, [], ◌∷◌, Some, Result, Ok, Err, IfOk, IfErr, length, map, set, get_or, refl, sym, ap, ◌∙◌, subst, arith, slice_get, Call, Pass, pass_in, steps_made, turn_seat, IsSeatedAt, tried, Done, Worn, Tree, Behind, after_show, opened, limit_of, AreAll, IsPassOf, IsWorn, NamesPass, Rests, TriesOnce, WasAnsweredBy, WasMade, first_tried, Look, WasFound}
use Rattle.mt_base.specs.Passes as known
use Rattle.mt_tree.proofs.Lists.{some_same}

abbrev IsSeated : Tree → Pass → Type 0
IsSeated t p = IsSeatedAt t.turn.table.shared.table_id t.turn.table.shared.key p

still_tried : (t : Tree) (p : Pass) → IsSeated t (tried p) → IsPassOf t p → IsPassOf t (tried p)
still_tried t p seated of = record { of = record { here = of.of.here; of = of.of.of }; seated = seated }

pub tried_of : (t : Tree) (p q : Pass) → q ≡ tried p → IsSeated t q → IsPassOf t p → IsPassOf t q
tried_of t p q is seated of = subst (IsPassOf t) (sym is) (still_tried t p (subst (IsSeated t) is seated) of)

pub tried_knows : (p q : Pass) → q ≡ tried p → pass_in q ≡ pass_in p
tried_knows p q is = ap pass_in is

-- it has gone for the lock once, and rested then
pub tries_once : (p q r : Pass) → TriesOnce p q → Rests q r → TriesOnce p r
tries_once p q r tries rests = record { steps = rests.steps ∙ tries.steps; turn = rests.turn ∙ tries.turn }

pub tried_once : (p q : Pass) → q ≡ tried p → TriesOnce p q
tried_once p q is = record { steps = ap steps_made is; turn = ap turn_seat is }

-- the call that was made
pub was_made : (t : Tree) (p q r : known.Pass) (call : Call) (made : Result Done Worn) (b b' : Behind) → q ≡ p
    → IfOk made (λ d. known.Wrote (opened t) q d.call call d.reply r × (d.call ≤ limit_of t)) → IfOk made (λ d. NamesPass t d.reply) → IfOk made (λ d. WasAnsweredBy t r b b' call d)
    → IfErr made (λ w. IsWorn t q w r × (b' ≡ after_show b)) → WasMade t p call made r
was_made t p q r call made b b' is done named answered worn = subst (λ (x : known.Pass). WasMade t x call made r) is (by made done named answered worn)
  where
    by : (made : Result Done Worn) → IfOk made (λ d. known.Wrote (opened t) q d.call call d.reply r × (d.call ≤ limit_of t)) → IfOk made (λ d. NamesPass t d.reply) → IfOk made (λ d. WasAnsweredBy t r b b' call d)
        → IfErr made (λ w. IsWorn t q w r × (b' ≡ after_show b)) → WasMade t q call made r
    by (Ok d) done named answered worn = record { done = done; named = named; answered = (b, b', answered); worn = tt }
    by (Err w) done named answered worn = record { done = tt; named = tt; answered = tt; worn = worn.0 }

-- what was found under the lock
pub found_at : {A : Type 0} (is : Tree → known.Pass → A × Look → Type 0) (t : Tree) (p m q : Pass) (found : A × Look) → TriesOnce p m → pass_in m ≡ pass_in p → IsPassOf t q → known.Saw (opened t) (pass_in m) (pass_in q) → Rests m q → is t (pass_in q) found → WasFound is t p (Ok found) q
found_at is t p m q found tries knows of saw rests said =
    record { of = of; saw = subst (λ (x : known.Pass). known.Saw (opened t) x (pass_in q)) knows saw; said = said; busy = tt; kept = tt; tries = tries_once p m q tries rests }

-- ---- the first of some passes

first_set : (ps : List Pass) (d x : Pass) → 1 ≤ length ps → x ≡ tried (get_or ps 0 d) → set ps 0 x ≡ first_tried ps
first_set [] d x some is = absurd (omega arith)
first_set (p ∷ ps) d x some is = ap (λ (q : Pass). q ∷ ps) is

first_knows : (ps : List Pass) → map pass_in (first_tried ps) ≡ map pass_in ps
first_knows [] = refl
first_knows (p ∷ ps) = refl

first_all : (t : Tree) (ps : List Pass) (d : Pass) → IsSeated t (tried (get_or ps 0 d)) → AreAll t ps → AreAll t (first_tried ps)
first_all t [] d seated all = all
first_all t (p ∷ ps) d seated all = record {
  count = all.count;
  of = λ i q low. by i q low;
  numbered = λ i q is. numbered i q is;
}
  where
    by : (i : ℕ) (q : Pass) → i < length (p ∷ ps) → IsPassOf t (get_or (tried p ∷ ps) i q)
    by zero q low = still_tried t p seated (all.of 0 q low)
    by (suc i) q low = all.of (suc i) q low

    numbered : (i : ℕ) (q : Pass) → slice_get (tried p ∷ ps) i ≡ Some q → (pass_in q).number ≡ i
    numbered zero q is = ap (λ (x : Pass). (pass_in x).number) (sym (some_same (tried p) q is)) ∙ all.numbered 0 p refl
    numbered (suc i) q is = all.numbered (suc i) q is

-- a tree has a pass at the least
some_first : (t : Tree) (ps : List Pass) → AreAll t ps → 1 ≤ length ps
some_first t ps all = subst (λ (n : ℕ). 1 ≤ n) (t.passes ∙ sym all.count) t.some_pass

pub first_gone : (t : Tree) (ps : List Pass) (d x : Pass) → AreAll t ps → x ≡ tried (get_or ps 0 d) → set ps 0 x ≡ first_tried ps
first_gone t ps d x all is = first_set ps d x (some_first t ps all) is

pub all_gone : (t : Tree) (ps : List Pass) (d x : Pass) → AreAll t ps → x ≡ tried (get_or ps 0 d) → IsSeated t x → AreAll t (set ps 0 x)
all_gone t ps d x all is seated = subst (AreAll t) (sym (first_gone t ps d x all is)) (first_all t ps d (subst (IsSeated t) is seated) all)

pub known_gone : (t : Tree) (ps : List Pass) (d x : Pass) → AreAll t ps → x ≡ tried (get_or ps 0 d) → map pass_in (set ps 0 x) ≡ map pass_in ps
known_gone t ps d x all is = ap (map pass_in) (first_gone t ps d x all is) ∙ first_knows ps
