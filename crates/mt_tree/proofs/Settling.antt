-- All passes see the whole history, one after another.
use Rattle.mt_tree.proofs.Prelude.{◌≡◌, ◌≢◌, ℕ, zero, suc, ◌+◌, ◌<◌, ◌≤◌, List, [], ◌∷◌, Option, Some, None, length, map, set, get_or, refl, sym, ap, ◌∙◌, subst, ⊎_elim, arith, length-set, All, slice_get, IfSome, Contains, length-map, All-from_recursion, slice_get-map, slice_get-get_or, slice_get_within, Holder, Record, History, IsLegal, Saw, Settled, IsSettled, NamesReader, places, with_records, holder_of, new_pass, all_map, Pass, PenPart, Shape, IsOneHistory, pen_joined, record_of, records_of, pass_in, shown_with, Tree, Behind, after_show, Shown, AreShown, HaveMet, opened, passes_of, seen_by, IsPassOf, AreAll}
use Rattle.mt_base.specs.Passes as known
use Rattle.mt_tree.proofs.Lists.{some_same, get_set, from_map}

-- the passes below n have seen the history, and what the others know is as before
pub record Seeing (t : Tree) (pen : PenPart) (n : ℕ) (ps qs : List Pass) : Type 0 where
  pub count : length qs ≡ length ps
  pub of : (i : ℕ) (q : Pass) → slice_get qs i ≡ Some q → IsPassOf t q
  pub done : (i : ℕ) (p q : Pass) → slice_get ps i ≡ Some p → slice_get qs i ≡ Some q → i < n → Shown t pen (pass_in p) (pass_in q)
  pub left : (i : ℕ) (p q : Pass) → slice_get ps i ≡ Some p → slice_get qs i ≡ Some q → n ≤ i → pass_in q ≡ pass_in p

pub pass_at : (t : Tree) (pen : PenPart) (n : ℕ) (ps qs : List Pass) (d : Pass) → Seeing t pen n ps qs → n < length qs → IsPassOf t (get_or qs n d)
pass_at t pen n ps qs d s low = s.of n (get_or qs n d) (slice_get-get_or qs n d low)

of_all : (t : Tree) (ps : List Pass) (i : ℕ) (p : Pass) → All (IsPassOf t) ps → slice_get ps i ≡ Some p → IsPassOf t p
of_all t ps i p of is =
    let low = slice_get_within ps i p is in
    subst (IsPassOf t) (some_same (get_or ps i p) p (sym (slice_get-get_or ps i p low) ∙ is)) (of i p low)

pub none_yet : (t : Tree) (pen : PenPart) (ps : List Pass) → All (IsPassOf t) ps → Seeing t pen 0 ps ps
none_yet t pen ps of = record {
  count = refl;
  of = λ i q is. of_all t ps i q of is;
  done = λ i p q is is' low. absurd (omega arith);
  left = λ i p q is is' low. ap pass_in (some_same q p (sym is' ∙ is));
}

pub one_more : (t : Tree) (pen : PenPart) (n : ℕ) (ps qs : List Pass) (d x : Pass) → Seeing t pen n ps qs → n < length qs → IsPassOf t x → Shown t pen (pass_in (get_or qs n d)) (pass_in x) → Seeing t pen (n + 1) ps (set qs n x)
one_more t pen n ps qs d x s low of shown =
    let here = slice_get-get_or qs n d low in
    record {
      count = length-set qs n x ∙ s.count;
      of = λ i q is. ⊎_elim
          (λ (y : (i ≡ n) × (x ≡ q)). subst (IsPassOf t) y.1 of)
          (λ (y : (i ≢ n) × (slice_get qs i ≡ Some q)). s.of i q y.1)
          (get_set qs n i x q is);
      done = λ i p q is is' below. ⊎_elim
          (λ (y : (i ≡ n) × (x ≡ q)).
          let was : pass_in (get_or qs n d) ≡ pass_in p = s.left n p (get_or qs n d) (subst (λ (k : ℕ). slice_get ps k ≡ Some p) y.0 is) here (omega arith) in
          subst (λ (z : known.Pass × known.Pass). Shown t pen z.0 z.1) (λ k. (was k, pass_in (y.1 k))) shown)
          (λ (y : (i ≢ n) × (slice_get qs i ≡ Some q)). let apart = y.0 in s.done i p q is y.1 (omega (arith, apart)))
          (get_set qs n i x q is');
      left = λ i p q is is' above. ⊎_elim
          (λ (y : (i ≡ n) × (x ≡ q)). let same = y.0 in absurd (omega (arith, same)))
          (λ (y : (i ≢ n) × (slice_get qs i ≡ Some q)). s.left i p q is y.1 (omega arith))
          (get_set qs n i x q is');
    }

-- a pen that was shown since is told of no section words, and what it has shown is the same
pub shown_since : (t : Tree) (a b : Behind) (p q : known.Pass) → after_show a ≡ after_show b → Shown t a.pen p q → Shown t b.pen p q
shown_since t a b p q same shown =
    let there : Shown t (after_show b).pen p q = subst (λ (x : Behind). Shown t x.pen p q) same (shown_with (opened t) a.pen p q [] shown.0, shown.1) in
    (shown_with (opened t) (pen_joined b.pen) p q b.pen.sections there.0, there.1)

-- ---- all have seen it

pub still_of : (t : Tree) (pen : PenPart) (n : ℕ) (ps qs : List Pass) → Seeing t pen n ps qs → All (IsPassOf t) qs
still_of t pen n ps qs s = λ i d low. s.of i (get_or qs i d) (slice_get-get_or qs i d low)

pub all_shown : (t : Tree) (pen : PenPart) (n : ℕ) (ps qs : List Pass) → Seeing t pen n ps qs → length qs ≤ n → AreShown t pen ps qs
all_shown t pen n ps qs s whole = record { count = s.count; each = λ i p q is is'. let low = slice_get_within qs i q is' in s.done i p q is is' (omega (arith, low, whole)) }

-- the pass at this place, before and after
before : (t : Tree) (pen : PenPart) (ps qs : List Pass) (i : ℕ) (q : Pass) → AreShown t pen ps qs → slice_get qs i ≡ Some q → (p : Pass) × (slice_get ps i ≡ Some p) × Shown t pen (pass_in p) (pass_in q)
before t pen ps qs i q s is =
    let low = slice_get_within qs i q is in
    let count = s.count in
    let here : slice_get ps i ≡ Some (get_or ps i q) = slice_get-get_or ps i q (omega (arith, low, count)) in
    (get_or ps i q, here, s.each i (get_or ps i q) q here is)

same_number : (t : Tree) (pen : PenPart) (p q : known.Pass) → Shown t pen p q → q.number ≡ p.number
same_number t pen p q shown = ap (λ (x : known.Pass). x.number) shown.0.saw.pass

pub still_all : (t : Tree) (pen : PenPart) (ps qs : List Pass) → AreAll t ps → All (IsPassOf t) qs → AreShown t pen ps qs → AreAll t qs
still_all t pen ps qs all of s = record {
  count = s.count ∙ all.count;
  of = of;
  numbered = λ i q is. let b = before t pen ps qs i q s is in same_number t pen (pass_in b.0) (pass_in q) b.2 ∙ all.numbered i b.0 b.1;
}

-- the second is the first one when it has seen the whole history
abbrev Met : Tree → Behind → known.Pass × known.Pass → Type 0
Met t a z = Saw (opened t) z.0 z.1 × (z.1.seen ≡ records_of a.pen.history)

-- a pass that was shown the history, and others that the same pen has shown it since, have met
pub have_met : (t : Tree) (a b : Behind) (p q : Pass) (ps qs : List Pass) (calls : ℕ) → b ≡ after_show a → calls ≡ length a.pen.history → Shown t a.pen (pass_in p) (pass_in q) → AreShown t b.pen ps qs
    → HaveMet t (map pass_in (p ∷ ps)) (map pass_in (q ∷ qs)) calls
have_met t a b p q ps qs calls joined count own s = record {
  count = ap suc (length-map qs pass_in ∙ (s.count ∙ sym (length-map ps pass_in)));
  history = records_of a.pen.history;
  all = length-map a.pen.history record_of ∙ sym count;
  callers = All-from_recursion (λ (r : Record). r.pass < passes_of t) (records_of a.pen.history) (all_map (λ (r : Record). r.pass < a.pen.dealt) (λ (r : Record). r.pass < passes_of t) of_tree (records_of a.pen.history) own.0.sound.history.callers);
  each = each;
}
  where
    of_tree : (r : Record) → r.pass < a.pen.dealt → r.pass < passes_of t
    of_tree r low = let few = own.0.sound.history.dealt in let many = ap (λ (x : Shape). x.passes) own.1 in omega (arith, low, few, many)

    each : (i : ℕ) (x y : known.Pass) → slice_get (map pass_in (p ∷ ps)) i ≡ Some x → slice_get (map pass_in (q ∷ qs)) i ≡ Some y → Met t a (x, y)
    each zero x y is is' = subst (Met t a) (λ k. (some_same (pass_in p) x is k, some_same (pass_in q) y is' k)) (own.0.saw, own.0.all)
    each (suc i) x y is is' =
        let from = from_map pass_in (slice_get ps i) x (sym (slice_get-map pass_in ps i) ∙ is) in
        let to = from_map pass_in (slice_get qs i) y (sym (slice_get-map pass_in qs i) ∙ is') in
        let shown = s.each i from.0 to.0 from.1.0 to.1.0 in
        subst (Met t a) (λ k. (from.1.1 k, to.1.1 k)) (shown.0.saw, shown.0.all ∙ ap (λ (z : Behind). records_of z.pen.history) joined)

each_all : {A : Type 0} (P : A → Type 0) (xs : List A) → ((i : ℕ) (x : A) → slice_get xs i ≡ Some x → P x) → All P xs
each_all P xs each = λ i d low. each i (get_or xs i d) (slice_get-get_or xs i d low)

module _ (t : Tree) (pen : PenPart) (ps qs : List Pass) (every : AreAll t ps) (s : AreShown t pen ps qs) where
  abbrev history : History
  history = with_records (opened t) (records_of pen.history)

  record Was (i : ℕ) (q : known.Pass) : Type 0 where
    pub number : q.number ≡ i
    pub before : known.Pass
    pub shown : Shown t pen before q

  was : (i : ℕ) (q : known.Pass) → slice_get (map pass_in qs) i ≡ Some q → Was i q
  was i q is =
      let from = from_map pass_in (slice_get qs i) q (sym (slice_get-map pass_in qs i) ∙ is) in
      let b = before t pen ps qs i from.0 s from.1.0 in
      subst (Was i) from.1.1 (record { number = same_number t pen (pass_in b.0) (pass_in from.0) b.2 ∙ every.numbered i b.0 b.1; before = pass_in b.0; shown = b.2 })

  saw_whole : (p q : known.Pass) → Saw (opened t) p q → Saw history p q
  saw_whole p q saw = record { seen = saw.seen; pass = saw.pass; begun = saw.begun; ended = saw.ended; sound = record { own = saw.sound.own; legal = saw.sound.legal } }

  -- each section that was found open is one that its pass opened
  opener : (one : IsOneHistory pen) → pen.shape.passes ≡ length qs → (h : Holder) → Contains pen.loaded h → (q : known.Pass) × (slice_get (map pass_in qs) h.pass ≡ Some q) × Contains q.opened h.epoch
  opener one many h loaded =
      let low : h.pass < length (map pass_in qs) = (let l = one.loaded h loaded in let d = one.dealt in omega (arith, l, d, many, length-map qs pass_in)) in
      let q = get_or (map pass_in qs) h.pass (new_pass 0) in
      let here : slice_get (map pass_in qs) h.pass ≡ Some q = slice_get-get_or (map pass_in qs) h.pass (new_pass 0) low in
      let w = was h.pass q here in
      (q, here, w.shown.0.opened h loaded (sym w.number))

  named : (one : IsOneHistory pen) → pen.shape.passes ≡ length qs → (r : Record) → IfSome (holder_of r.reply) (Contains pen.loaded) → NamesReader (map pass_in qs) r.reply
  named one many r is = by (holder_of r.reply) is
    where
      by : (o : Option Holder) → IfSome o (Contains pen.loaded) → IfSome o (λ holder. (q : known.Pass) × (slice_get (map pass_in qs) holder.pass ≡ Some q) × Contains q.opened holder.epoch)
      by None is = tt
      by (Some h) is = opener one many h is

  each_saw : (i : ℕ) (p q : known.Pass) → slice_get (map pass_in ps) i ≡ Some p → slice_get (map pass_in qs) i ≡ Some q → Saw history p q
  each_saw i p q is is' =
      let from = from_map pass_in (slice_get ps i) p (sym (slice_get-map pass_in ps i) ∙ is) in
      let to = from_map pass_in (slice_get qs i) q (sym (slice_get-map pass_in qs i) ∙ is') in
      subst (λ (z : known.Pass × known.Pass). Saw history z.0 z.1) (λ k. (from.1.1 k, to.1.1 k)) (saw_whole (pass_in from.0) (pass_in to.0) (s.each i from.0 to.0 from.1.0 to.1.0).0.saw)

  module _ (one : IsOneHistory pen) (many : pen.shape.passes ≡ length qs) (legal : IsLegal history) where
    all_settled : IsSettled history (map pass_in qs)
    all_settled = record {
      numbered = λ i q is. (was i q is).number;
      seen = each_all (λ q. q.seen ≡ history.records) (map pass_in qs) (λ i q is. (was i q is).shown.0.all);
      own = each_all (λ q. q.mine ≡ places q.number history.records) (map pass_in qs) (λ i q is. let w = was i q is in w.shown.0.saw.sound.own ∙ ap (places q.number) w.shown.0.all);
      theirs = All-from_recursion (λ (r : Record). r.pass < length (map pass_in qs)) history.records (all_map (λ (r : Record). r.pass < pen.dealt) (λ (r : Record). r.pass < length (map pass_in qs)) (λ r low. let d = one.dealt in omega (arith, many, d, length-map qs pass_in)) history.records one.callers);
      begun = each_all (λ q. q.begun ≤ length history.records) (map pass_in qs) (λ i q is. let w = was i q is in
          let saw = w.shown.0.saw in omega (arith, saw.begun, ap (λ (x : known.Pass). x.begun) saw.pass, ap length w.shown.0.all));
      ended = each_all (λ q. q.ended ≡ length history.records) (map pass_in qs) (λ i q is. let w = was i q is in
          ap (λ (x : known.Pass). x.ended) w.shown.0.saw.pass ∙ ap length w.shown.0.all);
      by = All-from_recursion (λ (r : Record). NamesReader (map pass_in qs) r.reply) history.records (all_map (λ (r : Record). IfSome (holder_of r.reply) (Contains pen.loaded)) (λ (r : Record). NamesReader (map pass_in qs) r.reply) (named one many) history.records one.named);
      legal = legal;
    }

    all_of : Settled history (map pass_in ps) (map pass_in qs)
    all_of = record { count = length-map qs pass_in ∙ (s.count ∙ sym (length-map ps pass_in)); each = each_saw; settled = all_settled }

pub settled : (t : Tree) (pen : PenPart) (ps qs : List Pass) → AreAll t ps → AreShown t pen ps qs → 1 ≤ passes_of t → Settled (seen_by t (map pass_in qs)) (map pass_in ps) (map pass_in qs)
settled t pen ps [] all s some = let a = all.count in let b = s.count in absurd (omega (arith, a, b, some))
settled t pen ps (q ∷ qs) all s some =
    let w = was t pen ps (q ∷ qs) all s 0 (pass_in q) refl in
    let one = w.shown.0.sound.history in
    let many : pen.shape.passes ≡ length (q ∷ qs) = ap (λ (x : Shape). x.passes) w.shown.1 ∙ (sym all.count ∙ sym s.count) in
    let seen : (pass_in q).seen ≡ records_of pen.history = w.shown.0.all in
    let legal : IsLegal (with_records (opened t) (records_of pen.history)) = subst (λ (rs : List Record). IsLegal (with_records (opened t) rs)) seen w.shown.0.saw.sound.legal in
    subst (λ (rs : List Record). Settled (with_records (opened t) rs) (map pass_in ps) (map pass_in (q ∷ qs))) (sym seen) (all_of t pen ps (q ∷ qs) all s one many legal)
