-- What a whole draw comes to, of one call or of two.
use Rattle.mt_ids.proofs.Prelude.{◌≡◌, ℕ, ◌+◌, ◌-◌, ◌<◌, ◌≤◌, ◌&&◌, not, Bool, true, false, List, Option, Some, None, Result, Ok, Err, IfOk, IfErr, IfSome, refl, sym, ap, ◌∙◌, subst, arith, if◌then◌else◌, unwrap_or, Alloc, Range, Reply, low, IsRefused, Allocation, Made, IsAfter, IsNextCall, IsSince, limits_at, AreMade, IsDrawn, calls_of, drawn, first_found, from_position, is_bad_draw, is_past, is_twofold, last_start, came_by, came_to, after_reply, after_answer, IsBeforeLast, IsLastAnswer, Draws}
use Rattle.mt_base.specs.declared.replies.Reply.TheVariants as reply
use Rattle.mt_ids.proofs.OneCall.{Answers, LacksNow, one_call, lies}

-- the tree had no more calls left
abbrev pub IsSpent : Allocation → ℕ → Allocation → Type 0
IsSpent s calls s' = (calls ≡ s.limit) × (s.calls ≡ s.limit) × (s' ≡ s)

-- ---- the last call of a draw

module _ (d : Draws) (s s' : Allocation) (entry from calls : ℕ) (last : Option Made) (wrapped : Bool)
    (found : (n : ℕ) → low s.kind s.map 1 from d.hi ≡ Some n → drawn s.kind s.map d ≡ Some (record { at = n; wrapped = wrapped })) where
  abbrev before : Allocation
  before = record s { calls = calls; last = last }

  -- so many calls are made of the draw: all but the last, which begins here
  abbrev pub IsLast : Type 0
  IsLast = (calls + 1 ≡ s.calls + calls_of s d entry) × (last_start s d entry ≡ from)

  are_made : (r : Reply) → IsLast → IsNextCall before (Alloc 1 from d.hi entry) r s' → AreMade d s entry r s'
  are_made r all called =
      let room = called.room in
      let count = ap (λ (x : Allocation). x.calls) called.after in
      let so_many = all.0 in
      record {
        room = omega arith;
        calls = omega arith;
        last = ap (λ (x : Allocation). x.last) called.after ∙ ap (λ (n : ℕ). Some (record { call = Alloc 1 n d.hi entry; reply = r })) (sym all.1);
      }

  abbrev Refused : ℕ → ℕ → Reply → Type 0
  Refused ended start r = IsRefused s.kind (limits_at s ended) s.map (Alloc 1 start d.hi entry) r

  by_reply : (r : Reply) → AreMade d s entry r s' → last_start s d entry ≡ from → s'.calls ≡ calls + 1 → (r ≡ reply.Busy → low s.kind s.map 1 from d.hi ≡ None → drawn s.kind s.map d ≡ None)
      → Answers s.kind s.map s'.map from d.hi entry (LacksNow before from d.hi entry) r → IsDrawn d s entry (came_by wrapped r) (after_reply d r) s'
  by_reply (reply.Start n) made start count none a = (made, a.0, found n a.1, a.2, refl)
  by_reply reply.Busy made start count none a = (made, a.0, none refl a.1, a.2, refl)
  by_reply reply.Invalid made start count none a = (made, a.0, a.1, refl)
  by_reply (reply.NoNodes shortage) made start count none a =
      let ended : s'.calls - 1 ≡ calls = omega arith in (
        record {
          made = made;
          refused = subst (λ (n : ℕ). Refused (s'.calls - 1) n (reply.NoNodes shortage)) (sym start) (subst (λ (n : ℕ). Refused n from (reply.NoNodes shortage)) (sym ended) a.0.0);
          unheld = a.0.1;
        },
        a.2,
        refl,
      )
  by_reply reply.Ok made start count none a = absurd a
  by_reply (reply.Over e) made start count none a = absurd a
  by_reply (reply.Was e) made start count none a = absurd a
  by_reply reply.None made start count none a = absurd a
  by_reply reply.Exists made start count none a = absurd a

  pub by_call : (r : Reply) → from ≤ d.hi → IsLast → (r ≡ reply.Busy → low s.kind s.map 1 from d.hi ≡ None → drawn s.kind s.map d ≡ None) → IsNextCall before (Alloc 1 from d.hi entry) r s' → IsDrawn d s entry (came_by wrapped r) (after_reply d r) s'
  by_call r order all none called =
      by_reply r (are_made r all called) all.1 (ap (λ (x : Allocation). x.calls) called.after) none (one_call before s' from d.hi entry r order called)

  pub by_spent : (n : ℕ) → s.calls ≤ calls → calls < s.calls + calls_of s d entry → IsSpent before n s' → IsDrawn d s entry (came_to wrapped (Err n)) d s'
  by_spent n some few spent =
      let full = spent.1 in
      let same = ap (λ (x : Allocation). x.calls) spent.2 in
      (record { limit = spent.0; some = omega arith; few = omega arith; all = omega arith }, ap (λ (x : Allocation). x.map) spent.2, refl)

-- ---- the first call of a draw, where it is the last

and_false : (b : Bool) → (b && false) ≡ false
and_false true = refl
and_false false = refl

past_none : (at found : Option ℕ) (n : ℕ) → found ≡ Some n → is_past at found ≡ false
past_none None found n is = refl
past_none (Some k) found n is = ap (is_past (Some k)) is

module _ (d : Draws) (s : Allocation) (entry from : ℕ) (at : d.at ≡ Some from) where
  sought : from_position s.kind s.map d.hi d.at ≡ low s.kind s.map 1 from d.hi
  sought = ap (from_position s.kind s.map d.hi) at

  -- a call that found an index, or was invalid, is the only one
  once_found : (n : ℕ) → low s.kind s.map 1 from d.hi ≡ Some n → is_twofold s.kind s.map d entry ≡ false
  once_found n is = ap (λ (b : Bool). b && not (is_bad_draw s.kind d.hi entry)) (past_none d.at (from_position s.kind s.map d.hi d.at) n (sought ∙ is))

  once_bad : is_bad_draw s.kind d.hi entry ≡ true → is_twofold s.kind s.map d entry ≡ false
  once_bad bad = ap (λ (b : Bool). is_past d.at (from_position s.kind s.map d.hi d.at) && not b) bad ∙ and_false (is_past d.at (from_position s.kind s.map d.hi d.at))

  once : (m' : List Range) (r : Reply) → (r ≡ reply.Busy → ⊥) → Answers s.kind s.map m' from d.hi entry (LacksNow s from d.hi entry) r → is_twofold s.kind s.map d entry ≡ false
  once m' (reply.Start n) other a = once_found n a.1
  once m' reply.Busy other a = absurd (other refl)
  once m' reply.Invalid other a = once_bad a.0
  once m' (reply.NoNodes shortage) other a = once_found a.1.0 a.1.1
  once m' reply.Ok other a = absurd a
  once m' (reply.Over e) other a = absurd a
  once m' (reply.Was e) other a = absurd a
  once m' reply.None other a = absurd a
  once m' reply.Exists other a = absurd a

  -- one that found none, and was not invalid, is the first of two
  twice : is_bad_draw s.kind d.hi entry ≡ false → low s.kind s.map 1 from d.hi ≡ None → is_twofold s.kind s.map d entry ≡ true
  twice good none = (λ k. is_past (at k) ((sought ∙ none) k) && not (good k))

one_of : (s : Allocation) (d : Draws) (entry from : ℕ) → d.at ≡ Some from → is_twofold s.kind s.map d entry ≡ false → (s.calls + 1 ≡ s.calls + calls_of s d entry) × (last_start s d entry ≡ from)
one_of s d entry from at one = (
  ap (λ (b : Bool). s.calls + (if b then 2 else 1)) (sym one),
  ap (λ (b : Bool). if b then d.lo else unwrap_or d.at d.lo) one ∙ ap (λ (o : Option ℕ). unwrap_or o d.lo) at,
)

few_calls : (s : Allocation) (d : Draws) (entry : ℕ) → s.calls < s.calls + calls_of s d entry
few_calls s d entry = by_fold (is_twofold s.kind s.map d entry)
  where
    by_fold : (b : Bool) → s.calls < s.calls + (if b then 2 else 1)
    by_fold true = omega arith
    by_fold false = omega arith

pub first_is_last : (d : Draws) (s s' : Allocation) (entry from : ℕ) (answer : Result Reply ℕ) → d.at ≡ Some from → from ≤ d.hi → (answer ≡ Ok reply.Busy → ⊥)
    → IfOk answer (λ r. IsNextCall s (Alloc 1 from d.hi entry) r s') → IfErr answer (λ n. IsSpent s n s') → IsDrawn d s entry (came_to false answer) (after_answer d answer) s'
first_is_last d s s' entry from answer at order other called spent = by_answer answer other called spent
  where
    found : (n : ℕ) → low s.kind s.map 1 from d.hi ≡ Some n → drawn s.kind s.map d ≡ Some (record { at = n; wrapped = false })
    found n is = ap (λ (o : Option ℕ). first_found (from_position s.kind s.map d.hi o) (low s.kind s.map 1 d.lo d.hi)) at ∙ ap (λ (o : Option ℕ). first_found o (low s.kind s.map 1 d.lo d.hi)) is

    by_answer : (answer : Result Reply ℕ) → (answer ≡ Ok reply.Busy → ⊥) → IfOk answer (λ r. IsNextCall s (Alloc 1 from d.hi entry) r s') → IfErr answer (λ n. IsSpent s n s') → IsDrawn d s entry (came_to false answer) (after_answer d answer) s'
    by_answer (Ok r) other called spent =
        let not_busy : r ≡ reply.Busy → ⊥ = λ busy. other (ap (λ (x : Reply). Ok x) busy) in
        let one = once d s entry from at s'.map r not_busy (one_call s s' from d.hi entry r order called) in
        by_call d s s' entry from s.calls s.last false found r order (one_of s d entry from at one) (λ busy. absurd (not_busy busy)) called
    by_answer (Err n) other called spent = by_spent d s s' entry from s.calls s.last false found n (omega arith) (few_calls s d entry) spent

-- ---- the second

pub busy_leaves : (s t : Allocation) (from hi entry : ℕ) → from ≤ hi → IsNextCall s (Alloc 1 from hi entry) reply.Busy t → (is_bad_draw s.kind hi entry ≡ false) × (low s.kind s.map 1 from hi ≡ None) × IsSince s t
busy_leaves s t from hi entry order called =
    let answers = one_call s t from hi entry reply.Busy order called in
    let map_is = sym (ap (λ (x : Allocation). x.map) called.after) ∙ answers.2 in
    let last_is = sym (ap (λ (x : Allocation). x.last) called.after) in
    let calls_is = sym (ap (λ (x : Allocation). x.calls) called.after) in
    (answers.0, answers.1, called.after ∙ (λ i. record s { map = map_is i; calls = calls_is i; last = last_is i }))

-- a first call that found no index free leaves the last to be made
pub busy_before : (s t : Allocation) (d : Draws) (from entry : ℕ) (answer : Result Reply ℕ) → d.at ≡ Some from → from ≤ d.hi → IfOk answer (λ r. IsNextCall s (Alloc 1 from d.hi entry) r t) → answer ≡ Ok reply.Busy → IsBeforeLast d s entry t
busy_before s t d from entry answer at order called busy =
    let made = subst (λ (a : Result Reply ℕ). IfOk a (λ r. IsNextCall s (Alloc 1 from d.hi entry) r t)) busy called in
    let left = busy_leaves s t from d.hi entry order made in
    let two = twice d s entry from at left.0 left.1 in
    let count = ap (λ (x : Allocation). x.calls) made.after in
    record {
      since = left.2;
      none = ap (from_position s.kind s.map d.hi) at ∙ left.1;
      calls = ap (λ (n : ℕ). n + 1) count ∙ (let three : (s.calls + 1) + 1 ≡ s.calls + 2 = omega arith in three ∙ ap (λ (b : Bool). s.calls + (if b then 2 else 1)) (sym two));
      some = omega arith;
      start = ap (λ (b : Bool). if b then d.lo else unwrap_or d.at d.lo) two;
    }

-- where there is no position, the only call is the last
pub none_before : (s : Allocation) (d : Draws) (entry : ℕ) → d.at ≡ None → IsBeforeLast d s entry s
none_before s d entry at =
    let one : is_twofold s.kind s.map d entry ≡ false = ap (λ (o : Option ℕ). is_past o (from_position s.kind s.map d.hi o) && not (is_bad_draw s.kind d.hi entry)) at in
    record {
      since = refl;
      none = ap (from_position s.kind s.map d.hi) at;
      calls = ap (λ (b : Bool). s.calls + (if b then 2 else 1)) (sym one);
      some = omega arith;
      start = ap (λ (b : Bool). if b then d.lo else unwrap_or d.at d.lo) one ∙ ap (λ (o : Option ℕ). unwrap_or o d.lo) at;
    }

pub second_is_last : (d : Draws) (s t s' : Allocation) (entry : ℕ) (answer : Result Reply ℕ) → d.lo ≤ d.hi → IsBeforeLast d s entry t
    → IfOk answer (λ r. IsNextCall t (Alloc 1 d.lo d.hi entry) r s') → IfErr answer (λ n. IsSpent t n s') → IsDrawn d s entry (came_to true answer) (after_answer d answer) s'
second_is_last d s t s' entry answer order before called spent = by_answer answer called spent
  where
    again : Option ℕ
    again = low s.kind s.map 1 d.lo d.hi

    gone : drawn s.kind s.map d ≡ first_found None again
    gone = ap (λ (o : Option ℕ). first_found o again) before.none

    by_answer : (answer : Result Reply ℕ) → IfOk answer (λ r. IsNextCall t (Alloc 1 d.lo d.hi entry) r s') → IfErr answer (λ n. IsSpent t n s') → IsDrawn d s entry (came_to true answer) (after_answer d answer) s'
    by_answer (Ok r) called spent =
        by_call d s s' entry d.lo t.calls t.last true (λ n is. gone ∙ ap (first_found None) is) r order (before.calls, before.start) (λ busy is. gone ∙ ap (first_found None) is)
        (subst (λ (x : Allocation). IsNextCall x (Alloc 1 d.lo d.hi entry) r s') before.since called)
    by_answer (Err n) called spent =
        let so_many = before.calls in
        by_spent d s s' entry d.lo t.calls t.last true (λ n is. gone ∙ ap (first_found None) is) n before.some (omega arith) (subst (λ (x : Allocation). IsSpent x n s') before.since spent)

-- ---- what is left beside

called_after : (s t s' : Allocation) (from hi entry : ℕ) (r : Reply) → IsSince s t → IsNextCall t (Alloc 1 from hi entry) r s' → IsAfter s s'
called_after s t s' from hi entry r since called =
    let map_is = ap (λ (x : Allocation). x.map) called.after in
    let calls_is = ap (λ (x : Allocation). x.calls) called.after in
    let last_is = ap (λ (x : Allocation). x.last) called.after in
    called.after ∙ ((λ i. record t { map = sym map_is i; calls = sym calls_is i; last = sym last_is i }) ∙ ap (λ (x : Allocation). record x { map = s'.map; calls = s'.calls; last = s'.last }) since)

since_after : (s t : Allocation) → IsSince s t → IsAfter s t
since_after s t since = since ∙ (λ i. record s { map = sym (ap (λ (x : Allocation). x.map) since) i; calls = t.calls; last = t.last })

pub made_after : (s t s' : Allocation) (from hi entry : ℕ) (answer : Result Reply ℕ) → IsSince s t → IfOk answer (λ r. IsNextCall t (Alloc 1 from hi entry) r s') → IfErr answer (λ n. IsSpent t n s') → IsAfter s s'
made_after s t s' from hi entry (Ok r) since called spent = called_after s t s' from hi entry r since called
made_after s t s' from hi entry (Err n) since called spent = subst (IsAfter s) (sym spent.2) (since_after s t since)

-- ---- as draws are called

-- a number that is answered lies in the window
pub last_lies : (s s' : Allocation) (d : Draws) (from entry : ℕ) (answer : Result Reply ℕ) → d.lo ≤ from → from ≤ d.hi → IfOk answer (λ r. IsNextCall s (Alloc 1 from d.hi entry) r s') → IsLastAnswer d answer
last_lies s s' d from entry (Ok r) begins order called = lies s s' d from entry r begins order called
last_lies s s' d from entry (Err n) begins order called = tt

-- a position in the window
pub position_lies : (lo hi from : ℕ) (at : Option ℕ) → IfSome at (λ n. (lo ≤ n) × (n ≤ hi)) → at ≡ Some from → (lo ≤ from) × (from ≤ hi)
position_lies lo hi from at within is = subst (λ (o : Option ℕ). IfSome o (λ n. (lo ≤ n) × (n ≤ hi))) is within
