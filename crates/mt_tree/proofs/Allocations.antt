-- What a call under the lock is to who draws numbers from the tree.
use Rattle.mt_tree.proofs.Prelude.{◌≡◌, ◌≢◌, ℕ, zero, suc, ◌+◌, ◌-◌, ◌<◌, ◌≤◌, true, false, List, [], ◌∷◌, ◌++◌, Option, Some, None, IfSome, length, fold, inl, inr, refl, sym, ap, ◌∙◌, subst, arith, length-append, ◌↔◌, IsSome, slice_get, AllByRecursion, option_map, append-nil, cond_both, eqb-true, fold-append, Call, Alloc, Kind, Range, Holder, Reply, NoNodes, Shortage, acted, is_bad_area, placed, low, AreLegalFrom, History, IsAnswered, IsLegal, Record, last_map, limits_after, map_after, Saw, Wrote, holder_of, with_records, IsNextCall, Worn, Tree, allocation_of, is_alone, last_made, HasCalled, IsWorn, NamesPass, limit_of, map_seen, opened, passes_of}
use Rattle.mt_base.specs.Passes as known

-- ---- the last call of a history

pub last_is_answered : (h : History) (ended number : ℕ) (m : List Range) (records : List Record) (r : Record) → number ≡ ended + length records → AreLegalFrom h ended m (records ++ r ∷ []) → IsAnswered h.kind (limits_after h number) (fold (map_after h.kind) m records) r
last_is_answered h ended number m [] r is legal = let same : ended ≡ number = omega arith in subst (λ (n : ℕ). IsAnswered h.kind (limits_after h n) m r) same legal.0
last_is_answered h ended number m (s ∷ records) r is legal = last_is_answered h (ended + 1) number (map_after h.kind m s) records r (omega arith) legal.1

get_last : {A : Type 0} (xs : List A) (x : A) → slice_get (xs ++ x ∷ []) (length xs) ≡ Some x
get_last [] x = refl
get_last (y ∷ xs) x = get_last xs x

all_last : {A : Type 0} (P : A → Type 0) (xs : List A) (x : A) → AllByRecursion P (xs ++ x ∷ []) → P x
all_last P [] x all = all.0
all_last P (y ∷ xs) x all = all_last P xs x all.1

last_made_is : (records : List Record) (r : Record) → last_made (records ++ r ∷ []) ≡ Some (record { call = r.call; reply = r.reply })
last_made_is records r =
    let place : length (records ++ r ∷ []) - 1 ≡ length records = omega (arith, length-append records (r ∷ [])) in
    ap (λ (n : ℕ). option_map (λ (x : Record). record { call = x.call; reply = x.reply }) (slice_get (records ++ r ∷ []) n)) place
    ∙ ap (λ (o : Option Record). option_map (λ (x : Record). record { call = x.call; reply = x.reply }) o) (get_last records r)

-- ---- whether nobody else may hold rows

alone_passes : (passes : ℕ) (standing : Option ℕ) → is_alone passes standing ≡ true → (passes ≡ 1) × (standing ≡ None)
alone_passes passes None is = (eqb-true passes 1 is, refl)
alone_passes passes (Some epoch) is = absurd (cc)

no_holder : (by : Option Holder) (held : ℕ) → (IsSome by ↔ (0 < held)) → (by ≡ None) → held ≡ 0
no_holder None held is none = zero_if held (λ some. absurd (let none_is : false ≡ true = is.1 some in cc))
  where
    zero_if : (held : ℕ) → (0 < held → ⊥) → held ≡ 0
    zero_if zero never = refl
    zero_if (suc n) never = absurd (never (omega arith))
no_holder (Some h) held is none = absurd (cc)

-- the only pass is no other's holder
none_by : (by : Option Holder) (number passes : ℕ) → passes ≡ 1 → number < passes → IfSome by (λ holder. holder.pass < passes) → IfSome by (λ holder. holder.pass ≢ number) → by ≡ None
none_by None number passes one own among other = refl
none_by (Some h) number passes one own among other = absurd (other (omega arith))

-- ---- a search for one index tells no shortage, but where it is refused

same_shortage : (a b : Shortage) → NoNodes a ≡ NoNodes b → a ≡ b
same_shortage a b is = cc

not_placed : (m : List Range) (entry : ℕ) (shortage : Shortage) (o : Option ℕ) → (placed m 1 entry o).1 ≡ NoNodes shortage → ⊥
not_placed m entry shortage None is = absurd (cc)
not_placed m entry shortage (Some n) is = absurd (cc)

no_shortage : (kind : Kind) (m : List Range) (min max entry : ℕ) (shortage : Shortage) → (acted kind m (Alloc 1 min max entry)).1 ≡ NoNodes shortage → ⊥
no_shortage kind m min max entry shortage =
    cond_both (is_bad_area kind 1 min max entry) _ _ (λ (after : List Range × Reply). after.1 ≡ NoNodes shortage → ⊥)
    (λ bad is. absurd (cc))
    (λ good. not_placed m entry shortage (low kind m 1 min max))

-- ---- a call

module _ (t : Tree) (p q : known.Pass) (call : Call) (number : ℕ) (reply : Reply) (wrote : Wrote (opened t) p number call reply q) (next : number ≡ length p.seen + 1) where
  abbrev made : Record
  made = record { pass = p.number; call = call; reply = reply }

  none_between : wrote.others ≡ []
  none_between = is_empty wrote.others (omega (arith, next, wrote.last, length-append p.seen wrote.others))
    where
      is_empty : (xs : List Record) → length xs ≡ 0 → xs ≡ []
      is_empty [] none = refl
      is_empty (x ∷ xs) none = absurd (omega arith)

  pub seen_next : q.seen ≡ p.seen ++ made ∷ []
  seen_next = ap (λ (x : known.Pass). x.seen) wrote.pass ∙ ap (λ (rs : List Record). (p.seen ++ rs) ++ made ∷ []) none_between ∙ ap (λ (rs : List Record). rs ++ made ∷ []) (append-nil p.seen)

  pub has_called : HasCalled p q
  has_called =
      let seen : (p.seen ++ wrote.others) ++ made ∷ [] ≡ p.seen ++ made ∷ [] = sym (ap (λ (x : known.Pass). x.seen) wrote.pass) ∙ seen_next in
      let ended : number ≡ q.ended = sym (ap (λ (x : known.Pass). x.ended) wrote.pass) in
      record {
        own = made ∷ [];
        pass = wrote.pass ∙ (λ k. record p { seen = seen k; mine = p.mine ++ next k ∷ []; ended = ended k });
        ours = (refl, tt);
        ended = λ was. sym ended ∙ (next ∙ (sym (length-append p.seen (made ∷ [])) ∙ ap (λ (rs : List Record). length rs) (sym seen_next)));
      }

  pub was_legal : IsAnswered (opened t).kind (limits_after (opened t) (length p.seen)) (map_seen t p) made
  was_legal =
      let legal : IsLegal (with_records (opened t) (p.seen ++ made ∷ [])) = subst (λ (rs : List Record). IsLegal (with_records (opened t) rs)) seen_next wrote.sound.legal in
      last_is_answered (with_records (opened t) (p.seen ++ made ∷ [])) 0 (length p.seen) (opened t).opening p.seen made (omega arith) legal

  pub map_next : map_seen t q ≡ map_after (opened t).kind (map_seen t p) made
  map_next = ap (λ (rs : List Record). last_map (with_records (opened t) rs)) seen_next ∙ fold-append (map_after (opened t).kind) (opened t).opening p.seen (made ∷ [])

  -- where nobody else may hold rows none is held
  module _ (callers : AllByRecursion (λ r. r.pass < passes_of t) q.seen) (named : NamesPass t reply) where
    -- a pass that makes a call is one of the tree's
    is_own : p.number < passes_of t
    is_own = all_last (λ (r : Record). r.pass < passes_of t) p.seen made (subst (AllByRecursion (λ r. r.pass < passes_of t)) seen_next callers)

    pub none_held : is_alone (passes_of t) p.standing ≡ true → (shortage : Shortage) → reply ≡ NoNodes shortage → (IsSome shortage.by ↔ (0 < shortage.held)) → shortage.held ≡ 0
    none_held alone shortage is holder =
        let only = alone_passes (passes_of t) p.standing alone in
        let none = none_by (holder_of reply) p.number (passes_of t) only.0 is_own named (wrote.by only.1) in
        no_holder shortage.by shortage.held holder (sym (ap holder_of is) ∙ none)

-- ---- a call for one index

module _ (t : Tree) (p q : known.Pass) (min max entry number : ℕ) (reply : Reply) (wrote : Wrote (opened t) p number (Alloc 1 min max entry) reply q) (next : number ≡ length p.seen + 1) where
  abbrev pub alloc : Call
  alloc = Alloc 1 min max entry

  held_is : (shortage : Shortage) → reply ≡ NoNodes shortage → IsSome shortage.by ↔ (0 < shortage.held)
  held_is shortage is = by_answer (was_legal t p q alloc number reply wrote next)
    where
      by_answer : IsAnswered (opened t).kind (limits_after (opened t) (length p.seen)) (map_seen t p) (made t p q alloc number reply wrote next) → IsSome shortage.by ↔ (0 < shortage.held)
      by_answer (inl acts) = absurd (no_shortage (opened t).kind (map_seen t p) min max entry shortage (sym acts ∙ is))
      by_answer (inr refused) = subst (λ (s : Shortage). IsSome s.by ↔ (0 < s.held)) (sym (same_shortage shortage refused.shortage (sym is ∙ refused.told))) refused.short.holder

  pub is_called : number ≤ limit_of t → AllByRecursion (λ r. r.pass < passes_of t) q.seen → NamesPass t reply → IsNextCall (allocation_of t p) alloc reply (allocation_of t q)
  is_called few callers named =
      let r = made t p q alloc number reply wrote next in
      let seen = seen_next t p q alloc number reply wrote next in
      let standing : q.standing ≡ p.standing = ap (λ (x : known.Pass). x.standing) wrote.pass in
      let count : length q.seen ≡ length p.seen + 1 = ap (λ (rs : List Record). length rs) seen ∙ length-append p.seen (r ∷ []) in
      let last : last_made q.seen ≡ Some (record { call = alloc; reply = reply }) = ap last_made seen ∙ last_made_is p.seen r in
      let after = map_next t p q alloc number reply wrote next in
      record {
        room = omega arith;
        answered = was_legal t p q alloc number reply wrote next;
        unheld = λ alone shortage is. none_held t p q alloc number reply wrote next callers named alone shortage is (held_is shortage is);
        after = λ k. record (allocation_of t p) { alone = is_alone (passes_of t) (standing k); map = after k; calls = count k; last = last k };
      }

-- ---- no call

-- where the tree is worn nothing is changed, since the pass had seen all
pub is_worn : (t : Tree) (p q : known.Pass) (w : Worn) → IsWorn t p w q → q.seen ≡ p.seen → (w.calls ≡ (allocation_of t p).limit) × ((allocation_of t p).calls ≡ (allocation_of t p).limit) × (allocation_of t q ≡ allocation_of t p)
is_worn t p q w worn same =
    let standing : q.standing ≡ p.standing = ap (λ (x : known.Pass). x.standing) worn.saw.pass in
    (worn.calls, sym (ap (λ (rs : List Record). length rs) same) ∙ worn.all, (λ k. record (allocation_of t p) { alone = is_alone (passes_of t) (standing k); map = last_map (with_records (opened t) (same k)); calls = length (same k); last = last_made (same k) }))

pub none_called : (t : Tree) (p q : known.Pass) → Saw (opened t) p q → q.seen ≡ p.seen → HasCalled p q
none_called t p q saw same = record {
  own = [];
  pass = saw.pass ∙ (λ k. record p { seen = (same ∙ sym (append-nil p.seen)) k; mine = sym (append-nil p.mine) k; ended = sym (ap (λ (x : known.Pass). x.ended) saw.pass) k });
  ours = tt;
  ended = λ was. ap (λ (x : known.Pass). x.ended) saw.pass;
}
