-- What a handle has learnt that alone made calls, and that this carries over from call to call.
-- Source: this project's own.
use Rattle.std.proofs.Common.{◌≡◌, ℕ, zero, suc, ◌+◌, List, [], ◌∷◌, ◌++◌, length, sym, ap, ◌∙◌, subst, arith, length-append}
use Rattle.std.specs.List.{AllByRecursion, range_with_len}
use Rattle.std.proofs.lemmas.List.{append-nil, append_assoc}
use Rattle.mt_tree.specs.Prelude.{Record}
use Rattle.mt_base.specs.Passes as known

-- The handle has made some calls, and no other handle has. Nothing else of it has changed.
pub record HasCalled (p q : known.Pass) : Type 0 where
  pub own : List Record
  pub pass : q ≡ record p { seen = p.seen ++ own; mine = p.mine ++ range_with_len (length p.seen + 1) (length own); ended = q.ended }
  pub ours : AllByRecursion (λ r. r.pass ≡ p.number) own
  pub ended : p.ended ≡ length p.seen → q.ended ≡ length q.seen

range_joined : (a m n : ℕ) → range_with_len a m ++ range_with_len (a + m) n ≡ range_with_len a (m + n)
range_joined a zero n =
    let one : a + zero ≡ a = omega arith in
    let two : n ≡ zero + n = omega arith in
    (λ k. range_with_len (one k) (two k))
range_joined a (suc m) n =
    let one : a + suc m ≡ (a + 1) + m = omega arith in
    let two : suc (m + n) ≡ suc m + n = omega arith in
    ap (λ (b : ℕ). a ∷ (range_with_len (a + 1) m ++ range_with_len b n)) one ∙ (ap (λ (xs : List ℕ). a ∷ xs) (range_joined (a + 1) m n) ∙ ap (range_with_len a) two)

all_joined : {A : Type 0} (P : A → Type 0) (xs ys : List A) → AllByRecursion P xs → AllByRecursion P ys → AllByRecursion P (xs ++ ys)
all_joined P [] ys all all' = all'
all_joined P (x ∷ xs) ys all all' = (all.0, all_joined P xs ys all.1 all')

pub calls_none : (p : known.Pass) → HasCalled p p
calls_none p = record { own = []; pass = (λ k. record p { seen = sym (append-nil p.seen) k; mine = sym (append-nil p.mine) k }); ours = tt; ended = λ was. was }

pub calls_on : (p q r : known.Pass) → HasCalled p q → HasCalled q r → HasCalled p r
calls_on p q r a b =
    let seen : q.seen ≡ p.seen ++ a.own = ap (λ (x : known.Pass). x.seen) a.pass in
    let mine : q.mine ≡ p.mine ++ range_with_len (length p.seen + 1) (length a.own) = ap (λ (x : known.Pass). x.mine) a.pass in
    let number : q.number ≡ p.number = ap (λ (x : known.Pass). x.number) a.pass in
    let from : length q.seen + 1 ≡ (length p.seen + 1) + length a.own = omega (arith, ap (λ (rs : List Record). length rs) seen, length-append p.seen a.own) in
    let count : length a.own + length b.own ≡ length (a.own ++ b.own) = sym (length-append a.own b.own) in
    let seen_both : q.seen ++ b.own ≡ p.seen ++ (a.own ++ b.own) = ap (λ (rs : List Record). rs ++ b.own) seen ∙ append_assoc p.seen a.own b.own in
    let mine_both : q.mine ++ range_with_len (length q.seen + 1) (length b.own) ≡ p.mine ++ range_with_len (length p.seen + 1) (length (a.own ++ b.own)) =
    (λ k. mine k ++ range_with_len (from k) (length b.own)) ∙ (append_assoc p.mine (range_with_len (length p.seen + 1) (length a.own)) (range_with_len ((length p.seen + 1) + length a.own) (length b.own))
    ∙ ap (λ (xs : List ℕ). p.mine ++ xs) (range_joined (length p.seen + 1) (length a.own) (length b.own) ∙ ap (range_with_len (length p.seen + 1)) count)) in
    record {
      own = a.own ++ b.own;
      pass = b.pass ∙ (λ k. record p { number = number k; seen = seen_both k; mine = mine_both k; opened = (ap (λ (x : known.Pass). x.opened) a.pass) k; standing = (ap (λ (x : known.Pass). x.standing) a.pass) k; begun = (ap (λ (x : known.Pass). x.begun) a.pass) k; ended = r.ended });
      ours = all_joined (λ (x : Record). x.pass ≡ p.number) a.own b.own a.ours (subst (λ (n : ℕ). AllByRecursion (λ (x : Record). x.pass ≡ n) b.own) number b.ours);
      ended = λ was. b.ended (a.ended was);
    }
