-- Passes that are dealt, and then seated at the turn one by one.
use Rattle.mt_rule.proofs.Prelude.{◌≡◌, ℕ, zero, suc, ◌+◌, ◌<◌, List, [], ◌∷◌, ◌++◌, length, map, set, get_or, take, sym, ap, ◌∙◌, subst, arith, Some, All, AllByRecursion, range_with_len, map-append, All-push, map-range_with_len_more, Badge, Pass, View, PenPart, known_by, part_in, pass_or, Identity, IsPassOf, pass_in, tree_seat}

-- ---- one more is dealt

pub all_dealt : (P : Pass → Type 0) (xs ys : List Pass) (p : Pass) → ys ≡ xs ++ p ∷ [] → All P xs → P p → All P ys
all_dealt P xs ys p e all one = subst (All P) (sym e) (All-push P xs p all one)

pub map_dealt : {Y : Type 0} (f : Pass → Y) (g : ℕ → Y) (n : ℕ) (xs ys : List Pass) (p : Pass) → ys ≡ xs ++ p ∷ [] → map f xs ≡ map g (range_with_len 0 n) → f p ≡ g n → map f ys ≡ map g (range_with_len 0 (n + 1))
map_dealt {Y} f g n xs ys p e all one =
    let from : 0 + n ≡ n = omega arith in
    ap (map f) e ∙ (map-append f xs (p ∷ []) ∙ ((λ i. all i ++ one i ∷ []) ∙ sym (map-range_with_len_more g 0 n n from)))

-- the pen that has dealt so many, and one more
pub pen_dealt : (start a b : PenPart) (n m : ℕ) → a ≡ record start { dealt = n } → b ≡ record a { dealt = m } → b ≡ record start { dealt = m }
pen_dealt start a b n m before one = one ∙ ap (λ (p : PenPart). record p { dealt = m }) before

-- ---- a pass that keeps its seat at the table is the same to it

pub same_known : (p q : Pass) → tree_seat q ≡ tree_seat p → pass_in q ≡ pass_in p
same_known p q e = ap (λ (b : Badge View). known_by (pass_or (part_in b.views))) e

pub still_of : (t : Identity) (p q : Pass) → tree_seat q ≡ tree_seat p → IsPassOf t p → IsPassOf t q
still_of t p q e f = record {
  here = subst (λ (b : Badge View). part_in b.views ≡ Some (pass_or (part_in b.views))) (sym e) f.here;
  of = (λ i. record { table = (ap (λ (b : Badge View). b.table_id) e) i; shape = (ap (λ (b : Badge View). (pass_or (part_in b.views)).shape) e) i }) ∙ f.of;
}

-- ---- lists of which one element changes

module _ {X Y : Type 0} (f : X → Y) where
  -- what f says of each element is as it was
  pub map_set_same : (xs : List X) (i : ℕ) (d x : X) → i < length xs → f x ≡ f (get_or xs i d) → map f (set xs i x) ≡ map f xs
  map_set_same [] i d x low e = absurd (omega arith)
  map_set_same (y ∷ xs) zero d x low e = ap (λ (z : Y). z ∷ map f xs) e
  map_set_same (y ∷ xs) (suc i) d x low e = ap (λ (l : List Y). f y ∷ l) (map_set_same xs i d x (omega arith) e)

module _ {X : Type 0} (P : X → Type 0) where
  take_set_suc : (xs : List X) (i : ℕ) (x : X) → i < length xs → AllByRecursion P (take i xs) → P x → AllByRecursion P (take (suc i) (set xs i x))
  take_set_suc [] i x low all p = absurd (omega arith)
  take_set_suc (y ∷ xs) zero x low all p = (p, tt)
  take_set_suc (y ∷ xs) (suc i) x low all p = (all.0, take_set_suc xs i x (omega arith) all.1 p)

  -- one element more of the first ones is so
  pub take_set : (xs : List X) (i : ℕ) (x : X) → i < length xs → AllByRecursion P (take i xs) → P x → AllByRecursion P (take (i + 1) (set xs i x))
  take_set xs i x low all p = let e : suc i ≡ i + 1 = omega arith in subst (λ (n : ℕ). AllByRecursion P (take n (set xs i x))) e (take_set_suc xs i x low all p)
