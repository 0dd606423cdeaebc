-- Where the calls of steps stand by their numbers in a history, so do the calls that are told of them in some list.
use Rattle.mt_verify.proofs.Prelude.{◌≡◌, ℕ, ◌+◌, ◌<◌, List, [], ◌∷◌, length, map, get_or, set, refl, sym, ap, ◌∙◌, subst, arith, enumerate_from, swap, IsPermutation, length-map, map-set, get_or-map, IsPermutation-keeps, IsPermutation-refl, IsPermutation-swap, IsPermutation-sym, IsPermutation-trans, Record, Numbered, AreRecordsTold}

map_swap : {X Y : Type 0} (f : X → Y) (xs : List X) (i j : ℕ) → i < length xs → j < length xs → map f (swap xs i j) ≡ swap (map f xs) i j
map_swap f [] i j low high = refl
map_swap f (d ∷ ys) i j low high =
    let one : get_or (map f (d ∷ ys)) j (f d) ≡ f (get_or (d ∷ ys) j d) = get_or-map f (d ∷ ys) j d (f d) high in
    let two : get_or (map f (d ∷ ys)) i (f d) ≡ f (get_or (d ∷ ys) i d) = get_or-map f (d ∷ ys) i d (f d) low in
    map-set f (set (d ∷ ys) i (get_or (d ∷ ys) j d)) j (get_or (d ∷ ys) i d)
    ∙ (ap (λ l. set l j (f (get_or (d ∷ ys) i d))) (map-set f (d ∷ ys) i (get_or (d ∷ ys) j d))
    ∙ (λ k. set (set (map f (d ∷ ys)) i (sym one k)) j (sym two k)))

-- ---- items in another order, by their numbers

abbrev number_of : {X : Type 0} → ℕ × X → ℕ
number_of e = e.0

-- the items have the numbers of this list, in its order
pub record InOrderOf {X Y : Type 0} (all : List (ℕ × Y)) (order : List (ℕ × X)) : Type 0 where
  pub items : List (ℕ × Y)
  pub same : map number_of items ≡ map number_of order
  pub are : IsPermutation items all

swapped : {X Y : Type 0} (all : List (ℕ × Y)) (l : List (ℕ × X)) (i j : ℕ) → i < length l → j < length l → InOrderOf all l → InOrderOf all (swap l i j)
swapped all l i j low high in_order =
    let many : length in_order.items ≡ length l = omega (arith, length-map in_order.items number_of, length-map l number_of, ap length in_order.same) in
    record {
      items = swap in_order.items i j;
      same = map_swap number_of in_order.items i j (omega (arith, low, many)) (omega (arith, high, many)) ∙ (ap (λ (m : List ℕ). swap m i j) in_order.same ∙ sym (map_swap number_of l i j low high));
      are = IsPermutation-trans (swap in_order.items i j) in_order.items all
          (IsPermutation-sym in_order.items (swap in_order.items i j) (IsPermutation-swap in_order.items (swap in_order.items i j) i j (omega (arith, low, many)) (omega (arith, high, many)) refl)) in_order.are;
    }

reordered : {X Y : Type 0} (all : List (ℕ × Y)) (order other : List (ℕ × X)) → map number_of all ≡ map number_of order → IsPermutation order other → InOrderOf all other
reordered {X} {Y} all order other same moved = IsPermutation-keeps order (λ (l : List (ℕ × X)). InOrderOf {X = X} {Y = Y} all l) (record { items = all; same = same; are = IsPermutation-refl all }) (λ l i j low high p. swapped all l i j low high p) other moved

-- ---- the numbers of a list

by_numbers : {X Y : Type 0} (n : ℕ) (items : List (ℕ × Y)) (records : List X) → map number_of items ≡ map number_of (enumerate_from n records) → enumerate_from n (map (λ (e : ℕ × Y). e.1) items) ≡ items
by_numbers n [] records same = refl
by_numbers n (e ∷ items) [] same = absurd (cc)
by_numbers n (e ∷ items) (r ∷ records) same =
    let head : e.0 ≡ n = cc in
    let rest : map number_of items ≡ map number_of (enumerate_from (n + 1) records) = cc in
    λ k. (sym head k, e.1) ∷ by_numbers (n + 1) items records rest k

same_numbers : (version : ℕ) (calls : List (ℕ × Numbered)) (records : List (ℕ × Record)) → AreRecordsTold version calls records → map number_of calls ≡ map number_of records
same_numbers version [] [] are = refl
same_numbers version [] (r ∷ records) are = absurd are
same_numbers version (x ∷ calls) [] are = absurd are
same_numbers version (x ∷ calls) (r ∷ records) are = λ k. sym are.0.number k ∷ same_numbers version calls records are.1 k

-- the calls that are told, in the order of a history
pub record Listed (calls : List (ℕ × Numbered)) : Type 0 where
  pub list : List Numbered
  pub are : IsPermutation (enumerate_from 1 list) calls

pub some_list : (version : ℕ) (calls : List (ℕ × Numbered)) (steps : List (ℕ × Record)) (records : List Record) → AreRecordsTold version calls steps → IsPermutation (enumerate_from 1 records) steps → Listed calls
some_list version calls steps records are once =
    let o : InOrderOf calls (enumerate_from 1 records) = reordered calls steps (enumerate_from 1 records) (same_numbers version calls steps are) (IsPermutation-sym (enumerate_from 1 records) steps once) in
    record {
      list = map (λ (e : ℕ × Numbered). e.1) o.items;
      are = subst (λ (l : List (ℕ × Numbered)). IsPermutation l calls) (sym (by_numbers 1 o.items records o.same)) o.are;
    }
