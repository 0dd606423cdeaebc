-- One item of a list is changed, and with it one item of those that are read off a row's words.
use Rattle.mt_rows.proofs.Prelude.{◌≡◌, ◌≢◌, ℕ, zero, suc, ◌+◌, ◌<◌, List, [], ◌∷◌, Bool, true, false, map, refl, ap, arith, if◌then◌else◌, nat_le, slice_index, slice_set, Item, pivot_column, item_at, items_from, items_at}

abbrev pub put_one : (Item → Item) → ℕ → List Item → List Item
put_one f n [] = []
put_one f zero (x ∷ xs) = f x ∷ xs
put_one f (suc n) (x ∷ xs) = x ∷ put_one f n xs

-- what the change leaves of each item
pub put_one-same : (f : Item → Item) (g : Item → ℕ) → ((x : Item) → g (f x) ≡ g x) → (n : ℕ) (xs : List Item) → map g (put_one f n xs) ≡ map g xs
put_one-same f g same n [] = refl
put_one-same f g same zero (x ∷ xs) = ap (λ (k : ℕ). k ∷ map g xs) (same x)
put_one-same f g same (suc n) (x ∷ xs) = ap (λ (l : List ℕ). g x ∷ l) (put_one-same f g same n xs)

-- and what it sets
pub put_one-set : (f : Item → Item) (g : Item → ℕ) (v : ℕ) → ((x : Item) → g (f x) ≡ v) → (n : ℕ) (xs : List Item) → map g (put_one f n xs) ≡ slice_set (map g xs) n v
put_one-set f g v set n [] = refl
put_one-set f g v set zero (x ∷ xs) = ap (λ (k : ℕ). k ∷ map g xs) (set x)
put_one-set f g v set (suc n) (x ∷ xs) = ap (λ (l : List ℕ). g x ∷ l) (put_one-set f g v set n xs)

-- ---- the items that are read off the words

put_if : (f : Item → Item) (b : Bool) (n : ℕ) (xs ys : List Item) → (if b then put_one f n xs else put_one f n ys) ≡ put_one f n (if b then xs else ys)
put_if f true n xs ys = refl
put_if f false n xs ys = refl

module _ (slots gaps base n : ℕ) (w stored : List ℕ) (f : Item → Item) (pivot_same : (i : ℕ) → i + 1 < slots → slice_index stored (base + pivot_column i) ≡ slice_index w (base + pivot_column i))
    (item_other : (i last : ℕ) → i < slots → i ≢ n → item_at slots gaps stored base i last ≡ item_at slots gaps w base i last)
    (item_here : (i last : ℕ) → i < slots → n ≡ i → item_at slots gaps stored base i last ≡ f (item_at slots gaps w base i last)) where
  past : (max left i : ℕ) → n < i → left + i ≡ slots → items_from slots gaps stored base max left i ≡ items_from slots gaps w base max left i
  past max zero i after sum = refl
  past max (suc zero) i after sum = ap (λ (x : Item). x ∷ []) (item_other i max (omega arith) (λ e. omega arith))
  past max (suc (suc left)) i after sum = rw (pivot_same i (omega arith), item_other i _ (omega arith) (λ e. omega arith), past max (suc left) (i + 1) (omega arith) (omega arith)) refl

  items_from-put : (max left i k : ℕ) → n ≡ i + k → left + i ≡ slots → items_from slots gaps stored base max left i ≡ put_one f k (items_from slots gaps w base max left i)
  items_from-put max zero i k at sum = refl
  items_from-put max (suc zero) i zero at sum = ap (λ (x : Item). x ∷ []) (item_here i max (omega arith) (omega arith))
  items_from-put max (suc zero) i (suc k) at sum = ap (λ (x : Item). x ∷ []) (item_other i max (omega arith) (λ e. omega arith))
  items_from-put max (suc (suc left)) i zero at sum =
      let pivot : ℕ = slice_index w (base + pivot_column i) in
      rw (pivot_same i (omega arith), item_here i _ (omega arith) (omega arith), past max (suc left) (i + 1) (omega arith) (omega arith))
      (put_if f (nat_le max pivot) zero (item_at slots gaps w base i pivot ∷ []) (item_at slots gaps w base i pivot ∷ items_from slots gaps w base max (suc left) (i + 1)))
  items_from-put max (suc (suc left)) i (suc k) at sum =
      let pivot : ℕ = slice_index w (base + pivot_column i) in
      rw (pivot_same i (omega arith), item_other i _ (omega arith) (λ e. omega arith), items_from-put max (suc left) (i + 1) k (omega arith) (omega arith))
      (put_if f (nat_le max pivot) (suc k) (item_at slots gaps w base i pivot ∷ []) (item_at slots gaps w base i pivot ∷ items_from slots gaps w base max (suc left) (i + 1)))

  pub items_at-put_one : (max : ℕ) → items_at slots gaps stored base max ≡ put_one f n (items_at slots gaps w base max)
  items_at-put_one max = items_from-put max slots 0 n (omega arith) (omega arith)
