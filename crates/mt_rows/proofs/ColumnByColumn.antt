-- The columns of a row are drafted one after another.
use Rattle.mt_rows.proofs.Prelude.{◌≡◌, ◌≢◌, ◌⊎◌, ℕ, zero, suc, ◌+◌, ◌*◌, ◌<◌, ◌≤◌, List, [], ◌∷◌, length, refl, sym, ap, ◌∙◌, arith, subst, ⊎_elim, inl, inr, get_or-set_other, get_or-set_same, set, length-set, slice_index, slice_set, cases_eq, Width, columns, first_row, place_within, Life, AreDrafted, base_of, Sheet, IsFree, IsPlace, IsWhole, drafted, life_of}
use Rattle.mt_rows.specs.declared.rows.Life.TheVariants.{Draft, New}

set_twice : (l : List Life) (i : ℕ) (x : Life) → set (set l i x) i x ≡ set l i x
set_twice [] i x = refl
set_twice (y ∷ l) zero x = refl
set_twice (y ∷ l) (suc i) x = ap (λ (t : List Life). y ∷ t) (set_twice l i x)

-- the first n of the words stand from a place on, and each other word is as before
record ArePutFirst (base : ℕ) (words l l' : List ℕ) (n : ℕ) : Type 0 where
  size : length l' ≡ length l
  here : (i : ℕ) → i < n → slice_index l' (base + i) ≡ slice_index words i
  others : (k : ℕ) → (k < base) ⊎ (base + n ≤ k) → slice_index l' k ≡ slice_index l k

none_put : (base : ℕ) (words l : List ℕ) → ArePutFirst base words l l 0
none_put base words l = record { size = refl; here = λ i none. absurd (omega arith); others = λ k past. refl }

one_put : (base : ℕ) (words l l' : List ℕ) (n : ℕ) → base + n < length l → ArePutFirst base words l l' n → ArePutFirst base words l (slice_set l' (base + n) (slice_index words n)) (n + 1)
one_put base words l l' n inside before = record {
  size = length-set l' (base + n) (slice_index words n) ∙ before.size;
  here = λ i below. ⊎_elim
      (λ (same : i ≡ n). subst (λ (k : ℕ). slice_index now (base + k) ≡ slice_index words k) (sym same) (get_or-set_same l' (base + n) (slice_index words n) 0 (omega (arith, inside, before.size))))
      (λ (other : i ≢ n). get_or-set_other l' (base + n) (base + i) (slice_index words n) 0 (λ same. other (omega arith)) ∙ before.here i (omega (arith, other)))
      (cases_eq i n);
  others = λ k past. get_or-set_other l' (base + n) k (slice_index words n) 0 (λ same. ⊎_elim (λ (low : k < base). absurd (omega arith)) (λ (high : base + (n + 1) ≤ k). absurd (omega arith)) past)
      ∙ before.others k (⊎_elim (λ (low : k < base). inl low) (λ (high : base + (n + 1) ≤ k). inr (omega arith)) past);
}
  where
    now : List ℕ
    now = slice_set l' (base + n) (slice_index words n)

-- the first n columns of a row are drafted
pub record AreDraftedFirst (row : ℕ) (words : List ℕ) (n : ℕ) (s t : Sheet) : Type 0 where
  far : n ≤ length words
  rest : t ≡ record s { tree = record s.tree { table = record s.tree.table { words = t.tree.table.words } }; lives = slice_set s.lives row Draft }
  put : ArePutFirst (base_of s.tree.table row) words s.tree.table.words t.tree.table.words n

module _ (row : ℕ) (words : List ℕ) (s : Sheet) (place : IsPlace s.tree row 0) (whole : IsWhole s) (all : length words ≡ columns s.tree.table.width) where
  inside : (n : ℕ) → n < columns s.tree.table.width → base_of s.tree.table row + n < length s.tree.table.words
  inside n within = subst (λ (k : ℕ). base_of s.tree.table row + n < k) (sym whole.words) (place_within s.tree.table.width row (first_row + s.tree.rows) n place.last within)

  pub first_drafted : AreDraftedFirst row words 1 s (drafted s row 0 (slice_index words 0))
  first_drafted = record { far = omega (arith, place.column, all); rest = refl; put = one_put (base_of s.tree.table row) words s.tree.table.words s.tree.table.words 0 (inside 0 place.column) (none_put (base_of s.tree.table row) words s.tree.table.words) }

  module _ (n : ℕ) (t : Sheet) (before : AreDraftedFirst row words n s t) where
    same_width : t.tree.table.width ≡ s.tree.table.width
    same_width = ap (λ (k : Sheet). k.tree.table.width) before.rest

    pub next_drafted : n < length words → AreDraftedFirst row words (n + 1) s (drafted t row n (slice_index words n))
    next_drafted below = record {
      far = omega (arith, below);
      rest = ap (λ (k : Sheet). record (drafted k row n (slice_index words n)) { tree = record k.tree { table = record k.tree.table { words = (drafted t row n (slice_index words n)).tree.table.words } } }) before.rest
          ∙ ap (λ (l : List Life). record s { tree = record s.tree { table = record s.tree.table { words = (drafted t row n (slice_index words n)).tree.table.words } }; lives = l }) (set_twice s.lives row Draft);
      put = subst (λ (w : Width). ArePutFirst (base_of s.tree.table row) words s.tree.table.words (slice_set t.tree.table.words (columns w * row + n) (slice_index words n)) (n + 1)) (sym same_width)
          (one_put (base_of s.tree.table row) words s.tree.table.words t.tree.table.words n (inside n (omega (arith, below, all))) before.put);
    }

    pub place_next : n < length words → IsPlace t.tree row n
    place_next below = record {
      first = place.first;
      last = subst (λ (k : Sheet). row < first_row + k.tree.rows) (sym before.rest) place.last;
      column = subst (λ (w : Width). n < columns w) (sym same_width) (omega (arith, below, all));
    }

    pub free_next : IsFree t.cleared (life_of t.lives row)
    free_next = subst (IsFree t.cleared) (sym (ap (λ (k : Sheet). life_of k.lives row) before.rest ∙ get_or-set_same s.lives row Draft New (subst (λ (k : ℕ). row < k) (sym whole.lives) place.last))) tt

    pub all_drafted : length words ≤ n → AreDrafted row 0 words s t
    all_drafted high = record {
      rest = before.rest;
      put = record {
        size = before.put.size;
        here = λ i below. subst (λ (k : ℕ). slice_index t.tree.table.words (k + i) ≡ slice_index words i) base_is (before.put.here i (omega (arith, below, high)));
        others = λ k past. before.put.others k (⊎_elim (λ (under : k < base_of s.tree.table row + 0). inl (omega (arith, base_is))) (λ (above : base_of s.tree.table row + 0 + length words ≤ k). inr (omega (arith, base_is, before.far, high))) past);
      };
    }
      where
        base_is : base_of s.tree.table row ≡ base_of s.tree.table row + 0
        base_is = omega arith
