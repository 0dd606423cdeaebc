-- Two trees, where what is reached in one and what is taken make up what is reached in the other and what is gone.
use Rattle.mt_rows.proofs.Prelude.{◌≡◌, ℕ, ◌+◌, ◌==◌, ◌&&◌, Bool, true, refl, sym, ap, ◌∙◌, arith, eq-eqb, and_parts, eqb-true, row_in, Span, times, is_row_of, Tree, Stands, root_of}
use Rattle.mt_rows.proofs.Reached.{OnLevel, times_some, times_place, one_place}

-- what passes the one test passes the other
abbrev pub Implies : (ℕ → Span → Bool) → (ℕ → Span → Bool) → Type 0
Implies p q = (h : ℕ) (x : Span) → p h x ≡ true → q h x ≡ true

-- the very place of x, whose height is k
abbrev pub is_at : ℕ → Span → ℕ → Span → Bool
is_at k x n y = (row_in y.word == row_in x.word) && ((n == k) && ((y.first == x.first) && ((y.last == x.last) && (y.word == x.word))))

pub is_at_row : (k : ℕ) (x : Span) → Implies (is_at k x) (is_row_of (row_in x.word))
is_at_row k x n y at = (and_parts (row_in y.word == row_in x.word) ((n == k) && ((y.first == x.first) && ((y.last == x.last) && (y.word == x.word)))) at).0

is_at_itself : (k : ℕ) (x : Span) → is_at k x k x ≡ true
is_at_itself k x = rw (eq-eqb (row_in x.word) (row_in x.word) refl, eq-eqb k k refl, eq-eqb x.first x.first refl, eq-eqb x.last x.last refl, eq-eqb x.word x.word refl) refl

record SamePlace (k : ℕ) (x : Span) (n : ℕ) (y : Span) : Type 0 where
  row : row_in y.word ≡ row_in x.word
  height : n ≡ k
  first : y.first ≡ x.first
  last : y.last ≡ x.last
  word : y.word ≡ x.word

same_place : (k n : ℕ) (x y : Span) → is_at k x n y ≡ true → SamePlace k x n y
same_place k n x y at =
    let a = and_parts (row_in y.word == row_in x.word) ((n == k) && ((y.first == x.first) && ((y.last == x.last) && (y.word == x.word)))) at in
    let b = and_parts (n == k) ((y.first == x.first) && ((y.last == x.last) && (y.word == x.word))) a.1 in
    let c = and_parts (y.first == x.first) ((y.last == x.last) && (y.word == x.word)) b.1 in
    let d = and_parts (y.last == x.last) (y.word == x.word) c.1 in
    record {
      row = eqb-true (row_in y.word) (row_in x.word) a.0;
      height = eqb-true n k b.0;
      first = eqb-true y.first x.first c.0;
      last = eqb-true y.last x.last d.0;
      word = eqb-true y.word x.word d.1;
    }

module _ (t t' : Tree) (h h' : ℕ) (stands : Stands t h) (stands' : Stands t' h') (taken gone : (ℕ → Span → Bool) → ℕ)
    (rows : (p : ℕ → Span → Bool) → times p t.table h (root_of t) + taken p ≡ times p t'.table h' (root_of t') + gone p) where
  -- a row of which as much is taken as is gone stands where it stood
  pub stays_in_place : (k k' : ℕ) (x x' : Span) → OnLevel t.table h (root_of t) k x → OnLevel t'.table h' (root_of t') k' x' → row_in x.word ≡ row_in x'.word
      → ((p : ℕ → Span → Bool) → Implies p (is_row_of (row_in x.word)) → taken p ≡ gone p) → (k' ≡ k) × (x'.first ≡ x.first) × (x'.last ≡ x.last) × (x'.word ≡ x.word)
  stays_in_place k k' x x' on on' same even =
      let all = rows (is_at k x) in
      let level = even (is_at k x) (is_at_row k x) in
      let some = times_some (is_at k x) t.table on.depth k h (root_of t) x on.height on.one (is_at_itself k x) in
      let found = times_place (is_at k x) t'.table h' (root_of t') (omega arith) in
      let at = same_place k found.0 x found.1 found.3 in
      let place = one_place t' h' stands' found.0 k' found.1 x' found.2 on' (at.row ∙ same) in (
        sym place.0 ∙ at.height,
        ap (λ (y : Span). y.first) (sym place.1) ∙ at.first,
        ap (λ (y : Span). y.last) (sym place.1) ∙ at.last,
        ap (λ (y : Span). y.word) (sym place.1) ∙ at.word,
      )
