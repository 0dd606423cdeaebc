-- The trees are settled one by one, each with the row of its passes.
use Rattle.mt_replay.proofs.Prelude.{◌≡◌, ℕ, ◌+◌, ◌<◌, ◌≤◌, List, [], ◌∷◌, ◌++◌, length, map, take, drop, get_or, slice_set, arith, refl, sym, ap, ◌∙◌, subst, inl, inr, Vec, Global, cases_eq, length-map, length-set, get_or_default, get_or-set_same, get_or-set_other, with_items, Pass, Settled, some_at, SharedTree, AreSettled, rows_known, AreAll, seen_by}
use Rattle.mt_replay.proofs.LanesRun.{of_mapped, within_mapped}

take_front : {X : Type 0} (xs ys : List X) → take (length xs) (xs ++ ys) ≡ xs
take_front [] ys = refl
take_front (x ∷ xs) ys = ap (λ z. x ∷ z) (take_front xs ys)

-- a row whose passes were all written
pub written_row : {P : Type 0} (row : Vec P Global) (passes : List P) → length passes ≡ length row.items → (with_items row passes).items ≡ passes
written_row row passes count = ap (λ (n : ℕ). take n (passes ++ drop (length passes) row.items)) (omega (arith, row.ok, count)) ∙ take_front passes (drop (length passes) row.items)

pub record SettledSoFar {P T : Type 0} (tree : T → SharedTree) (knows : P → Pass) (serves : T → P → Type 0) (many : T → ℕ) (trees : List T) (at : ℕ) (seats seats' : List (Vec P Global)) : Type 0 where
  pub count : length seats' ≡ length seats
  pub all : (i : ℕ) (t : T) (row : Vec P Global) → i < length trees → AreAll knows serves (many (get_or trees i t)) (get_or trees i t) (get_or seats' i row).items
  pub settled : (i : ℕ) (t : T) (row : Vec P Global) → i < at → Settled (seen_by (tree (get_or trees i t)).history (map knows (get_or seats' i row).items)) (map knows (get_or seats i row).items) (map knows (get_or seats' i row).items)
  pub left : (i : ℕ) (row : Vec P Global) → at ≤ i → get_or seats' i row ≡ get_or seats i row

module _ {P T : Type 0} (tree : T → SharedTree) (knows : P → Pass) (serves : T → P → Type 0) (many : T → ℕ) (trees : List T) where
  pub none_settled : (seats : List (Vec P Global)) → ((i : ℕ) (t : T) (row : Vec P Global) → i < length trees → AreAll knows serves (many (get_or trees i t)) (get_or trees i t) (get_or seats i row).items) → SettledSoFar tree knows serves many trees 0 seats seats
  none_settled seats all = record { count = refl; all = all; settled = λ i t row below. absurd (omega (arith, below)); left = λ i row above. refl }

  pub one_settled : (at : ℕ) (seats seats' : List (Vec P Global)) (e : T) (old new : Vec P Global) → at < length trees → at < length seats → SettledSoFar tree knows serves many trees at seats seats'
      → AreAll knows serves (many (get_or trees at e)) (get_or trees at e) new.items
      → Settled (seen_by (tree (get_or trees at e)).history (map knows new.items)) (map knows (get_or seats' at old).items) (map knows new.items)
      → SettledSoFar tree knows serves many trees (at + 1) seats (slice_set seats' at new)
  one_settled at seats seats' e old new here there s all one = record {
    count = length-set seats' at new ∙ s.count;
    all = λ i t row below. elim (cases_eq i at) [
      | inl same ↦ rw (same, get_or-set_same seats' at new row (omega (arith, there, s.count)), get_or_default trees at t e here) all
      | inr apart ↦ rw (get_or-set_other seats' at i new row apart) (s.all i t row below)
    ];
    settled = λ i t row below. elim (cases_eq i at) [
      | inl same ↦ rw (same, get_or-set_same seats' at new row (omega (arith, there, s.count)), get_or_default trees at t e here, ← s.left at row (omega arith), get_or_default seats' at row old (omega (arith, there, s.count))) one
      | inr apart ↦ rw (get_or-set_other seats' at i new row apart) (s.settled i t row (omega (arith, below, apart)))
    ];
    left = λ i row above. get_or-set_other seats' at i new row (λ same. omega (arith, above, same)) ∙ s.left i row (omega (arith, above));
  }

  pub all_settled : (at : ℕ) (seats seats' : List (Vec P Global)) → length trees ≤ at → length seats ≡ length trees → SettledSoFar tree knows serves many trees at seats seats' → AreSettled (map tree trees) (rows_known knows seats) (rows_known knows seats')
  all_settled at seats seats' whole count s = record {
    count = length-map seats' (λ (v : Vec P Global). map knows v.items) ∙ (s.count ∙ sym (length-map seats (λ (v : Vec P Global). map knows v.items)));
    each = λ number t between after t_is between_is after_is.
        let within : number < length trees = within_mapped tree trees number t t_is in
        let (e, e_is) = some_at trees number within in
        let (row, row_is) = some_at seats number (omega (arith, count)) in
        let rows : Vec P Global → List Pass = λ (v : Vec P Global). map knows v.items in
        subst (λ (z : SharedTree). Settled (seen_by z.history after) between after) (of_mapped tree trees number e t within t_is)
        (subst (λ (z : List Pass). Settled (seen_by (tree (get_or trees number e)).history after) z after) (of_mapped rows seats number row between (omega (arith, count)) between_is)
        (subst (λ (z : List Pass). Settled (seen_by (tree (get_or trees number e)).history z) (map knows (get_or seats number row).items) z) (of_mapped rows seats' number row after (omega (arith, count, s.count)) after_is)
        (s.settled number e row (omega (arith, within, whole)))));
  }
