-- The calls of a history stand by their numbers as they are told.
use Rattle.mt_verify.proofs.Prelude.{◌≡◌, ℕ, zero, suc, ◌+◌, ◌<◌, List, [], ◌∷◌, Some, length, slice_get, get_or, refl, sym, ap, ◌∙◌, subst, arith, Contains, enumerate_from, filter_map, IsPermutation, same_Some, slice_get_within, get_or_from_slice_get, slice_get-get_or, Contains-get_or, length-enumerate_from, get_or-enumerate_from, Contains-permutation, IsPermutation-sym, length_permutation, Record, Step, numbered_on, reply_text, ToldLine, Numbered, AreCallsOf, AreRecordsTold, IsRecordTold, calls_told}
use Rattle.mt_verify.proofs.ToldSteps.{as_many_told}

-- ---- places

-- a list that has an item has it at some place
pub record IsIn {X : Type 0} (xs : List X) (x : X) : Type 0 where
  pub place : ℕ
  pub is : slice_get xs place ≡ Some x

pub contained : {X : Type 0} (xs : List X) (x : X) → Contains xs x → IsIn xs x
contained xs x c = record { place = c.0; is = slice_get-get_or xs c.0 x c.1 ∙ ap Some c.2 }

-- a numbered list has its items by their numbers
pub numbered_at : {X : Type 0} (xs : List X) (i : ℕ) (x : X) → slice_get xs i ≡ Some x → Contains (enumerate_from 1 xs) (1 + i, x)
numbered_at xs i x is =
    let within : i < length xs = slice_get_within xs i x is in
    subst (Contains (enumerate_from 1 xs)) (get_or-enumerate_from 1 xs i (0, x) within ∙ ap (λ (y : _). (1 + i, y)) (get_or_from_slice_get xs i x x is))
    (Contains-get_or (enumerate_from 1 xs) i (0, x) (omega (arith, within, length-enumerate_from 1 xs)))

pub number_of_item : {X : Type 0} (xs : List X) (e : ℕ × X) → Contains (enumerate_from 1 xs) e → (i : ℕ) × (e.0 ≡ 1 + i) × (slice_get xs i ≡ Some e.1)
number_of_item xs e c =
    let within : c.0 < length xs = omega (arith, c.1, length-enumerate_from 1 xs) in
    let is : (1 + c.0, get_or xs c.0 e.1) ≡ e = sym (get_or-enumerate_from 1 xs c.0 e within) ∙ c.2 in
    (c.0, sym (ap (λ (p : _). p.0) is), slice_get-get_or xs c.0 e.1 within ∙ ap (λ (p : _). Some p.1) is)

-- ---- records that are told, one by one

told_at : (version : ℕ) (calls : List (ℕ × Numbered)) (records : List (ℕ × Record)) (i : ℕ) (e : ℕ × Numbered) → AreRecordsTold version calls records → slice_get calls i ≡ Some e → (r : ℕ × Record) × (slice_get records i ≡ Some r) × IsRecordTold version e r
told_at version [] [] i e are is = absurd (cc)
told_at version [] (r ∷ records) i e are is = absurd are
told_at version (x ∷ calls) [] i e are is = absurd are
told_at version (x ∷ calls) (r ∷ records) zero e are is = (r, refl, subst (λ (y : ℕ × Numbered). IsRecordTold version y r) (same_Some x e is) are.0)
told_at version (x ∷ calls) (r ∷ records) (suc i) e are is = told_at version calls records i e are.1 is

module _ (version tree : ℕ) (told : List ToldLine) (steps : List Step) (numbered : List Numbered) (records : List Record)
    (calls : AreCallsOf tree told numbered) (once : IsPermutation (enumerate_from 1 records) (filter_map (numbered_on tree) steps)) (are : AreRecordsTold version (calls_told tree told) (filter_map (numbered_on tree) steps)) where
  pub as_many_records : length records ≡ length numbered
  as_many_records = omega (
    arith,
    length-enumerate_from 1 records,
    length-enumerate_from 1 numbered,
    length_permutation (enumerate_from 1 records) (filter_map (numbered_on tree) steps) once,
    length_permutation (enumerate_from 1 numbered) (calls_told tree told) calls,
    as_many_told version (calls_told tree told) (filter_map (numbered_on tree) steps) are,
  )

  pub record_told : (i : ℕ) (x : Numbered) (r : Record) → slice_get numbered i ≡ Some x → slice_get records i ≡ Some r → IsRecordTold version (1 + i, x) (1 + i, r)
  record_told i x r is at =
      let c = contained (calls_told tree told) (1 + i, x) (Contains-permutation (enumerate_from 1 numbered) (calls_told tree told) (1 + i, x) calls (numbered_at numbered i x is)) in
      let t = told_at version (calls_told tree told) (filter_map (numbered_on tree) steps) c.place (1 + i, x) are c.is in
      let step_has : Contains (filter_map (numbered_on tree) steps) t.0 = (c.place, slice_get_within (filter_map (numbered_on tree) steps) c.place t.0 t.1, get_or_from_slice_get (filter_map (numbered_on tree) steps) c.place t.0 t.0 t.1) in
      let n = number_of_item records t.0 (Contains-permutation (filter_map (numbered_on tree) steps) (enumerate_from 1 records) t.0 (IsPermutation-sym (enumerate_from 1 records) (filter_map (numbered_on tree) steps) once) step_has) in
      let here : n.0 ≡ i = omega (arith, n.1, t.2.number) in
      let same : t.0.1 ≡ r = same_Some t.0.1 r (sym n.2 ∙ (ap (slice_get records) here ∙ at)) in
      record { number = refl; lane = ap (λ (y : Record). y.pass) (sym same) ∙ t.2.lane; call = ap (λ (y : Record). y.call) (sym same) ∙ t.2.call; reply = ap (λ (y : Record). reply_text version y.reply) (sym same) ∙ t.2.reply }
