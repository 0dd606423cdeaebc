-- A read of a lower phase ends where no read of a higher phase begins below it: between them would stand a call that the one of
-- them should know of.
use Rattle.mt_verify.proofs.Prelude.{◌≡◌, ℕ, ◌+◌, ◌<◌, ◌≤◌, List, Some, slice_get, refl, sym, ap, ◌∙◌, subst, inl, inr, arith, AllPairs, cases_lt, Query, Answer, ToldLine, What, Wrote, Got, Copied, Lawful, InPrintedOrder, KeepsTo}
use Rattle.mt_verify.proofs.Runs.{pairs_at}

abbrev pub call_of : What → ℕ
call_of (Wrote number call reply) = number
call_of (Got lo hi query answer) = 0
call_of (Copied count) = 0
call_of (Lawful count) = 0

-- a call of this number is told on the tree
pub record IsCalled (told : List ToldLine) (tree number : ℕ) : Type 0 where
  pub place : ℕ
  pub told_so : ToldLine
  pub is : slice_get told place ≡ Some told_so
  pub on : told_so.tree ≡ tree
  pub calls : call_of told_so.what ≡ number

-- a read at this place, with its window
pub record IsReadAt (told : List ToldLine) (tree place phase lo hi : ℕ) : Type 0 where
  pub told_so : ToldLine
  pub is : slice_get told place ≡ Some told_so
  pub on : told_so.tree ≡ tree
  pub in_phase : told_so.phase ≡ phase
  pub reads : (w : What) → (KeepsTo w told_so.what → 1 ≤ call_of w → call_of w ≤ lo) × (KeepsTo told_so.what w → 1 ≤ call_of w → hi < call_of w)

same_place : (told : List ToldLine) (i j : ℕ) (s t : ToldLine) → slice_get told i ≡ Some s → slice_get told j ≡ Some t → s.phase < t.phase → AllPairs (λ (a : ToldLine) (b : ToldLine). a.phase ≤ b.phase) told → i < j
same_place told i j s t is at lower rising = elim (cases_lt i j) [
  | inl before ↦ before
  | inr behind ↦
      elim (cases_lt j i) [
        | inl after ↦ let le : t.phase ≤ s.phase = pairs_at (λ (a : ToldLine) (b : ToldLine). a.phase ≤ b.phase) told j i t s rising after at is in absurd (omega (arith, le, lower))
        | inr both ↦
            let e : i ≡ j = omega (arith, behind, both) in
            let same : Some s ≡ Some t = sym is ∙ (ap (slice_get told) e ∙ at) in
            let one : s ≡ t = cc in
            absurd (omega (arith, lower, ap (λ (x : ToldLine). x.phase) one))
      ]
]

pub ends_before : (told : List ToldLine) (tree count i j lo hi lo' hi' phase phase' : ℕ) → AllPairs InPrintedOrder told → AllPairs (λ (a : ToldLine) (b : ToldLine). a.phase ≤ b.phase) told → ((n : ℕ) → 1 ≤ n → n ≤ count → IsCalled told tree n)
    → IsReadAt told tree i phase lo hi → IsReadAt told tree j phase' lo' hi' → phase < phase' → hi ≤ count → hi ≤ lo'
ends_before told tree count i j lo hi lo' hi' phase phase' order rising calls r s lower within = elim (cases_lt lo' hi) [
  | inr le ↦ le
  | inl between ↦
      let c = calls (lo' + 1) (omega arith) (omega (arith, between, within)) in
      let some : 1 ≤ call_of c.told_so.what = omega (arith, c.calls) in
      elim (cases_lt c.told_so.phase phase') [
        | inl early ↦
            let before : c.place < j = same_place told c.place j c.told_so s.told_so c.is s.is (omega (arith, early, s.in_phase)) rising in
            let keeps : KeepsTo c.told_so.what s.told_so.what = pairs_at InPrintedOrder told c.place j c.told_so s.told_so order before c.is s.is (c.on ∙ sym s.on) (inr (omega (arith, early, s.in_phase))) in
            let up : call_of c.told_so.what ≤ lo' = (s.reads c.told_so.what).0 keeps some in
            absurd (omega (arith, up, c.calls))
        | inr late ↦
            let higher : r.told_so.phase < c.told_so.phase = omega (arith, late, lower, r.in_phase) in
            let behind : i < c.place = same_place told i c.place r.told_so c.told_so r.is c.is higher rising in
            let keeps : KeepsTo r.told_so.what c.told_so.what = pairs_at InPrintedOrder told i c.place r.told_so c.told_so order behind r.is c.is (r.on ∙ sym c.on) (inr higher) in
            let down : hi < call_of c.told_so.what = (r.reads c.told_so.what).1 keeps some in
            absurd (omega (arith, down, c.calls, between))
      ]
]

-- a read that is told is a read at its place
pub read_at : (told : List ToldLine) (tree place : ℕ) (t : ToldLine) (lo hi : ℕ) (query : Query) (answer : Answer) → slice_get told place ≡ Some t → t.tree ≡ tree → t.what ≡ Got lo hi query answer → IsReadAt told tree place t.phase lo hi
read_at told tree place t lo hi query answer is on got = record {
  told_so = t;
  is = is;
  on = on;
  in_phase = refl;
  reads = λ w. subst (λ (what : What). (KeepsTo w what → 1 ≤ call_of w → call_of w ≤ lo) × (KeepsTo what w → 1 ≤ call_of w → hi < call_of w)) (sym got) (both_ways w lo hi query answer);
}
  where
    both_ways : (w : What) (lo hi : ℕ) (query : Query) (answer : Answer) → (KeepsTo w (Got lo hi query answer) → 1 ≤ call_of w → call_of w ≤ lo) × (KeepsTo (Got lo hi query answer) w → 1 ≤ call_of w → hi < call_of w)
    both_ways (Wrote n c r) lo hi query answer = (λ keeps some. keeps, λ keeps some. keeps)
    both_ways (Got l h q a) lo hi query answer = (λ keeps some. absurd (omega (arith, some)), λ keeps some. absurd (omega (arith, some)))
    both_ways (Copied count) lo hi query answer = (λ keeps some. absurd (omega (arith, some)), λ keeps some. absurd (omega (arith, some)))
    both_ways (Lawful count) lo hi query answer = (λ keeps some. absurd (omega (arith, some)), λ keeps some. absurd (omega (arith, some)))
