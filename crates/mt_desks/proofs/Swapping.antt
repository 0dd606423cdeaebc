-- One more lane's passes change places.
use Rattle.mt_desks.proofs.Prelude.{◌≡◌, ℕ, ◌+◌, ◌<◌, List, length, get_or, slice_set, arith, ap, ◌∙◌, subst, inl, inr, cases_eq, cases_lt, length-set, get_or_default, get_or-set_same, get_or-set_other, EachPlace, HasSwapped, AllHaveSwapped}

one_swaps : {P V L : Type 0} (items : V → List P) (passes : L → List P) (rows rows' rows'' : List V) (lanes lanes' : List L) (i : ℕ) (d k : L) → i < length lanes → ((tree : ℕ) (v : V) → tree < length rows → i < length (items (get_or rows tree v)))
    → AllHaveSwapped items passes i rows rows' lanes lanes' → HasSwapped items i (length rows') rows' rows'' (passes (get_or lanes' i d)) (passes k) → AllHaveSwapped items passes (i + 1) rows rows'' lanes (slice_set lanes' i k)
one_swaps items passes rows rows' rows'' lanes lanes' i d k l wide_rows r s =
    let here : i < length lanes' = omega (arith, l, r.lane_count) in
    record {
      count = s.count ∙ r.count;
      lane_count = length-set lanes' i k ∙ r.lane_count;
      long = λ tree v. s.long tree v ∙ r.long tree v;
      wide = λ lane x. elim (cases_eq lane i) [
        | inl same ↦ rw same (ap (λ z. length (passes z)) (get_or-set_same lanes' i k x here) ∙ (s.passes_of ∙ (ap (λ z. length (passes z)) (get_or_default lanes' i d x here) ∙ r.wide i x)))
        | inr apart ↦ ap (λ z. length (passes z)) (get_or-set_other lanes' i lane k x apart) ∙ r.wide lane x
      ];
      back = λ tree lane v x p within below. elim (cases_eq lane i) [
        | inl same ↦ rw same (ap (λ z. get_or z i p) (s.back tree v p (omega (arith, within, r.count))) ∙ (get_or-set_same (items (get_or rows' tree v)) i (get_or (passes (get_or lanes' i d)) tree p) p (omega (arith, wide_rows tree v within, r.long tree v))
            ∙ ap (λ z. get_or (passes z) tree p) (get_or_default lanes' i d x here ∙ r.lanes_left i x (omega arith))))
        | inr apart ↦ ap (λ z. get_or z lane p) (s.back tree v p (omega (arith, within, r.count))) ∙ (get_or-set_other (items (get_or rows' tree v)) i lane (get_or (passes (get_or lanes' i d)) tree p) p apart ∙ r.back tree lane v x p within (omega (arith, below, apart)))
      ];
      out = λ tree lane v x p within below. elim (cases_eq lane i) [
        | inl same ↦ rw same (ap (λ z. get_or (passes z) tree p) (get_or-set_same lanes' i k x here) ∙ (s.out tree v p (omega (arith, within, r.count)) ∙ r.rows_left tree i v p (omega arith)))
        | inr apart ↦ ap (λ z. get_or (passes z) tree p) (get_or-set_other lanes' i lane k x apart) ∙ r.out tree lane v x p within (omega (arith, below, apart))
      ];
      rows_left = λ tree lane v p above. elim (cases_lt tree (length rows')) [
        | inl within ↦ ap (λ z. get_or z lane p) (s.back tree v p within) ∙ (get_or-set_other (items (get_or rows' tree v)) i lane (get_or (passes (get_or lanes' i d)) tree p) p (λ same. omega (arith, above, same)) ∙ r.rows_left tree lane v p (omega (arith, above)))
        | inr past ↦ ap (λ z. get_or (items z) lane p) (s.rows_left tree v past) ∙ r.rows_left tree lane v p (omega (arith, above))
      ];
      lanes_left = λ lane x above. get_or-set_other lanes' i lane k x (λ same. omega (arith, above, same)) ∙ r.lanes_left lane x (omega (arith, above));
    }

pub place_more : {L : Type 0} (R : L → L → Type 0) (lanes lanes' : List L) (i : ℕ) (k : L) → length lanes' ≡ length lanes → i < length lanes → ((d : L) → R (get_or lanes i d) k) → EachPlace R lanes lanes' → EachPlace R lanes (slice_set lanes' i k)
place_more R lanes lanes' i k count l one each = λ place none below. elim (cases_eq place i) [
  | inl same ↦ rw (same, get_or-set_same lanes' i k none (omega (arith, l, count))) (one none)
  | inr apart ↦ rw (get_or-set_other lanes' i place k none apart) (each place none below)
]

-- all of it, with what each lane keeps
pub lane_swaps : {P V L : Type 0} (items : V → List P) (passes : L → List P) (R : L → L → Type 0) (rows rows' rows'' : List V) (lanes lanes' : List L) (i : ℕ) (d k : L) → i < length lanes → ((tree : ℕ) (v : V) → tree < length rows → i < length (items (get_or rows tree v)))
    → AllHaveSwapped items passes i rows rows' lanes lanes' → EachPlace R lanes lanes' → HasSwapped items i (length rows') rows' rows'' (passes (get_or lanes' i d)) (passes k) → R (get_or lanes' i d) k
    → AllHaveSwapped items passes (i + 1) rows rows'' lanes (slice_set lanes' i k) × EachPlace R lanes (slice_set lanes' i k)
lane_swaps items passes R rows rows' rows'' lanes lanes' i d k l wide_rows r each s one = (
  one_swaps items passes rows rows' rows'' lanes lanes' i d k l wide_rows r s,
  place_more R lanes lanes' i k r.lane_count l (λ x. subst (λ z. R z k) (get_or_default lanes' i d x (omega (arith, l, r.lane_count)) ∙ r.lanes_left i x (omega arith)) one) each,
)
