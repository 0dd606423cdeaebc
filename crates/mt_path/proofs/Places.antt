-- Where the span that holds an index stands among spans end to end. For the proofs of the crates above, too.
use Rattle.mt_path.proofs.Prelude.{◌≡◌, ℕ, suc, ◌+◌, ◌<◌, ◌≤◌, List, [], ◌∷◌, ◌++◌, Bool, true, false, cond, length, nat_lt, refl, sym, ap, ◌∙◌, subst, ⊎_elim, arith, ◌-◌, append_assoc, Some, lt-ltb, le-ltb, take_while, slice_get, take_while-cons, cases_lt, Span, Fills, fills_le, fills_split, slot_for, span_at}

-- Of spans that fill the indexes from `lo` up to, but without, `hi`, this one holds the index.
pub record At (lo hi : ℕ) (xs : List Span) (index : ℕ) (x : Span) : Type 0 where
  pub front : List Span
  pub back : List Span
  pub parts : xs ≡ front ++ (x ∷ back)
  pub slot : length front ≡ slot_for xs index
  pub before : Fills lo x.first front
  pub after : Fills (x.last + 1) hi back
  pub from : x.first ≤ index
  pub to : index ≤ x.last

abbrev ends_below : ℕ → Span → Bool
ends_below index x = nat_lt x.last index

slot_by : (b : Bool) (x : Span) (xs : List Span) (index : ℕ) → nat_lt x.last index ≡ b → slot_for (x ∷ xs) index ≡ length (cond b (x ∷ take_while (ends_below index) xs) [])
slot_by b x xs index test = ap length (take_while-cons (ends_below index) x xs) ∙ ap (λ (b : Bool). length (cond b (x ∷ take_while (ends_below index) xs) [])) test

pub slot_here : (x : Span) (xs : List Span) (index : ℕ) → index ≤ x.last → slot_for (x ∷ xs) index ≡ 0
slot_here x xs index within = slot_by false x xs index (le-ltb x.last index within)

pub slot_behind : (x : Span) (xs : List Span) (index : ℕ) → x.last < index → slot_for (x ∷ xs) index ≡ suc (slot_for xs index)
slot_behind x xs index past = slot_by true x xs index (lt-ltb x.last index past)

-- ---- the span that holds an index

at_here : (lo hi : ℕ) (x : Span) (xs : List Span) (index : ℕ) → Fills lo hi (x ∷ xs) → lo ≤ index → index ≤ x.last → At lo hi (x ∷ xs) index (span_at (x ∷ xs) 0)
at_here lo hi x xs index fills from to = record {
  front = [];
  back = xs;
  parts = refl;
  slot = sym (slot_here x xs index to);
  before = sym fills.0;
  after = fills.2;
  from = (let begins = fills.0 in omega arith);
  to = to;
}

at_behind : (lo hi : ℕ) (x : Span) (xs : List Span) (index : ℕ) (y : Span) → Fills lo hi (x ∷ xs) → x.last < index → At (x.last + 1) hi xs index y → At lo hi (x ∷ xs) index y
at_behind lo hi x xs index y fills past at = record {
  front = x ∷ at.front;
  back = at.back;
  parts = ap (λ (l : List Span). x ∷ l) at.parts;
  slot = ap suc at.slot ∙ sym (slot_behind x xs index past);
  before = (fills.0, fills.1, at.before);
  after = at.after;
  from = at.from;
  to = at.to;
}

pub at_slot : (lo hi : ℕ) (xs : List Span) (index : ℕ) → Fills lo hi xs → lo ≤ index → index < hi → At lo hi xs index (span_at xs (slot_for xs index))
at_slot lo hi [] index fills from to = absurd (omega arith)
at_slot lo hi (x ∷ xs) index fills from to = ⊎_elim
    (λ (past : x.last < index). subst (λ (k : ℕ). At lo hi (x ∷ xs) index (span_at (x ∷ xs) k)) (sym (slot_behind x xs index past)) (at_behind lo hi x xs index (span_at xs (slot_for xs index)) fills past (at_slot (x.last + 1) hi xs index fills.2 (omega arith) to)))
    (λ (here : index ≤ x.last). subst (λ (k : ℕ). At lo hi (x ∷ xs) index (span_at (x ∷ xs) k)) (sym (slot_here x xs index here)) (at_here lo hi x xs index fills from here))
    (cases_lt x.last index)

-- ---- there is no other

pub slot_is : (lo hi : ℕ) (front : List Span) (x : Span) (back : List Span) (index : ℕ) → Fills lo hi (front ++ (x ∷ back)) → x.first ≤ index → index ≤ x.last → slot_for (front ++ (x ∷ back)) index ≡ length front
slot_is lo hi [] x back index fills from to = slot_here x back index to
slot_is lo hi (y ∷ front) x back index fills from to =
    let before = fills_le (y.last + 1) x.first front (fills_split (y.last + 1) hi front x back fills.2).0 in
    slot_behind y (front ++ (x ∷ back)) index (omega arith) ∙ ap suc (slot_is (y.last + 1) hi front x back index fills.2 from to)

pub parts_same : {A : Type 0} (front : List A) (x : A) (back front' : List A) (z : A) (back' : List A) → front ++ (x ∷ back) ≡ front' ++ (z ∷ back') → length front ≡ length front' → (front ≡ front') × (x ≡ z) × (back ≡ back')
parts_same [] x back [] z back' same long = (refl, (let e : x ≡ z = cc in e), (let e : back ≡ back' = cc in e))
parts_same [] x back (w ∷ front') z back' same long = absurd (omega arith)
parts_same (y ∷ front) x back [] z back' same long = absurd (omega arith)
parts_same (y ∷ front) x back (w ∷ front') z back' same long =
    let first : y ≡ w = cc in
    let rest : front ++ (x ∷ back) ≡ front' ++ (z ∷ back') = cc in
    let behind = parts_same front x back front' z back' rest (omega arith) in
    ((λ i. first i ∷ behind.0 i), behind.1, behind.2)

-- what stands before the span and behind it is given by the index too
pub at_once : (lo hi : ℕ) (xs : List Span) (index : ℕ) (x : Span) (at : At lo hi xs index x) (front : List Span) (z : Span) (back : List Span)
    → Fills lo hi xs → xs ≡ front ++ (z ∷ back) → z.first ≤ index → index ≤ z.last → (at.front ≡ front) × (x ≡ z) × (at.back ≡ back)
at_once lo hi xs index x at front z back fills parts from to =
    let slot : slot_for xs index ≡ length front = ap (λ (l : List Span). slot_for l index) parts ∙ slot_is lo hi front z back index (subst (Fills lo hi) parts fills) from to in
    parts_same at.front x at.back front z back (sym at.parts ∙ parts) (at.slot ∙ slot)

-- The index of the first span of the back leads to it, and that of the last span of the front to that.
pub first_behind : (lo mid hi : ℕ) (front back : List Span) → Fills lo hi (front ++ back) → Fills mid hi back → lo ≤ mid → mid < hi
    → (rest : List Span) × (back ≡ span_at (front ++ back) (slot_for (front ++ back) mid) ∷ rest)
first_behind lo mid hi front [] fills behind low more = absurd (omega arith)
first_behind lo mid hi front (z ∷ back) fills behind low more =
    let begins = behind.0 in let ends = behind.1 in
    let at = at_slot lo hi (front ++ (z ∷ back)) mid fills low more in
    let same = at_once lo hi (front ++ (z ∷ back)) mid (span_at (front ++ (z ∷ back)) (slot_for (front ++ (z ∷ back)) mid)) at front z back fills refl (omega arith) ends in
    (back, ap (λ (y : Span). y ∷ back) (sym same.1))

split_last : (lo mid : ℕ) (front : List Span) → Fills lo mid front → lo < mid → (rest : List Span) × (z : Span) × (front ≡ rest ++ (z ∷ []))
split_last lo mid [] fills some = absurd (omega arith)
split_last lo mid (x ∷ []) fills some = ([], x, refl)
split_last lo mid (x ∷ y ∷ front) fills some =
    let less = fills_le (y.last + 1) mid front fills.2.2 in
    let order = fills.2.1 in
    let behind = split_last (x.last + 1) mid (y ∷ front) fills.2 (omega arith) in
    (x ∷ behind.0, behind.1, ap (λ (l : List Span). x ∷ l) behind.2)

pub last_before : (lo mid hi : ℕ) (front back : List Span) → Fills lo hi (front ++ back) → Fills lo mid front → lo < mid → mid ≤ hi
    → (rest : List Span) × (front ≡ rest ++ (span_at (front ++ back) (slot_for (front ++ back) (mid - 1)) ∷ []))
last_before lo mid hi front back fills before some high =
    let last = split_last lo mid front before some in
    let ends = fills_split lo mid last.0 last.1 [] (subst (Fills lo mid) last.2 before) in
    let end = ends.2 in let order = ends.1 in
    let at = at_slot lo hi (front ++ back) (mid - 1) fills (omega arith) (omega arith) in
    let parts : front ++ back ≡ last.0 ++ (last.1 ∷ back) = ap (λ (l : List Span). l ++ back) last.2 ∙ append_assoc last.0 (last.1 ∷ []) back in
    let same = at_once lo hi (front ++ back) (mid - 1) (span_at (front ++ back) (slot_for (front ++ back) (mid - 1))) at last.0 last.1 back fills parts (omega arith) (omega arith) in
    (last.0, last.2 ∙ ap (λ (y : Span). last.0 ++ (y ∷ [])) (sym same.1))

pub at_parts : (lo hi : ℕ) (xs : List Span) (index : ℕ) (front : List Span) (x : Span) (back : List Span) → Fills lo hi xs → xs ≡ front ++ (x ∷ back) → x.first ≤ index → index ≤ x.last → At lo hi xs index x
at_parts lo hi xs index front x back fills parts from to =
    let within = subst (Fills lo hi) parts fills in
    let split = fills_split lo hi front x back within in
    record {
      front = front;
      back = back;
      parts = parts;
      slot = sym (slot_is lo hi front x back index within from to) ∙ ap (λ (l : List Span). slot_for l index) (sym parts);
      before = split.0;
      after = split.2;
      from = from;
      to = to;
    }

get_seam : {A : Type 0} (front : List A) (x : A) (back : List A) → slice_get (front ++ (x ∷ back)) (length front) ≡ Some x
get_seam [] x back = refl
get_seam (y ∷ front) x back = get_seam front x back

-- the span stands in its slot
pub at_get : (lo hi : ℕ) (xs : List Span) (index : ℕ) (x : Span) → At lo hi xs index x → slice_get xs (slot_for xs index) ≡ Some x
at_get lo hi xs index x at = (λ i. slice_get (at.parts i) (sym at.slot i)) ∙ get_seam at.front x at.back

pub at_within : (lo hi : ℕ) (xs : List Span) (index : ℕ) (x : Span) → At lo hi xs index x → (lo ≤ x.first) × (x.last < hi)
at_within lo hi xs index x at = let before = fills_le lo x.first at.front at.before in let behind = fills_le (x.last + 1) hi at.back at.after in (before, omega arith)
