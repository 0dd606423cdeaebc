-- A map with limits that refuses nothing for want of rows goes as one without.
use Rattle.mt_list.proofs.Prelude.{◌≡◌, true, List, [], ◌∷◌, Option, Some, None, refl, sym, ap, ◌∙◌, inl, inr, subst, AllByRecursion, Range, Kind, Call, Reply, NoNodes, acted, Limits, IsMade, one_call_more, is_done, CallsLeadTo}

-- a call that is not refused does what it says
made_as_said : (kind : Kind) (limits : Option Limits) (m next : List Range) (call : Call) (reply : Reply) → IsMade kind limits m call next reply → is_done reply ≡ true → acted kind m call ≡ (next, reply)
made_as_said kind limits m next call reply (inl made) done = made
made_as_said kind None m next call reply (inr refused) done = absurd refused.0
made_as_said kind (Some l) m next call reply (inr refused) done =
    let told : is_done (NoNodes refused.0.shortage) ≡ true = subst (λ (r : Reply). is_done r ≡ true) refused.0.told done in
    absurd (cc)

-- without limits none is
never_refused : (kind : Kind) (m next : List Range) (call : Call) (reply : Reply) → IsMade kind None m call next reply → acted kind m call ≡ (next, reply)
never_refused kind m next call reply (inl made) = made
never_refused kind m next call reply (inr refused) = absurd refused.0

pub same_call : (kind : Kind) (limits : Option Limits) (m m1 m2 : List Range) (call : Call) (r1 r2 : Reply) → IsMade kind limits m call m1 r1 → IsMade kind None m call m2 r2 → is_done r1 ≡ true → (m1 ≡ m2) × (r1 ≡ r2)
same_call kind limits m m1 m2 call r1 r2 limited free done =
    let same = sym (made_as_said kind limits m m1 call r1 limited done) ∙ never_refused kind m m2 call r2 free in
    (ap (λ (after : List Range × Reply). after.0) same, ap (λ (after : List Range × Reply). after.1) same)

pub same_calls : (kind : Kind) (limits : Option Limits) (m m1 m2 : List Range) (calls : List Call) (rs1 rs2 : List Reply) → CallsLeadTo kind limits m calls m1 rs1 → CallsLeadTo kind None m calls m2 rs2 → AllByRecursion (λ (r : Reply). is_done r ≡ true) rs1
    → (m1 ≡ m2) × (rs1 ≡ rs2)
same_calls kind limits m m1 m2 [] [] [] limited free done = (limited ∙ sym free, refl)
same_calls kind limits m m1 m2 [] [] (r2 ∷ rs2) limited free done = absurd free
same_calls kind limits m m1 m2 [] (r1 ∷ rs1) rs2 limited free done = absurd limited
same_calls kind limits m m1 m2 (call ∷ calls) [] rs2 limited free done = absurd limited
same_calls kind limits m m1 m2 (call ∷ calls) (r1 ∷ rs1) [] limited free done = absurd free
same_calls kind limits m m1 m2 (call ∷ calls) (r1 ∷ rs1) (r2 ∷ rs2) limited free done =
    let one = same_call kind limits m limited.0 free.0 call r1 r2 limited.1.0 free.1.0 done.0 in
    let rest = same_calls kind (one_call_more limits) limited.0 m1 m2 calls rs1 rs2 limited.1.1 (subst (λ (next : List Range). CallsLeadTo kind None next calls m2 rs2) (sym one.0) free.1.1) done.1 in
    (rest.0, λ i. one.1 i ∷ rest.1 i)
