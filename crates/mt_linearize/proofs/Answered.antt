-- What a call on a map comes to in the history of its tree, where nobody else holds rows.
use Rattle.mt_linearize.proofs.Prelude.{◌≡◌, ◌↔◌, ℕ, ◌+◌, ◌/◌, ◌<◌, true, List, [], ◌∷◌, Option, Some, None, IsSome, length, arith, refl, sym, ◌∙◌, subst, inl, inr, length-append, fold-append, Range, Call, Holder, Reply, Shortage, acted, History, Record, last_map, map_after, Limits, IsMade, IsRefused, IsShort, one_call_more, was_acted, still_short, AreLimits, MayLimit, IsNext, with_call}

abbrev record_of : ℕ → Call → Reply → Record
record_of pass call r = record { pass = pass; call = call; reply = r }

-- the map after one more call
last_more : (h : History) (r : Record) → last_map (with_call h r) ≡ map_after h.kind (last_map h) r
last_more h r = fold-append (map_after h.kind) h.opening h.records (r ∷ [])

pub done_is_next : (h : History) (pass : ℕ) (call : Call) (after : List Range) (r : Reply) → acted h.kind (last_map h) call ≡ (after, r) → IsNext h (record_of pass call r) after
done_is_next h pass call after r is =
    let one : Record = record_of pass call r in
    let did = was_acted h.kind (last_map h) one after is in
    record { answered = inl did.answered; moved = sym did.moved ∙ sym (last_more h one); unheld = did.unheld }

nobody_holds : (by : Option Holder) (held : ℕ) → held ≡ 0 → (IsSome by ↔ (0 < held)) → by ≡ None
nobody_holds None held none holder = refl
nobody_holds (Some h) held none holder = absurd (omega (arith, none, holder.0 refl))

refused_is_next : (h : History) (l : Limits) (pass : ℕ) (call : Call) (after : List Range) (r : Reply) → AreLimits h l → IsRefused h.kind l (last_map h) call r → after ≡ last_map h → IsNext h (record_of pass call r) after
refused_is_next h l pass call after r limits refused kept =
    let s : Shortage = refused.shortage in
    let n : ℕ = length h.records in
    let most : ℕ = length h.opening / 2 + 2 in
    let short : IsShort (record { rows = l.rows; opened = most; ended = n; may_hold = true }) (last_map h) s = still_short l.rows l.opened most l.ended n l.may_hold (last_map h) s limits.opened limits.ended refused.short in
    let moves : map_after h.kind (last_map h) (record_of pass call r) ≡ last_map h = rw refused.told refl in
    record {
      answered = inr (record { shortage = s; told = refused.told; wants = refused.wants; short = subst (λ (k : ℕ). IsShort (record { rows = k; opened = most; ended = n; may_hold = true }) (last_map h) s) limits.rows short });
      moved = kept ∙ (sym moves ∙ sym (last_more h (record_of pass call r)));
      unheld = rw refused.told (nobody_holds s.by s.held (refused.short.unheld limits.alone) refused.short.holder);
    }

pub made_is_next : (h : History) (limits : Option Limits) (pass : ℕ) (call : Call) (after : List Range) (r : Reply) → MayLimit h limits → IsMade h.kind limits (last_map h) call after r → IsNext h (record_of pass call r) after
made_is_next h limits pass call after r may (inl is) = done_is_next h pass call after r is
made_is_next h None pass call after r may (inr refused) = absurd refused.0
made_is_next h (Some l) pass call after r may (inr refused) = refused_is_next h l pass call after r may refused.0 refused.1

-- the limits after the call
pub limits_next : (h : History) (limits : Option Limits) (r : Record) → MayLimit h limits → MayLimit (with_call h r) (one_call_more limits)
limits_next h None r may = tt
limits_next h (Some l) r may = record { rows = may.rows; opened = may.opened; ended = omega (arith, may.ended, length-append h.records (r ∷ [])); alone = may.alone }
