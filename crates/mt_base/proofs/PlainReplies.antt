-- A call that is acted makes the map what it says, is not refused for want of rows, and tells nobody to hold rows.
use Rattle.mt_base.proofs.Prelude.{◌≡◌, ℕ, ◌==◌, ◌||◌, List, Option, Some, None, refl, sym, ap, ◌∙◌, subst, cond_both, Range, Kind, Call, Store, StorePre, Insert, Erase, Alloc, Ralloc, Gap, Rgap, Clear, Reply, acted, erased, found, is_bad_area, is_invalid, is_no_area, placed, replied, high, low, Record, map_after, map_by_reply, first_met, holding, is_held, holder_of}
use Rattle.mt_base.specs.declared.replies.Reply.TheVariants as reply

-- the reply tells no shortage
abbrev pub IsPlain : Reply → Type 0
IsPlain (reply.NoNodes shortage) = ⊥
IsPlain r = Unit {0}

replied_plainly : (met : Option Range) → IsPlain (replied met)
replied_plainly None = tt
replied_plainly (Some r) = tt

erased_plainly : (m : List Range) (index : ℕ) (held : Option Range) → IsPlain (erased m index held).1
erased_plainly m index None = tt
erased_plainly m index (Some r) = tt

placed_plainly : (m : List Range) (size entry : ℕ) (start : Option ℕ) → IsPlain (placed m size entry start).1
placed_plainly m size entry None = tt
placed_plainly m size entry (Some start) = tt

found_plainly : (start : Option ℕ) → IsPlain (found start)
found_plainly None = tt
found_plainly (Some start) = tt

pub acted_plainly : (kind : Kind) (m : List Range) (call : Call) → IsPlain (acted kind m call).1
acted_plainly kind m (Store first last entry) =
    cond_both (is_invalid kind first last entry) _ _ (λ (after : List Range × Reply). IsPlain after.1) (λ invalid. tt) (λ valid. replied_plainly (first_met m first last))
acted_plainly kind m (StorePre first last entry) =
    cond_both (is_invalid kind first last entry) _ _ (λ (after : List Range × Reply). IsPlain after.1) (λ invalid. tt) (λ valid. replied_plainly (first_met m first last))
acted_plainly kind m (Insert first last entry) =
    cond_both (is_invalid kind first last entry || (entry == 0)) _ _ (λ (after : List Range × Reply). IsPlain after.1)
    (λ invalid. tt)
    (λ valid. cond_both (is_held m first last) _ _ (λ (after : List Range × Reply). IsPlain after.1) (λ held. tt) (λ free. tt))
acted_plainly kind m (Erase index) = erased_plainly m index (holding m index)
acted_plainly kind m (Alloc size lo hi entry) =
    cond_both (is_bad_area kind size lo hi entry) _ _ (λ (after : List Range × Reply). IsPlain after.1) (λ bad. tt) (λ good. placed_plainly m size entry (low kind m size lo hi))
acted_plainly kind m (Ralloc size lo hi entry) =
    cond_both (is_bad_area kind size lo hi entry) _ _ (λ (after : List Range × Reply). IsPlain after.1) (λ bad. tt) (λ good. placed_plainly m size entry (high kind m size lo hi))
acted_plainly kind m (Gap size lo hi) = cond_both (is_no_area kind size lo hi) _ _ IsPlain (λ bad. tt) (λ good. found_plainly (low kind m size lo hi))
acted_plainly kind m (Rgap size lo hi) = cond_both (is_no_area kind size lo hi) _ _ IsPlain (λ bad. tt) (λ good. found_plainly (high kind m size lo hi))
acted_plainly kind m Clear = tt

plain_moves : (r : Reply) (before after : List Range) → IsPlain r → map_by_reply r before after ≡ after
plain_moves (reply.NoNodes shortage) before after plain = absurd plain
plain_moves r before after plain = refl

plain_is_unheld : (r : Reply) → IsPlain r → holder_of r ≡ None
plain_is_unheld (reply.NoNodes shortage) plain = absurd plain
plain_is_unheld r plain = refl

pub record IsActed (kind : Kind) (m : List Range) (r : Record) (after : List Range) : Type 0 where
  pub answered : r.reply ≡ (acted kind m r.call).1
  pub moved : map_after kind m r ≡ after
  pub unheld : holder_of r.reply ≡ None

pub was_acted : (kind : Kind) (m : List Range) (r : Record) (after : List Range) → acted kind m r.call ≡ (after, r.reply) → IsActed kind m r after
was_acted kind m r after is =
    let said : (acted kind m r.call).1 ≡ r.reply = ap (λ (p : List Range × Reply). p.1) is in
    let moved : (acted kind m r.call).0 ≡ after = ap (λ (p : List Range × Reply). p.0) is in
    let plain : IsPlain r.reply = subst IsPlain said (acted_plainly kind m r.call) in
    record { answered = sym said; moved = plain_moves r.reply m (acted kind m r.call).0 plain ∙ moved; unheld = plain_is_unheld r.reply plain }
