-- Histories of the same calls, of which the same were refused for want of rows, go through the same maps.
use Rattle.mt_verify.proofs.Prelude.{◌≡◌, ℕ, zero, suc, true, false, List, [], ◌∷◌, take, refl, sym, ap, ◌∙◌, inl, inr, fold, cases_Bool, Range, Kind, Call, Reply, NoNodes, acted, Record, History, map_after, map_at, map_by_reply, is_nomem, GoAlike}

pub stays : (r : Reply) (before after : List Range) → is_nomem r ≡ true → map_by_reply r before after ≡ before
stays (NoNodes shortage) before after is = refl
stays r before after is = absurd (cc)

pub goes : (r : Reply) (before after : List Range) → is_nomem r ≡ false → map_by_reply r before after ≡ after
goes (NoNodes shortage) before after is = absurd (cc)
goes r before after is = refl

pub same_step : (kind : Kind) (m : List Range) (r s : Record) → r.call ≡ s.call → is_nomem r.reply ≡ is_nomem s.reply → map_after kind m r ≡ map_after kind m s
same_step kind m r s call told =
    let made : (acted kind m r.call).0 ≡ (acted kind m s.call).0 = ap (λ (c : Call). (acted kind m c).0) call in
    elim (cases_Bool (is_nomem s.reply)) [
      | inl refused ↦ stays r.reply m (acted kind m r.call).0 (told ∙ refused) ∙ sym (stays s.reply m (acted kind m s.call).0 refused)
      | inr done ↦ goes r.reply m (acted kind m r.call).0 (told ∙ done) ∙ (made ∙ sym (goes s.reply m (acted kind m s.call).0 done))
    ]

same_maps : (kind : Kind) (m : List Range) (records others : List Record) → GoAlike records others → fold (map_after kind) m records ≡ fold (map_after kind) m others
same_maps kind m [] [] alike = refl
same_maps kind m [] (s ∷ others) alike = absurd alike
same_maps kind m (r ∷ records) [] alike = absurd alike
same_maps kind m (r ∷ records) (s ∷ others) alike =
    ap (λ (x : List Range). fold (map_after kind) x records) (same_step kind m r s alike.0 alike.1) ∙ same_maps kind (map_after kind m s) records others alike.2

alike_take : (k : ℕ) (records others : List Record) → GoAlike records others → GoAlike (take k records) (take k others)
alike_take zero records others alike = tt
alike_take (suc k) [] [] alike = tt
alike_take (suc k) [] (s ∷ others) alike = absurd alike
alike_take (suc k) (r ∷ records) [] alike = absurd alike
alike_take (suc k) (r ∷ records) (s ∷ others) alike = (alike.0, alike.1, alike_take k records others alike.2)

pub same_map_at : (h g : History) (k : ℕ) → h.kind ≡ g.kind → h.opening ≡ g.opening → GoAlike h.records g.records → map_at h k ≡ map_at g k
same_map_at h g k kind opening alike =
    same_maps h.kind h.opening (take k h.records) (take k g.records) (alike_take k h.records g.records alike)
    ∙ (ap (λ (x : List Range). fold (map_after h.kind) x (take k g.records)) opening ∙ ap (λ (x : Kind). fold (map_after x) g.opening (take k g.records)) kind)
