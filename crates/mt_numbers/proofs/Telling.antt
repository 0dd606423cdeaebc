-- What the reply of a call tells, which the map before it answered.
use Rattle.mt_numbers.proofs.Prelude.{Option, Some, None, take, fold, ◌≡◌, ℕ, ◌-◌, List, [], ◌∷◌, ◌++◌, length, inl, inr, refl, sym, ap, ◌∙◌, subst, arith, take-append_seam, Call, Erase, Kind, Range, Reply, acted, erased, placed, History, IsAnswered, IsLegal, Record, limits_after, map_after, map_at, holding, Limits, Pass, Wrote, with_records, last_is_answered, asking, lowest_free, number_taken, was_there, TellsLowest, TellsTaken, TAKEN}
use Rattle.mt_base.specs.declared.kinds.Kind.TheVariants as kinds

-- ---- the map before the last call

-- a call that a pass made was answered by the map before it
was_answered : (tree : History) (p q : Pass) (number : ℕ) (call : Call) (reply : Reply) → Wrote tree p number call reply q
    → IsAnswered tree.kind (limits_after tree (number - 1)) (map_at (with_records tree q.seen) (number - 1)) (record { pass = p.number; call = call; reply = reply })
was_answered tree p q number call reply w =
    let r : Record = record { pass = p.number; call = call; reply = reply } in
    let before : List Record = p.seen ++ w.others in
    let seen : q.seen ≡ before ++ r ∷ [] = ap (λ (s : Pass). s.seen) w.pass in
    let legal : IsLegal (with_records tree (before ++ r ∷ [])) = subst (λ (s : List Record). IsLegal (with_records tree s)) seen w.sound.legal in
    let last : number - 1 ≡ length before = omega (arith, w.last) in
    let firsts : take (number - 1) q.seen ≡ before = ap (λ (s : List Record). take (number - 1) s) seen ∙ ap (λ (n : ℕ). take n (before ++ r ∷ [])) last ∙ take-append_seam before (r ∷ []) in
    subst (λ (s : List Record). IsAnswered tree.kind (limits_after tree (number - 1)) (fold (map_after tree.kind) tree.opening s) r) (sym firsts)
    (last_is_answered (with_records tree (before ++ r ∷ [])) 0 (number - 1) tree.opening before r (omega arith) legal)

-- ---- a number that is asked for

lowest_tells : (l : Limits) (m : List Range) (o : Option ℕ) → lowest_free m ≡ o → TellsLowest l m (placed m 1 TAKEN o).1 (number_taken (placed m 1 TAKEN o).1)
lowest_tells l m None is = (is, refl)
lowest_tells l m (Some number) is = (is, refl)

asked_by : (l : Limits) (m : List Range) (kind : Kind) (r : Record) → kind ≡ kinds.Alloc → r.call ≡ asking → IsAnswered kind l m r → TellsLowest l m r.reply (number_taken r.reply)
asked_by l m kind r is same (inl answered) =
    let reply : r.reply ≡ (acted kinds.Alloc m asking).1 = answered ∙ ap (λ (k : Kind). (acted k m r.call).1) is ∙ ap (λ (call : Call). (acted kinds.Alloc m call).1) same in
    subst (λ (reply : Reply). TellsLowest l m reply (number_taken reply)) (sym reply) (lowest_tells l m (lowest_free m) refl)
asked_by l m kind r is same (inr refused) = subst (λ (reply : Reply). TellsLowest l m reply (number_taken reply)) (sym refused.told) (refused.short, refl)

pub asked_tells : (tree : History) (p q : Pass) (number : ℕ) (reply : Reply) → tree.kind ≡ kinds.Alloc → Wrote tree p number asking reply q → TellsLowest (limits_after tree (number - 1)) (map_at (with_records tree q.seen) (number - 1)) reply (number_taken reply)
asked_tells tree p q number reply kind w = asked_by _ _ tree.kind (record { pass = p.number; call = asking; reply = reply }) kind refl (was_answered tree p q number asking reply w)

-- ---- a number that is given back

held_tells : (l : Limits) (m : List Range) (number : ℕ) (o : Option Range) → holding m number ≡ o → TellsTaken number l m (erased m number o).1 (was_there (erased m number o).1)
held_tells l m number None is = (is, refl)
held_tells l m number (Some r) is = (is, refl)

gave_by : (l : Limits) (m : List Range) (kind : Kind) (number : ℕ) (r : Record) → r.call ≡ Erase number → IsAnswered kind l m r → TellsTaken number l m r.reply (was_there r.reply)
gave_by l m kind number r same (inl answered) =
    let reply : r.reply ≡ (erased m number (holding m number)).1 = answered ∙ ap (λ (call : Call). (acted kind m call).1) same in
    subst (λ (reply : Reply). TellsTaken number l m reply (was_there reply)) (sym reply) (held_tells l m number (holding m number) refl)
gave_by l m kind number r same (inr refused) = subst (λ (reply : Reply). TellsTaken number l m reply (was_there reply)) (sym refused.told) (refused.short, refl)

pub gave_tells : (tree : History) (p q : Pass) (number call : ℕ) (reply : Reply) → Wrote tree p call (Erase number) reply q → TellsTaken number (limits_after tree (call - 1)) (map_at (with_records tree q.seen) (call - 1)) reply (was_there reply)
gave_tells tree p q number call reply w = gave_by _ _ tree.kind number (record { pass = p.number; call = Erase number; reply = reply }) refl (was_answered tree p q call (Erase number) reply w)
