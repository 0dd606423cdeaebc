-- What a batch of reads comes to in worked cases.
use Rattle.mt_read.proofs.Prelude.{◌≡◌, ◌<◌, ℕ, zero, suc, ◌≤◌, List, [], ◌∷◌, Option, refl, sym, ap, ◌∙◌, arith, Range, Load, answer, AreEntries, AtStore, InMap, entry_in, entry_or_zero, map_with_seven, map}

pub quiet : (m : List Range) (from to : ℕ) (indexes entries : List ℕ) → AreEntries (InMap m) from indexes entries to → entries ≡ map (entry_in m) indexes
quiet m from to [] [] are = refl
quiet m from to [] (e ∷ entries) are = absurd are
quiet m from to (i ∷ indexes) [] are = absurd are
quiet m from to (i ∷ indexes) (e ∷ entries) are =
    let same = are.4 ∙ ap entry_or_zero are.3 in let rest = quiet m are.0 to indexes entries are.5 in λ j. same j ∷ rest j

pub goes_on : AreEntries AtStore 0 (5 ∷ 5 ∷ []) (0 ∷ 7 ∷ []) 1
goes_on = (0, answer (map_with_seven 0) (Load 5), omega arith, refl, refl, (1, answer (map_with_seven 1) (Load 5), omega arith, refl, refl, omega arith))

differ : (a b : ℕ) → a ≡ b → a < b → ⊥
differ a b same less = absurd (omega arith)

-- the second look-up is of no earlier version
back : (k k' : ℕ) (value value' : Option Range) → k ≤ k' → AtStore k (Load 5) value → AtStore k' (Load 5) value' → 7 ≡ entry_or_zero value → 0 ≡ entry_or_zero value' → ⊥
back zero k' value value' order at at' seven none = differ 0 7 (sym (seven ∙ ap entry_or_zero at)) (omega arith)
back (suc k) zero value value' order at at' seven none = absurd (omega arith)
back (suc k) (suc k') value value' order at at' seven none = differ 0 7 (none ∙ ap entry_or_zero at') (omega arith)

pub goes_back : AreEntries AtStore 0 (5 ∷ 5 ∷ []) (7 ∷ 0 ∷ []) 1 → ⊥
goes_back are = back are.0 are.5.0 are.1 are.5.1 are.5.2 are.3 are.5.3 are.4 are.5.4
