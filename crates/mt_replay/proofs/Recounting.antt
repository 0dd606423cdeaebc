-- The ranges of trees as they were counted: so many they had after so many calls, whatever is called behind these.
use Rattle.mt_replay.proofs.Prelude.{◌≡◌, ℕ, zero, suc, List, [], ◌∷◌, ◌++◌, Some, length, slice_get, slice_set, arith, refl, sym, ap, ◌∙◌, subst, take_all, History, last_map, map_at, Begins, with_records, begins_long, Tracked, map_stays, same_some, AreCounts, IsCountOf}
use Rattle.mt_replay.specs.declared.counts.Counted.{Counted}

map_last : (h : History) → map_at h (length h.records) ≡ last_map h
map_last h = ap (λ rs. last_map (with_records h rs)) (take_all (length h.records) h.records (omega arith))

pub counted_now : (h : History) (c : Counted) → c.calls ≡ length h.records → c.ranges ≡ length (last_map h) → IsCountOf h c
counted_now h c calls ranges = record {
  calls = omega (arith, calls);
  ranges = ranges ∙ (ap length (sym (map_last h)) ∙ ap (λ (k : ℕ). length (map_at h k)) (sym calls));
}

pub count_stands : (h : History) (c : Counted) → IsCountOf h c → c.calls ≡ length h.records → c.ranges ≡ length (last_map h)
count_stands h c is calls = is.ranges ∙ (ap (λ (k : ℕ). length (map_at h k)) calls ∙ ap length (map_last h))

-- ---- of each tree one

pub counts_long : (ts : List Tracked) (cs : List Counted) → AreCounts ts cs → length cs ≡ length ts
counts_long [] [] are = refl
counts_long [] (c ∷ cs) are = absurd are
counts_long (t ∷ ts) [] are = absurd are
counts_long (t ∷ ts) (c ∷ cs) are = ap suc (counts_long ts cs are.1)

pub count_at : (ts : List Tracked) (cs : List Counted) (at : ℕ) (t : Tracked) (c : Counted) → AreCounts ts cs → slice_get ts at ≡ Some t → slice_get cs at ≡ Some c → IsCountOf t.history c
count_at [] [] at t c are there here = absurd (cc)
count_at [] (x ∷ cs) at t c are there here = absurd are
count_at (u ∷ ts) [] at t c are there here = absurd are
count_at (u ∷ ts) (x ∷ cs) zero t c are there here = subst (λ (z : Tracked). IsCountOf z.history c) (same_some u t there) (subst (IsCountOf u.history) (same_some x c here) are.0)
count_at (u ∷ ts) (x ∷ cs) (suc at) t c are there here = count_at ts cs at t c are.1 there here

pub counts_set : (ts : List Tracked) (cs : List Counted) (at : ℕ) (t : Tracked) (c : Counted) → AreCounts ts cs → slice_get ts at ≡ Some t → IsCountOf t.history c → AreCounts ts (slice_set cs at c)
counts_set [] [] at t c are there is = absurd (cc)
counts_set [] (x ∷ cs) at t c are there is = absurd are
counts_set (u ∷ ts) [] at t c are there is = absurd are
counts_set (u ∷ ts) (x ∷ cs) zero t c are there is = (subst (λ (z : Tracked). IsCountOf z.history c) (sym (same_some u t there)) is, are.1)
counts_set (u ∷ ts) (x ∷ cs) (suc at) t c are there is = (are.0, counts_set ts cs at t c are.1 there is)

pub counts_push : (ts : List Tracked) (cs : List Counted) (t : Tracked) (c : Counted) → AreCounts ts cs → IsCountOf t.history c → AreCounts (ts ++ t ∷ []) (cs ++ c ∷ [])
counts_push [] [] t c are is = (is, tt)
counts_push [] (x ∷ cs) t c are is = absurd are
counts_push (u ∷ ts) [] t c are is = absurd are
counts_push (u ∷ ts) (x ∷ cs) t c are is = (are.0, counts_push ts cs t c are.1 is)

-- a tree of which more calls were made
pub record HasGrown (t u : Tracked) : Type 0 where
  pub tree : u.history ≡ with_records t.history u.history.records
  pub begins : Begins t.history.records u.history.records

count_grows : (t u : Tracked) (c : Counted) → HasGrown t u → IsCountOf t.history c → IsCountOf u.history c
count_grows t u c grown is = subst (λ (h : History). IsCountOf h c) (sym grown.tree) (record {
  calls = omega (arith, is.calls, begins_long t.history.records u.history.records grown.begins);
  ranges = is.ranges ∙ ap length (sym (map_stays t.history u.history.records c.calls grown.begins is.calls));
})

pub counts_grow : (ts us : List Tracked) (cs : List Counted) → length us ≡ length ts → ((i : ℕ) (t u : Tracked) → slice_get ts i ≡ Some t → slice_get us i ≡ Some u → HasGrown t u) → AreCounts ts cs → AreCounts us cs
counts_grow [] [] cs long each are = are
counts_grow [] (u ∷ us) cs long each are = absurd (omega (arith, long))
counts_grow (t ∷ ts) [] cs long each are = absurd (omega (arith, long))
counts_grow (t ∷ ts) (u ∷ us) [] long each are = absurd are
counts_grow (t ∷ ts) (u ∷ us) (c ∷ cs) long each are = (count_grows t u c (each 0 t u refl refl) are.0, counts_grow ts us cs (omega (arith, long)) (λ i x y x_is y_is. each (suc i) x y x_is y_is) are.1)
