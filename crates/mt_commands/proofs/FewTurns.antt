-- So many turns leave no more ranges than these, and the window as it was.
use Rattle.mt_commands.proofs.Prelude.{◌≡◌, ◌⊎◌, ℕ, zero, suc, ◌+◌, ◌^◌, ◌<◌, ◌≤◌, Bool, true, false, not, List, [], ◌∷◌, ◌++◌, Option, Some, None, length, filter, fold, refl, sym, ap, ◌∙◌, subst, inl, inr, arith, range_with_len, cond_both, fold-append, Kind, Erase, Range, erased, low, holding, holds, acted_is_map, over_is_map, Found, drawn, first_found, from_position, Draws, found_is_free, one_range_more, lies_in, IsFew, Turns, draws_behind, number_due, map_behind, map_without, new_turns, tallied, turn, turns, holes}
use Rattle.mt_base.specs.declared.kinds.Kind.TheVariants as kinds

-- ---- a draw

-- what is drawn was found by a search that ends where the window does
found_by : (first again : Option ℕ) (f : Found) → first_found first again ≡ Some f → (first ≡ Some f.at) ⊎ (again ≡ Some f.at)
found_by (Some s) again f found = let same : record { at = s; wrapped = false } ≡ f = cc in inl (ap (λ (g : Found). Some g.at) same)
found_by None (Some s) f found = let same : record { at = s; wrapped = true } ≡ f = cc in inr (ap (λ (g : Found). Some g.at) same)
found_by None None f found = absurd (cc)

position_by : (kind : Kind) (m : List Range) (hi s : ℕ) (at : Option ℕ) → from_position kind m hi at ≡ Some s → (lo : ℕ) × (low kind m 1 lo hi ≡ Some s)
position_by kind m hi s None found = absurd (cc)
position_by kind m hi s (Some n) found = (n, found)

searched : (kind : Kind) (m : List Range) (d : Draws) (f : Found) → drawn kind m d ≡ Some f → (lo : ℕ) × (low kind m 1 lo d.hi ≡ Some f.at)
searched kind m d f found = elim (found_by (from_position kind m d.hi d.at) (low kind m 1 d.lo d.hi) f found) [ inl first ↦ position_by kind m d.hi f.at d.at first | inr again ↦ (d.lo, again) ]

pub drawn_few : (m : List Range) (n entry : ℕ) (d : Draws) (o : Option Found) → d.hi < 2 ^ 64 → IsFew m n → drawn kinds.Alloc m d ≡ o → IsFew (map_behind entry m o) (n + 1)
drawn_few m n entry d None high is found = let some = is.few in record { map = is.map; few = omega arith }
drawn_few m n entry d (Some f) high is found =
    let at = searched kinds.Alloc m d f found in
    let free = found_is_free kinds.Alloc m at.0 d.hi f.at is.map at.1 in
    let within = (lies_in 1 at.0 d.hi f.at (holes kinds.Alloc m) at.1).1 in
    let some = is.few in
    record {
      map = over_is_map kinds.Alloc m f.at f.at entry (omega arith) (omega arith) is.map;
      few = omega (arith, one_range_more m f.at entry free);
    }

-- ---- a number given back

fewer_filtered : (p : Range → Bool) (m : List Range) → length (filter p m) ≤ length m
fewer_filtered p [] = omega arith
fewer_filtered p (r ∷ m) = let others = fewer_filtered p m in cond_both (p r) _ _ (λ (l : List Range). length l ≤ suc (length m)) (λ in_it. omega arith) (λ out. omega arith)

fewer_erased : (m : List Range) (index : ℕ) (o : Option Range) → length (erased m index o).0 ≤ length m
fewer_erased m index None = omega arith
fewer_erased m index (Some r) = fewer_filtered (λ q. not (holds index q)) m

pub without_few : (m : List Range) (n : ℕ) (o : Option ℕ) → IsFew m n → IsFew (map_without m o) n
without_few m n None is = is
without_few m n (Some s) is =
    let some = is.few in
    record { map = acted_is_map kinds.Alloc m (Erase s) is.map; few = omega (arith, fewer_erased m s (holding m s)) }

-- ---- turns

window_behind : (d : Draws) (o : Option Found) → (draws_behind d o).hi ≡ d.hi
window_behind d None = refl
window_behind d (Some f) = refl

record AreFew (hi n : ℕ) (t : Turns) : Type 0 where
  few : IsFew t.map n
  end : t.draws.hi ≡ hi

turned_few : (hi n drops k : ℕ) (t : Turns) → hi < 2 ^ 64 → AreFew hi n t → AreFew hi (n + 1) (turn drops t k)
turned_few hi n drops k t high is =
    let o = drawn kinds.Alloc t.map t.draws in
    let end = is.end in
    record {
      few = without_few (map_behind (4096 + k) t.map o) (n + 1) (number_due drops (tallied t.tally o).numbers) (drawn_few t.map n (4096 + k) t.draws o (omega arith) is.few refl);
      end = window_behind t.draws o ∙ end;
    }

range_more : (a n : ℕ) → range_with_len a (n + 1) ≡ range_with_len a n ++ (a + n) ∷ []
range_more a zero = let same : a ≡ a + zero = omega arith in ap (λ (k : ℕ). k ∷ []) same
range_more a (suc n) =
    let one : suc n + 1 ≡ suc (n + 1) = omega arith in
    let two : (a + 1) + n ≡ a + suc n = omega arith in
    ap (range_with_len a) one ∙ ap (λ (l : List ℕ). a ∷ l) (range_more (a + 1) n ∙ ap (λ (k : ℕ). range_with_len (a + 1) n ++ k ∷ []) two)

pub turns_more : (lo hi drops n : ℕ) → turns lo hi (n + 1) drops ≡ turn drops (turns lo hi n drops) (n + 1)
turns_more lo hi drops n =
    let same : 1 + n ≡ n + 1 = omega arith in
    ap (λ (l : List ℕ). fold (turn drops) (new_turns lo hi) l) (range_more 1 n) ∙ (fold-append (turn drops) (new_turns lo hi) (range_with_len 1 n) ((1 + n) ∷ []) ∙ ap (turn drops (turns lo hi n drops)) same)

all_few : (lo hi drops n : ℕ) → hi < 2 ^ 64 → AreFew hi n (turns lo hi n drops)
all_few lo hi drops zero high = record { few = record { map = record { rise = tt; within = tt }; few = omega arith }; end = refl }
all_few lo hi drops (suc n) high =
    let same : n + 1 ≡ suc n = omega arith in
    subst (λ (k : ℕ). AreFew hi k (turns lo hi k drops)) same (subst (AreFew hi (n + 1)) (sym (turns_more lo hi drops n)) (turned_few hi n drops (n + 1) (turns lo hi n drops) high (all_few lo hi drops n high)))

pub few_after : (lo hi drops n : ℕ) → hi < 2 ^ 64 → IsFew (turns lo hi n drops).map n
few_after lo hi drops n high = (all_few lo hi drops n high).few

pub window_after : (lo hi drops n : ℕ) → hi < 2 ^ 64 → (turns lo hi n drops).draws.hi ≡ hi
window_after lo hi drops n high = (all_few lo hi drops n high).end

pub few_ranges : (lo hi steps drops : ℕ) → hi < 2 ^ 64 → length (turns lo hi steps drops).map ≤ steps
few_ranges lo hi steps drops high = (few_after lo hi drops steps high).few
