-- The longest hole between ranges, one range after another.
use Rattle.mt_shelves.proofs.Prelude.{◌≡◌, ℕ, ◌+◌, ◌-◌, ◌<◌, ◌≤◌, List, ◌∷◌, ◌++◌, length, drop, get_or, nat_lt, sym, subst, arith, cond_both, ltb-true, drop_more, Range, Hole, IsMapFrom, AreHolesUpTo, holes_after}

-- so far: the ranges from a place on are above this index, and holes are no longer than some length where those behind are not
pub record IsLongest (ranges : List Range) (index at last longest : ℕ) : Type 0 where
  pub above : IsMapFrom (last + 1) (drop at ranges)
  pub holes : (room : ℕ) → longest ≤ room → AreHolesUpTo room (holes_after (last + 1) (drop at ranges)) → AreHolesUpTo room (holes_after (index + 1) ranges)

holes_more : (room low : ℕ) (r : Range) (m : List Range) → r.first ≤ low + room → AreHolesUpTo room (holes_after (r.last + 1) m) → AreHolesUpTo room (holes_after low (r ∷ m))
holes_more room low r m near behind =
    cond_both (nat_lt low r.first) _ _ (λ (hole : List Hole). AreHolesUpTo room (hole ++ holes_after (r.last + 1) m))
    (λ some. (omega (arith, near, ltb-true low r.first some), behind))
    (λ none. behind)

pub longest_more : (ranges : List Range) (index at last longest new : ℕ) (d : Range) → at < length ranges → IsLongest ranges index at last longest → longest ≤ new → (get_or ranges at d).first - last - 1 ≤ new → IsLongest ranges index (at + 1) (get_or ranges at d).last new
longest_more ranges index at last longest new d within so rise long =
    let next : drop at ranges ≡ get_or ranges at d ∷ drop (at + 1) ranges = drop_more ranges at d within in
    let above : IsMapFrom (last + 1) (get_or ranges at d ∷ drop (at + 1) ranges) = subst (IsMapFrom (last + 1)) next so.above in
    record {
      above = above.3;
      holes = λ room most behind.
          so.holes room (omega (arith, rise, most)) (subst (λ (m : List Range). AreHolesUpTo room (holes_after (last + 1) m)) (sym next) (holes_more room (last + 1) (get_or ranges at d) (drop (at + 1) ranges) (omega (arith, long, most)) behind));
    }
