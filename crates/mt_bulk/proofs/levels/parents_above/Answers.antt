use Rattle.mt_bulk.proofs.Prelude.{◌≡◌, ◌+◌, ◌-◌, ℕ, List, ◌++◌, map, drop, sym, ap, ◌∙◌, arith, append_assoc, range_with_len, parent_at, parents_in, cut, inner_size, inner_count}
use Rattle.mt_bulk.proofs.Ends.{parents_onward, count_within}
use Rattle.mt_bulk.proofs.levels.parents_above.Goals as goal

pub loop-at-preserved : goal.loop-at-preserved
loop-at-preserved c =
    let most = c.args.most in
    let count = c.args.count in
    let at = c.loop-at.at in
    let row = c.loop-at.row in
    let old = c.loop-at.parents.items in
    let k = c.inner_count-size.result in
    let size : k ≡ inner_count most (count - at) = c.inner_count-size.ensures in
    let pushed : c.push_parents.new.parents.items ≡ old ++ map (parent_at row) (range_with_len 0 k) = c.in_ok-push_parents.ensures in
    let inside = count_within most c.requires.two count at c.loop-at-test.true in
    let low = inside.0 in
    let high = inside.1 in
    record {
      told = λ items long.
          ap (λ (l : List ℕ). l ++ parents_in (row + 1) (cut (inner_size most) (drop (at + k) items))) pushed
          ∙ (append_assoc old (map (parent_at row) (range_with_len 0 k)) (parents_in (row + 1) (cut (inner_size most) (drop (at + k) items)))
          ∙ (ap (λ (l : List ℕ). old ++ l) (sym (parents_onward most c.requires.two items count at k row long c.loop-at-test.true size)) ∙ c.loop-at.invariant.told items long));
      inside = omega arith;
      named = omega (arith, c.loop-at.invariant.named);
    }
