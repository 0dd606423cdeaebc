use Rattle.mt_bulk.proofs.Prelude.{◌≡◌, ◌+◌, ◌-◌, ℕ, List, [], ◌∷◌, ◌++◌, drop, sym, ap, ◌∙◌, arith, append_assoc, cut, ends_from, inner_size, inner_count}
use Rattle.mt_bulk.proofs.Ends.{ends_onward, count_within}
use Rattle.mt_bulk.proofs.levels.inner_ends.Goals as goal

pub loop-at-preserved : goal.loop-at-preserved
loop-at-preserved c =
    let most = c.args.most in
    let count = c.args.count in
    let at = c.loop-at.at in
    let ends = c.loop-at.ends.items in
    let k = c.inner_count-at.result in
    let size : k ≡ inner_count most (count - at) = c.inner_count-at.ensures in
    let pushed : c.push.new.self.items ≡ ends ++ (at + k) ∷ [] = c.in_ok-push.ensures.items in
    let inside = count_within most c.requires.two count at c.loop-at-test.true in
    let high = inside.1 in
    record {
      told = λ items long.
          ap (λ (l : List ℕ). l ++ ends_from (at + k) (cut (inner_size most) (drop (at + k) items))) pushed
          ∙ (append_assoc ends ((at + k) ∷ []) (ends_from (at + k) (cut (inner_size most) (drop (at + k) items)))
          ∙ (ap (λ (l : List ℕ). ends ++ l) (sym (ends_onward most c.requires.two items count at k long c.loop-at-test.true size)) ∙ c.loop-at.invariant.told items long));
      inside = omega arith;
    }
