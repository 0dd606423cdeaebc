use Rattle.mt_bulk.proofs.Prelude.{◌≡◌, ◌+◌, ℕ, List, [], ◌∷◌, ◌++◌, drop, sym, ap, ◌∙◌, arith, append_assoc, take_rest, cut, ends_from, leaf_size}
use Rattle.mt_bulk.proofs.Ends.{leaf_within, next_leaf_end}
use Rattle.mt_bulk.proofs.cuts.leaf_ends.Goals as goal

pub loop-at-preserved : goal.loop-at-preserved
loop-at-preserved c =
    let items = c.args.items.now in
    let most = c.args.most in
    let at = c.loop-at.at in
    let ends = c.loop-at.ends.items in
    let k = c.first_leaf-at.result in
    let rest : ℕ → List ℕ = λ n. ends_from n (cut (leaf_size most) (drop n items)) in
    let size : k ≡ leaf_size most (drop at items) = c.first_leaf-at.ensures ∙ ap (leaf_size most) (take_rest items at) in
    let pushed : c.push.new.self.items ≡ ends ++ (at + k) ∷ [] = c.in_ok-push.ensures.items in
    let next : at + leaf_size most (drop at items) ≡ at + k = ap (λ (n : ℕ). at + n) (sym size) in
    let more : rest at ≡ (at + k) ∷ rest (at + k) = next_leaf_end most c.requires.most items at c.loop-at-test.true c.requires.apart ∙ (λ i. next i ∷ rest (next i)) in
    let inside = leaf_within most c.requires.most items at c.loop-at-test.true c.requires.apart in
    let high = inside.1 in
    record {
      told = ap (λ (l : List ℕ). l ++ rest (at + k)) pushed ∙ (append_assoc ends ((at + k) ∷ []) (rest (at + k)) ∙ (ap (λ (l : List ℕ). ends ++ l) (sym more) ∙ c.loop-at.invariant.told));
      inside = omega arith;
    }
