-- A plan that is drafted: the level of its top layer stands for the map.
use Rattle.mt_splice.proofs.Prelude.{◌≡◌, ℕ, suc, ◌+◌, ◌≤◌, List, [], ◌∷◌, ◌++◌, Bool, length, refl, sym, ◌∙◌, subst, arith, Span, tally, inner_of, Tree, kind_on, tally-append, MayBeCut, Seen, passing, Start, tree_with, AreHeld, Beside, Stand, Layer, depth_at, begin_at, new_at, old_at, level_of, IsLayer, IsPlanned, AreAllHeld, seen_at, newest_first, taken_by, gone_by, high_of}
use Rattle.mt_splice.proofs.Layers.{stand_leaves, stand_up}
use Rattle.mt_splice.proofs.Parts.{layer_is_new, AreNew}

-- laws on items ask for no words
pub run_now : {t : Tree} {h lo hi : ℕ} {run : List Span} (words : List ℕ) → MayBeCut t h lo hi run → MayBeCut (tree_with t words) h lo hi run
run_now words run = record { fills = run.fills; some = run.some; few = run.few; least = run.least; fit = run.fit; leaves = λ zero. let leaves = run.leaves zero in record { ends = leaves.ends; some = leaves.some } }

pub passing_seen : (p : ℕ → Span → Bool) (h : ℕ) (xs : List Span) → passing p (seen_at h xs) ≡ tally (p h) xs
passing_seen p h [] = refl
passing_seen p h (x ∷ xs) = let behind = passing_seen p h xs in omega arith

passing_newest : (p : ℕ → Span → Bool) (h : ℕ) (xs : List Span) → passing p (newest_first h xs) ≡ tally (p h) xs
passing_newest p h [] = refl
passing_newest p h (x ∷ xs) =
    let all = tally-append (λ (s : Seen). p s.height s.at) (newest_first h xs) (record { height = h; at = x } ∷ []) in let rest = passing_newest p h xs in
    omega arith

passing_taken : (p : ℕ → Span → Bool) (h : ℕ) (xs : List Span) (rest : List Seen) → passing p (newest_first h xs ++ rest) ≡ tally (p h) xs + passing p rest
passing_taken p h xs rest = let all = tally-append (λ (s : Seen). p s.height s.at) (newest_first h xs) rest in let one = passing_newest p h xs in omega arith

passing_behind : (p : ℕ → Span → Bool) (h : ℕ) (xs : List Span) (front : List Seen) → passing p (front ++ seen_at h xs) ≡ tally (p h) xs + passing p front
passing_behind p h xs front = let all = tally-append (λ (s : Seen). p s.height s.at) front (seen_at h xs) in let one = passing_seen p h xs in omega arith

recount : {start : Start} {words : List ℕ} {is_new : ℕ → Bool} {taken gone taken' gone' : (ℕ → Span → Bool) → ℕ} {d d' h : ℕ} {ys : List Span} → d ≡ d' → ((p : ℕ → Span → Bool) → taken p ≡ taken' p) → ((p : ℕ → Span → Bool) → gone p ≡ gone' p)
    → Stand start words is_new taken gone d h ys → Stand start words is_new taken' gone' d' h ys
recount {start} {words} {is_new} {taken} {gone} {taken'} {gone'} {d} {d'} {h} {ys} same more less s = subst (λ (d : ℕ). Stand start words is_new taken' gone' d h ys) same (record {
  fills = s.fills;
  rows = s.rows;
  ranges = s.ranges;
  fewest = s.fewest;
  count = λ p. let here = s.count p in let m = more p in let l = less p in omega arith;
  were = λ p. let here = s.were p in let l = less p in omega arith;
})

module _ {start : Start} {words : List ℕ} {is_new : ℕ → Bool} {top : ℕ} (b : Beside start words is_new top) where
  pub layer_new : (below : List Span) (h : ℕ) (l : Layer) → IsLayer start below h l → AreHeld (tree_with start.tree words) is_new (kind_on start.tree.gapped h) l.items 0 l.ends l.rows
      → AreNew start words is_new (begin_at start h l) (high_of start.tree (depth_at start h) l.to) h l.items (new_at start h l)
  layer_new below h l is are = layer_is_new start words is_new h (begin_at start h l) (high_of start.tree (depth_at start h) l.to) (kind_on start.tree.gapped h) (inner_of start.tree.gapped) l.items l.ends l.rows refl is.cut (run_now words is.cut) is.fewest is.many are

  pub planned_stands : (l : Layer) (lower : List Layer) → IsPlanned start (l ∷ lower) → AreAllHeld start words is_new (l ∷ lower) → top ≤ depth_at start (length lower)
      → Stand start words is_new (λ p. passing p (taken_by start (l ∷ lower))) (λ p. passing p (gone_by start (l ∷ lower))) (depth_at start (length lower)) (length lower) (level_of start (l ∷ lower))
  planned_stands l [] plan are high =
      recount refl
      (λ p. sym (passing_taken p 0 (new_at start 0 l) [] ∙ omega arith))
      (λ p. sym (passing_behind p 0 (old_at start 0 l) [] ∙ omega arith))
      (stand_leaves b plan.0.gathered (layer_new [] 0 l plan.0 are.0) high)
  planned_stands l (m ∷ lower) plan are high =
      let h = length lower in
      let low = plan.0.low in
      let deeper : depth_at start h ≡ suc (depth_at start (suc h)) = omega arith in
      let below = planned_stands m lower plan.1 are.1 (omega arith) in
      recount refl
      (λ p. sym (passing_taken p (suc h) (new_at start (suc h) l) (taken_by start (m ∷ lower))))
      (λ p. sym (passing_behind p (suc h) (old_at start (suc h) l) (gone_by start (m ∷ lower))))
      (stand_up b plan.0.gathered (layer_new (level_of start (m ∷ lower)) (suc h) l plan.0 are.0) high (recount deeper (λ p. refl) (λ p. refl) below))
