-- A tree of nodes, as its player knows it.
use Rattle.mt_commands.proofs.Prelude.{◌≡◌, ℕ, zero, suc, ◌+◌, ◌<◌, ◌≤◌, ◌⊎◌, List, length, map, Option, None, Some, refl, sym, ap, subst, ◌∙◌, inl, inr, arith, range_with_len, length-map, le-leb, Range, new_pass, most_rows, IsNewTree, player_passes, Shape, Tree, first_bad, IsNew, Pass, limit_of, opened, pass_in, passes_of, most_calls, Result, Err, IfOk, IfErr, Call, Done, Wrote, Saw, IsWorn, fewest_rows, most_passes}
use Rattle.std.proofs.lemmas.Result.{IfErr-weaker, IfOk-weaker}
use Rattle.mt_base.specs.Passes as known
use Rattle.mt_base.specs.declared.outcomes.Worn.{Worn as TreeWorn}
use Rattle.mt_tree.proofs.Looking.{looked_few}
use Rattle.mt_tree.specs.Copies.{WasCounted}
use Rattle.mt_tree.specs.Looks.{IsCopyLooked}
use Rattle.mt_tree.specs.declared.receipts.Look.{Look}
use Rattle.mt_tree.specs.declared.shapes.DupError.{DupError}
use Rattle.mt_tree.specs.declared.shapes.DupError.TheVariants as errors

-- a player's tree is in range
pub in_range : (s : Shape) → fewest_rows ≤ s.rows → s.rows ≤ most_rows → 1 ≤ s.passes → s.passes ≤ player_passes → s.calls ≡ most_calls → first_bad s ≡ None
in_range s a b c d e =
    let few : s.passes ≤ most_passes = omega (arith, d) in
    let some : 1 ≤ s.calls = omega (arith, e) in
    let within : s.calls ≤ most_calls = omega (arith, e) in
    rw (le-leb 4 s.rows a, le-leb s.rows most_rows b, le-leb 1 s.passes c, le-leb s.passes most_passes few, le-leb 1 s.calls some, le-leb s.calls most_calls within) refl

length_range : (a n : ℕ) → length (range_with_len a n) ≡ n
length_range a zero = refl
length_range a (suc n) = ap suc (length_range (a + 1) n)

module _ (shape : Shape) (opening : List Range) (t : Tree) (ps : List Pass) (new : IsNew shape opening t ps) where
  -- it has as many passes as it was to have
  pub many : passes_of t ≡ shape.passes
  many = sym new.all.count ∙ (sym (length-map ps pass_in) ∙ (ap length new.passes ∙ (length-map (range_with_len 0 shape.passes) new_pass ∙ length_range 0 shape.passes)))

  -- it is new
  pub new_tree : shape.calls ≡ most_calls → IsNewTree shape.kind shape.rows opening shape.passes (record { history = opened t; most = limit_of t }) (map pass_in ps)
  new_tree calls = record { history = new.tree; most = new.calls ∙ calls; passes_are = new.passes }

module _ (t : Tree) (p q : known.Pass) (call : Call) (made : Result Done TreeWorn) where
  -- a lane is told of its call as the tree tells of it
  pub made_so : IfOk made (λ (d : Done). Wrote (opened t) p d.call call d.reply q × (d.call ≤ limit_of t)) → IfOk made (λ (d : Done). Wrote (opened t) p d.call call d.reply q)
  made_so = IfOk-weaker made (λ (d : Done). Wrote (opened t) p d.call call d.reply q × (d.call ≤ limit_of t)) (λ (d : Done). Wrote (opened t) p d.call call d.reply q) (λ d wrote. wrote.0)

  -- and so of a tree that takes no more
  pub worn_so : IfErr made (λ (w : TreeWorn). IsWorn t p w q) → IfErr made (λ (w : TreeWorn). Saw (opened t) p q × (length q.seen ≡ limit_of t))
  worn_so = IfErr-weaker made (λ (w : TreeWorn). IsWorn t p w q) (λ (w : TreeWorn). Saw (opened t) p q × (length q.seen ≡ limit_of t)) (λ w worn. (worn.saw, worn.all))

-- ---- a copy of it

module _ {X : Type 0} (t : Tree) (p q : Pass) (shape : Shape) (made : Result X DupError) where
  -- the pass has seen the whole history, or nothing was looked at
  pub looked_or_not : (look : Option Look) → IsCopyLooked t p q shape made look → (pass_in q ≡ pass_in p) ⊎ Saw (opened t) (pass_in p) (pass_in q)
  looked_or_not None looked = inl (ap pass_in looked.0)
  looked_or_not (Some look) looked = inr looked.2

  -- only one of fewer rows than the tree has is refused for want of rows
  pub few_wanted : (look : Option Look) → IsCopyLooked t p q shape made look → (told live : ℕ) → made ≡ Err (errors.NoNodes told live) → shape.rows < (opened t).rows
  few_wanted None looked told live is = absurd (looked.1 (subst (λ (r : Result X DupError). WasCounted r) (sym is) tt))
  few_wanted (Some look) looked told live is =
      let short = (looked.4.few told live is).2 in
      let within = looked_few t (pass_in q) look looked.3 in
      omega (arith, short, within)
