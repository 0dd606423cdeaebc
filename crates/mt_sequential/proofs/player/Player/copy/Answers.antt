use Rattle.mt_sequential.proofs.Prelude.{◌≡◌, ◌<◌, List, [], ◌∷◌, ◌++◌, length, ap, sym, ◌∙◌, subst, slice_get, TreeState, PlayerState, with_entry}
use Rattle.mt_log.specs.declared.transcripts.Said.TheVariants as said
use Rattle.mt_sequential.proofs.Removed.{get_of}
use Rattle.mt_sequential.proofs.player.Player.copy.Goals as goal

pub returns-clause-copies : goal.returns-clause-copies
returns-clause-copies g c =
    let trees : List TreeState = c.self.inside.trees.items in
    let same : trees ≡ c.args.self.now.trees = ap (λ (p : PlayerState). p.trees) c.self.view_is in
    let within : c.args.from < length trees = subst (λ (ts : List TreeState). c.args.from < length ts) (sym same) c.requires in
    let t : TreeState = c.index-tree.result.now in
    record {
      source = t;
      copy = c.in_ok-copy.copy;
      from_is = ap (λ (ts : List TreeState). slice_get ts c.args.from) (sym same) ∙ get_of trees c.args.from t within c.index-tree.ensures;
      declared = c.in_ok-copy.ensures;
      trees = c.in_ok-push.ensures.items ∙ ap (λ (ts : List TreeState). ts ++ c.in_ok-copy.copy ∷ []) same;
      told = c.in_ok-push-2.ensures.items ∙ ((λ i. c.self.inside.entries.items ++ record { line = c.args.line; said = said.Copied (c.size-count.ensures i) } ∷ []) ∙ ap (λ (p : PlayerState). with_entry p c.args.line (said.Copied (length t.map.ranges))) c.self.view_is);
    }
