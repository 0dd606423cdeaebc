use Rattle.std.specs.Prelude.{fold}
use Rattle.mt_layout.proofs.Prelude.{rules, ◌≡◌, ◌∙◌, ℕ, max, Item}
use Rattle.mt_layout.proofs.GreatestGap.{greatest_by_fold}
use Rattle.mt_layout.proofs.items.greatest_gap.Goals as goal

pub returns : goal.returns
returns c =
    let folded : c.fold.result ≡ fold (λ (gap : ℕ) (x : Item). max gap x.gap) 0 c.args.items.now = search rules in
    folded ∙ greatest_by_fold c.args.items.now
