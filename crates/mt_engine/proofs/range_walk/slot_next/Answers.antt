use Rattle.mt_engine.proofs.Prelude.{◌≢◌, Option, sym, subst, IfSome, Handle, ReadsUpTo, IsHereIf}
use Rattle.mt_engine.proofs.Walking.{none_here, next_within, last_is, here_behind, here_at, none_read}
use Rattle.mt_engine.proofs.range_walk.slot_next.Goals as goal

pub returns-in_err-index-clause-here : goal.returns-in_err-index-clause-here
returns-in_err-index-clause-here g c =
    subst (IsHereIf (g.R.Rows.sheet c.args.rows.now).tree c.args.walk.now.next) (sym c.from_residual.ensures) (none_here _ c.requires.tree.0 c.requires.tree.1 c.args.walk.now c.requires.walk c.in_err-index.was)

pub behind-requires-clause-here : goal.behind-requires-clause-here
behind-requires-clause-here g c = last_is _ c.requires.tree.0 c.requires.tree.1 c.args.walk.now c.requires.walk c.in-Some.last c.in-Some.is

pub handle_at-requires-clause-index : goal.handle_at-requires-clause-index
handle_at-requires-clause-index g c = next_within _ c.requires.tree.0 c.requires.tree.1 c.args.walk.now c.requires.walk c.in_ok-index.index c.in_ok-index.was

pub returns-in-Some-clause-here : goal.returns-in-Some-clause-here
returns-in-Some-clause-here g c =
    here_behind _ c.requires.tree.0 c.requires.tree.1 c.args.walk.now c.requires.walk c.in-Some.last c.in_ok-index.index c.behind.result c.in-Some.is c.in_ok-index.was c.behind.ensures.none c.behind.ensures.some

pub returns-in-None-clause-here : goal.returns-in-None-clause-here
returns-in-None-clause-here g c =
    here_at _ c.requires.tree.0 c.requires.tree.1 c.args.walk.now c.requires.walk c.in_ok-index.index c.handle_at.result c.in_ok-index.was c.handle_at.ensures.none c.handle_at.ensures.some

pub returns-in_err-index-clause-near : goal.returns-in_err-index-clause-near
returns-in_err-index-clause-near g c = none_read c.args.walk.now (g.R.Rows.sheet c.args.rows.now)

pub returns-in-Some-clause-near : goal.returns-in-Some-clause-near
returns-in-Some-clause-near g c =
    subst (λ (o : Option Handle). IfSome o (λ given. given.span.last ≢ given.leaf.max → ReadsUpTo 2 (g.R.Rows.sheet c.args.rows.now) (g.R.Rows.sheet c.behind.new.rows))) (sym c.in-Some.is) c.behind.ensures.near

pub returns-in-None-clause-near : goal.returns-in-None-clause-near
returns-in-None-clause-near g c =
    subst (λ (o : Option Handle). IfSome o (λ given. given.span.last ≢ given.leaf.max → ReadsUpTo 2 (g.R.Rows.sheet c.args.rows.now) (g.R.Rows.sheet c.handle_at.new.rows))) (sym c.in-None.is) tt
