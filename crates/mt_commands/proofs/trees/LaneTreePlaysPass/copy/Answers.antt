use Rattle.mt_commands.proofs.Prelude.{ℕ, Err, map, sym, ap, ◌∙◌, subst, arith, Kind, IsNewTree, limit_of, opened, pass_in}
use Rattle.mt_replay.specs.Trees.{map_seen}
use Rattle.mt_commands.proofs.Lanes.{many, new_tree}
use Rattle.mt_commands.proofs.trees.LaneTreePlaysPass.copy.Goals as goal

pub unreachable-requires : goal.unreachable-requires
unreachable-requires g c =
    let bad = (c.duplicated.ensures.bad c.in-Err-BadShape.field-0-0).0 (c.in-Err-BadShape.is ∙ ap Err c.in-Err-BadShape.field-0-is) in
    absurd (let clash = sym c.shape.ensures.in_range ∙ bad in cc)

pub unreachable-requires-in-Err-NoNodes : goal.unreachable-requires-in-Err-NoNodes
unreachable-requires-in-Err-NoNodes g c =
    let few = c.duplicated.ensures.enough c.in-Err-NoNodes.field-0-0 c.in-Err-NoNodes.field-0-1 (c.in-Err-NoNodes.is ∙ ap Err c.in-Err-NoNodes.field-0-is) in
    omega (arith, few, c.shape.ensures.rows)

pub returns-in-Ok-clause-new : goal.returns-in-Ok-clause-new
returns-in-Ok-clause-new g c =
    let t = c.args.self.now.tree in
    let calls = c.shape.ensures.calls ∙ c.args.self.now.calls in
    let new = new_tree c.shape.result (map_seen (record { history = opened t; most = limit_of t }) (pass_in c.duplicated.new.pass)) c.in-Ok.tree c.in-Ok.passes.items c.in-Ok.ensures.new calls in
    subst (λ (s : Kind × (ℕ × ℕ)). IsNewTree s.0 s.1.0 (map_seen (record { history = opened t; most = limit_of t }) (pass_in c.duplicated.new.pass)) s.1.1 (record { history = opened c.in-Ok.tree; most = limit_of c.in-Ok.tree }) (map pass_in c.in-Ok.passes.items)) (λ i. (c.shape.ensures.kind i, (c.shape.ensures.rows i, c.shape.ensures.passes i))) new

pub returns-in-Ok-clause-all : goal.returns-in-Ok-clause-all
returns-in-Ok-clause-all g c =
    let new = c.in-Ok.ensures.new in
    record { count = new.all.count ∙ (many _ _ _ _ new ∙ c.shape.ensures.passes); of = new.all.of; numbered = new.all.numbered }

pub returns-in-Ok-clause-many : goal.returns-in-Ok-clause-many
returns-in-Ok-clause-many g c = many _ _ _ _ c.in-Ok.ensures.new ∙ c.shape.ensures.passes
