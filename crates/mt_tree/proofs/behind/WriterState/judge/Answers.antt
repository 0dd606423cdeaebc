use Rattle.mt_tree.proofs.Prelude.{◌≡◌, IfSome, length, map_by, subst, Behind}
use Rattle.mt_tree.proofs.behind.WriterState.judge.Goals as goal

pub inspect-requires-clause-may : goal.inspect-requires-clause-may
inspect-requires-clause-may c = subst (λ (b : Behind). IfSome c.self.inside.ranges (λ n. n ≡ length (map_by b.parts.sheet.tree))) c.self.view_is c.self.invariant.1
