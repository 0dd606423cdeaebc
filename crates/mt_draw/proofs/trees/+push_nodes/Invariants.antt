use Rattle.mt_draw.proofs.Prelude.{◌≡◌, ◌-◌, ◌+◌, ◌++◌, take, flat_map, nodes_of}
use Rattle.mt_draw.proofs.trees.+push_nodes.Given as goal

abbrev pub decreases-push_nodes : goal.decreases-push_nodes
decreases-push_nodes l = l.levels

abbrev pub invariant-loop-child : goal.invariant-loop-child
invariant-loop-child l = l.nodes.items ≡ l.initial.nodes.items ++ flat_map (nodes_of (record { width = l.width; words = l.words }) (l.levels - 1) (l.depth + 1)) (take l.child-index l.child-items)
