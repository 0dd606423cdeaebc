use Rattle.mt_verify.proofs.WholeTrees.{AllGo}
use Rattle.mt_verify.proofs.trees.go_through.Given as goal

abbrev pub invariant-loop-i : goal.invariant-loop-i
invariant-loop-i l =
    AllGo l.version l.rows l.noted (record { map = l.fn.map; lanes = l.fn.tracks; stops = l.fn.stops }) l.i (record { map = l.map; lanes = l.tracks; stops = l.stops })
