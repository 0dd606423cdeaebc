-- What a tree that one thread at a time uses represents. Source: this project's own.
use Rattle.std.specs.Prelude.{◌≡◌, false, IfSome, length}
use Rattle.mt_c.specs.Prelude.{RangeWalk, Parts, WalksFrom, map_by}
use Rattle.mt_c.specs.declared.own_tree.OwnTree.TheInside.{Inside}

-- what its engine represents, and the place of the last walk there
pub record OwnTree : Type 0 where
  pub engine : Parts
  pub place : RangeWalk

abbrev pub own_of : Inside → OwnTree
own_of t = record { engine = t.engine; place = t.place }

-- its kind is given, and its calls are counted; the walk is one of the tree as it is; so many ranges are there, if that is known;
-- and no other reads the nodes
pub record IsOwnTree (t : Inside) : Type 0 where
  pub told : t.kind ≡ t.engine.kind
  pub counted : t.calls ≡ t.engine.sheet.ended
  pub walks : WalksFrom t.engine.sheet.tree t.place
  pub alone : t.engine.sheet.shared ≡ false
  pub ranges : IfSome t.ranges (λ n. n ≡ length (map_by t.engine.sheet.tree))
