-- What a list of ranges represents: the kind of its tree, and its ranges in rising order.
use Rattle.std.specs.Prelude.{List}
use Rattle.mt_base.specs.declared.kinds.Kind.{Kind}
use Rattle.mt_base.specs.declared.ranges.Range.{Range}

pub record Contents : Type 0 where
  pub kind : Kind
  pub ranges : List Range
