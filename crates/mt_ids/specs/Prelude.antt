-- What the definitions beside this file take from the toolchain and from the crates below, under one name. Declares nothing.
pub use Rattle.mt_base.specs.Names.{IsAnswered, IsRefused, Limits, Record, finds_room, greatest_of, low, map_after, over, reserved}
pub use Rattle.mt_base.specs.declared.calls.Call.{Call}
pub use Rattle.mt_base.specs.declared.calls.Call.TheVariants.{Alloc}
pub use Rattle.mt_base.specs.declared.kinds.Kind.{Kind}
pub use Rattle.mt_base.specs.declared.ranges.Range.{Range}
pub use Rattle.mt_base.specs.declared.replies.Reply.{Reply}
pub use Rattle.mt_base.specs.declared.replies.Reply.TheVariants.{NoNodes}
pub use Rattle.mt_base.specs.declared.replies.Shortage.{Shortage}
